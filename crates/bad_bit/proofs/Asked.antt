-- Shown: 25 is said of a body whose length is outside 1 to 31, 26 of another that passes, and of each that is left the bit of the search.
-- Why: the tests of the definition, one after the other.
use Rattle.std.specs.Prelude.{Ok, Err}
use Prim.Native.Nat.{ℕ, ◌≤◌, ◌<◌}
use mathlib.Core.Path.{◌≡◌}
use mathlib.Core.Bool.{Bool, true, false, ◌||◌, or-true}
use mathlib.Core.List.{List}
use mathlib.Core.Logic.{◌⊎◌, ⊎_elim}
use native.Mathlib.Omega.{arith}
use borrow.Author.Tests.{eq-eqb, ne_eqb, lt-ltb, le-ltb}
use lib.Dec.{ltb, eqb}
use lib.ListN.{length}
use Rattle.refusal.specs.declared.Refusal.TheVariants.{LengthOutside, CheckRight}
use Rattle.check_byte.specs.Register.{received}
use Rattle.bad_bit.specs.WhichBit.{bit_that_would, judged_for, finding}

-- a length outside
abbrev pub outside : ℕ → Bool
outside many = eqb many 0 || ltb 31 many

pub is_outside : (many : ℕ) → (many ≡ 0) ⊎ (31 < many) → outside many ≡ true
is_outside many = ⊎_elim (λ (none : many ≡ 0). rw (eq-eqb many 0 none)) (λ (over : 31 < many). rw (lt-ltb 31 many over) (or-true (eqb many 0)))

pub is_inside : (many : ℕ) → 1 ≤ many → many ≤ 31 → outside many ≡ false
is_inside many some few =
    let not_none : many ≡ 0 → ⊥ = λ (none : many ≡ 0). omega (arith, none, some) in
    rw (ne_eqb many 0 not_none, le-ltb 31 many few)

module _ (body : List ℕ) where
  pub said_outside : outside (length body) ≡ true → finding body ≡ Err LengthOutside
  unfolding finding judged_for
  said_outside is = rw is

  module _ (inside : outside (length body) ≡ false) where
    pub said_right : received body ≡ 0 → finding body ≡ Err CheckRight
    unfolding finding judged_for
    said_right passes = rw (inside, eq-eqb (received body) 0 passes)

    pub said_bit : (received body ≡ 0 → ⊥) → finding body ≡ Ok (bit_that_would body)
    unfolding finding judged_for
    said_bit fails = rw (inside, ne_eqb (received body) 0 fails)
