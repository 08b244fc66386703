-- Shown: what the answer of a search says of the places below a number: the one that is told passes, and where none is told none passes.
-- Why: by induction over the number.
use Rattle.std.specs.Prelude.{Option, Some, None}
use Prim.Native.Nat.{ℕ, zero, suc, ◌<◌}
use mathlib.Core.Path.{◌≡◌, ◌∙◌, refl, ap}
use mathlib.Core.Bool.{Bool, true, false, cond}
use mathlib.Core.Logic.{⊎_elim}
use native.Mathlib.Nat.{not-suc-le-zero, le_of_suc-le-suc, eq-or-lt_of_le}
use native.Mathlib.Omega.{arith}
use Rattle.bad_bit.specs.WhichBit.{highest_below}
use Rattle.bad_bit.specs.declared.BitPlace.{BitPlace}

-- what an answer says of the places below a number
abbrev pub Searched : ℕ → (ℕ → Bool) → Option BitPlace → Type 0
Searched below test (Some place) = (place.0 < below) × (test place.0 ≡ true)
Searched below test None = (place : ℕ) → place < below → test place ≡ false

-- one place more
one_more : (below : ℕ) (test : ℕ → Bool) (passed : Bool) → test below ≡ passed → (found : Option BitPlace) → Searched below test found
    → Searched (suc below) test (cond passed (Some (record { 0 = below })) found)
one_more below test true is found searched = (omega arith, is)
one_more below test false is (Some place) searched = (omega (arith, searched.0), searched.1)
one_more below test false is None searched = λ place h. ⊎_elim (λ (e : place ≡ below). ap test e ∙ is) (λ (l : place < below). searched place l) (eq-or-lt_of_le (le_of_suc-le-suc h))

pub searched : (below : ℕ) (test : ℕ → Bool) → Searched below test (highest_below below test)
unfolding highest_below
searched zero test = λ place h. absurd (not-suc-le-zero h)
searched (suc below) test = one_more below test (test below) refl (highest_below below test) (searched below test)
