-- Shown: two bodies that differ at a place are different, and what is shown of a difference that is missed.
-- Why: a body does not differ from itself.
use Prim.Native.Nat.{ℕ, zero, suc}
use mathlib.Core.Path.{◌≡◌, ◌∙◌, refl, sym, ap, subst}
use mathlib.Core.List.{List, [], ◌∷◌}
use native.Mathlib.Omega.{arith}
use borrow.Author.Tests.{eq-eqb}
use lib.ListN.{length}
use Rattle.check_misses.specs.Places.{bits_of, bit_at, differing_below, differing}
use Rattle.check_misses.specs.Misses.{EquallyLong, Different, Passes, Missed}

from_itself : (count : ℕ) (body : List ℕ) → differing_below count body body ≡ []
unfolding differing_below
from_itself zero body = refl
from_itself (suc place) body = rw (eq-eqb (bit_at place body) (bit_at place body) refl) (from_itself place body)

pub apart : (first second : List ℕ) (place : ℕ) (places : List ℕ) → differing first second ≡ place ∷ places → Different first second
apart first second place places differ same =
    let none : differing first second ≡ [] = subst (λ (other : List ℕ). differing first other ≡ []) same (from_itself (bits_of first) first) in
    absurd (omega (arith, ap length (sym none ∙ differ)))

pub missed : (first second : List ℕ) (place : ℕ) (places : List ℕ) → EquallyLong first second → differing first second ≡ place ∷ places → Passes first → Passes second
    → Missed first second (place ∷ places)
missed first second place places long differ p q =
    record { long = long; different = apart first second place places differ; differ = differ; passes = p; passes_too = q }
