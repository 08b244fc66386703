-- Shown: a search finds the place that passes and above which none does, or none where none passes: it ends at a place that passes, and goes on below
-- one that does not; two tests that agree give one answer.
-- Why: by induction over the number.
use Rattle.std.specs.Prelude.{Some, None}
use Prim.Native.Nat.{ℕ, zero, suc, ◌-◌, ◌<◌}
use mathlib.Core.Path.{◌≡◌, refl, subst}
use mathlib.Core.Bool.{Bool, true, false}
use mathlib.Core.Logic.{⊎_elim}
use native.Mathlib.Nat.{le_of_suc-le-suc, eq-or-lt_of_le}
use native.Mathlib.Omega.{arith}
use Rattle.bad_bit.specs.WhichBit.{highest_below}

-- two tests that are the same below a number
pub same_search : (below : ℕ) (test other : ℕ → Bool) → ((place : ℕ) → place < below → test place ≡ other place) → highest_below below test ≡ highest_below below other
unfolding highest_below
same_search zero test other same = refl
same_search (suc below) test other same =
    rw (same below (omega arith), same_search below test other (λ place h. same place (omega (arith, h))))

-- one place less
pub search_ends : (below : ℕ) (test : ℕ → Bool) → 0 < below → test (below - 1) ≡ true → highest_below below test ≡ Some (record { 0 = below - 1 })
unfolding highest_below
search_ends zero test some is = absurd (omega arith)
search_ends (suc place) test some is = let last : suc place - 1 ≡ place = omega arith in let there : test place ≡ true = rw last at is in rw (there, last)

pub search_on : (below : ℕ) (test : ℕ → Bool) → 0 < below → test (below - 1) ≡ false → highest_below (below - 1) test ≡ highest_below below test
unfolding highest_below
search_on zero test some is = absurd (omega arith)
search_on (suc place) test some is = let last : suc place - 1 ≡ place = omega arith in let there : test place ≡ false = rw last at is in rw (there, last)

-- no place passes
pub none_passes : (below : ℕ) (test : ℕ → Bool) → ((place : ℕ) → place < below → test place ≡ false) → highest_below below test ≡ None
unfolding highest_below
none_passes zero test none = refl
none_passes (suc below) test none = rw (none below (omega arith), none_passes below test (λ place h. none place (omega (arith, h))))

-- a place passes, and none above it
pub highest_is : (below place : ℕ) (test : ℕ → Bool) → place < below → test place ≡ true → ((higher : ℕ) → place < higher → higher < below → test higher ≡ false)
    → highest_below below test ≡ Some (record { 0 = place })
unfolding highest_below
highest_is zero place test h is none = absurd (omega (arith, h))
highest_is (suc below) place test h is none =
    ⊎_elim (λ (last : place ≡ below). let there : test below ≡ true = subst (λ (n : ℕ). test n ≡ true) last is in rw (there, last))
    (λ (under : place < below). rw (none below under (omega arith)) (highest_is below place test under is (λ higher over few. none higher over (omega (arith, few)))))
    (eq-or-lt_of_le (le_of_suc-le-suc h))
