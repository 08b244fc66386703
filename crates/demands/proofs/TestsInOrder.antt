-- Shown: of a chain of tests with different refusals, each refusal is answered exactly where its test is the first to fail, and `Ok` where all pass.
-- Why: by induction along the chain; that no later test has the same refusal is computed.
use Rattle.std.specs.Prelude.{Result, Ok, Err}
use Prim.Native.Nat.{ℕ, ◌≤◌, ◌<◌}
use mathlib.Core.Path.{◌≡◌, refl, ap}
use mathlib.Core.Bool.{Bool, true, false, not, cond, ◌||◌}
use mathlib.Core.List.{List, [], ◌∷◌}
use borrow.Author.Tests.{ltb-true, ltb-false, lt-ltb, le-ltb, eqb-true, eqb-false, not-true, not-false}
use lib.Dec.{T, ltb, eqb}
use lib.ListN.{length}
use native.Mathlib.Omega.{arith}
use Rattle.std.proofs.lemmas.Grind.{common_steps}
use Rattle.refusal.specs.declared.Refusal.{Refusal}
use Rattle.refusal.specs.declared.Refusal.TheVariants.{RoomShort}
use Rattle.refusal.specs.Numbers.{number_of, refuse_if}
use Rattle.refusal.proofs.Distinct.{distinct}
use Rattle.refusal.proofs.Verdicts.{refused_not_good}
use Rattle.laws.specs.Exactly.{ExactlyWhere}

pub through : {A B C : Type 0} → ExactlyWhere A B → ExactlyWhere B C → ExactlyWhere A C
through p q = (λ a. q.0 (p.0 a), λ c. p.1 (q.1 c))

-- a test: where it refuses, what it refuses with, and what it says where it does and where it does not
pub record Test : Type 1 where
  pub refuses : Bool
  pub why : Refusal
  pub failed : Type 0
  pub passed : Type 0
  pub on_failed : ExactlyWhere (refuses ≡ true) failed
  pub on_passed : ExactlyWhere (refuses ≡ false) passed

-- of something that must hold
abbrev pub must : Bool → Refusal → Test
must holds why = record {
  refuses = not holds;
  why = why;
  failed = holds ≡ false;
  passed = holds ≡ true;
  on_failed = (not-true holds, λ (e : holds ≡ false). ap not e);
  on_passed = (not-false holds, λ (e : holds ≡ true). ap not e);
}

-- 9
abbrev pub must_fit : ℕ → List ℕ → Test
must_fit needs room = record {
  refuses = ltb (length room) needs;
  why = RoomShort;
  failed = length room < needs;
  passed = needs ≤ length room;
  on_failed = (ltb-true (length room) needs, lt-ltb (length room) needs);
  on_passed = (ltb-false (length room) needs, le-ltb (length room) needs);
}

abbrev pub judged : List Test → Result (Unit {0}) Refusal
judged [] = Ok tt
judged (test ∷ tests) = refuse_if test.refuses test.why (judged tests)

-- ---- one test ahead of a verdict

here : {why : Refusal} {after : Result (Unit {0}) Refusal} {failed : Type 0} (refuses : Bool) → ExactlyWhere (refuses ≡ true) failed → (after ≡ Err why → ⊥)
    → ExactlyWhere (refuse_if refuses why after ≡ Err why) failed
here refuses on_failed never = grind (arith, common_steps)

behind : {why : Refusal} {after goal : Result (Unit {0}) Refusal} {passed rest : Type 0} (refuses : Bool) → ExactlyWhere (refuses ≡ false) passed → (Err why ≡ goal → ⊥)
    → ExactlyWhere (after ≡ goal) rest → ExactlyWhere (refuse_if refuses why after ≡ goal) (passed × rest)
behind refuses on_passed other inner = grind (arith, common_steps)

-- ---- where a refusal's test is the first to fail

abbrev same : Refusal → Refusal → Bool
same a b = eqb (number_of a) (number_of b)

-- one of two types
abbrev either : Bool → Type 0 → Type 0 → Type 0
either true a b = a
either false a b = b

-- the tests ahead of it pass, and it fails
abbrev pub FailsFirst : Refusal → List Test → Type 0
FailsFirst why [] = ⊥
FailsFirst why (test ∷ tests) = either (same test.why why) test.failed (test.passed × FailsFirst why tests)

abbrev named : Refusal → List Test → Bool
named why [] = false
named why (test ∷ tests) = same test.why why || named why tests

-- no two tests refuse with it
abbrev pub once : Refusal → List Test → Bool
once why [] = true
once why (test ∷ tests) = cond (same test.why why) (not (named why tests)) (once why tests)

-- two refusals with different numbers
apart : (a b : Refusal) → same a b ≡ false → a ≡ b → ⊥
apart a b other e = eqb-false (number_of a) (number_of b) other (ap number_of e)

never_by : (why other : Refusal) (after : Result (Unit {0}) Refusal) (later refuses is : Bool) → same other why ≡ is → T (not (is || later))
    → (T (not later) → after ≡ Err why → ⊥) → refuse_if refuses other after ≡ Err why → ⊥
never_by why other after later refuses true has t never e = t
never_by why other after later true false has t never e = apart other why has (cc)
never_by why other after later false false has t never e = never t e

never_named : (why : Refusal) (tests : List Test) → T (not (named why tests)) → judged tests ≡ Err why → ⊥
never_named why [] t e = cc
never_named why (test ∷ tests) t e =
    never_by why test.why (judged tests) (named why tests) test.refuses (same test.why why) refl t (never_named why tests) e

exactly_by : (why : Refusal) (test : Test) (tests : List Test) (is : Bool) → same test.why why ≡ is → T (cond is (not (named why tests)) (once why tests))
    → (T (once why tests) → ExactlyWhere (judged tests ≡ Err why) (FailsFirst why tests))
    → ExactlyWhere (judged (test ∷ tests) ≡ Err why) (either is test.failed (test.passed × FailsFirst why tests))
exactly_by why test tests true has t inner =
    rw (distinct test.why why (eqb-true (number_of test.why) (number_of why) has)) (here test.refuses test.on_failed (never_named why tests t))
exactly_by why test tests false has t inner = behind test.refuses test.on_passed (λ e. apart test.why why has (cc)) (inner t)

pub exactly : (why : Refusal) (tests : List Test) → T (once why tests) → ExactlyWhere (judged tests ≡ Err why) (FailsFirst why tests)
exactly why [] t = (λ e. cc, λ h. absurd h)
exactly why (test ∷ tests) t = exactly_by why test tests (same test.why why) refl t (exactly why tests)

-- ---- where all pass

abbrev pub AllPass : List Test → Type 0
AllPass [] = Unit
AllPass (test ∷ []) = test.passed
AllPass (test ∷ next ∷ tests) = test.passed × AllPass (next ∷ tests)

pub all_pass : (tests : List Test) → ExactlyWhere (judged tests ≡ Ok tt) (AllPass tests)
all_pass [] = (λ e. tt, λ h. refl)
all_pass (test ∷ []) = grind (arith, common_steps, behind, refused_not_good)
all_pass (test ∷ next ∷ tests) = behind test.refuses test.on_passed refused_not_good (all_pass (next ∷ tests))
