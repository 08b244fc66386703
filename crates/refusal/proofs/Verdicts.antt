-- Shown: a chain of tests says `Ok` exactly where none of them holds, so what passed has every fact that they ask; an answer tells its verdict.
-- Why: a test that holds refuses, a refusal is not `Ok`, and an answer of a value is none of a refusal.
use Rattle.std.specs.Prelude.{Result, Ok, Err}
use mathlib.Core.Path.{◌≡◌, refl, sym, ap}
use mathlib.Core.Bool.{Bool, true, false}
use Rattle.refusal.specs.declared.Refusal.{Refusal}
use Rattle.refusal.specs.Numbers.{refuse_if, by_verdict}

pub refused_not_good {ℓ} : {A : Type ℓ} {why : Refusal} → Err why ≡ Ok (tt {0}) → A
refused_not_good e = cc

-- the test did not hold, and the rest of the chain passed too
pub test_passed : (test : Bool) (why : Refusal) (after : Result (Unit {0}) Refusal) → refuse_if test why after ≡ Ok tt → test ≡ false
test_passed true why after e = refused_not_good e
test_passed false why after e = refl

pub rest_passed : (test : Bool) (why : Refusal) (after : Result (Unit {0}) Refusal) → refuse_if test why after ≡ Ok tt → after ≡ Ok tt
rest_passed true why after e = refused_not_good e
rest_passed false why after e = e

-- two kinds of answer, of a value and of a refusal: each tells what it holds, and none is of both kinds
pub record Tells {A B : Type 0} (good : A → B) (refused : Refusal → B) : Type 0 where
  pub value : {a b : A} → good a ≡ good b → a ≡ b
  pub refusal : {p q : Refusal} → refused p ≡ refused q → p ≡ q
  pub apart : {a : A} {why : Refusal} → good a ≡ refused why → Err why ≡ Ok (tt {0})

-- such an answer under a verdict tells the verdict, and the value
module _ {A B : Type 0} {good : A → B} {refused : Refusal → B} (tells : Tells good refused) where
  pub verdict_good : (verdict : Result (Unit {0}) Refusal) (value other : A) → by_verdict good refused verdict value ≡ good other → (verdict ≡ Ok tt) × (other ≡ value)
  verdict_good (Ok tt) value other e = (refl, tells.value (sym e))
  verdict_good (Err why) value other e = refused_not_good (tells.apart (sym e))

  pub verdict_refused : (verdict : Result (Unit {0}) Refusal) (value : A) (why : Refusal) → by_verdict good refused verdict value ≡ refused why → verdict ≡ Err why
  verdict_refused (Ok tt) value why e = refused_not_good (tells.apart e)
  verdict_refused (Err other) value why e = ap Err (tells.refusal e)
