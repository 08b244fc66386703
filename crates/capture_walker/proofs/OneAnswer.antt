-- Shown: each promise of this crate admits one answer, and one state of the lent bytes.
-- Why: each has an equation of the whole answer with a definition.
use Prim.Native.Nat.{ℕ}
use mathlib.Core.Path.{◌≡◌}
use mathlib.Core.List.{List}
use denote.Ref.{Bor}
use Rattle.laws.proofs.OneAnswer.{one}
use Rattle.capture_walker.specs.declared.stepping.Stepped.{Stepped}
use Rattle.capture_walker.specs.declared.walking.Walker.{Walker}
use Rattle.capture_walker.specs.declared.walking.Walked.{Walked}
use Rattle.capture_walker.specs.Walking.{StepsFrom}
use Rattle.capture_walker.specs.Walkers.{walker_at, WalkerSteps}

pub step_from_one : (block : List ℕ) (place : ℕ) (lent : List ℕ) (a b : Stepped) (l m : List ℕ) → StepsFrom block place lent a l → StepsFrom block place lent b m → (a ≡ b) × (l ≡ m)
step_from_one block place lent a b l m p q = (one p.answer q.answer, one p.body q.body)

pub new_one : (block : Bor (List ℕ)) (a b : Walker) → a ≡ walker_at block 0 → b ≡ walker_at block 0 → a ≡ b
new_one block a b = one

pub at_one : (block : Bor (List ℕ)) (place : ℕ) (a b : Walker) → a ≡ walker_at block place → b ≡ walker_at block place → a ≡ b
at_one block place a b = one

pub step_one : (walker : Walker) (lent : List ℕ) (a b : Walked) (l m : List ℕ) → WalkerSteps walker lent a l → WalkerSteps walker lent b m → (a ≡ b) × (l ≡ m)
step_one walker lent a b l m p q = (one p.answer q.answer, one p.body q.body)
