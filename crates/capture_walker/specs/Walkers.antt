-- 02, request 2: the walker itself, "that holds the lent block and its place in it". Its step is the step on its block and its place.
use Rattle.std.specs.Prelude.{ℕ, ◌≡◌, List}
use Rattle.std.specs.Borrow.{Bor}
use Rattle.capture_walker.specs.declared.stepping.Stepped.{Stepped}
use Rattle.capture_walker.specs.declared.walking.Walker.{Walker}
use Rattle.capture_walker.specs.declared.walking.Walked.{Walked}
use Rattle.capture_walker.specs.Walking.{step_from}

-- a walker on a lent block, at a place
abbrev pub walker_at : Bor (List ℕ) → ℕ → Walker
walker_at block place = record { block = block; place = place }

-- "the walker moved on": the same block, and the place behind the step
abbrev pub walked_to : Walker → Stepped → Walked
walked_to walker stepped = record { next = stepped.next; walker = walker_at walker.block stepped.place }

-- a promise: the whole answer of a walker's step, and every lent byte
pub record WalkerSteps (walker : Walker) (lent : List ℕ) (answered : Walked) (left : List ℕ) : Type 0 where
  pub answer : answered ≡ walked_to walker (step_from walker.block.now walker.place lent).answer
  pub body : left ≡ (step_from walker.block.now walker.place lent).body
