-- Shown: a walker's own steps, by their promise, tell what the walk on its block and its place tells, and leave it at the end on the same block.
-- Why: the promise of a walker's step is the step on its block and its place, put together with that block.
use Prim.Native.Nat.{ℕ}
use mathlib.Core.Path.{◌≡◌, ◌∙◌, ap, subst}
use mathlib.Core.List.{List}
use denote.Ref.{Bor}
use native.Mathlib.Omega.{arith}
use Rattle.std.proofs.lemmas.Grind.{common_steps}
use Rattle.line.specs.Listener.{Heard}
use Rattle.capture_walker.specs.declared.walking.Walker.{Walker}
use Rattle.capture_walker.specs.declared.walking.Walked.{Walked}
use Rattle.capture_walker.specs.Walking.{StepTaken, step_from}
use Rattle.capture_walker.specs.Walkers.{walker_at, walked_to, WalkerSteps}
use Rattle.demands.specs.CaptureWalks.{Walk, end_from, WalkTells}
use Rattle.demands.specs.CaptureWalks as by_place
use Rattle.demands.specs.WalkersWalk.{WalkersWalk, ends, goes, WalkerTells, EveryWalker}
use Rattle.demands.proofs.CaptureWalks.{walk_from_start, walk_from_any_place}

-- ---- one step

-- the step on a block and a place, promised of a walker there
steps_as : (block : Bor (List ℕ)) (place : ℕ) (lent : List ℕ) {taken : StepTaken} → step_from block.now place lent ≡ taken
    → WalkerSteps (walker_at block place) lent (walked_to (walker_at block place) taken.answer) taken.body
steps_as block place lent is = grind (arith, common_steps)

-- and back
taken_as : {walker : Walker} {lent left : List ℕ} {answered : Walked} → WalkerSteps walker lent answered left
    → ◌≡◌ {A = StepTaken} (step_from walker.block.now walker.place lent) (record { answer = record { next = answered.next; place = answered.walker.place }; body = left })
taken_as steps = grind (arith, common_steps)

-- ---- all steps

pub by_walker : (block : Bor (List ℕ)) {lending : ℕ → List ℕ} {place end : ℕ} {told : List Heard} → Walk block.now lending place told end
    → WalkersWalk lending (walker_at block place) told (walker_at block end)
by_walker block {lending} {place} (by_place.ends is) = ends (steps_as block place (lending place) is)
by_walker block {lending} {place} (by_place.goes is walk) = goes (steps_as block place (lending place) is) (by_walker block walk)

of_walker : {lending : ℕ → List ℕ} {walker end : Walker} {told : List Heard} → WalkersWalk lending walker told end
    → Walk walker.block.now lending walker.place told end.place × (end.block ≡ walker.block)
of_walker (ends steps) = (by_place.ends (taken_as steps), ap (λ (a : Walked). a.walker.block) steps.answer)
of_walker {lending} (goes {moved = moved} {end = end} {later = later} steps walk) =
    let (rest, there) = of_walker walk in
    let same = ap (λ (a : Walked). a.walker.block) steps.answer in
    (by_place.goes (taken_as steps) (subst (λ (b : Bor (List ℕ)). Walk b.now lending moved.place later end.place) same rest), there ∙ same)

tells : (block : Bor (List ℕ)) (place : ℕ) {told : List Heard} → WalkTells block.now place told
    → WalkerTells (walker_at block place) told (walker_at block (end_from block.now place))
tells block place walks = grind (arith, common_steps, by_walker, of_walker)

pub every_walker : EveryWalker
every_walker block = record {
  from_start = tells block 0 (walk_from_start block.now).as_listener;
  from_any_place = λ place. tells block place (walk_from_any_place block.now place);
}
