-- 02, request 2: "a capture walker that holds the lent block and its place in it; each step answers the next event and the walker moved on". The same
-- of walkers, by what their own steps promise: a walk goes from walker to walker.
use Rattle.std.specs.Prelude.{ℕ, ◌≡◌, List, [], ◌∷◌, drop, None, Some}
use Rattle.std.specs.Borrow.{Bor}
use Rattle.line.specs.declared.places.Event.{Event}
use Rattle.line.specs.Listener.{Heard, fresh, events}
use Rattle.line.specs.Readers.{heard_as}
use Rattle.capture_walker.specs.declared.walking.Walker.{Walker}
use Rattle.capture_walker.specs.declared.walking.Walked.{Walked}
use Rattle.capture_walker.specs.Walking.{start_at}
use Rattle.capture_walker.specs.Walkers.{walker_at, WalkerSteps}
use Rattle.demands.specs.CaptureWalks.{Lends, end_from}

-- a walker's steps: each answer that meets its promise, up to one that says "end"; and the walker then
pub data WalkersWalk (lending : ℕ → List ℕ) : Walker → List Heard → Walker → Type 0 where
  ends : {walker end : Walker} {left : List ℕ} → WalkerSteps walker (lending walker.place) (record { next = None; walker = end }) left
      → WalkersWalk lending walker [] end
  goes : {walker moved end : Walker} {event : Event} {left : List ℕ} {later : List Heard}
      → WalkerSteps walker (lending walker.place) (record { next = Some event; walker = moved }) left
      → WalkersWalk lending moved later end → WalkersWalk lending walker (heard_as (Some event) left ∷ later) end

-- a walker comes to its block's end, whatever is lent. It tells these events on its way and no others. From then on each step says "end" and hands
-- back that same walker, and changes nothing lent.
pub record WalkerTells (walker : Walker) (told : List Heard) (end : Walker) : Type 0 where
  pub comes : (lending : ℕ → List ℕ) → Lends lending → WalkersWalk lending walker told end
  pub only : (lending : ℕ → List ℕ) → Lends lending → (other : List Heard) (last : Walker) → WalkersWalk lending walker other last → (other ≡ told) × (last ≡ end)
  pub for_ever : (lent left : List ℕ) (answered : Walked) → WalkerSteps end lent answered left → (answered ≡ record { next = None; walker = end }) × (left ≡ lent)

-- a walker made at place 0 tells what the byte-fed reader started fresh hears; one made at any place what is heard from there; each ends on its block
pub record WalkerOn (block : Bor (List ℕ)) : Type 0 where
  pub from_start : WalkerTells (walker_at block 0) (events fresh block.now) (walker_at block (end_from block.now 0))
  pub from_any_place : (place : ℕ) → WalkerTells (walker_at block place) (events (start_at block.now place) (drop place block.now)) (walker_at block (end_from block.now place))

abbrev pub EveryWalker : Type 0
EveryWalker = (block : Bor (List ℕ)) → WalkerOn block
