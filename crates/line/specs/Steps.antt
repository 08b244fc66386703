-- For the reader's own steps; no public promise rests on this page.
use Rattle.std.specs.Prelude.{◌≡◌, ℕ, cond, List, nat_lt, Option}
use Rattle.room.specs.Laying.{over}
use Rattle.body.specs.Body.{longest}
use Rattle.line.specs.declared.places.Event.{Event}
use Rattle.line.specs.declared.places.Phase.{Phase}
use Rattle.line.specs.declared.places.Place.{Place}
use Rattle.line.specs.declared.moving.Moved.{Moved}
use Rattle.line.specs.Listener.{Step, tick}
use Rattle.line.specs.Readers.{kept_of, place_of, event_of, fresh_place}

-- the place that a place handed in is treated as
abbrev pub sound_place : Place → Place
sound_place place = cond (nat_lt longest place.kept.0) fresh_place place

-- a place behind one byte more; with no body open; in another phase
abbrev pub counted : Place → Place
counted place = record place { wire = record { 0 = tick place.wire.0 } }

abbrev pub none_kept : Place → Place
none_kept place = record place { kept = record { 0 = 0 } }

abbrev pub in_phase : Phase → Place → Place
in_phase phase place = record place { phase = phase }

-- a promise: a place, and the event that led there
pub record MovesTo (next : Place) (told : Option Event) (answered : Moved) : Type 0 where
  pub place : answered.place.place ≡ next
  pub event : answered.event ≡ told

-- a promise: a step, as a place with its event, and the array beside it
pub record Keeps (step : Step) (before : List ℕ) (answered : Moved) (left : List ℕ) : Type 0 where
  pub moved : MovesTo (place_of step.next) (event_of step.event) answered
  pub body : left ≡ over (kept_of step.next.state) before
