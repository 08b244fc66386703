-- Shown: a place, and an event that a line can give, come back as themselves when they cross.
-- Why: each number leads back to what it stands for, case by case.
use Rattle.std.specs.Prelude.{Ok, Option, Some, None}
use mathlib.Core.Path.{◌≡◌, refl}
use mathlib.Core.Bool.{true}
use Rattle.refusal.specs.Numbers.{number_of, line_status}
use Rattle.refusal.proofs.Distinct.{named_back}
use Rattle.line.specs.declared.places.Phase.{Phase}
use Rattle.line.specs.declared.places.Phase.TheVariants.{Seeking, Delimited, Inside, Held}
use Rattle.line.specs.declared.places.Place.{Place}
use Rattle.line.specs.declared.places.Event.{Event}
use Rattle.line.specs.declared.places.Event.TheVariants.{Frame, Refused}
use Rattle.crossing.specs.Events.{event_from}
use Rattle.quay_line.specs.Places.{phase_number, phase_from, place_out, place_from, event_out}

phase_back : (phase : Phase) → phase_from (phase_number phase) ≡ phase
unfolding phase_from
phase_back Seeking = refl
phase_back Delimited = refl
phase_back Inside = refl
phase_back Held = refl

pub place_back : (place : Place) → place_from (place_out place) ≡ place
place_back place = rw (phase_back place.phase)

-- an event with a refusal that a line can meet; of every event that a line gives it holds (`LineRefusalsNoted`)
abbrev pub Meetable : Option Event → Type 0
Meetable None = Unit {0}
Meetable (Some (Frame wire kept)) = Unit {0}
Meetable (Some (Refused why wire kept)) = line_status (number_of why) ≡ true

pub event_back : (event : Option Event) → Meetable event → event_from (event_out event) ≡ Ok event
unfolding event_from
event_back None met = refl
event_back (Some (Frame wire kept)) met = refl
event_back (Some (Refused why wire kept)) met = rw (met, named_back why)
