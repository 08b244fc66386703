-- Where a reader stands and the events it gives, as the numbers that cross to another language.
use Rattle.std.specs.Prelude.{ℕ, cond, eqb, ltb, Result, Ok, Err, Option, Some, None}
use Rattle.refusal.specs.declared.Refusal.{Refusal}
use Rattle.refusal.specs.declared.Refusal.TheVariants.{FieldOutside}
use Rattle.refusal.specs.Numbers.{number_of}
use Rattle.line.specs.declared.places.Phase.{Phase}
use Rattle.line.specs.declared.places.Phase.TheVariants.{Seeking, Delimited, Inside, Held}
use Rattle.line.specs.declared.places.Place.{Place}
use Rattle.line.specs.declared.places.Event.{Event}
use Rattle.line.specs.declared.places.Event.TheVariants.{Frame, Refused}
use Rattle.crossing.specs.declared.events.QuayEvent.{QuayEvent}
use Rattle.quay_line.specs.declared.places.QuayPlace.{QuayPlace}

abbrev pub phase_number : Phase → ℕ
phase_number Seeking = 0
phase_number Delimited = 1
phase_number Inside = 2
phase_number Held = 3

unfoldable pub phase_from : ℕ → Phase
phase_from number = cond (eqb number 0) Seeking (cond (eqb number 1) Delimited (cond (eqb number 2) Inside Held))

abbrev pub place_out : Place → QuayPlace
place_out place = record { wire = place.wire.0; kept = place.kept.0; phase = phase_number place.phase }

abbrev pub place_from : QuayPlace → Place
place_from place = record { phase = phase_from place.phase; wire = record { 0 = place.wire }; kept = record { 0 = place.kept } }

-- a place handed in; 8 if its phase does not exist
abbrev pub place_given : QuayPlace → Result Place Refusal
place_given place = cond (ltb 3 place.phase) (Err FieldOutside) (Ok (place_from place))

abbrev pub event_out : Option Event → QuayEvent
event_out None = record { wire = 0; kept = 0; kind = 0; refusal = 0 }
event_out (Some (Frame wire kept)) = record { wire = wire.0; kept = kept.0; kind = 1; refusal = 0 }
event_out (Some (Refused why wire kept)) = record { wire = wire.0; kept = kept.0; kind = 2; refusal = number_of why }
