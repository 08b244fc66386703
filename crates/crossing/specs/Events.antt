-- Events as they cross to another language, as numbers.
use Rattle.std.specs.Prelude.{cond, eqb, Result, Ok, Err, Option, Some, None}
use Rattle.refusal.specs.declared.Refusal.TheVariants.{FieldOutside}
use Rattle.refusal.specs.Numbers.{named_of, line_status}
use Rattle.line.specs.declared.places.Event.TheVariants.{Frame, Refused}
use Rattle.crossing.specs.declared.events.QuayEvent.{QuayEvent}
use Rattle.line.specs.declared.places.Event.{Event}
use Rattle.refusal.specs.declared.Refusal.{Refusal}

-- a refusal handed in by its number; 8 if no refusal has that number
abbrev pub given_as : Option Refusal → QuayEvent → Result (Option Event) Refusal
given_as (Some why) event = Ok (Some (Refused why (record { 0 = event.wire }) (record { 0 = event.kept })))
given_as None event = Err FieldOutside

-- an event handed in; 8 if its kind does not exist, and if no line can meet its refusal
unfoldable pub event_from : QuayEvent → Result (Option Event) Refusal
event_from event =
    cond (eqb event.kind 0) (Ok None)
    (cond (eqb event.kind 1) (Ok (Some (Frame (record { 0 = event.wire }) (record { 0 = event.kept }))))
    (cond (eqb event.kind 2) (cond (line_status event.refusal) (given_as (named_of event.refusal) event) (Err FieldOutside))
    (Err FieldOutside)))
