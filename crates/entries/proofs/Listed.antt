-- Shown: an event that is no frame lists the same, however a body would be read.
-- Why: case by case; the constructors left are all but that of a frame.
use Rattle.std.proofs.Common.{◌≡◌, ℕ, true, List, refl, Option, Some, None}
use Rattle.line.specs.declared.places.WirePlace.{WirePlace}
use Rattle.line.specs.declared.places.BodyPlace.{BodyPlace}
use Rattle.line.specs.declared.places.Event.{Event}
use Rattle.line.specs.declared.places.Event.TheVariants as event_as
use Rattle.line.specs.Readers.{heard_as}
use Rattle.weight.specs.declared.families.Family.{Family}
use Rattle.entries.specs.Entries.{entry_if, entry_heard}

-- an event without a body
pub no_frame : (family : Family) (event : Option Event) (body : List ℕ) → ((wire : WirePlace) (kept : BodyPlace) → event ≡ Some (event_as.Frame wire kept) → ⊥) → entry_if true family (heard_as event body) ≡ entry_heard family (heard_as event body)
unfolding entry_if entry_heard
no_frame family None body other = refl
no_frame family (Some (event_as.Frame wire kept)) body other = absurd (other wire kept refl)
no_frame family (Some (event_as.Refused why wire kept)) body other = refl
