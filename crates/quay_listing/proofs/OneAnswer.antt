-- Shown: each promise of this crate admits one answer, and one room (of the total line: `writes_one` of `crossing`).
-- Why: each is an equation with a definition for the answer and one for the room.
use Prim.Native.Nat.{ℕ}
use mathlib.Core.Path.{◌≡◌}
use mathlib.Core.List.{List}
use Rattle.laws.proofs.OneAnswer.{one}
use Rattle.refusal.specs.declared.Refusal.{Refusal}
use Rattle.crossing.specs.declared.events.QuayEvent.{QuayEvent}
use Rattle.quay_listing.specs.declared.lines.QuayListed.{QuayListed}
use Rattle.quay_listing.specs.Lines.{unlisted, Lists}

pub quay_list_event_one : (number family : ℕ) (event : QuayEvent) (body room : List ℕ) (a b : QuayListed) (l m : List ℕ)
    → Lists number family event body room a l → Lists number family event body room b m → (a ≡ b) × (l ≡ m)
quay_list_event_one number family event body room a b l m p q = (one p.answer q.answer, one p.room q.room)

-- of the conversion

pub unlisted_one : (why : Refusal) (a b : QuayListed) → a ≡ unlisted why → b ≡ unlisted why → a ≡ b
unlisted_one why a b = one
