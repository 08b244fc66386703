-- Shown: each promise of this crate admits one answer (of its writes: `writes_one` of `crossing`).
-- Why: each is an equation with a definition.
use Rattle.std.specs.Prelude.{Result}
use Prim.Native.Nat.{ℕ}
use mathlib.Core.Path.{◌≡◌}
use mathlib.Core.List.{List}
use Rattle.laws.proofs.OneAnswer.{one}
use Rattle.refusal.specs.declared.Refusal.{Refusal}
use Rattle.meaning.specs.declared.meaning.What.{What}
use Rattle.message.specs.declared.reading.Message.{Message}
use Rattle.crossing.specs.Families.{family_from}
use Rattle.crossing.specs.Roles.{role_from}
use Rattle.quay_message.specs.declared.messages.QuayMessage.{QuayMessage}
use Rattle.quay_message.specs.declared.messages.QuayWhat.{QuayWhat}
use Rattle.quay_message.specs.Messages.{what_out, received_out, message_in}

pub quay_read_message_one : (role family : ℕ) (body : List ℕ) (a b : QuayMessage) → a ≡ message_in (role_from role) (family_from family) body → b ≡ message_in (role_from role) (family_from family) body → a ≡ b
quay_read_message_one role family body a b = one

-- of the conversions

pub what_out_one : (what : What) (a b : QuayWhat) → a ≡ what_out what → b ≡ what_out what → a ≡ b
what_out_one what a b = one

pub received_out_one : (received : Result Message Refusal) (a b : QuayMessage) → a ≡ received_out received → b ≡ received_out received → a ≡ b
received_out_one received a b = one
