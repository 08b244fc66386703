-- Shown: a body read by its own check is read as the paper reads it, and so is one that a line handed out, whose check is not made again.
-- Why: the check is asked in one place, and a body judged good at its end had a right one.
use Rattle.std.specs.Prelude.{Ok, Err}
use Prim.Native.Nat.{ℕ}
use mathlib.Core.Path.{◌≡◌, refl}
use mathlib.Core.Bool.{true}
use mathlib.Core.List.{List}
use borrow.Author.Tests.{eq-eqb}
use Rattle.refusal.proofs.Verdicts.{Tells}
use Rattle.check_byte.specs.Register.{received}
use Rattle.body.specs.Body.{check_right, judged, judged_lent, code_in, data_in}
use Rattle.body.specs.Addresses.{address_in}
use Rattle.meaning.specs.Judging.{judged_then, judged_message}
use Rattle.body.proofs.Rebuilding.{good_check}
use Rattle.weight.specs.declared.families.Family.{Family}
use Rattle.codes.specs.declared.table.Role.{Role}
use Rattle.message.specs.declared.reading.Message.{Message}
use Rattle.message.specs.Reading.{message_of, judged_body, receiving, read_if, read_message}

-- the paper's order, spelled out
pub in_order : (role : Role) (family : Family) (body : List ℕ) → judged_body role family body ≡ judged_then (judged_lent body) (judged_message role family (code_in body) (data_in body))
unfolding judged_body judged_lent
in_order role family body = refl

pub read_so : (role : Role) (family : Family) (body : List ℕ) → read_message role family body ≡ receiving (judged_body role family body) (message_of role family (address_in body) (code_in body) (data_in body))
unfolding read_message read_if judged_body
read_so role family body = refl

-- what was read tells the verdict
pub received_tells : Tells {A = Message} Ok Err
received_tells = record { value = λ e. cc; refusal = λ e. cc; apart = λ e. cc }

pub by_its_check : (role : Role) (family : Family) (body : List ℕ) → read_if (check_right body) role family body ≡ read_message role family body
unfolding read_message
by_its_check role family body = refl

pub handed_out : (role : Role) (family : Family) (body : List ℕ) → judged body ≡ Ok tt → read_if true role family body ≡ read_message role family body
handed_out role family body good = rw (← eq-eqb (received body) 0 (good_check body good)) (by_its_check role family body)
