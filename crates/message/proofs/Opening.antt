-- Shown: what the reader may answer once a body was opened and its code and data were judged is what the paper's order answers.
-- Why: the parts of a good body are where its code and data stand, and a refusal stays the first one met.
use Rattle.std.specs.Prelude.{Ok, Err}
use Prim.Native.Nat.{ℕ, ◌+◌, ◌-◌, ◌≤◌}
use mathlib.Core.Path.{◌≡◌, ◌∙◌, sym}
use mathlib.Core.Bool.{Bool, false}
use mathlib.Core.List.{List}
use native.Mathlib.Omega.{arith}
use lib.ListN.{length, take, drop}
use lib.Seq.{length-slice}
use Rattle.laws.proofs.ByteLists.{part}
use Rattle.refusal.specs.declared.Refusal.{Refusal}
use Rattle.refusal.proofs.Verdicts.{Tells, verdict_good, verdict_refused}
use Rattle.body.specs.declared.bodies.Parts.{Parts}
use Rattle.body.specs.Addresses.{address_in, address_length}
use Rattle.body.specs.Body.{short, judged_lent_if, code_in, data_in, parts_of, opened_if}
use Rattle.body.proofs.Shortness.{address_inside, told_not_short}
use Rattle.weight.specs.declared.families.Family.{Family}
use Rattle.codes.specs.declared.table.Role.{Role}
use Rattle.meaning.specs.declared.meaning.What.{What}
use Rattle.meaning.specs.Judging.{judged_message, told}
use Rattle.message.specs.Reading.{message_of, read_if}

-- ---- what an answer tells of its verdict

opened_tells : Tells {A = Parts} Ok Err
opened_tells = record { value = λ e. cc; refusal = λ e. cc; apart = λ e. cc }

pub told_tells : Tells {A = What} Ok Err
told_tells = record { value = λ e. cc; refusal = λ e. cc; apart = λ e. cc }

-- ---- a body that is not short

-- where its data stand: behind the code, up to the check
pub data_end : (body : List ℕ) → short body ≡ false → address_length (address_in body) + 1 + length (data_in body) ≡ length body - 1
unfolding data_in
data_end body long =
    let inside = address_inside body long in
    omega (arith, length-slice (address_length (address_in body) + 1) (length body - 1) body (omega arith))

-- ---- a body that was opened, or was not

pub unopened : (right : Bool) (role : Role) (family : Family) (body : List ℕ) (why : Refusal) → opened_if right body ≡ Err why → Err why ≡ read_if right role family body
unfolding opened_if read_if
unopened right role family body why e = rw (verdict_refused opened_tells (judged_lent_if right body) _ why e)

module _ (right : Bool) (body : List ℕ) (parts : Parts) (opened : opened_if right body ≡ Ok parts) where
  was_good : judged_lent_if right body ≡ Ok tt
  unfolding opened_if
  was_good = (verdict_good opened_tells (judged_lent_if right body) _ parts opened).0

  parts_are : parts ≡ parts_of body
  unfolding opened_if
  parts_are = (verdict_good opened_tells (judged_lent_if right body) _ parts opened).1

  long : short body ≡ false
  long = told_not_short right body was_good

  -- its data stand in it
  pub in_order : parts.from ≤ parts.to
  unfolding parts_of
  in_order = rw parts_are (omega (arith, address_inside body long))

  pub ends_inside : parts.to ≤ length body
  unfolding parts_of
  ends_inside = rw parts_are (omega (arith, address_inside body long))

  part_is : take (parts.to - parts.from) (drop parts.from body) ≡ data_in body
  unfolding parts_of data_in
  part_is = part parts.from parts.to body ∙ rw parts_are

  -- what is told of them is told of the body's code and data
  module _ (role : Role) (family : Family) where
    told_body : told role family parts.address parts.code (take (parts.to - parts.from) (drop parts.from body))
        ≡ told role family (address_in body) (code_in body) (data_in body)
    unfolding parts_of
    told_body = rw (part_is, parts_are)

    pub untold : (why : Refusal) → told role family parts.address parts.code (take (parts.to - parts.from) (drop parts.from body)) ≡ Err why
        → Err why ≡ read_if right role family body
    unfolding told read_if
    untold why e =
        let verdict = verdict_refused told_tells (judged_message role family (code_in body) (data_in body)) _ why (sym told_body ∙ e) in
        rw (was_good, verdict)

    pub message_told : (what : What) → told role family parts.address parts.code (take (parts.to - parts.from) (drop parts.from body)) ≡ Ok what
        → Ok (record { address = parts.address; code = parts.code; from = parts.from; to = parts.to; what = what })
        ≡ read_if right role family body
    unfolding told read_if message_of parts_of
    message_told what e =
        let answer = verdict_good told_tells (judged_message role family (code_in body) (data_in body)) _ what (sym told_body ∙ e) in
        rw (was_good, answer.0, answer.1, data_end body long, parts_are)
