-- Shown: a message that may be written reads back as itself, and one that was read is written back as its own body.
-- Why: a body put together from a legal address gives back its parts, a good body is put together from its own, and 6, 7, 8 are one judge.
use Rattle.std.specs.Prelude.{Result, Ok, Err}
use Prim.Native.Nat.{ℕ, ◌≤◌}
use mathlib.Core.Path.{◌≡◌, ◌∙◌, refl}
use mathlib.Core.Bool.{true, not}
use mathlib.Core.List.{List}
use borrow.Author.Tests.{le-ltb, ltb-false, not-false}
use lib.Dec.{T, ltb}
use lib.ListN.{length}
use lib.Seq.{slice}
use lib.Pow.{are_bytes}
use Rattle.refusal.proofs.Verdicts.{refused_not_good, test_passed, rest_passed, verdict_good}
use Rattle.body.specs.declared.addresses.Address.{Address}
use Rattle.body.specs.Addresses.{legal, address_in}
use Rattle.body.specs.Body.{body_of, judged, judged_lent, code_in, data_in}
use Rattle.frame.specs.Stuffing.{needed}
use Rattle.body.proofs.Rebuilding.{address_back, code_back, data_back, made_good, good_address_lem, rebuilt, lent_good, lent_at_most}
use Rattle.body.proofs.Shortness.{good_not_short}
use Rattle.weight.specs.declared.families.Family.{Family}
use Rattle.codes.specs.declared.table.Role.{Role}
use Rattle.message.specs.declared.reading.Message.{Message}
use Rattle.meaning.specs.Judging.{judged_then, judged_message}
use Rattle.message.specs.Reading.{message_of, judged_body, read_if, read_message}
use Rattle.message.specs.Writing.{judged_message_write}
use Rattle.message.proofs.Checked.{in_order, read_so, received_tells}
use Rattle.message.proofs.Opening.{data_end}
use Rattle.refusal.specs.declared.Refusal.{Refusal}

-- of two judges one after the other that say Good, each does
pub first_good : (first second : Result (Unit {0}) Refusal) → judged_then first second ≡ Ok tt → first ≡ Ok tt
first_good (Ok tt) second e = refl
first_good (Err why) second e = refused_not_good e

pub second_good : (first second : Result (Unit {0}) Refusal) → judged_then first second ≡ Ok tt → second ≡ Ok tt
second_good (Ok tt) second e = e
second_good (Err why) second e = refused_not_good e

-- what the writer judges good
pub may_be_written : (role : Role) (family : Family) (address : Address) (code : ℕ) (data' room : List ℕ) → legal address ≡ true → judged_message role family code data' ≡ Ok tt
    → length (body_of address code data') ≤ 255 → needed (body_of address code data') ≤ length room → judged_message_write role family address code data' room ≡ Ok tt
unfolding judged_message_write
may_be_written role family address code data' room is_legal good fits enough = rw (is_legal, good, le-ltb _ _ fits, le-ltb _ _ enough)

-- ---- read, then written

module _ (role : Role) (family : Family) (body : List ℕ) (message : Message) (received : read_message role family body ≡ Ok message) where
  both_good : judged_body role family body ≡ Ok tt
  unfolding read_message read_if judged_body
  both_good = (verdict_good received_tells (judged_body role family body) _ message received).0

  pub message_is : message ≡ message_of role family (address_in body) (code_in body) (data_in body)
  unfolding read_message read_if judged_body
  message_is = (verdict_good received_tells (judged_body role family body) _ message received).1

  pub read_lent : judged_lent body ≡ Ok tt
  unfolding judged_body judged_lent
  read_lent = first_good (judged_lent body) _ both_good

  pub read_judged : judged_message role family (code_in body) (data_in body) ≡ Ok tt
  unfolding judged_body judged_lent
  read_judged = second_good (judged_lent body) _ both_good

  -- where the message says its data stand, they stand
  data_are : slice message.from message.to body ≡ data_in body
  unfolding message_of data_in
  data_are = rw message_is (rw (data_end body (good_not_short body (lent_good body read_lent))))

  module _ (all : T (are_bytes body)) where
    rebuilt_body : body_of (address_in body) (code_in body) (data_in body) ≡ body
    rebuilt_body = rebuilt body all (lent_good body read_lent)

    pub body_back : body_of message.address message.code (slice message.from message.to body) ≡ body
    unfolding message_of
    body_back = rw (data_are, message_is) rebuilt_body

    pub again : (room : List ℕ) → needed body ≤ length room
        → judged_message_write role family message.address message.code (slice message.from message.to body) room ≡ Ok tt
    unfolding message_of
    again room enough =
        rw (data_are, message_is)
        (may_be_written role family (address_in body) (code_in body) (data_in body) room (good_address_lem body (lent_good body read_lent)) read_judged
        (rw rebuilt_body (lent_at_most body read_lent)) (rw rebuilt_body enough))

-- ---- written, then read

module _ (role : Role) (family : Family) (address : Address) (code : ℕ) (data' room : List ℕ) (good : judged_message_write role family address code data' room ≡ Ok tt) where
  written_legal : legal address ≡ true
  unfolding judged_message_write
  written_legal = not-false _ (test_passed (not (legal address)) _ _ good)

  written_judged : judged_message role family code data' ≡ Ok tt
  unfolding judged_message_write
  written_judged = first_good (judged_message role family code data') _ (rest_passed (not (legal address)) _ _ good)

  written_fits : length (body_of address code data') ≤ 255
  unfolding judged_message_write
  written_fits =
      ltb-false 255 _
      (test_passed (ltb 255 (length (body_of address code data'))) _ _
      (second_good (judged_message role family code data') _ (rest_passed (not (legal address)) _ _ good)))

  pub written_lent : judged_lent (body_of address code data') ≡ Ok tt
  unfolding judged_lent judged
  written_lent = rw (le-ltb 255 (length (body_of address code data')) written_fits) (made_good code data' address written_legal)

  pub read_back : read_message role family (body_of address code data') ≡ Ok (message_of role family address code data')
  read_back =
      rw (
        read_so role family (body_of address code data'),
        in_order role family (body_of address code data'),
        written_lent,
        address_back code data' address written_legal,
        code_back code data' address written_legal,
        data_back code data' address written_legal,
        written_judged,
      )

  pub data_stand : slice (message_of role family address code data').from (message_of role family address code data').to (body_of address code data') ≡ data'
  data_stand = data_are role family (body_of address code data') (message_of role family address code data') read_back ∙ data_back code data' address written_legal
