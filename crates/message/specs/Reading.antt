-- 01, "What the answers mean": "The message reader is given a role and lent body bytes; on these it judges 2 (over 255 bytes), 1, 4, 5
-- itself, ahead of 6, and answers a number only." 02, request 4: "The caller says the family per line".
use Rattle.std.specs.Prelude.{ℕ, ◌+◌, Bool, List, length, Result, Ok, Err}
use Rattle.refusal.specs.Numbers.{by_verdict}
use Rattle.body.specs.declared.addresses.Address.{Address}
use Rattle.body.specs.Addresses.{address_in}
use Rattle.body.specs.Body.{check_right, judged_lent_if, code_in, data_in}
use Rattle.weight.specs.declared.families.Family.{Family}
use Rattle.codes.specs.declared.table.Role.{Role}
use Rattle.message.specs.declared.reading.Message.{Message}
use Rattle.codes.specs.Table.{row_of}
use Rattle.meaning.specs.Meaning.{data_from, meaning}
use Rattle.meaning.specs.Judging.{judged_then, judged_message}
use Rattle.refusal.specs.declared.Refusal.{Refusal}

-- the message of an address, a code and data: in its body the data stand behind the code
unfoldable pub message_of : Role → Family → Address → ℕ → List ℕ → Message
message_of role family address code data' =
    record { address = address; code = code; from = data_from address; to = data_from address + length data'; what = meaning family (row_of role code) (data_from address) data' }

-- a lent body, judged 2, 1, 4, 5, and then 6, 7, 8; an argument says whether its check is right
abbrev pub judged_body_if : Bool → Role → Family → List ℕ → Result (Unit {0}) Refusal
judged_body_if right role family body = judged_then (judged_lent_if right body) (judged_message role family (code_in body) (data_in body))

unfoldable pub judged_body : Role → Family → List ℕ → Result (Unit {0}) Refusal
judged_body role family body = judged_body_if (check_right body) role family body

-- what is read under a verdict
abbrev pub receiving : Result (Unit {0}) Refusal → Message → Result Message Refusal
receiving verdict message = by_verdict Ok Err verdict message

-- the message that a lent body holds, or the refusal it earns; an argument says whether the check is right. A line hands out only right ones
unfoldable pub read_if : Bool → Role → Family → List ℕ → Result Message Refusal
read_if right role family body =
    receiving (judged_body_if right role family body) (message_of role family (address_in body) (code_in body) (data_in body))

-- by the body's own check
unfoldable pub read_message : Role → Family → List ℕ → Result Message Refusal
read_message role family body = read_if (check_right body) role family body
