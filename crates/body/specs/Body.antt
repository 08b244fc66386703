-- 01, "The frame": "A body is: address, operation code, data, check. It has at most 255 bytes."
-- "What the answers mean": "At a body's end the order is 1, 4, 5". A lent body is judged 2 (over 255 bytes) ahead of them.
use Rattle.std.specs.Prelude.{ℕ, ◌+◌, ◌-◌, Bool, not, ◌&&◌, ◌||◌, List, [], ◌∷◌, ◌++◌, length, get_or, ltb, eqb, Result, Ok, Err}
use Rattle.std.proofs.Math.Seq.{slice}
use Rattle.refusal.specs.declared.Refusal.TheVariants.{BodyShort, BodyLong, CheckWrong, AddressIllegal}
use Rattle.refusal.specs.Numbers.{refuse_if, by_verdict}
use Rattle.check_byte.specs.Register.{received, check_of}
use Rattle.body.specs.declared.addresses.Address.{Address}
use Rattle.body.specs.declared.bodies.Parts.{Parts}
use Rattle.body.specs.Addresses.{legal, address_bytes, address_in, address_length}
use Rattle.refusal.specs.declared.Refusal.{Refusal}

-- "It has at most 255 bytes."
abbrev pub longest : ℕ
longest = 255

-- address, operation code, data
unfoldable pub unchecked : Address → ℕ → List ℕ → List ℕ
unchecked address code data' = address_bytes address ++ (code ∷ data')

-- and check
unfoldable pub body_of : Address → ℕ → List ℕ → List ℕ
body_of address code data' = unchecked address code data' ++ (check_of (unchecked address code data') ∷ [])

-- refusal 1: "body ended with under 3 bytes, or first byte 00 and under 6"
unfoldable pub short : List ℕ → Bool
short body = ltb (length body) 3 || (eqb (get_or body 0 0) 0 && ltb (length body) 6)

-- "The receiver feeds the whole body and wants 0."
abbrev pub check_right : List ℕ → Bool
check_right body = eqb (received body) 0

-- a body that ended, judged 1, 4, 5; an argument says whether its check is right
abbrev pub judged_if : Bool → List ℕ → Result (Unit {0}) Refusal
judged_if right body =
    refuse_if (short body) BodyShort
    (refuse_if (not right) CheckWrong
    (refuse_if (not (legal (address_in body))) AddressIllegal
    (Ok tt)))

unfoldable pub judged : List ℕ → Result (Unit {0}) Refusal
judged body = judged_if (check_right body) body

-- a body that was lent: 2 is judged ahead of them
abbrev pub judged_lent_if : Bool → List ℕ → Result (Unit {0}) Refusal
judged_lent_if right body = refuse_if (ltb longest (length body)) BodyLong (judged_if right body)

unfoldable pub judged_lent : List ℕ → Result (Unit {0}) Refusal
judged_lent body = judged_lent_if (check_right body) body

-- where in a body code and data stand
unfoldable pub code_in : List ℕ → ℕ
code_in body = get_or body (address_length (address_in body)) 0

unfoldable pub data_in : List ℕ → List ℕ
data_in body = slice (address_length (address_in body) + 1) (length body - 1) body

unfoldable pub parts_of : List ℕ → Parts
parts_of body = record { address = address_in body; code = code_in body; from = address_length (address_in body) + 1; to = length body - 1 }

-- a lent body taken apart, or the refusal it earns; an argument says whether the check is right. A body that a line handed out had a right
-- one, so it isn't tested again
unfoldable pub opened_if : Bool → List ℕ → Result Parts Refusal
opened_if right body = by_verdict Ok Err (judged_lent_if right body) (parts_of body)

abbrev pub opened_body : List ℕ → Result Parts Refusal
opened_body body = opened_if (check_right body) body
