-- 02, request 9: what a finding is worth. "At most one can." "The finding is for the crew's sheet only: the frame stays refused".
use Rattle.std.specs.Prelude.{ℕ, ◌≤◌, ◌<◌, ◌≡◌, cond, List, ◌⊎◌, length, ltb, Ok, Err, Some, None}
use Rattle.laws.specs.Exactly.{ExactlyWhere}
use Rattle.refusal.specs.declared.Refusal.{Refusal}
use Rattle.refusal.specs.declared.Refusal.TheVariants.{BodyShort, CheckWrong, LengthOutside, CheckRight}
use Rattle.check_byte.specs.Register.{received}
use Rattle.body.specs.Body.{short, judged_lent}
use Rattle.check_misses.specs.Places.{bits_of, turned_over}
use Rattle.check_misses.specs.Powers.{power}
use Rattle.check_misses.specs.Misses.{Passes}
use Rattle.bad_bit.specs.WhichBit.{finding}

-- ---- what is told

-- the bit at a place, if turned over, makes a body pass, and no other bit does
pub record OnlyBit (place : ℕ) (body : List ℕ) : Type 0 where
  pub in_body : place < bits_of body
  pub passes : Passes (turned_over place body)
  pub no_other : (other : ℕ) → Passes (turned_over other body) → other ≡ place

-- if a bit is told, turning it over makes the body pass, and no other bit does
abbrev pub BitTold : Type 0
BitTold = (body : List ℕ) (place : ℕ) → finding body ≡ Ok (Some (record { 0 = place })) → OnlyBit place body

-- if none is told, none does
abbrev pub NoBitTold : Type 0
NoBitTold = (body : List ℕ) → finding body ≡ Ok None → (place : ℕ) → Passes (turned_over place body) → ⊥

-- "At most one can.": of every body of at most 31 bytes, whether it passes or not
abbrev pub AtMostOne : Type 0
AtMostOne =
    (body : List ℕ) → length body ≤ 31 → (place other : ℕ) → place < bits_of body → other < bits_of body
    → Passes (turned_over place body) → Passes (turned_over other body) → place ≡ other

-- ---- when it is told

-- "a body of at most 31 bytes that fails its check"
pub record AskedAndFails (body : List ℕ) : Type 0 where
  pub some : 1 ≤ length body
  pub few : length body ≤ 31
  pub fails : Passes body → ⊥

-- each answer is given exactly where the request says
pub record ToldExactly (body : List ℕ) : Type 0 where
  pub bit : (place : ℕ) → ExactlyWhere (finding body ≡ Ok (Some (record { 0 = place }))) (AskedAndFails body × (Passes (turned_over place body)))
  pub none : ExactlyWhere (finding body ≡ Ok None) (AskedAndFails body × ((place : ℕ) → Passes (turned_over place body) → ⊥))
  pub outside : ExactlyWhere (finding body ≡ Err LengthOutside) ((length body ≡ 0) ⊎ (31 < length body))
  pub right : ExactlyWhere (finding body ≡ Err CheckRight) ((1 ≤ length body) × ((length body ≤ 31) × Passes body))
  pub no_other : (why : Refusal) → finding body ≡ Err why → (why ≡ LengthOutside) ⊎ (why ≡ CheckRight)

abbrev pub EachToldExactly : Type 0
EachToldExactly = (body : List ℕ) → ToldExactly body

-- "the frame stays refused": a body that is asked and fails is judged as before, 4, or 1 where it is short
abbrev pub StaysRefused : Type 0
StaysRefused = (body : List ℕ) → AskedAndFails body → judged_lent body ≡ Err (cond (short body) BodyShort CheckWrong)

-- ---- what the crew may conclude

-- These speak of bodies after unstuffing, as request 8 does, "not of wires": a hit that makes or breaks an FF, or an inserted FE, can give a body of
-- another length, or none. A bit may be told of such a body too, and need not be the one that was hit (`WireHitShown`).

-- One bit of a body that passes went bad, and nothing else: it is the one that is told.
abbrev pub OneBadTold : Type 0
OneBadTold =
    (sent : List ℕ) → length sent ≤ 31 → Passes sent → (place : ℕ) → place < bits_of sent → finding (turned_over place sent) ≡ Ok (Some (record { 0 = place }))

-- Two bits of a body that passes went bad: neither is told. A third one may be, which was right, or none. The finding does not say which case it is.
abbrev pub TwoBadNotTold : Type 0
TwoBadNotTold =
    (sent : List ℕ) → Passes sent → (one two : ℕ) → one < bits_of sent → two < bits_of sent
    → (place : ℕ) → finding (turned_over one (turned_over two sent)) ≡ Ok (Some (record { 0 = place })) → (place ≡ one → ⊥) × (place ≡ two → ⊥)

-- A register that is not 0 is one of the 255 powers of x. If that is the power of one of the body's places, this is the bit that is told; if it is a
-- power past them, none is. A body of 31 bytes has 248 places, so that for 7 of the 255 registers there is no bit.
pub record ByRegister (body : List ℕ) : Type 0 where
  pub place : ℕ
  pub below : place < 255
  pub ends : received body ≡ power place
  pub no_other : (other : ℕ) → other < 255 → received body ≡ power other → other ≡ place
  pub told : finding body ≡ cond (ltb place (bits_of body)) (Ok (Some (record { 0 = place }))) (Ok None)

abbrev pub TheRegisterTells : Type 0
TheRegisterTells = (body : List ℕ) → AskedAndFails body → ByRegister body
