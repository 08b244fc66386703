-- 01, "What the answers mean": the number of each refusal, and verdicts whose tests have an order.
use Rattle.std.specs.Prelude.{ℕ, Bool, true, false, cond, ◌&&◌, List, [], ◌∷◌, leb, eqb, Result, Ok, Err, Option, Some, None}
use Rattle.refusal.specs.declared.Refusal.{Refusal}
use Rattle.refusal.specs.declared.Refusal.TheVariants.{BodyShort, BodyLong, HeldBroken, CheckWrong, AddressIllegal, CodeUnknown, LengthWrong, FieldOutside, RoomShort, LogLeftOver, RecordBroken, HeaderWrong, BytesMissing, ParcelCheckWrong, CountFull, Overloaded, LengthOutside, CheckRight, SumBeyond}

-- the column "No." of the table; 02, request 5: "20 header wrong or under 3 bytes, 21 fewer bytes than length and check need, 22 check wrong";
-- request 6: "31 first, a lent cell whose sum, sign aside, is beyond its count times 9,999,990,000,000"; "23 when a count would pass 65,535"; request 7: "24 overload";
-- request 9: "25 body empty or over 31 bytes, 26 check already right"
abbrev pub number_of : Refusal → ℕ
number_of BodyShort = 1
number_of BodyLong = 2
number_of HeldBroken = 3
number_of CheckWrong = 4
number_of AddressIllegal = 5
number_of CodeUnknown = 6
number_of LengthWrong = 7
number_of FieldOutside = 8
number_of RoomShort = 9
number_of LogLeftOver = 10
number_of RecordBroken = 11
number_of HeaderWrong = 20
number_of BytesMissing = 21
number_of ParcelCheckWrong = 22
number_of CountFull = 23
number_of Overloaded = 24
number_of LengthOutside = 25
number_of CheckRight = 26
number_of SumBeyond = 31

-- the table's rows from the top: the refusals in the order of their numbers, from 1, and those of 02 behind them; 12 to 19 are nobody's
abbrev pub all : List Refusal
all = BodyShort ∷ BodyLong ∷ HeldBroken ∷ CheckWrong ∷ AddressIllegal ∷ CodeUnknown ∷ LengthWrong ∷ FieldOutside ∷ RoomShort ∷ LogLeftOver ∷ RecordBroken ∷ HeaderWrong ∷ BytesMissing ∷ ParcelCheckWrong ∷ CountFull ∷ Overloaded ∷ LengthOutside ∷ CheckRight ∷ SumBeyond ∷ []

-- the row with a number
unfoldable pub named_in : List Refusal → ℕ → Option Refusal
named_in [] number = None
named_in (why ∷ rows) number = cond (eqb number (number_of why)) (Some why) (named_in rows number)

unfoldable pub named_of : ℕ → Option Refusal
named_of number = named_in all number

-- the refusals that a line can meet, by their numbers. "Log records": "Kind 3 is a refusal met on the line: status 1 to 8". 5 stays among them: a
-- state handed in can earn it, and logs from before hold it
abbrev pub line_status : ℕ → Bool
line_status number = leb 1 number && leb number 8

-- the number of a verdict: 0 if nothing is refused
abbrev pub verdict_number : Result (Unit {0}) Refusal → ℕ
verdict_number (Ok tt) = 0
verdict_number (Err why) = number_of why

-- "the order is 1, 4, 5": a chain of tests; the first test that holds refuses
abbrev pub refuse_if : Bool → Refusal → Result (Unit {0}) Refusal → Result (Unit {0}) Refusal
refuse_if true why after = Err why
refuse_if false why after = after

-- what an answer says of what was given: refused or not
abbrev pub verdict_of : {A : Type 0} → Result A Refusal → Result (Unit {0}) Refusal
verdict_of (Ok value) = Ok tt
verdict_of (Err why) = Err why

-- an answer under a verdict: of the value where nothing is refused, of the refusal elsewhere
abbrev pub by_verdict : {A B : Type 0} → (A → B) → (Refusal → B) → Result (Unit {0}) Refusal → A → B
by_verdict good refused (Ok tt) value = good value
by_verdict good refused (Err why) value = refused why
