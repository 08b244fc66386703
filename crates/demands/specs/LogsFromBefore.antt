-- 02, request 1: "Log records of kinds 1 and 2 follow." Request 4: "Log records use byte 17 for the family .. 0 is an old record whose bits stay
-- plain." So every log that was good stays good with the same records. This page keeps the rule as 01 had it, to say so. Kind 3 has no address and did not move: a log may hold a refusal 5 that was met when 9F was the limit.
use Rattle.std.specs.Prelude.{ℕ, ◌^◌, ◌≤◌, ◌<◌, ◌≡◌, Bool, true, false, cond, ◌&&◌, List, [], ◌∷◌, ◌++◌, map, ◌⊎◌, leb, eqb, length, Ok}
use Rattle.body.specs.declared.addresses.Address.TheVariants.{Short}
use Rattle.body.specs.Addresses.{highest_short}
use Rattle.weight.specs.declared.families.Family.TheVariants.{Plain}
use Rattle.weight.specs.Digits.{all_decimal}
use Rattle.weight.specs.Status.{sixth, marked}
use Rattle.weight.specs.Bytes.{readable}
use Rattle.codes.specs.declared.table.Load.TheVariants.{Gross}
use Rattle.records.specs.declared.records.Record.{Record}
use Rattle.records.specs.Records.{weighs, was_met, good_address, reading_in, no_address, weight_zero, good}
use Rattle.records.specs.Layout.{record_bytes, bytes_of_record, record_in, rest_zero}
use Rattle.records.specs.Stepping.{whole_log}
use Rattle.weighing_log.specs.Hearing.{weighing, met_on_line}
use Rattle.demands.specs.Examples.{e3}

-- 01: "address as on the wire (00 to 9F), serial zero for a short address"; the serial has three bytes
abbrev pub highest_before : ℕ
highest_before = 0x9F

-- 02, request 1: "a short address is 01 to FD"
abbrev pub highest_since : ℕ
highest_since = 0xFD

abbrev pub good_address_up_to : ℕ → Record → Bool
good_address_up_to highest item = leb item.address highest && cond (eqb item.address 0) (leb item.serial 16_777_215) (eqb item.serial 0)

-- "status is CON", any byte; "weight bytes good decimal"
abbrev pub good_weighing_up_to : ℕ → Record → Bool
good_weighing_up_to highest item = good_address_up_to highest item && all_decimal item.w0 item.w1 item.w2

-- "status 1 to 8, bytes 9–12 and 14–16 zero"
abbrev pub good_met_before : Record → Bool
good_met_before item = leb 1 item.status && leb item.status 8 && no_address item && weight_zero item

-- and byte 17 zero. The rest of 01's layout is that of today; a request that moves it keeps 01's here
abbrev pub good_up_to : ℕ → Record → Bool
good_up_to highest item = eqb item.family 0 && cond (weighs item) (good_weighing_up_to highest item) (cond (was_met item) (good_met_before item) false)

-- a log that was good under some limit, with its records: 20 bytes each, "17–19 zero" (17 by `good_up_to`), one behind the other, and nothing left over
pub data WasGood (highest : ℕ) : List ℕ → List Record → Type 0 where
  empty : WasGood highest [] []
  first : (bytes : List ℕ) {log : List ℕ} {items : List Record} → length bytes ≡ record_bytes → rest_zero bytes ≡ true
      → good_up_to highest (record_in bytes) ≡ true → WasGood highest log items → WasGood highest (bytes ++ log) (record_in bytes ∷ items)

abbrev pub StayGoodUnder : ℕ → Type 0
StayGoodUnder highest = (log : List ℕ) (items : List Record) → WasGood highest log items → whole_log log ≡ record { records = items; ending = Ok tt }

-- under 01's limit and under request 1's
abbrev pub StaysGood : Type 0
StaysGood = StayGoodUnder highest_before × StayGoodUnder highest_since

-- and no log is left out of WasGood: one that is whole now, each of whose records was good, was good
abbrev pub EachBefore : ℕ → List Record → Type 0
EachBefore highest [] = Unit {0}
EachBefore highest (item ∷ items) = (good_up_to highest item ≡ true) × EachBefore highest items

abbrev pub WereGood : Type 0
WereGood =
    (highest : ℕ) (log : List ℕ) → (whole_log log).ending ≡ Ok tt → EachBefore highest (whole_log log).records → WasGood highest log (whole_log log).records

-- a log of one refusal 5 was good and is good (among other records: StaysGood)
pub record FiveKept (time : ℕ) : Type 0 where
  pub before : WasGood highest_before (bytes_of_record (met_on_line time 5)) (met_on_line time 5 ∷ [])
  pub now : whole_log (bytes_of_record (met_on_line time 5)) ≡ record { records = met_on_line time 5 ∷ []; ending = Ok tt }

abbrev pub FiveStaysGood : Type 0
FiveStaysGood = (time : ℕ) → time < 2 ^ 64 → FiveKept time

-- ---- what is good now and was not: a weighing from a higher short address, or with a family, and nothing else

pub record FromHigher (item : Record) : Type 0 where
  pub weighed : weighs item ≡ true
  pub above : highest_before < item.address
  pub most : item.address ≤ highest_short
  pub serial : item.serial ≡ 0

-- 02, request 4: "1 to 3 for 000 to 002"
pub record WithFamily (item : Record) : Type 0 where
  pub weighed : weighs item ≡ true
  pub least : 1 ≤ item.family
  pub most : item.family ≤ 3

abbrev pub OnlyThese : Type 0
OnlyThese = (item : Record) → good item ≡ true → (good_up_to highest_before item ≡ true) ⊎ (FromHigher item ⊎ WithFamily item)

-- by request 4 alone
abbrev pub OnlyFamilies : Type 0
OnlyFamilies = (item : Record) → good item ≡ true → (good_up_to highest_since item ≡ true) ⊎ WithFamily item

-- "Log records of kinds 1 and 2 follow": each of them, where its weight can be read
abbrev pub HigherAdded : Type 0
HigherAdded = (item : Record) → FromHigher item → readable (reading_in item) ≡ true → (good item ≡ true) × (good_up_to highest_before item ≡ false)

-- "1 to 3 for 000 to 002": each of them, with right digits and, where byte 17 is 3, with bit 6 clear
abbrev pub FamilyAdded : Type 0
FamilyAdded =
    (item : Record) → WithFamily item → good_address item ≡ true → all_decimal item.w0 item.w1 item.w2 ≡ true
    → (item.family ≡ 3 → marked sixth item.status ≡ false) → (good item ≡ true) × (good_up_to highest_since item ≡ false)

-- the same gross reply from both ends of the old range, from both ends of what was added, and from beyond
abbrev pub gross_from : ℕ → Record
gross_from byte = weighing 0 (Short byte) Gross (e3 Plain).bytes

abbrev pub from_each : (Record → Bool) → List Bool
from_each rule = map (λ (byte : ℕ). rule (gross_from byte)) (0x01 ∷ 0x9F ∷ 0xA0 ∷ 0xFD ∷ 0xFE ∷ [])

pub record Moved : Type 0 where
  pub before : from_each (good_up_to highest_before) ≡ true ∷ true ∷ false ∷ false ∷ false ∷ []
  pub since : from_each (good_up_to highest_since) ≡ true ∷ true ∷ true ∷ true ∷ false ∷ []
  pub now : from_each good ≡ true ∷ true ∷ true ∷ true ∷ false ∷ []
