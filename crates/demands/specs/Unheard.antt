-- "A weight that wasn't heard must never look like a weight of nothing." A record of kind 3 has zeros where a weighing has its digits (01, "Log
-- records"). So no function of the library gives a reading, a value or kilograms for it, or for anything else that is no weighing, in Rattle
-- or to another language. The other half: a weighing gives its own reading, and if it is not overloaded its own value and
-- kilograms, so that a library which refused everything would be seen.
use Rattle.std.specs.Prelude.{ℕ, ◌<◌, ◌≡◌, true, false, List, T, ℤ, negsuc, ◌-ℤ◌, Ok, Err, Option, Some, None}
use Rattle.std.specs.Float.{nan}
use Rattle.std.proofs.Math.Pow.{are_bytes}
use Rattle.body.specs.Body.{data_in}
use Rattle.refusal.specs.declared.Refusal.{Refusal}
use Rattle.refusal.specs.declared.Refusal.TheVariants.{FieldOutside}
use Rattle.refusal.specs.Numbers.{number_of}
use Rattle.weight.specs.declared.families.Family.{Family}
use Rattle.weight.specs.declared.FourBytes.{FourBytes}
use Rattle.weight.specs.declared.Reading.{Reading}
use Rattle.weight.specs.Families.{family_number}
use Rattle.weight.specs.Bytes.{in_order, read_of, readable, packed_of}
use Rattle.weight.specs.Tenths.{value_of}
use Rattle.kilograms.specs.Rounded.{rounded}
use Rattle.line.specs.declared.places.Event.{Event}
use Rattle.line.specs.Readers.{heard_as}
use Rattle.codes.specs.declared.table.Role.{Role}
use Rattle.codes.specs.declared.table.Load.TheVariants.{Net, Gross}
use Rattle.meaning.specs.declared.meaning.SaidWeight.{SaidWeight}
use Rattle.meaning.specs.Weights.{weight_said}
use Rattle.message.specs.declared.reading.Message.{Message}
use Rattle.message.specs.Reading.{read_message}
use Rattle.records.specs.declared.records.Record.{Record}
use Rattle.records.specs.Records.{kind_of, weighs, weight_bytes, good}
use Rattle.records.specs.Reading.{read_record}
use Rattle.records.specs.Weighings.{weight_noted}
use Rattle.records.specs.Stepping.{stepped}
use Rattle.weighing_log.specs.Hearing.{noted_heard}
use Rattle.crossing.specs.declared.events.QuayEvent.{QuayEvent}
use Rattle.crossing.specs.Events.{event_from}
use Rattle.crossing.specs.Families.{family_from}
use Rattle.crossing.specs.Roles.{role_from}
use Rattle.quay_weight.specs.Weights.{good_reading, no_reading, reading_out, value_out, value_read, difference_read, kilograms_out, kilograms_read}
use Rattle.quay_message.specs.declared.messages.QuayWhat.{QuayWhat}
use Rattle.quay_message.specs.declared.messages.QuayMessage.{QuayMessage}
use Rattle.quay_message.specs.Messages.{message_in}
use Rattle.quay_log.specs.declared.logs.QuayRecord.{QuayRecord}
use Rattle.quay_log.specs.Records.{record_out, read_out, stepped_out, record_heard}

-- ---- in Rattle: the weight that a record notes

-- for what is no weighing it is never a reading, also if the record breaks a rule; a good one answers the refusal that it notes
pub record NotesNoWeight (item : Record) : Type 0 where
  pub no_reading_lem : (reading : Reading) → weight_noted item ≡ Ok reading → ⊥
  pub its_refusal : good item ≡ true → (why : Refusal) → item.status ≡ number_of why → weight_noted item ≡ Err why

-- ---- across: four bytes that a caller hands on as a weight

-- the four functions on weights refuse them, by fields that no weight has
pub record ReadsAsNone (weight : FourBytes) : Type 0 where
  pub reading : reading_out (read_of weight) ≡ no_reading FieldOutside
  pub value : value_out (value_read (read_of weight)) ≡ value_out (Err FieldOutside)
  pub kilograms : kilograms_out (kilograms_read (read_of weight)) ≡ kilograms_out (Err FieldOutside)
  pub as_gross : (net : FourBytes) → value_out (difference_read (read_of weight) (read_of net)) ≡ value_out (Err FieldOutside)
  pub as_net : (gross : FourBytes) → value_out (difference_read (read_of gross) (read_of weight)) ≡ value_out (Err FieldOutside)

-- or each answers for one reading that is not overloaded: none is refused, and the overload light is off
pub record Weighs (mine : Reading) (weight : FourBytes) : Type 0 where
  pub light : (reading_out (read_of weight)).overload ≡ 0
  pub tenths : ℤ
  pub weighs_so : value_of mine ≡ Ok tenths
  pub value : value_out (value_read (read_of weight)) ≡ record { value = tenths; refusal = 0 }
  pub kilograms : kilograms_out (kilograms_read (read_of weight)) ≡ record { kilograms = rounded tenths; refusal = 0 }
  pub less : (net : FourBytes) (other : Reading) (theirs : ℤ) → read_of net ≡ Ok other → value_of other ≡ Ok theirs
      → value_out (difference_read (read_of weight) (read_of net)) ≡ record { value = tenths -ℤ theirs; refusal = 0 }

-- or the reading is overloaded and has no value (02, request 7): the lowest number of 64 bits, and what is no number, beside 24. The reading itself
-- is not refused; the overload light is on beside its digits
pub record RefusedAcross (weight : FourBytes) : Type 0 where
  pub light : (reading_out (read_of weight)).overload ≡ 1
  pub read : (reading_out (read_of weight)).refusal ≡ 0
  pub value : value_out (value_read (read_of weight)) ≡ record { value = negsuc 9_223_372_036_854_775_807; refusal = 24 }
  pub kilograms : kilograms_out (kilograms_read (read_of weight)) ≡ record { kilograms = nan; refusal = 24 }
  pub as_gross : (net : FourBytes) → readable (read_of net) ≡ true
      → value_out (difference_read (read_of weight) (read_of net)) ≡ record { value = negsuc 9_223_372_036_854_775_807; refusal = 24 }
  pub as_net : (gross : FourBytes) → readable (read_of gross) ≡ true
      → value_out (difference_read (read_of gross) (read_of weight)) ≡ record { value = negsuc 9_223_372_036_854_775_807; refusal = 24 }

-- the reading is that whose four bytes they are
pub record WeightOf (mine : Reading) (weight : FourBytes) : Type 0 where
  pub bytes : packed_of mine ≡ Ok weight
  pub reading : reading_out (read_of weight) ≡ good_reading mine
  pub weighs : mine.overload ≡ false → Weighs mine weight
  pub overloaded : mine.overload ≡ true → RefusedAcross weight

-- the four bytes of a record that crossed: W0 W1 W2, and its status for CON; and its family
abbrev pub handed_on : QuayRecord → FourBytes
handed_on out = record { w0 = out.w0; w1 = out.w1; w2 = out.w2; con = out.status; family = out.family }

-- 4 says that a message says a weight
abbrev pub says_weight : ℕ
says_weight = 4

-- no weighing crosses: neither by its kind nor by its bytes
pub record HandsOnNoWeight (out : QuayRecord) : Type 0 where
  pub no_gross : out.kind ≡ kind_of Gross → ⊥
  pub no_net : out.kind ≡ kind_of Net → ⊥
  pub no_weight : ReadsAsNone (handed_on out)

pub record SaysNoWeight (what : QuayWhat) : Type 0 where
  pub other : what.says ≡ says_weight → ⊥
  pub no_weight : ReadsAsNone what.weight

-- judged by what went in: no weighing was read, stepped to or noted, no weight was said; all that was refused is among this
pub record NeverAWeight : Type 0 where
  pub unweighed : (item : Record) → weighs item ≡ false → NotesNoWeight item
  pub record_read : (bytes : List ℕ) → ((item : Record) → read_record bytes ≡ Ok item → weighs item ≡ false)
      → HandsOnNoWeight (read_out (read_record bytes))
  pub log_stepped : (log : List ℕ) (place : ℕ)
      → ((item : Record) (next : ℕ) → stepped log place ≡ Ok (Some (item, next)) → weighs item ≡ false)
      → HandsOnNoWeight (stepped_out place (stepped log place)).item
  pub event_recorded : (time number family_number_lem : ℕ) (event : QuayEvent) (body : List ℕ)
      → ((role : Role) (family : Family) (given : Option Event) (item : Record) → role_from number ≡ Ok role → family_from family_number_lem ≡ Ok family
      → event_from event ≡ Ok given → noted_heard time role family (heard_as given body) ≡ Ok (Some item) → weighs item ≡ false)
      → HandsOnNoWeight (record_heard time (role_from number) (family_from family_number_lem) (event_from event) body)
  pub message_read : (number family_number_lem : ℕ) (body : List ℕ)
      → ((role : Role) (family : Family) (message : Message) → role_from number ≡ Ok role → family_from family_number_lem ≡ Ok family
      → read_message role family body ≡ Ok message → weight_said message.what ≡ None)
      → SaysNoWeight (message_in (role_from number) (family_from family_number_lem) body).what

-- ---- the other half

-- a good weighing notes a reading, and hands on its four bytes, which weigh what it shows, and have no value if it is overloaded
pub record NotesItsWeight (item : Record) : Type 0 where
  pub reading : Reading
  pub noted : weight_noted item ≡ Ok reading
  pub bytes : packed_of reading ≡ Ok (weight_bytes item)
  pub across : WeightOf reading (handed_on (record_out item))

-- a weighing crosses as what it is, with exactly its own four bytes, and is not refused
pub record HandsOnItsWeight (item : Record) (out : QuayRecord) : Type 0 where
  pub kind : out.kind ≡ item.kind
  pub bytes : handed_on out ≡ weight_bytes item
  pub good : out.refusal ≡ 0

-- a message that says a weight crosses as one, with exactly the four bytes that were heard and the family that was said, and is not refused
pub record SaysItsWeight (family : Family) (said : SaidWeight) (body : List ℕ) (out : QuayMessage) : Type 0 where
  pub says : out.what.says ≡ says_weight
  pub kind : out.what.load ≡ kind_of said.load
  pub bytes : in_order out.what.weight ≡ data_in body
  pub of_line : out.what.weight.family ≡ family_number family
  pub weight : WeightOf said.reading out.what.weight
  pub good : out.refusal ≡ 0

pub record AlwaysItsWeight : Type 0 where
  pub weighed : (item : Record) → good item ≡ true → weighs item ≡ true → item.status < 256 → NotesItsWeight item
  pub record_read : (bytes : List ℕ) (item : Record) → read_record bytes ≡ Ok item → weighs item ≡ true
      → HandsOnItsWeight item (read_out (read_record bytes))
  pub log_stepped : (log : List ℕ) (place next : ℕ) (item : Record) → stepped log place ≡ Ok (Some (item, next)) → weighs item ≡ true
      → HandsOnItsWeight item (stepped_out place (stepped log place)).item
  pub event_recorded : (time number family_number_lem : ℕ) (role : Role) (family : Family) (event : QuayEvent) (given : Option Event) (body : List ℕ) (item : Record)
      → role_from number ≡ Ok role → family_from family_number_lem ≡ Ok family → event_from event ≡ Ok given
      → noted_heard time role family (heard_as given body) ≡ Ok (Some item) → weighs item ≡ true
      → HandsOnItsWeight item (record_heard time (role_from number) (family_from family_number_lem) (event_from event) body)
  pub message_read : (number family_number_lem : ℕ) (role : Role) (family : Family) (body : List ℕ) (message : Message) (said : SaidWeight) → T (are_bytes body)
      → role_from number ≡ Ok role → family_from family_number_lem ≡ Ok family → read_message role family body ≡ Ok message
      → weight_said message.what ≡ Some said
      → SaysItsWeight family said body (message_in (role_from number) (family_from family_number_lem) body)
