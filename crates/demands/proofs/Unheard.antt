-- Shown: nothing that is no weighing ever reads as a weight: not a record of kind 3, not what crosses in place of a record or a message; and what
-- is one does, with its own four bytes. Why: a record's kind is asked ahead of its bytes, and what crosses without a weight has no digits.
use Rattle.std.specs.Prelude.{Result, Ok, Err, Option, Some, None}
use Prim.Native.Nat.{ℕ, ◌<◌}
use mathlib.Core.Path.{◌≡◌, ◌∙◌, refl}
use mathlib.Core.Bool.{Bool, true, false, and-eq-true_iff}
use mathlib.Core.List.{List}
use native.Mathlib.Omega.{arith}
use lib.Dec.{T}
use lib.Pow.{are_bytes}
use lib.IntN.{ℤ}
use Rattle.std.proofs.lemmas.Grind.{common_steps}
use Rattle.refusal.specs.declared.Refusal.TheVariants.{FieldOutside}
use Rattle.refusal.specs.Numbers.{number_of}
use Rattle.weight.specs.declared.families.Family.{Family}
use Rattle.weight.specs.declared.FourBytes.{FourBytes}
use Rattle.weight.specs.declared.Reading.{Reading}
use Rattle.weight.specs.Bytes.{read_of, readable}
use Rattle.weight.specs.Tenths.{tenths_shown, value_of, difference_of}
use Rattle.weight.proofs.RoundTrip.{bytes_back}
use Rattle.kilograms.specs.Rounded.{kilograms_of}
use Rattle.codes.specs.declared.table.Role.{Role}
use Rattle.meaning.specs.declared.meaning.SaidWeight.{SaidWeight}
use Rattle.meaning.specs.declared.meaning.What.{What}
use Rattle.meaning.specs.declared.meaning.What.TheVariants as says
use Rattle.meaning.specs.Weights.{weight_said}
use Rattle.meaning.proofs.Saying.{says_that}
use Rattle.message.specs.declared.reading.Message.{Message}
use Rattle.message.specs.Reading.{read_message}
use Rattle.records.specs.declared.records.Record.{Record}
use Rattle.records.specs.Records.{weighs, was_met, weight_bytes, reading_in, good_address, good_weighing, good}
use Rattle.records.specs.Weighings.{weight_noted}
use Rattle.records.proofs.Unweighed.{else_met, met_unheard, met_refusal, weighing_noted}
use Rattle.weighing_log.specs.Hearing.{noted_heard}
use Rattle.weighing_log.proofs.Weighings.{carries, spelled, status_small, said_family}
use Rattle.line.specs.Readers.{heard_as}
use Rattle.line.specs.declared.places.Event.{Event}
use Rattle.quay_weight.specs.Weights.{value_out, difference_read}
use Rattle.quay_message.specs.declared.messages.QuayWhat.{QuayWhat}
use Rattle.quay_message.specs.Messages.{what_out, received_out, message_in}
use Rattle.quay_log.specs.Records.{no_digits, record_out, no_record, read_out, stepped_out, noted_out, record_heard}
use Rattle.demands.proofs.ByFamily.{read_legal, undecimal_unread, refused_by_8}
use Rattle.demands.proofs.Overload.{overload_refused, refused_across}
use Rattle.demands.proofs.TableCounts.{not_met}
use Rattle.demands.specs.Overload.{EightAcross}
use Rattle.demands.specs.Unheard.{NotesNoWeight, NotesItsWeight, ReadsAsNone, Weighs, WeightOf, HandsOnNoWeight, SaysNoWeight, HandsOnItsWeight, says_weight, SaysItsWeight, NeverAWeight, AlwaysItsWeight}
use Rattle.refusal.specs.declared.Refusal.{Refusal}

-- ---- the weight that a record notes

-- neither a weighing nor kind 3 is no good record
not_good : (item : Record) → weighs item ≡ false → was_met item ≡ false → (reading : Reading) → weight_noted item ≡ Ok reading → ⊥
unfolding weight_noted good
not_good item none unmet reading e = grind (arith, common_steps)

notes_none : (item : Record) → weighs item ≡ false → NotesNoWeight item
notes_none item none = record { no_reading_lem = by_kind (was_met item) refl; its_refusal = λ is_good_lem. met_refusal item is_good_lem (else_met item is_good_lem none).0 }
  where
    by_kind : (met : Bool) → was_met item ≡ met → (reading : Reading) → weight_noted item ≡ Ok reading → ⊥
    by_kind true met = met_unheard item met
    by_kind false unmet = not_good item none unmet

-- four bytes that were read weigh what their reading shows, if it is not overloaded
weighs_it : (mine : Reading) (bytes : FourBytes) → read_of bytes ≡ Ok mine → mine.overload ≡ false → Weighs mine bytes
unfolding kilograms_of difference_of
weighs_it mine bytes read off =
    let within = read_legal bytes mine read in
    let is = (overload_refused.value mine).neither within off in
    record {
      light = rw (read, off);
      tenths = tenths_shown mine;
      weighs_so = is;
      value = rw (read, is);
      kilograms = rw (read, is);
      less = λ (net : FourBytes) (other : Reading) (theirs : ℤ) (was : read_of net ≡ Ok other) (so : value_of other ≡ Ok theirs).
          rw (read, was, within, read_legal net other was, is, so);
    }

-- and with a byte for CON they are the weight of their reading
weight_of : (mine : Reading) (bytes : FourBytes) → bytes.con < 256 → read_of bytes ≡ Ok mine → WeightOf mine bytes
weight_of mine bytes small read = grind (arith, common_steps, bytes_back, refused_across, weighs_it)

hands_on : (item : Record) → weighs item ≡ true → HandsOnItsWeight item (record_out item)
hands_on item weighing = record { kind = refl; bytes = rw weighing; good = refl }

notes_its : (item : Record) → good item ≡ true → weighs item ≡ true → item.status < 256 → NotesItsWeight item
unfolding good good_weighing
notes_its item is_good_lem weighing small = by_read (reading_in item) refl ((and-eq-true_iff (good_address item) (readable (reading_in item))).0 (rw weighing at is_good_lem)).1
  where
    by_read : (read : Result Reading Refusal) → reading_in item ≡ read → readable read ≡ true → NotesItsWeight item
    by_read (Ok reading) e can = record {
      reading = reading;
      noted = weighing_noted item is_good_lem (not_met item weighing) ∙ e;
      bytes = bytes_back (weight_bytes item) small reading e;
      across = rw (hands_on item weighing).bytes (weight_of reading (weight_bytes item) small e);
    }
    by_read (Err why) e can = cc

-- ---- bytes that read as no weight

less_none : (gross : FourBytes) → value_out (difference_read (read_of gross) (Err FieldOutside)) ≡ value_out (Err FieldOutside)
less_none gross = grind (arith, common_steps, refused_by_8)

no_weight : (weight : FourBytes) → read_of weight ≡ Err FieldOutside → ReadsAsNone weight
no_weight weight e = grind (arith, common_steps, less_none)

-- so do all that cannot be read
pub eight_across_lem : EightAcross
eight_across_lem weight unread = grind (arith, common_steps, refused_by_8)

-- three bytes FF read as none, whatever stands for CON and for the family
no_digits_lem : (con family : ℕ) → ReadsAsNone (record { w0 = no_digits; w1 = no_digits; w2 = no_digits; con = con; family = family })
no_digits_lem con family = no_weight _ (undecimal_unread _ refl)

-- ---- what crosses

out_none : (item : Record) → weighs item ≡ false → HandsOnNoWeight (record_out item)
out_none item none = record {
  no_gross = λ (e : item.kind ≡ 1). not_both item none (rw e);
  no_net = λ (e : item.kind ≡ 2). not_both item none (rw e);
  no_weight = rw none (no_digits_lem item.status item.family);
}
  where
    not_both : (item : Record) → weighs item ≡ false → weighs item ≡ true → ⊥
    not_both item none weighing = cc

nothing_none : (refusal : ℕ) → HandsOnNoWeight (no_record refusal)
nothing_none refusal = record { no_gross = λ (e : ◌≡◌ {A = ℕ} 0 1). omega (arith, e); no_net = λ (e : ◌≡◌ {A = ℕ} 0 2). omega (arith, e); no_weight = no_digits_lem 0 255 }

read_none : (entry : Result Record Refusal) → ((item : Record) → entry ≡ Ok item → weighs item ≡ false) → HandsOnNoWeight (read_out entry)
read_none (Ok item) none = out_none item (none item refl)
read_none (Err why) none = nothing_none (number_of why)

stepped_none : (place : ℕ) (one : Result (Option (Record × ℕ)) Refusal) → ((item : Record) (next : ℕ) → one ≡ Ok (Some (item, next)) → weighs item ≡ false)
    → HandsOnNoWeight (stepped_out place one).item
stepped_none place (Ok (Some (item, next))) none = out_none item (none item next refl)
stepped_none place (Ok None) none = nothing_none 0
stepped_none place (Err why) none = nothing_none (number_of why)

noted_none : (noted : Result (Option Record) Refusal) → ((item : Record) → noted ≡ Ok (Some item) → weighs item ≡ false) → HandsOnNoWeight (noted_out noted)
noted_none (Ok (Some item)) none = out_none item (none item refl)
noted_none (Ok None) none = nothing_none 0
noted_none (Err why) none = nothing_none (number_of why)

heard_none : (time : ℕ) (asked : Result Role Refusal) (family_number_lem : Result Family Refusal) (given : Result (Option Event) Refusal) (body : List ℕ)
    → ((role : Role) (family : Family) (event : Option Event) (item : Record) → asked ≡ Ok role → family_number_lem ≡ Ok family → given ≡ Ok event
    → noted_heard time role family (heard_as event body) ≡ Ok (Some item) → weighs item ≡ false)
    → HandsOnNoWeight (record_heard time asked family_number_lem given body)
heard_none time (Err why) family_number_lem given body none = nothing_none (number_of why)
heard_none time (Ok role) (Err why) given body none = nothing_none (number_of why)
heard_none time (Ok role) (Ok family) (Err why) body none = nothing_none (number_of why)
heard_none time (Ok role) (Ok family) (Ok event) body none =
    noted_none (noted_heard time role family (heard_as event body)) (λ item. none role family event item refl refl refl)

-- a message across that says another thing than a weight, or nothing
other_said : (what : QuayWhat) → (what.says ≡ says_weight → ⊥) → what.weight ≡ record { w0 = no_digits; w1 = no_digits; w2 = no_digits; con = 255; family = 255 } → SaysNoWeight what
other_said what other none = record { other = other; no_weight = rw none (no_digits_lem 255 255) }

said_none : (what : What) → weight_said what ≡ None → SaysNoWeight (what_out what)
said_none (says.Weight said) none = cc
said_none says.Nothing none = other_said _ (λ (e : ◌≡◌ {A = ℕ} 0 4). omega (arith, e)) refl
said_none (says.Serial serial) none = other_said _ (λ (e : ◌≡◌ {A = ℕ} 1 4). omega (arith, e)) refl
said_none (says.Number number) none = other_said _ (λ (e : ◌≡◌ {A = ℕ} 2 4). omega (arith, e)) refl
said_none (says.Status status) none = other_said _ (λ (e : ◌≡◌ {A = ℕ} 3 4). omega (arith, e)) refl
said_none (says.Inputs bits on) none = other_said _ (λ (e : ◌≡◌ {A = ℕ} 5 4). omega (arith, e)) refl
said_none (says.Outputs bits) none = other_said _ (λ (e : ◌≡◌ {A = ℕ} 6 4). omega (arith, e)) refl
said_none (says.Text number from to) none = other_said _ (λ (e : ◌≡◌ {A = ℕ} 7 4). omega (arith, e)) refl
said_none (says.Event event from to) none = other_said _ (λ (e : ◌≡◌ {A = ℕ} 8 4). omega (arith, e)) refl
said_none (says.Converter number) none = other_said _ (λ (e : ◌≡◌ {A = ℕ} 9 4). omega (arith, e)) refl
said_none (says.Error error) none = other_said _ (λ (e : ◌≡◌ {A = ℕ} 10 4). omega (arith, e)) refl

received_none : (received : Result Message Refusal) → ((message : Message) → received ≡ Ok message → weight_said message.what ≡ None)
    → SaysNoWeight (received_out received).what
received_none (Ok message) none = said_none message.what (none message refl)
received_none (Err why) none = said_none says.Nothing refl

message_none : (asked : Result Role Refusal) (family_number_lem : Result Family Refusal) (body : List ℕ)
    → ((role : Role) (family : Family) (message : Message) → asked ≡ Ok role → family_number_lem ≡ Ok family
    → read_message role family body ≡ Ok message → weight_said message.what ≡ None)
    → SaysNoWeight (message_in asked family_number_lem body).what
message_none (Ok role) (Ok family) body none = received_none (read_message role family body) (λ message. none role family message refl refl)
message_none (Ok role) (Err why) body none = said_none says.Nothing refl
message_none (Err why) family_number_lem body none = said_none says.Nothing refl

pub never_a_weight : NeverAWeight
never_a_weight = grind (arith, common_steps, heard_none, message_none, notes_none, read_none, stepped_none)

-- ---- the other half

says_its : (role : Role) (family : Family) (body : List ℕ) (message : Message) (said : SaidWeight) → T (are_bytes body) → read_message role family body ≡ Ok message
    → weight_said message.what ≡ Some said → SaysItsWeight family said body (message_in (Ok role) (Ok family) body)
says_its role family body message said all was says =
    let is = says_that message.what said says in
    record {
      good = rw was;
      says = rw (was, is);
      kind = rw (was, is);
      of_line = rw (was, is) (said_family role family body message was said says);
      bytes = rw (was, is) (spelled role family body message was said says);
      weight = rw (was, is) (weight_of said.reading said.bytes (status_small role family body message was said says all) (carries role family body message was said says).reads);
    }

pub always_its_weight : AlwaysItsWeight
always_its_weight = grind (arith, common_steps, notes_its, says_its)
