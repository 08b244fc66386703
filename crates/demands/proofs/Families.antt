-- Shown: the laws of 02's request 4: what stays as before, what is refused now, and that a family comes back; and the examples, computed.
-- Why: for a legal reading the tests that were added hold; a family and its number name each other; the rest computes.
use Rattle.std.specs.Prelude.{Result, Ok, Err, Option, Some, None}
use Prim.Native.Nat.{ℕ, ◌^◌, ◌≤◌, ◌<◌}
use mathlib.Core.Path.{◌≡◌, ◌∙◌, refl, sym, ap}
use mathlib.Core.Bool.{Bool, true, false, ◌&&◌, and-eq-true_iff}
use mathlib.Core.List.Memᴰ
use mathlib.Core.List.{List, Memᴰ}
use mathlib.Core.Logic.{◌⊎◌, inl, inr}
use native.Mathlib.Omega.{arith}
use borrow.Author.Tests.{eqb-true}
use lib.Dec.{eqb, lit≤}
use Rattle.std.proofs.lemmas.Grind.{common_steps}
use Rattle.refusal.specs.declared.Refusal.{Refusal}
use Rattle.refusal.specs.declared.Refusal.TheVariants.{FieldOutside}
use Rattle.body.specs.Addresses.{highest_short}
use Rattle.line.specs.Listener.{Heard, nothing, frame, refused}
use Rattle.weight.specs.declared.families.Family.{Family}
use Rattle.weight.specs.declared.families.Family.TheVariants.{Plain, Of002}
use Rattle.weight.specs.declared.FourBytes.{FourBytes}
use Rattle.weight.specs.declared.Reading.{Reading}
use Rattle.weight.specs.Families.{terminal, family_number, named_in, family_named, allowed}
use Rattle.weight.specs.Status.{sixth, marked}
use Rattle.weight.specs.Bytes.{in_range, read_of, readable, bytes_of, packed_of}
use Rattle.weight.specs.Tenths.{value_of, difference_of}
use Rattle.weight.proofs.FamilyNumbers.{named_number}
use Rattle.weight.proofs.RoundTrip.{bytes_back, written_back}
use Rattle.kilograms.specs.Rounded.{kilograms_of}
use Rattle.terminal_mode.specs.Modes.{mode_of}
use Rattle.codes.specs.declared.table.Role.{Role}
use Rattle.records.specs.declared.records.Record.{Record}
use Rattle.records.specs.Records.{met_kind, weighs, weight_bytes, reading_in, good_address, good_weighing, good_met, good}
use Rattle.records.specs.Layout.{record_in}
use Rattle.records.specs.Reading.{make_record, read_record}
use Rattle.records.specs.Writing.{judged_record, written_record}
use Rattle.records.specs.Weighings.{weight_noted}
use Rattle.records.proofs.RoundTrip.{record_back}
use Rattle.records.proofs.Unweighed.{weighing_noted}
use Rattle.weighing_log.specs.Hearing.{noted_heard}
use Rattle.weighing_log.proofs.Heard.{refusal_kind}
use Rattle.weighing_log.proofs.Weighings.{heard as weighing_heard}
use Rattle.listing.specs.Writing.{written_line}
use Rattle.demands.specs.BeforeFamilies.{without, in_range_before, ReadBefore, good as good_before, refused as refused_before, read_before}
use Rattle.demands.specs.Families.{LegalAsBefore, LegalWhereBefore, Reserved, UnknownFamily, EachReadsAsBefore, ComeBack, ReservedRefused, ReservedUnread, Breaks, ElevenAlso, FamilyReadsBack, IsPlain, OldArePlain, PlainLine}
use Rattle.demands.specs.LogsFromBefore.{highest_before, highest_since, good_up_to, WasGood, empty, first}
use Rattle.demands.proofs.ByFamily.{same_family, digits, bit, so_reads, read_by, read_of_lem, read_family, above_unread, reserved_unread, refused_by_8}
use Rattle.demands.proofs.Logs.{noted_good}
use Rattle.demands.proofs.LogsFromBefore.{stays_record}
use Rattle.demands.proofs.TableCounts.{not_met}

-- ---- as before

module _ (reading : Reading) where
  abbrev clear : Bool
  clear = allowed (terminal reading.family).sixth reading.bit6

  was_legal : in_range reading ≡ true → in_range_before (without reading) ≡ true
  unfolding in_range
  was_legal legal = ((and-eq-true_iff (in_range_before (without reading)) clear).0 legal).0

pub legal_as_before : LegalAsBefore
unfolding packed_of value_of difference_of kilograms_of
legal_as_before reading legal =
    let was = was_legal reading legal in
    record {
      in_range_lem = was;
      four = bytes_of reading;
      packed = rw legal;
      same = rw was;
      number = refl;
      value = λ off. rw (legal, off, was);
      difference = λ off net also also_off. rw (legal, also, off, also_off, was, was_legal net also);
      kilograms = λ off. rw (legal, off, was);
      line = λ off number load address. rw off;
    }

pub legal_where_before : LegalWhereBefore
unfolding in_range
legal_where_before reading free = grind (arith, common_steps)

pub plain_line : PlainLine
plain_line reading plain off number load address = rw (plain, off)

-- ---- four bytes

unknown_above : (number : ℕ) → family_named number ≡ None → 3 < number
unfolding family_named named_in
unknown_above number e = grind (arith, common_steps)

-- only 002 has a bit 6 that is not allowed, and only where it is set
reserves : (family : Family) (set : Bool) → allowed (terminal family).sixth set ≡ false → (family_number family ≡ family_number Of002) × (set ≡ true)
reserves family set e = grind (arith, common_steps)

module _ (four : FourBytes) where
  abbrev before : ReadBefore
  before = read_before four.w0 four.w1 four.w2 four.con

  read_was : (reading : Reading) → read_of four ≡ Ok reading → before ≡ good_before (without reading)
  read_was reading e = let by = read_by four reading e in rw (by.so.decimal, by.so.is)

  refused_was : (why : Refusal) → read_of four ≡ Err why
      → (before ≡ refused_before why) ⊎ (Reserved four ⊎ UnknownFamily four)
  refused_was why e = by_digits (digits Plain four) refl (family_named four.family) refl
    where
      by_bit : (family : Family) → family_named four.family ≡ Some family → digits Plain four ≡ true → (clear' : Bool) → bit family four ≡ clear'
          → (before ≡ refused_before why) ⊎ (Reserved four ⊎ UnknownFamily four)
      by_bit family is decimal true clear' =
          let number = named_number four.family family is in
          let reads = read_of_lem four family (sym number) ∙ so_reads family four decimal clear' in
          cc
      by_bit family is decimal false set =
          let reserved = reserves family (marked sixth four.con) set in
          inr (inl (sym (named_number four.family family is) ∙ reserved.0, reserved.1))

      by_digits : (decimal : Bool) → digits Plain four ≡ decimal → (named : Option Family) → family_named four.family ≡ named
          → (before ≡ refused_before why) ⊎ (Reserved four ⊎ UnknownFamily four)
      by_digits false none named is = inl (rw (none, refused_by_8 four why e))
      by_digits true decimal (Some family) is = by_bit family is decimal (bit family four) refl
      by_digits true decimal None is = inr (inr (unknown_above four.family is))

pub each_reads_as_before : EachReadsAsBefore
each_reads_as_before four = record { read = read_was four; refused = refused_was four; unknown = above_unread four }

pub come_back : ComeBack
come_back = record { bytes = bytes_back; reading = written_back; family = read_family }

-- ---- 8

and_false : (test : Bool) → (test && false) ≡ false
and_false true = refl
and_false false = refl

not_legal : (reading : Reading) → reading.family ≡ Of002 → reading.bit6 ≡ true → in_range reading ≡ false
unfolding in_range
not_legal reading is set = rw (is, set) (and_false (in_range_before (without reading)))

pub reserved_refused : ReservedRefused
unfolding packed_of value_of difference_of kilograms_of mode_of written_line
reserved_refused reading is set = grind (arith, common_steps, not_legal)

pub reserved_unread_everywhere : ReservedUnread
reserved_unread_everywhere four set = reserved_unread four set.0 set.1

-- ---- 11

module _ (item : Record) where
  met_not : 0 < item.family → good_met item ≡ false
  unfolding good_met
  met_not some = grind (arith, common_steps)

  unread_not : 0 < item.family → reading_in item ≡ Err FieldOutside → good item ≡ false
  unfolding good good_weighing
  unread_not some none = grind (arith, common_steps, met_not)

  of_kind_3 : item.kind ≡ met_kind → 0 < item.family → good item ≡ false
  unfolding good
  of_kind_3 kind some = grind (arith, common_steps, met_not)

  breaks : Breaks item.family item.kind item.status → good item ≡ false
  breaks broken = grind (arith, common_steps, above_unread, of_kind_3, reserved_unread, unread_not)

pub eleven_also : ElevenAlso
unfolding written_record judged_record read_record make_record record_in
eleven_also = grind (arith, common_steps, breaks)

-- ---- the log

-- what a good weighing notes was read from its own bytes
noted_reading : (item : Record) (reading : Reading) → weight_noted item ≡ Ok reading → reading_in item ≡ Ok reading
unfolding weight_noted
noted_reading item reading e = grind (arith, common_steps)

-- a weighing is not of kind 3
not_kind_3 : (item : Record) → weighs item ≡ true → item.kind ≡ 3 → ⊥
not_kind_3 item weighing kind = grind (arith, common_steps)

-- a good weighing notes a reading
record Notes (item : Record) : Type 0 where
  reading : Reading
  noted : weight_noted item ≡ Ok reading

notes_reading : (item : Record) → good item ≡ true → weighs item ≡ true → Notes item
unfolding good good_weighing
notes_reading item right weighing =
    by_read (reading_in item) refl ((and-eq-true_iff (good_address item) (readable (reading_in item))).0 (rw weighing at right)).1
  where
    by_read : (read : Result Reading Refusal) → reading_in item ≡ read → readable read ≡ true → Notes item
    by_read (Ok reading) e can = record { reading = reading; noted = weighing_noted item right (not_met item weighing) ∙ e }
    by_read (Err why) e can = cc

-- the number of a weighing's family
weighing_number : (time : ℕ) (role : Role) (family : Family) (heard : Heard) (item : Record) → noted_heard time role family heard ≡ Ok (Some item)
    → (item.kind ≡ 3 → ⊥) → item.family ≡ family_number family
weighing_number time role family nothing item e unmet = cc
weighing_number time role family (frame wire kept body) item e unmet = (weighing_heard role family time body item e unmet).of_line
weighing_number time role family (refused why wire kept) item e unmet = absurd (unmet (refusal_kind time why item e))

pub family_reads_back : FamilyReadsBack
family_reads_back time small role family heard item e weighing =
    let made = noted_good time role family heard item e in
    let within : item.time < 2 ^ 64 = rw made.1 small in
    let mine = notes_reading item made.0 weighing in
    let number = weighing_number time role family heard item e (λ met. not_kind_3 item weighing met) in
    record {
      again = record_back item within made.0;
      number = number;
      reading = mine.reading;
      noted = mine.noted;
      of_line =
          same_family mine.reading.family family
          (read_family (weight_bytes item) mine.reading (noted_reading item mine.reading mine.noted) ∙ number);
    }

-- an old record was good
each_was : {highest : ℕ} {log : List ℕ} {items : List Record} → WasGood highest log items → (item : Record) → Memᴰ item items → good_up_to highest item ≡ true
each_was empty item among = absurd (Memᴰ.not-nil among)
each_was {highest} (first bytes size rest was later) item (Memᴰ.head same) = ap (good_up_to highest) same ∙ was
each_was (first bytes size rest was later) item (Memᴰ.tail among) = each_was later item among

-- and it has no family; a weighing notes what its bytes were read as
is_plain : (highest : ℕ) → highest ≤ highest_short → (item : Record) → good_up_to highest item ≡ true → IsPlain item
is_plain highest most item was =
    let number = eqb-true item.family 0 ((and-eq-true_iff (eqb item.family 0) _).0 was).0 in
    record {
      number = number;
      weighing = λ weighed.
          let mine = notes_reading item (stays_record highest item most was) weighed in
          let reads = noted_reading item mine.reading mine.noted in
          record {
            reading = mine.reading;
            noted = mine.noted;
            was = read_was (weight_bytes item) mine.reading reads;
            plain = same_family mine.reading.family Plain (read_family (weight_bytes item) mine.reading reads ∙ number);
          };
    }

pub old_are_plain : OldArePlain
old_are_plain = (
  λ log items was item among. is_plain highest_before (lit≤ tt) item (each_was was item among),
  λ log items was item among. is_plain highest_since (lit≤ tt) item (each_was was item among),
)
