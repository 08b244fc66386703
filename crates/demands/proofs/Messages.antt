-- Shown: demand 2 at the message layer: written messages read back, accepted ones are written back, and 6, 7, 8 refuse as the table says.
-- Why: reading and writing judge code and data by one verdict, a body is put together and taken apart without loss, and a frame is heard whole.
use Rattle.std.specs.Prelude.{Result, Ok, Err}
use Prim.Native.Nat.{ℕ, ◌≤◌}
use mathlib.Core.Path.{◌≡◌, refl}
use mathlib.Core.Bool.{Bool, true, false, not}
use mathlib.Core.List.{List}
use native.Mathlib.Omega.{arith}
use lib.Dec.{lit≤}
use Rattle.std.proofs.lemmas.Grind.{common_steps}
use Rattle.refusal.specs.declared.Refusal.{Refusal}
use Rattle.refusal.specs.declared.Refusal.TheVariants.{CodeUnknown, LengthWrong, FieldOutside}
use Rattle.refusal.specs.Numbers.{number_of, refuse_if, verdict_of}
use Rattle.weight.specs.declared.families.Family.{Family}
use Rattle.codes.specs.declared.table.Role.{Role}
use Rattle.message.specs.declared.reading.Message.{Message}
use Rattle.codes.specs.Table.{row_of, in_table}
use Rattle.codes.specs.Lengths.{length_of, length_right}
use Rattle.meaning.specs.Fields.{fields_right}
use Rattle.meaning.specs.Judging.{judged_code, judged_then, judged_data, judged_message}
use Rattle.message.specs.Reading.{receiving}
use Rattle.message.specs.Writing.{judged_message_write, written_message}
use Rattle.message.proofs.Checked.{in_order, read_so}
use Rattle.message.proofs.RoundTrip.{body_back, again, written_lent, read_back, data_stand}
use Rattle.demands.specs.Messages.{MessageReadsBack, AcceptedWritesBack, FirstToFail, AsTheTableSays, ReadingRefuses, WritingRefuses}
use Rattle.demands.proofs.Corollaries.{reads_back}
use Rattle.demands.proofs.Reading.{verdict_of_lem}

-- ---- written, then read

pub written_reads_back : MessageReadsBack
unfolding written_message
written_reads_back role family address code data' room good = grind (arith, common_steps, data_stand, read_back, reads_back, written_lent)

-- ---- read, then written

pub accepted_writes_back : AcceptedWritesBack
unfolding written_message
accepted_writes_back role family body message all received = grind (arith, common_steps, again, body_back)

-- ---- the three tests

-- what is judged after them is none of 6, 7, 8
abbrev Other : Result (Unit {0}) Refusal → Type 0
Other after = (why : Refusal) → 6 ≤ number_of why → number_of why ≤ 8 → after ≡ Err why → ⊥

chain : Bool → Bool → Bool → Result (Unit {0}) Refusal → Result (Unit {0}) Refusal
chain known sized right after = refuse_if (not known) CodeUnknown (refuse_if (not sized) LengthWrong (refuse_if (not right) FieldOutside after))

first_to_fail : (known sized right : Bool) (after : Result (Unit {0}) Refusal) → Other after → FirstToFail known sized right after (chain known sized right after)
unfolding chain
first_to_fail false sized right after other = grind (arith, common_steps)
first_to_fail true false right after other = grind (arith, common_steps)
first_to_fail true true false after other = grind (arith, common_steps)
first_to_fail true true true after other =
    record {
      unknown = (λ e. absurd (other CodeUnknown (lit≤ tt) (lit≤ tt) e), λ h. cc);
      wrong_length = (λ e. absurd (other LengthWrong (lit≤ tt) (lit≤ tt) e), λ h. cc);
      outside = (λ e. absurd (other FieldOutside (lit≤ tt) (lit≤ tt) e), λ h. cc);
      passed = λ h. refl;
    }

-- the message's verdict with a judge behind it is such a chain
judged_then_lem : (role : Role) (family : Family) (code : ℕ) (data' : List ℕ) (after : Result (Unit {0}) Refusal)
    → judged_then (judged_message role family code data') after
    ≡ chain (in_table (row_of role code)) (length_right (length_of (row_of role code)) data') (fields_right family (row_of role code) data') after
unfolding judged_message judged_code judged_data chain
judged_then_lem role family code data' after = grind (arith, common_steps)

by_the_table : (role : Role) (family : Family) (code : ℕ) (data' : List ℕ) (after : Result (Unit {0}) Refusal) → Other after
    → AsTheTableSays role family code data' after (judged_then (judged_message role family code data') after)
by_the_table role family code data' after other = grind (arith, common_steps, first_to_fail, judged_then_lem)

-- ---- reading, behind 2, 1, 4, 5

then_nothing : (verdict : Result (Unit {0}) Refusal) (message : Message) → verdict_of (receiving verdict message) ≡ judged_then verdict (Ok tt)
then_nothing (Ok tt) message = refl
then_nothing (Err why) message = refl

pub reading_refuses : ReadingRefuses
reading_refuses role family body = grind (arith, common_steps, by_the_table, in_order, read_so, then_nothing)

-- ---- writing, behind 5

pub writing_refuses : WritingRefuses
unfolding written_message judged_message_write
writing_refuses role family address code data' room = grind (arith, common_steps, by_the_table, verdict_of_lem)
