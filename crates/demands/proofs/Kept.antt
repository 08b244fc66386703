-- Shown: each reply C2 or C3 that was heard stands in the log as its weighing and in the listing as its weight.
-- Why: a body put together from such parts is read as the message of its parts, and a reading packs to the bytes that it was read from.
use Rattle.std.specs.Prelude.{Result, Ok, Option, Some}
use Prim.Native.Nat.{ℕ, ◌+◌, ◌≤◌}
use mathlib.Core.Path.{◌≡◌, ◌∙◌, refl}
use mathlib.Core.List.{List, [], ◌∷◌, ◌++◌}
use native.Mathlib.Omega.{arith}
use lib.ListN.{length, replicate}
use Rattle.std.proofs.lemmas.Grind.{common_steps}
use Rattle.body.specs.declared.addresses.Address.{Address}
use Rattle.body.specs.declared.addresses.Address.TheVariants.{Short, Serial}
use Rattle.body.specs.Addresses.{address_length}
use Rattle.body.specs.Body.{body_of}
use Rattle.body.proofs.Anatomy.{body_length}
use Rattle.frame.specs.Stuffing.{needed}
use Rattle.line.specs.Listener.{Heard}
use Rattle.weight.specs.declared.families.Family.{Family}
use Rattle.weight.specs.declared.FourBytes.{FourBytes}
use Rattle.weight.specs.declared.Reading.{Reading}
use Rattle.weight.specs.Digits.{digits_of}
use Rattle.weight.specs.Status.{sixth, marked, reading_of}
use Rattle.weight.specs.Bytes.{in_order, four_in, read_of, packed_of}
use Rattle.weight.proofs.RoundTrip.{bytes_back}
use Rattle.codes.specs.declared.table.Role.{Role}
use Rattle.codes.specs.declared.table.Role.TheVariants.{Reply}
use Rattle.codes.specs.declared.table.Load.{Load}
use Rattle.codes.specs.declared.table.Load.TheVariants.{Net, Gross}
use Rattle.codes.specs.declared.table.Row.TheVariants.{Weight}
use Rattle.codes.specs.Table.{line_in, line_of, row_of}
use Rattle.meaning.specs.Weights.{weight_said}
use Rattle.meaning.specs.Judging.{judged_code, judged_data, judged_message}
use Rattle.message.specs.Reading.{message_of, read_message}
use Rattle.message.specs.Writing.{judged_message_write}
use Rattle.message.proofs.RoundTrip.{may_be_written, read_back}
use Rattle.records.specs.declared.records.Record.{Record}
use Rattle.weighing_log.specs.Hearing.{record_of, noted_heard}
use Rattle.weighing_log.specs.Heard.{code_of}
use Rattle.weighing_log.proofs.Heard.{weighing_made}
use Rattle.entries.specs.Entries.{entry_heard}
use Rattle.demands.proofs.ByFamily.{free_allowed, so_reads, read_of_lem}
use Rattle.demands.specs.Kept.{WeightReply, WeightsKept, LogInOrder}
use Rattle.demands.specs.Weighings.{note_then, records_from}
use Rattle.refusal.specs.declared.Refusal.{Refusal}

row : (load : Load) → row_of Reply (code_of load) ≡ Some (Weight load)
unfolding row_of line_of line_in
row Net = refl
row Gross = refl

at_most_four : (address : Address) → address_length address ≤ 4
unfolding address_length
at_most_four (Short byte) = omega arith
at_most_four (Serial serial) = omega arith

module _ (family : Family) (address : Address) (load : Load) (four : FourBytes) (reply : WeightReply family address four) where
  four_of : four_in family (in_order four) ≡ four
  unfolding four_in
  four_of = grind (arith, common_steps)

  body : List ℕ
  body = body_of address (code_of load) (in_order four)

  reading : Reading
  reading = reading_of family (digits_of four.w0 four.w1 four.w2) four.con

  read : read_of four ≡ Ok reading
  unfolding reading
  read = read_of_lem four family reply.line ∙ so_reads family four reply.digits (free_allowed family (marked sixth four.con) reply.bit6)

  packs : packed_of reading ≡ Ok four
  packs = bytes_back four reply.status reading read

  right : judged_message Reply family (code_of load) (in_order four) ≡ Ok tt
  unfolding judged_message judged_code judged_data
  right = rw (row load, four_of, read)

  -- a room that is long enough for its frame
  room : List ℕ
  room = replicate (needed body) 0

  writable : judged_message_write Reply family address (code_of load) (in_order four) room ≡ Ok tt
  unfolding body room
  writable = grind (arith, common_steps, at_most_four, body_length, may_be_written, right)

  is_read : read_message Reply family body ≡ Ok (message_of Reply family address (code_of load) (in_order four))
  unfolding body
  is_read = read_back Reply family address (code_of load) (in_order four) room writable

  says : weight_said (message_of Reply family address (code_of load) (in_order four)).what ≡ Some (record { load = load; bytes = four; reading = reading })
  unfolding message_of
  says = rw (row load, four_of, read)

pub weights_kept : WeightsKept
unfolding record_of entry_heard message_of body
weights_kept family wire kept address load four reply =
    let is = is_read family address load four reply in
    let says_it = says family address load four reply in
    record {
      noted =
          λ (time : ℕ). rw (is, says_it)
          (weighing_made time address four (rw (read family address load four reply)) reply.from load);
      listed = record { reading = reading family address load four reply; packed = packs family address load four reply; listed = rw (is, says_it) };
    }

-- ---- all that a line gives

note_append : (made : Result (Option Record) Refusal) (first second : List Record) → note_then made (first ++ second) ≡ note_then made first ++ second
note_append made first second = grind (arith, common_steps)

module _ (time : ℕ → ℕ) (role : Role) (family : Family) (one : Heard) (later : List Heard) where
  -- what the event of a number makes, ahead of what the later ones make
  abbrev from_there : ℕ → List Record
  from_there number = note_then (noted_heard (time number) role family one) (records_from time role family (number + 1) later)

  in_order_lem : (before : List Heard) (number : ℕ) → records_from time role family number (before ++ (one ∷ later)) ≡ records_from time role family number before ++ from_there (length before + number)
  unfolding records_from
  in_order_lem [] number = grind (arith, common_steps)
  in_order_lem (heard ∷ before) number = grind (arith, common_steps, note_append, in_order_lem before (number + 1))

pub log_in_order : LogInOrder
log_in_order time role family before one later = grind (arith, common_steps, in_order_lem)
