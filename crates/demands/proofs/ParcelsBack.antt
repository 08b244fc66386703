-- Shown: a written message reads back as itself, a message that was read is written again as the bytes that were used, and no two share a writing.
-- Why: a frame gives its body back, a row's fields give their numbers back, and the row of a code says the message of that code.
use Rattle.std.specs.Prelude.{Ok}
use Prim.Native.Nat.{ℕ, ◌^◌, ◌≤◌, ◌<◌}
use mathlib.Core.Path.{◌≡◌, ◌∙◌, refl, sym, ap}
use mathlib.Core.Bool.{true}
use mathlib.Core.List.{List, [], ◌∷◌, ◌++◌, append-nil}
use native.Mathlib.Omega.{arith}
use borrow.Author.Tests.{ltb-false, not-true, eq-eqb}
use lib.Dec.{T, ltb}
use lib.ListN.{length, take}
use lib.Seq.{length-take-le}
use lib.Pow.{are_bytes}
use Rattle.std.proofs.lemmas.Grind.{common_steps}
use Rattle.parcel_check.specs.Check.{parcel_check}
use Rattle.parcel_scale.specs.declared.parcels.Parcel.{Parcel}
use Rattle.parcel_scale.specs.Frame.{framed, needs, body_in}
use Rattle.parcel_scale.specs.Layouts.{Row, known, row_of, code_of, numbers_of, widths, numbers_in, in_values}
use Rattle.parcel_scale.specs.Reading.{sized, within, read_row, read_code, read_body, read_parcel}
use Rattle.parcel_scale.specs.Writing.{fields_of, body_of, parcel_bytes, legal_fields, written_parcel}
use Rattle.parcel_scale.proofs.Frames.{framed_length}
use Rattle.demands.specs.Parcels.{OfItsTypes, data_length_right, data_fields_right, ParcelReadsBack, SingleWriting, TwoWritings}
use Rattle.demands.proofs.ParcelFields.{laid_length, laid_back, numbers_back}
use Rattle.demands.proofs.ParcelFrames.{framed_pieces, header_headed, check_told, body_bytes, framed_back}
use Rattle.demands.proofs.ParcelRows.{right_row, has_row}
use Rattle.demands.proofs.ParcelWriting.{writing_in_order}
use Rattle.demands.proofs.ParcelsInOrder.{said_in, accepted_so, read_pieces}

-- ---- written, then read

framed_read : (body rest : List ℕ) → length body < 256 ^ 2 → read_parcel (framed body ++ rest) ≡ read_body (length (framed body)) body
framed_read body rest short =
    read_pieces (framed_pieces body rest short) ∙ rw (header_headed, check_told body, eq-eqb (parcel_check body) (parcel_check body) refl, framed_length body)

module _ (parcel : Parcel) (typed : OfItsTypes parcel) (legal : legal_fields parcel ≡ true) where
  body_read : (used : ℕ) → read_body used (body_of parcel) ≡ Ok (parcel, used)
  unfolding body_of fields_of read_body read_code read_row legal_fields
  body_read used =
      let has = has_row parcel in
      let fields = has.row.fields in
      let in_values_lem : in_values fields (numbers_of parcel) ≡ true = rw has.found at legal in
      rw (
        has.found,
        numbers_back fields (numbers_of parcel) has.counted in_values_lem,
        laid_length fields (numbers_of parcel),
        eq-eqb (widths fields) (widths fields) refl,
        in_values_lem,
        has.says typed,
      )

  body_short : length (body_of parcel) < 256 ^ 2
  unfolding body_of fields_of
  body_short = let has = has_row parcel in rw (has.found, laid_length has.row.fields (numbers_of parcel)) (omega (arith, has.short))

  read_back : (rest : List ℕ) → read_parcel (parcel_bytes parcel ++ rest) ≡ Ok (parcel, length (parcel_bytes parcel))
  unfolding parcel_bytes
  read_back rest = grind (arith, common_steps, body_read, body_short, framed_read)

  alone_back : read_parcel (parcel_bytes parcel) ≡ Ok (parcel, length (parcel_bytes parcel))
  alone_back = ap read_parcel (sym (append-nil (parcel_bytes parcel))) ∙ read_back []

pub parcel_reads_back : ParcelReadsBack
unfolding written_parcel
parcel_reads_back parcel room typed good = grind (arith, common_steps, alone_back, read_back, writing_in_order)

pub two_writings : TwoWritings
two_writings first second typed typed_too legal legal_too same = grind (arith, common_steps, alone_back)

-- ---- read, then written

-- a body's message may be written, and its body is the one that was read
record SaidRight (body : List ℕ) (parcel : Parcel) : Type 0 where
  legal : legal_fields parcel ≡ true
  back : T (are_bytes body) → data_length_right body ≡ true → body_of parcel ≡ body

module _ (code : ℕ) (data' : List ℕ) (row : Row) (found : row_of code ≡ known row) (right : within row data' ≡ true) where
  abbrev said : Parcel
  said = row.says (numbers_in row.fields data')

  code_of_lem : code_of said ≡ code
  code_of_lem = let (rule, has) = right_row code row found in rule.code (numbers_in row.fields data') ∙ has

  fields_of_lem : fields_of said ≡ row.fields
  unfolding fields_of
  fields_of_lem = rw (code_of_lem, found)

  numbers_of_lem : numbers_of said ≡ numbers_in row.fields data'
  numbers_of_lem = (right_row code row found).0.numbers data' right

  said_legal : legal_fields said ≡ true
  unfolding legal_fields
  said_legal = rw (fields_of_lem, numbers_of_lem) right

  said_back : T (are_bytes data') → sized row data' ≡ true → body_of said ≡ code ∷ data'
  unfolding body_of
  said_back all is_sized_lem = grind (arith, common_steps, code_of_lem, fields_of_lem, laid_back, numbers_of_lem)

said_right : (body : List ℕ) → data_fields_right body ≡ true → SaidRight body (said_in body)
said_right body right = grind (arith, common_steps, said_back, said_legal)

pub read_legal : (bytes : List ℕ) (parcel : Parcel) (used : ℕ) → read_parcel bytes ≡ Ok (parcel, used) → legal_fields parcel ≡ true
read_legal bytes parcel used e = grind (arith, common_steps, accepted_so, said_right)

pub single_writing : SingleWriting
unfolding parcel_bytes written_parcel
single_writing bytes parcel used all e =
    let it = accepted_so bytes parcel used e in
    let (is_headed, (is_whole, (is_checked, (has_code, (is_sized_lem, right))))) = it.passed in
    let same_body : body_of parcel ≡ body_in bytes = rw it.parcel_is ((said_right (body_in bytes) right).back (body_bytes bytes all) is_sized_lem) in
    let same : parcel_bytes parcel ≡ take used bytes = rw (same_body, it.used_is) (framed_back bytes all is_headed is_whole is_checked) in
    let there : used ≤ length bytes = rw it.used_is (ltb-false (length bytes) (needs bytes) (not-true (ltb (length bytes) (needs bytes)) is_whole)) in
    record {
      there = there;
      same = same;
      written = λ (room : List ℕ) (enough : used ≤ length room).
          let fits : length (parcel_bytes parcel) ≤ length room = rw (same, length-take-le used bytes there) enough in
          rw ((writing_in_order parcel room).good.1 (read_legal bytes parcel used e, fits), same);
    }
