-- Shown: each answer of a read is given exactly where its test is the first of 20, 21, 22, 6, 7, 8 to fail, and bytes behind a whole frame change none.
-- Why: a read is a message under the verdict of these tests, and each piece of a frame is found in its first bytes.
use Rattle.std.specs.Prelude.{Result, Ok, Err}
use Prim.Native.Nat.{ℕ, ◌+◌}
use mathlib.Core.Path.{◌≡◌, ◌∙◌, sym}
use mathlib.Core.Bool.{Bool, not}
use mathlib.Core.List.{List, [], ◌∷◌}
use lib.Dec.{eqb}
use lib.ListN.{length}
use native.Mathlib.Omega.{arith}
use Rattle.std.proofs.lemmas.Grind.{common_steps}
use Rattle.refusal.specs.declared.Refusal.{Refusal}
use Rattle.refusal.specs.declared.Refusal.TheVariants.{CodeUnknown, LengthWrong, FieldOutside, HeaderWrong, BytesMissing, ParcelCheckWrong}
use Rattle.refusal.specs.Numbers.{refuse_if, by_verdict}
use Rattle.low_first.specs.LowFirst.{low_first}
use Rattle.parcel_check.specs.Check.{parcel_check}
use Rattle.parcel_scale.specs.declared.parcels.Parcel.{Parcel}
use Rattle.parcel_scale.specs.declared.parcels.Parcel.TheVariants.{Nack}
use Rattle.parcel_scale.specs.Frame.{headed, needs, body_in}
use Rattle.parcel_scale.specs.Layouts.{Found, known, unknown, row_of, numbers_in}
use Rattle.parcel_scale.specs.Reading.{whole, checked, read_row, read_code, read_body, judged_frame, after_frame, read_parcel}
use Rattle.laws.specs.Exactly.{ExactlyWhere}
use Rattle.demands.specs.Parcels.{code_known, data_length_right, data_fields_right, Accepts, OneAnswerInOrder, BehindTheCheck}
use Rattle.demands.proofs.ParcelFrames.{Pieces, pieces_of, pieces_more, needs_in, body_in_lem, check_in_lem, whole_in, headed_in}
use Rattle.demands.proofs.TestsInOrder.{Test, must, judged, exactly, AllPass, all_pass, through}

-- ---- a read as a message under the verdict of six tests

-- 6, 7, 8
abbrev meaning_tests : Bool → Bool → Bool → List Test
meaning_tests is_known is_sized is_within = must is_known CodeUnknown ∷ must is_sized LengthWrong ∷ must is_within FieldOutside ∷ []

abbrev body_tests : List ℕ → List Test
body_tests body = meaning_tests (code_known body) (data_length_right body) (data_fields_right body)

-- 20, 21, 22, and then they
abbrev pub tests : List ℕ → List Test
tests bytes = must (headed bytes) HeaderWrong ∷ must (whole bytes) BytesMissing ∷ must (checked bytes) ParcelCheckWrong ∷ body_tests (body_in bytes)

-- what a row says of data; any message where there is none
abbrev pub said_by : Found → List ℕ → Parcel
said_by (known row) data' = row.says (numbers_in row.fields data')
said_by unknown data' = Nack

abbrev pub said_in : List ℕ → Parcel
said_in [] = Nack
said_in (code ∷ data') = said_by (row_of code) data'

-- an answer under a verdict
abbrev answered : ℕ → Result (Unit {0}) Refusal → Parcel → Result (Parcel × ℕ) Refusal
answered used = by_verdict (λ (parcel : Parcel). Ok (parcel, used)) Err

body_so : (used : ℕ) (body : List ℕ) → read_body used body ≡ answered used (judged (body_tests body)) (said_in body)
unfolding read_body read_code read_row
body_so used body = grind (arith, common_steps)

read_so : (bytes : List ℕ) → read_parcel bytes ≡ answered (needs bytes) (judged (tests bytes)) (said_in (body_in bytes))
unfolding read_parcel judged_frame
read_so bytes = grind (arith, common_steps, body_so)

-- ---- so each answer tells the verdict

-- a message told is the one that the body says, and as many bytes were used as the frame needs
pub record Accepted (bytes : List ℕ) (parcel : Parcel) (used : ℕ) : Type 0 where
  pub passed : AllPass (tests bytes)
  pub parcel_is : parcel ≡ said_in (body_in bytes)
  pub used_is : used ≡ needs bytes

pub accepted_so : (bytes : List ℕ) (parcel : Parcel) (used : ℕ) → read_parcel bytes ≡ Ok (parcel, used) → Accepted bytes parcel used
accepted_so bytes parcel used e = grind (arith, common_steps, read_so)

module _ (bytes : List ℕ) where
  refused : (why : Refusal) → ExactlyWhere (read_parcel bytes ≡ Err why) (judged (tests bytes) ≡ Err why)
  refused why = grind (arith, common_steps, read_so)

  told : ExactlyWhere (Accepts bytes) (AllPass (tests bytes))
  told = (
    λ (it : Accepts bytes). (accepted_so bytes it.parcel (needs bytes) it.told).passed,
    λ (passed : AllPass (tests bytes)). record { parcel = said_in (body_in bytes); told = rw (read_so bytes, (all_pass (tests bytes)).1 passed) },
  )

-- what passed the frame's tests stands together in the demand
grouped : {A B C D : Type 0} → ExactlyWhere (A × (B × (C × D))) ((A × (B × C)) × D)
grouped = (λ h. ((h.0, (h.1.0, h.1.1.0)), h.1.1.1), λ h. (h.0.0, (h.0.1.0, (h.0.1.1, h.1))))

pub one_answer_in_order : OneAnswerInOrder
one_answer_in_order bytes = record {
  header = through (refused bytes HeaderWrong) (exactly HeaderWrong (tests bytes) tt);
  missing = through (refused bytes BytesMissing) (exactly BytesMissing (tests bytes) tt);
  check = through (refused bytes ParcelCheckWrong) (exactly ParcelCheckWrong (tests bytes) tt);
  code = through (refused bytes CodeUnknown) (through (exactly CodeUnknown (tests bytes) tt) grouped);
  data_length = through (refused bytes LengthWrong) (through (exactly LengthWrong (tests bytes) tt) grouped);
  field = through (refused bytes FieldOutside) (through (exactly FieldOutside (tests bytes) tt) grouped);
  accepted = through (told bytes) grouped;
}

-- ---- nothing is read behind the check

-- what is read of bytes in pieces: nothing of what stands behind
pub read_pieces : {bytes head low body check behind : List ℕ} → Pieces bytes head low body check behind
    → read_parcel bytes
    ≡ after_frame (refuse_if (not (headed head)) HeaderWrong (refuse_if (not (eqb (low_first check) (parcel_check body))) ParcelCheckWrong (Ok tt)))
    (read_body (5 + length body + 2) body)
unfolding read_parcel judged_frame
read_pieces pieces = rw (whole_in pieces, headed_in pieces, check_in_lem pieces, body_in_lem pieces, needs_in pieces)

pub behind_the_check : BehindTheCheck
behind_the_check bytes more is_whole = let pieces = pieces_of bytes is_whole in read_pieces (pieces_more pieces more) ∙ sym (read_pieces pieces)
