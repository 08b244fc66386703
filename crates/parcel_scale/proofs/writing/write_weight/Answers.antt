-- `parcel_scale::write_weight` meets its contract: a weight, its three fields behind the code, or 8.
-- Why: the marks decide whether the fields are legal, and the array holds the code, the count's four bytes and the marks.
use Rattle.std.proofs.Common.{◌∙◌, sym, ap, rules}
use mir.Syntax.{w32}
use mir.Val.{SFits}
use mir.ValLaws.{to_z-of_z}
use Rattle.low_first.specs.Signed.{word_of}
use Rattle.room.specs.Writing.{written}
use Rattle.parcel_scale.specs.Layouts.{row_in, row_of}
use Rattle.parcel_scale.specs.Writing.{parcel_bytes, judged_parcel, written_parcel}
use Rattle.parcel_scale.proofs.Values.{marks_decide, weight_body, four_low_bytes}
use Rattle.parcel_scale.proofs.writing.write_weight.Goals as goal

pub returns : goal.returns
unfolding written_parcel judged_parcel parcel_bytes row_of row_in written
returns c =
    let told = c.args.told in
    let fits : SFits w32 told.count = search rules in
    let marks = sym c.marks_legal.ensures ∙ c.if-not-marks_legal.false in
    let word = c.word_of.ensures ∙ ap word_of (to_z-of_z w32 told.count fits) in
    rw (marks_decide told fits ∙ marks, weight_body told marks, ← four_low_bytes) (rw (c.to_le_bytes.ensures, word) at c.write_body.ensures)
