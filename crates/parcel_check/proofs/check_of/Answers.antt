-- `parcel_check::check_of` meets its contract: the check of a body.
-- Why: what the bytes not yet fed make of the register that the wide number stands for is what the whole body makes of an empty one.
use Rattle.std.proofs.Common.{ℕ, ◌∙◌, sym, ◌≤◌, ◌<◌, ◌+◌, ◌*◌, ◌/◌, ◌%◌, ap, arith, length, take, drop, get_or, length-drop}
use Rattle.std.proofs.lemmas.List.{take-append-drop, get_or-drop}
use lib.Bits.{xor_lt}
use lib.ListN.{drop_of_length-le}
use Rattle.register.specs.Register.{all_in}
use Rattle.register.proofs.Laws.{all_append}
use Rattle.register.proofs.Slices.{four_in}
use Rattle.parcel_check.specs.Check.{enter_byte, parcel_check}
use Rattle.parcel_check.proofs.Folding.{four_behind}
use Rattle.parcel_check.proofs.Laws.{stands_for, byte_behind}
use Rattle.parcel_check.proofs.check_of.Goals as goal

pub loop-four-init : goal.loop-four-init
unfolding parcel_check
loop-four-init c =
    let body = c.args.body.now in
    let odd = length body % 4 in (
      omega arith,
      ap (λ (n : ℕ). all_in enter_byte n (drop odd body)) (c.number_of-wide.ensures ∙ ap (all_in enter_byte 0) c.as_rchunks.ensures.front)
          ∙ sym (all_append enter_byte 0 (take odd body) (drop odd body))
          ∙ ap (all_in enter_byte 0) (take-append-drop odd body),
    )

pub loop-four-preserved : goal.loop-four-preserved
loop-four-preserved c =
    let body = c.args.body.now in
    let odd = length body % 4 in
    let rest = drop odd body in
    let each : (i : ℕ) → get_or rest i 0 < 256 = λ i. rw (get_or-drop odd body i 0) (c.type_inv.body (odd + i)).fits in
    let size = length-drop odd body in
    let at = c.loop-four in
    let folded = c.below_32 in
    let four = c.from_be_bytes.result in (
      xor_lt 32 folded.result four (omega arith) (omega arith),
      ap (λ (n : ℕ). all_in enter_byte n (drop (4 * (at.four-index + 1)) rest)) (four_behind at.wide four folded.result (omega arith) folded.ensures)
          ∙ four_in enter_byte stands_for byte_behind rest each (length body / 4) at.wide at.four-index four at.invariant.0 (omega arith) (omega arith)
          (rw (← c.as_rchunks.ensures.back) c.from_be_bytes.ensures)
          ∙ at.invariant.1,
    )

pub returns : goal.returns
returns c =
    let body = c.args.body.now in
    let rest = drop (length body % 4) body in
    let size = length-drop (length body % 4) body in
    let none : length rest ≤ 4 * c.loop-four.four-index = omega arith in
    c.register_of.ensures ∙ rw (drop_of_length-le rest none) at c.loop-four.invariant.1
