-- `check_byte::feed_all` meets its contract: all bytes enter the register in order.
-- Why: what the bytes not yet fed make of the register that the wide number stands for is what the whole slice makes of the first one.
use Rattle.std.proofs.Common.{ℕ, ◌∙◌, ◌≤◌, ◌<◌, ◌+◌, ◌*◌, ◌/◌, ◌%◌, ap, arith, length, drop, get_or, length-drop}
use Rattle.std.proofs.lemmas.List.{get_or-drop}
use lib.ListN.{drop_of_length-le}
use Rattle.register.proofs.Slices.{four_in}
use Rattle.check_byte.specs.Register.{feed_byte, feed_all}
use Rattle.check_byte.proofs.Wide.{stands_for, byte_behind}
use Rattle.check_byte.proofs.feed_all.Goals as goal

pub loop-four-preserved : goal.loop-four-preserved
unfolding feed_all
loop-four-preserved c =
    let bytes = c.args.bytes.now in
    let odd = length bytes % 4 in
    let rest = drop odd bytes in
    let each : (i : ℕ) → get_or rest i 0 < 256 = λ i. rw (get_or-drop odd bytes i 0) (c.type_inv.bytes (odd + i)).fits in
    let size = length-drop odd bytes in
    let at = c.loop-four in (
      omega arith,
      ap (λ (n : ℕ). feed_all n (drop (4 * (at.four-index + 1)) rest)) c.enter_four-wide.ensures
          ∙ four_in feed_byte stands_for byte_behind rest each (length bytes / 4) at.wide at.four-index c.from_be_bytes.result at.invariant.0 (omega arith) (omega arith)
          (rw (← c.as_rchunks.ensures.back) c.from_be_bytes.ensures)
          ∙ at.invariant.1,
    )

pub returns : goal.returns
unfolding feed_all
returns c =
    let bytes = c.args.bytes.now in
    let rest = drop (length bytes % 4) bytes in
    let size = length-drop (length bytes % 4) bytes in
    let none : length rest ≤ 4 * c.loop-four.four-index = omega arith in
    c.register_of.ensures ∙ rw (drop_of_length-le rest none) at c.loop-four.invariant.1
