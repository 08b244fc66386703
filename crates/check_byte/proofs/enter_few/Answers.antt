-- `check_byte::enter_few` meets its contract: at most three bytes behind the register.
-- Why: a byte comes to stand behind a number by entering the register that it stands for.
use Rattle.std.proofs.Common.{ℕ, ◌∙◌, ◌<◌, ◌≤◌, ap, arith, length, get_or}
use lib.ListN.{drop_of_length-le}
use Rattle.register.proofs.Slices.{one_in, few_more, few_fit}
use Rattle.check_byte.specs.Register.{feed_byte, feed_all}
use Rattle.check_byte.proofs.Wide.{stands_for, byte_behind, itself}
use Rattle.check_byte.proofs.enter_few.Goals as goal

pub loop-byte-init : goal.loop-byte-init
unfolding feed_all
loop-byte-init c = (omega arith, rw c.from-wide.ensures (ap (λ (n : ℕ). feed_all n c.args.few.now) (itself c.args.register c.ranges.register.fits)))

pub enter-wide-requires : goal.enter-wide-requires
enter-wide-requires c = few_fit c.loop-byte.wide c.loop-byte.byte-index (omega arith) c.loop-byte.invariant.0

pub loop-byte-preserved : goal.loop-byte-preserved
unfolding feed_all
loop-byte-preserved c =
    let at = c.loop-byte in
    let few = c.args.few.now in
    let small = few_fit at.wide at.byte-index (omega arith) at.invariant.0 in
    let each : (i : ℕ) → get_or few i 0 < 256 = λ i. (c.type_inv.few i).fits in
    rw c.enter-wide.ensures (
      few_more at.wide at.byte-index (get_or few at.byte-index 0) at.invariant.0 (each at.byte-index),
      one_in feed_byte stands_for byte_behind few each at.wide at.byte-index (omega arith) (omega arith) ∙ at.invariant.1,
    )

pub returns : goal.returns
unfolding feed_all
returns c = let none : length c.args.few.now ≤ c.loop-byte.byte-index = omega arith in rw (drop_of_length-le c.args.few.now none) at c.loop-byte.invariant.1
