-- `check_byte::feed_all` meets its contract: all bytes enter the register in order.
-- Why: what the bytes not yet fed make of the register that the wide number stands for is what the whole slice makes of the first one.
use Rattle.std.proofs.Common.{◌≡◌, ◌*◌, ◌%◌, ◌<◌, drop, length}
use Rattle.check_byte.specs.Register.{feed_all}
use Rattle.check_byte.proofs.Wide.{stands_for}
use Rattle.check_byte.proofs.feed_all.Given as goal

abbrev pub invariant-loop-four : goal.invariant-loop-four
invariant-loop-four l =
    (l.wide < 4294967296) × (feed_all (stands_for l.wide) (drop (4 * l.four-index) (drop (length l.bytes % 4) l.bytes)) ≡ feed_all l.register l.bytes)
