-- `check_byte::enter_few` meets its contract: at most three bytes behind the register.
-- Why: a byte comes to stand behind a number by entering the register that it stands for.
use Rattle.std.proofs.Common.{◌≡◌, ◌+◌, ◌^◌, ◌<◌, drop}
use Rattle.check_byte.specs.Register.{feed_all}
use Rattle.check_byte.proofs.Wide.{stands_for}
use Rattle.check_byte.proofs.enter_few.Given as goal

abbrev pub invariant-loop-byte : goal.invariant-loop-byte
invariant-loop-byte l =
    (l.wide < 256 ^ (l.byte-index + 1)) × (feed_all (stands_for l.wide) (drop l.byte-index l.few) ≡ feed_all l.register l.few)
