-- `line::SoundPlace::keep` meets its contract: a byte is kept behind the others, and the 256th is refusal 2.
-- Why: the test on the count is the definition's test on the kept bytes.
use Rattle.std.proofs.Common.{arith}
use Rattle.line.proofs.Keeping.{one_more, too_many}
use Rattle.line.proofs.moving.SoundPlace.keep.Goals as goal

pub returns-then-kept-ge-LONGEST_BODY : goal.returns-then-kept-ge-LONGEST_BODY
returns-then-kept-ge-LONGEST_BODY c = too_many c.args.self.place _ _ (omega arith) (omega arith) c.refuse.ensures

pub returns : goal.returns
returns c = one_more c.args.self.place _ _ (omega arith) (omega arith) c.to.ensures
