-- `check_byte::enter_four` meets its contract: four bytes come to stand behind a wide number, and what that stands for is kept in 32 bits.
-- Why: what stands above 32 bits folds in below, twice.
use Prim.Native.Nat.{◌+◌, ◌*◌}
use borrow.Author.Rules.{rules}
use Rattle.check_byte.proofs.Folding.{into_32, same_in_32}
use Rattle.check_byte.proofs.enter_four.Goals as goal

pub overflow_cast-result : goal.overflow_cast-result
overflow_cast-result c = record { fits = rw (c.fold_32-2.ensures, c.fold_32.ensures, c.from.ensures, c.from-2.ensures) (into_32 (c.args.wide * 4294967296 + c.args.four) (search rules)) }

pub returns : goal.returns
returns c = rw (c.fold_32-2.ensures, c.fold_32.ensures, c.from.ensures, c.from-2.ensures) (same_in_32 (c.args.wide * 4294967296 + c.args.four) (search rules))
