-- `check_byte::register_of` meets its contract: the register that a wide number stands for.
-- Why: what stands above 16 bits folds in below, twice, and of the two bytes that are left the low one enters the high one.
use Prim.Native.Nat.{◌<◌, ◌^◌}
use mathlib.Core.Path.{◌∙◌}
use native.Mathlib.Omega.{arith}
use borrow.Author.Rules.{rules}
use Rattle.check_byte.proofs.Wide.{two_bytes}
use Rattle.check_byte.proofs.Folding.{into_16, same_in_16}
use Rattle.check_byte.proofs.register_of.Goals as goal

pub overflow_cast-folded : goal.overflow_cast-folded
overflow_cast-folded c =
    let small : c.fold_16-folded.result < 2 ^ 16 = rw (c.fold_16-folded.ensures, c.fold_16.ensures) (into_16 c.args.wide (search rules)) in
    record { fits = omega arith }

pub returns : goal.returns
returns c =
    let small : c.fold_16-folded.result < 2 ^ 16 = rw (c.fold_16-folded.ensures, c.fold_16.ensures) (into_16 c.args.wide (search rules)) in
    rw c.feed.ensures
    (two_bytes c.fold_16-folded.result small
    ∙ rw (c.fold_16-folded.ensures, c.fold_16.ensures) (same_in_16 c.args.wide (search rules)))
