-- `message::read_without_check` meets its contract: a lent body is judged 2, 1, 4, 5 and then 6, 7, 8, and a good one is told.
-- Why: the parts that were opened are the body's code and data, and what is told of them is told of the body.
use mathlib.Core.Path.{sym}
use native.Mathlib.Omega.{arith}
use Rattle.message.proofs.Opening.{unopened, in_order, ends_inside, untold, message_told}
use Rattle.message.proofs.reading.read_without_check.Goals as goal

pub returns-in_err-parts : goal.returns-in_err-parts
returns-in_err-parts c = grind (arith, unopened _ c.args.role c.args.family c.args.body.now _ (sym c.in_err-parts.ensures))

pub slice_bounds-tell-count : goal.slice_bounds-tell-count
slice_bounds-tell-count c = in_order _ c.args.body.now _ (sym c.in_ok-parts.ensures)

pub slice_bounds-tell-start : goal.slice_bounds-tell-start
slice_bounds-tell-start c = in_order _ c.args.body.now _ (sym c.in_ok-parts.ensures)

pub slice_bounds-tell-end : goal.slice_bounds-tell-end
slice_bounds-tell-end c = ends_inside _ c.args.body.now _ (sym c.in_ok-parts.ensures)

pub returns-in_err-what : goal.returns-in_err-what
returns-in_err-what c = grind (arith, untold _ c.args.body.now _ (sym c.in_ok-parts.ensures) c.args.role c.args.family _ (sym c.in_err-what.ensures))

pub returns : goal.returns
returns c = message_told _ c.args.body.now _ (sym c.in_ok-parts.ensures) _ _ _ (sym c.in_ok-what.ensures)
