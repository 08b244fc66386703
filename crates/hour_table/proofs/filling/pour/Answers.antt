-- `hour_table::pour` meets its contract: record by record from a place, until the log ends or something is refused.
-- Why: what is left of the log, poured into the cells as they are, is the same at every turn; each turn takes the next record of the log.
use Rattle.std.proofs.Common.{◌≡◌, ◌∙◌, sym, Ok, Some, None, arith, rules}
use Rattle.std.proofs.lemmas.Result.{err_from_is_err_and}
use Rattle.records.specs.Stepping.{stepped}
use Rattle.hour_table.proofs.Poured.{at_end, at_break, at_refusal, at_record, step_goes}
use Rattle.hour_table.proofs.filling.pour.Goals as goal
use Rattle.hour_table.proofs.filling.pour.Goals.{In-Some}

pub returns-in_err-item : goal.returns-in_err-item
returns-in_err-item c =
    let p = err_from_is_err_and c.from_residual.result c.from_residual.ensures.1 in
    rw (p.1, p.2) (at_break _ _ _ (sym c.in_err-item.ensures) ∙ c.loop-item.invariant)

-- the record that the step told, and the place behind it
met : (c : In-Some) → stepped c.args.log.now c.loop-item.place ≡ Ok (Some (c.in-Some.item, c.in-Some.next))
met c = search rules

pub returns-in_err-put : goal.returns-in_err-put
returns-in_err-put c =
    let p = err_from_is_err_and c.from_residual-in_err-put.result c.from_residual-in_err-put.ensures.1 in
    let told = met (goal.at.returns-in_err-put c).In-Some in
    rw (p.1, p.2, c.in_err-put.ensures.cells) (at_refusal _ _ _ told c.in_err-put.ensures.verdict ∙ c.loop-item.invariant)

pub loop-item-smaller : goal.loop-item-smaller
loop-item-smaller c = let on = step_goes _ _ _ _ (met (goal.at.loop-item-smaller c).In-Some) in omega arith

pub loop-item-preserved : goal.loop-item-preserved
loop-item-preserved c =
    rw c.in_ok-put.ensures.cells (at_record _ _ _ (met (goal.at.loop-item-preserved c).In-Some) c.in_ok-put.ensures.verdict ∙ c.loop-item.invariant)

pub returns : goal.returns
returns c = let ended : stepped c.args.log.now c.loop-item.place ≡ Ok None = search rules in at_end _ _ _ ended ∙ c.loop-item.invariant
