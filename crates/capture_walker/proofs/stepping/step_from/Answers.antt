-- `capture_walker::step_from` meets its contract: "end" at or past the block's end, and from any other place what the rest of the block gives.
-- Why: the rest is heard by `listen` from where the next body starts, as if it were open there, and the step from there is the step from the place.
use Rattle.std.proofs.Common.{◌≡◌, ◌∙◌, ◌-◌, length, drop, arith, rules, sym, length-drop}
use lib.Seq.{take_all}
use Rattle.line.specs.declared.places.Phase.TheVariants.{Inside}
use Rattle.capture_walker.proofs.FirstByte.{step_from_first}
use Rattle.capture_walker.proofs.OneStep.{step_ends, steps_as}
use Rattle.capture_walker.proofs.stepping.step_from.Goals as goal

pub returns-in_default : goal.returns-in_default
returns-in_default c =
    let lent = c.args.body.now in
    steps_as c.args.block.now c.args.place lent c.told-body
    (rw c.max.ensures (sym (step_ends c.args.block.now _ lent (omega arith)) ∙ c.in_default.ensures lent c.told-body))

pub returns : goal.returns
returns c =
    let block = c.args.block.now in
    let lent = c.args.body.now in
    let found = c.in-Some.ensures in
    let rest = take_all (length block - c.in-Some.start) (drop c.in-Some.start block) (rw length-drop (omega arith)) in
    let opened : c.body_open.result ≡ record { phase = Inside; wire = record { 0 = c.in-Some.start }; kept = record { 0 = 0 } } = search rules in
    let heard = rw (opened, c.reach.ensures, rest) at c.listen-went.ensures in
    steps_as block c.args.place lent c.told-body
    (step_from_first block c.in-Some.start lent c.told-body found.within (omega arith) found.starts heard ∙ found.same lent c.told-body)
