-- `parcel_scale::read` meets its contract: a frame with a wrong check is 22, and what stands in any other its body says.
-- Why: body and check are those of the definition, by their places; header and length are found without help.
use Rattle.std.proofs.Common.{◌∙◌, sym, arith}
use Rattle.std.proofs.lemmas.Grind.{common_steps}
use Rattle.parcel_scale.specs.Frame.{headed}
use Rattle.parcel_scale.proofs.Frames.{parts_wrong, parts_right}
use Rattle.parcel_scale.proofs.reading.read.Goals as goal

pub returns-then-check_of-half : goal.returns-then-check_of-half
unfolding headed
returns-then-check_of-half c =
    sym
    (parts_wrong c.args.bytes.now c.in-Some.body.now c.in-Some.behind_body.now c.from-length.result
    (grind (arith, common_steps)) (grind (arith, common_steps)) (grind (arith, common_steps)) (grind (arith, common_steps)) (grind (arith, common_steps)) (grind (arith, common_steps))
    (grind (arith, common_steps)))

pub returns : goal.returns
unfolding headed
returns c =
    c.read_body.ensures
    ∙ sym (parts_right c.args.bytes.now c.in-Some.body.now c.in-Some.behind_body.now c.from-length.result
    (grind (arith, common_steps)) (grind (arith, common_steps)) (grind (arith, common_steps)) (grind (arith, common_steps)) (grind (arith, common_steps)) (grind (arith, common_steps))
    (grind (arith, common_steps)))
