-- `line::Place::listen` meets its contract: a block is heard byte by byte, up to and with the first event or to its end.
-- Why: what the rest of the block will give the place as it stands is what the whole block gives the place handed in.
use Rattle.std.proofs.Common.{◌≡◌, ◌∙◌, sym, length, arith}
use Rattle.std.proofs.lemmas.Grind.{common_steps}
use Rattle.line.proofs.Blocks.{fed_sound, taken_is, next_turn, stop, at_end, standing, listens}
use Rattle.line.proofs.places.Place.listen.Goals as goal

pub returns-then-is_empty : goal.returns-then-is_empty
returns-then-is_empty c = listens _ _ _ _ _ _ _ c.told-body (at_end c.args.block.now (standing c.args.self c.args.body.now) 0 (grind (arith, common_steps)))

pub loop-at-init : goal.loop-at-init
loop-at-init c = rw c.sound-place.ensures (fed_sound (standing c.args.self c.args.body.now) c.args.block.now (grind (arith, common_steps)))

pub loop-at-preserved : goal.loop-at-preserved
loop-at-preserved c =
    next_turn c.args.block.now (standing c.loop-at.place.place c.loop-at.body) c.loop-at.at (omega arith) (taken_is _ _ c.step-moved.ensures) (sym c.is_some.ensures ∙ c.if-is_some.false)
    ∙ c.loop-at.invariant

pub returns-then-is_some : goal.returns-then-is_some
returns-then-is_some c =
    listens _ _ _ _ _ _ _ c.told-body
    (stop c.args.block.now (standing c.loop-at.place.place c.loop-at.body) c.loop-at.at (omega arith) (taken_is _ _ c.step-moved.ensures) (sym c.is_some.ensures ∙ c.if-is_some.true)
    ∙ c.loop-at.invariant)

pub returns : goal.returns
returns c =
    let all : length c.args.block.now ≡ c.loop-at.at = omega arith in
    rw all (listens _ _ _ _ _ _ _ c.told-body (at_end c.args.block.now (standing c.loop-at.place.place c.loop-at.body) _ (omega arith) ∙ c.loop-at.invariant))
