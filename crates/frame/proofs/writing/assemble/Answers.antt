-- `frame::assemble` meets its contract: behind address, code and data their check is laid.
-- Why: the check is worked out over exactly what was laid before it.
use Rattle.std.proofs.Common.{sym, length-take-le}
use Rattle.room.proofs.Over.{laid_end}
use Rattle.frame.proofs.Pieces.{body_laid, unchecked_fits}
use Rattle.frame.proofs.writing.assemble.Goals as goal

pub put_unchecked-end-requires : goal.put_unchecked-end-requires
put_unchecked-end-requires c = unchecked_fits _ _ _ c.requires

pub slice_bounds-check_of-end : goal.slice_bounds-check_of-end
slice_bounds-check_of-end c = laid_end (unchecked_fits c.args.address c.args.code c.args.«data».now c.requires) c.put_unchecked-end.ensures

pub slice_bounds-check_of-end-2 : goal.slice_bounds-check_of-end-2
slice_bounds-check_of-end-2 c =
    sym (length-take-le _ c.put_unchecked-end.new.room (laid_end (unchecked_fits c.args.address c.args.code c.args.«data».now c.requires) c.put_unchecked-end.ensures))

pub returns : goal.returns
returns c = body_laid c.args.address c.args.code c.args.«data».now c.requires c.put_unchecked-end.ensures c.check_of-check.ensures c.lay_byte.ensures
