-- `frame::put_frame` meets its contract: one FF, the body, two FFs.
-- Why: pieces laid one behind the other are one piece.
use Rattle.frame.proofs.Pieces.{body_fits, frame_laid}
use Rattle.frame.proofs.writing.put_frame.Goals as goal

pub put_body-end-requires : goal.put_body-end-requires
put_body-end-requires c = body_fits c.args.body.now c.requires c.lay_byte-start.ensures

pub returns : goal.returns
returns c = frame_laid c.args.body.now c.requires c.lay_byte-start.ensures c.put_body-end.ensures c.lay_byte-last.ensures c.lay_byte.ensures
