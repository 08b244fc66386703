-- `frame::put` meets its contract: a byte as it goes onto the wire, an FF with one FE behind it.
-- Why: the test on the byte is the definition's.
use borrow.Author.Tests.{ne_eqb}
use Rattle.frame.proofs.Pieces.{plain_laid, ff_laid}
use Rattle.frame.proofs.writing.put.Goals as goal

pub returns-then-byte-ne255 : goal.returns-then-byte-ne255
returns-then-byte-ne255 c = plain_laid (ne_eqb _ _ c.if-byte-ne255.true) c.lay_byte-next.ensures

pub returns : goal.returns
returns c = ff_laid c.if-byte-ne255.false c.requires c.lay_byte-next.ensures c.lay_byte.ensures
