-- `line::Reader::feed` meets its contract: a block is heard with the reader's own array lent.
-- Why: heard with the array lent, a block gives what it gives fed.
use Rattle.std.proofs.Common.{rules}
use Rattle.line.proofs.Blocks.{feeds, fed_lent_lem}
use Rattle.line.proofs.reading.Reader.feed.Goals as goal

pub returns : goal.returns
returns c = feeds c.args.self c.args.block.now (fed_lent_lem c.args.self c.args.block.now (search rules) c.listen-went.ensures)
