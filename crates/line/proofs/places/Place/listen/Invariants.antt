-- `line::Place::listen` meets its contract: a block is heard byte by byte, up to and with the first event or to its end.
-- Why: what the rest of the block will give the place as it stands is what the whole block gives the place handed in.
use Rattle.std.proofs.Common.{◌≡◌, drop}
use Rattle.line.specs.Readers.{fed, fed_from}
use Rattle.line.proofs.Blocks.{standing}
use Rattle.line.proofs.places.Place.listen.Given as goal

abbrev pub invariant-loop-at : goal.invariant-loop-at
invariant-loop-at l = fed_from l.at (standing l.place.place l.body) (drop l.at l.block) ≡ fed (standing l.fn.self l.fn.body) l.block
