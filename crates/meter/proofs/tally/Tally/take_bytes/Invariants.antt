-- `meter::take_bytes` keeps the 255 bytes of its reader.
-- Why: each turn hands in one reader and takes the next one.
use Rattle.std.proofs.Common.{◌≡◌, length}
use Rattle.meter.proofs.tally.Tally.take_bytes.Given as goal

abbrev pub invariant-loop-byte : goal.invariant-loop-byte
invariant-loop-byte l = length l.reader.body ≡ 255
