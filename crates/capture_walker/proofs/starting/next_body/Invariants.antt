-- `capture_walker::next_body` meets its contract: the step from where it stops is the step from where it began.
-- Why: each byte passed on the way starts no body, and the step from behind such a byte is the step from it.
use Rattle.capture_walker.specs.Scanning.{SameStep}
use Rattle.capture_walker.proofs.starting.next_body.Given as goal

abbrev pub invariant-loop-at : goal.invariant-loop-at
invariant-loop-at l = SameStep l.block l.from l.at
