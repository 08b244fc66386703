-- `listing::Line::put_decimal` meets its contract: the digits of a number, without leading zeros, ahead of what stands.
-- Why: what is left of the number, spelt ahead of the digits put so far, is the whole number.
use mathlib.Core.Path.{◌≡◌}
use mathlib.Core.List.{◌++◌}
use Rattle.listing.specs.Texts.{decimal}
use Rattle.listing.proofs.assembly.Line.put_decimal.Given as goal

abbrev pub invariant-loop-left : goal.invariant-loop-left
invariant-loop-left l = decimal l.left ++ l.self ≡ decimal l.number ++ l.initial.self

abbrev pub decreases-loop-left : goal.decreases-loop-left
decreases-loop-left l = l.left
