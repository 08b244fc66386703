-- `listing::Line::put_digits` meets its contract: so many digits of a number ahead of what stands.
-- Why: the digits still to put, ahead of those that stand, are all of them.
use Prim.Native.Nat.{◌-◌}
use mathlib.Core.Path.{◌≡◌}
use mathlib.Core.List.{◌++◌}
use Rattle.listing.specs.Texts.{digits}
use Rattle.listing.proofs.assembly.Line.put_digits.Given as goal

abbrev pub invariant-loop-i : goal.invariant-loop-i
invariant-loop-i g l = digits g.row.BASE (g.row.WIDTH - l.i) l.left ++ l.self ≡ digits g.row.BASE g.row.WIDTH l.number ++ l.initial.self
