-- `listing::Line::put_digits` meets its contract: so many digits of a number ahead of what stands.
-- Why: the digits still to put, ahead of those that stand, are all of them.
use Prim.Native.Nat.{◌+◌, ◌-◌}
use native.Mathlib.Omega.{arith}
use Rattle.listing.proofs.Putting.{place_ahead, further_digit}
use Rattle.listing.proofs.assembly.Line.put_digits.Goals as goal

pub put_byte-requires : goal.put_byte-requires
put_byte-requires g c = omega (arith, place_ahead g.row.BASE (g.row.WIDTH - c.loop-i.i) g.row.WIDTH c.loop-i.left c.args.number c.loop-i.self c.args.self.now c.loop-i.invariant)

pub loop-i-preserved : goal.loop-i-preserved
loop-i-preserved g c = further_digit g.row.BASE (g.row.WIDTH - c.loop-i.i) (g.row.WIDTH - (c.loop-i.i + 1)) c.loop-i.left (omega arith) c.loop-i.invariant c.digit.ensures c.put_byte.ensures
