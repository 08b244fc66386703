-- `listing::Line::put_decimal` meets its contract: the digits of a number, without leading zeros, ahead of what stands.
-- Why: what is left of the number, spelt ahead of the digits put so far, is the whole number.
use Prim.Native.Nat.{◌/◌}
use native.Mathlib.Omega.{arith}
use Rattle.listing.proofs.Putting.{room_ahead, next_digit, last_digit}
use Rattle.listing.proofs.assembly.Line.put_decimal.Goals as goal

pub put_byte-requires : goal.put_byte-requires
put_byte-requires c = room_ahead _ _ _ _ c.loop-left.invariant c.requires

pub put_byte-requires-in-loop-left : goal.put_byte-requires-in-loop-left
put_byte-requires-in-loop-left c =
    let one_put = next_digit c.loop-left.left (omega arith) (omega (arith, c.loop-left-test.true)) c.loop-left.invariant c.digit.ensures c.put_byte.ensures in
    room_ahead _ _ _ _ one_put c.requires

pub loop-left-preserved : goal.loop-left-preserved
loop-left-preserved c =
    let one_put = next_digit c.loop-left.left (omega arith) (omega (arith, c.loop-left-test.true)) c.loop-left.invariant c.digit.ensures c.put_byte.ensures in
    next_digit (c.loop-left.left / 10) (omega arith) (omega (arith, c.loop-left-test.true)) one_put c.digit-in-loop-left.ensures c.put_byte-in-loop-left.ensures

pub put_byte-requires-then-left-lt10 : goal.put_byte-requires-then-left-lt10
put_byte-requires-then-left-lt10 c = room_ahead _ _ _ _ c.loop-left.invariant c.requires

pub returns-then-left-lt10 : goal.returns-then-left-lt10
returns-then-left-lt10 c = last_digit _ c.if-left-lt10.true c.loop-left.invariant c.digit-then-left-lt10.ensures c.put_byte-then-left-lt10.ensures

pub put_byte-requires-2 : goal.put_byte-requires-2
put_byte-requires-2 c = room_ahead _ _ _ _ c.loop-left.invariant c.requires

pub put_byte-requires-3 : goal.put_byte-requires-3
put_byte-requires-3 c =
    let one_put = next_digit c.loop-left.left (omega arith) (omega (arith, c.if-left-lt10.false)) c.loop-left.invariant c.digit-2.ensures c.put_byte-2.ensures in
    room_ahead _ _ _ _ one_put c.requires

pub returns : goal.returns
returns c =
    let one_put = next_digit c.loop-left.left (omega arith) (omega (arith, c.if-left-lt10.false)) c.loop-left.invariant c.digit-2.ensures c.put_byte-2.ensures in
    last_digit (c.loop-left.left / 10) (omega (arith, c.loop-left-test.false)) one_put c.digit-3.ensures c.put_byte-3.ensures
