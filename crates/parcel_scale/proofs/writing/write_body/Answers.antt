-- `parcel_scale::write_body` meets its contract: a body's bytes as they go out, into lent room, judged 9.
-- Why: they are seven more than the body's, and what is put there is the bytes.
use Prim.Native.Nat.{◌≤◌}
use native.Mathlib.Omega.{arith}
use borrow.Author.Tests.{le-ltb}
use lib.ListN.{length}
use Rattle.room.specs.Writing.{written}
use Rattle.room.proofs.Leaving.{good_leaves}
use Rattle.parcel_scale.specs.Frame.{framed}
use Rattle.parcel_scale.proofs.Frames.{framed_length}
use Rattle.parcel_scale.proofs.writing.write_body.Goals as goal

pub returns : goal.returns
unfolding written
returns c =
    let start = c.args in
    let enough : length (framed start.body.now) ≤ length start.room.now = omega (arith, framed_length start.body.now) in
    rw (le-ltb _ _ enough) (good_leaves enough c.put.ensures)
