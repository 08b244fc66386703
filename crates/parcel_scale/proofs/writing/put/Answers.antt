-- `parcel_scale::put` meets its contract: the bytes of a body as they go out, at the front of a room.
-- Why: header, length, body and check are laid one behind the other, and so are one piece.
use mathlib.Core.Path.{◌∙◌, sym}
use mathlib.Core.List.{List, [], ◌∷◌, ◌++◌, append_assoc}
use Prim.Native.Nat.{ℕ}
use native.Mathlib.Omega.{arith}
use lib.ListN.{length, length-append}
use Rattle.low_first.specs.LowFirst.{low_bytes}
use Rattle.low_first.proofs.Digits.{low_length}
use Rattle.room.proofs.Over.{laid_then}
use Rattle.parcel_scale.specs.Frame.{framed}
use Rattle.parcel_scale.proofs.writing.put.Goals as goal

pub returns : goal.returns
unfolding framed
returns c =
    let body = c.args.body.now in
    let room = c.args.room.now in
    let enough = c.requires in
    let two = low_length 2 (length body) in
    let made = c.check_of in
    let two_more = low_length 2 made.result in
    let header : List ℕ = 0xF8 ∷ 0x55 ∷ 0xCE ∷ [] in
    let to-length = laid_then {first = header} {second = low_bytes 2 (length body)} {room = room} (omega (arith, two, enough)) c.lay-behind_header.ensures c.lay_low-behind_length.ensures in
    let to-body = laid_then {first = header ++ low_bytes 2 (length body)} {second = body} {room = room} (omega (arith, two, enough)) to-length c.lay-behind_body.ensures in
    let all =
    laid_then {first = header ++ low_bytes 2 (length body) ++ body} {second = low_bytes 2 made.result} {room = room} (omega (arith, two, two_more, enough, length-append (low_bytes 2 (length body)) body)) to-body (rw c.from.ensures at c.lay_low.ensures) in
    let parts = append_assoc (header ++ low_bytes 2 (length body)) body (low_bytes 2 made.result) ∙ append_assoc header (low_bytes 2 (length body)) (body ++ low_bytes 2 made.result) in
    rw (sym made.ensures) (rw parts at all)
