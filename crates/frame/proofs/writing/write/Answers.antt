-- `frame::write` meets its contract: judged 5, 2, 9, and then the frame in the first bytes of the room.
-- Why: what was made ready tells 5 and 2 and the room needed; the body there is the one whose frame is put.
use Rattle.std.proofs.Common.{ℕ, ◌≡◌, ◌∙◌, ◌+◌, List, length, take, sym, refl, arith, le-ltb, length-take-le, Ok}
use Rattle.std.proofs.lemmas.Bool.{lt-ltb}
use Rattle.std.proofs.lemmas.Result.{err_from_is_err_and}
use Rattle.body.specs.declared.addresses.Address.{Address}
use Rattle.body.specs.Addresses.{address_length}
use Rattle.body.specs.Body.{body_of}
use Rattle.body.proofs.Anatomy.{body_length as size}
use Rattle.room.proofs.Leaving.{refused_leaves, good_leaves}
use Rattle.frame.specs.Preparing.{Prepared}
use Rattle.frame.specs.Writing.{written_frame}
use Rattle.frame.proofs.Stuffing.{framed_length}
use Rattle.frame.proofs.Ready.{fields_refused, room_left, bytes_good, good_length, ready_body}
use Rattle.frame.proofs.writing.write.Goals as goal

-- where the answer is a number of bytes, what is put is the body that was made ready
put-body : (address : Address) (code : ℕ) (data' : List ℕ) {needed end : ℕ} {empty left : List ℕ} → Prepared address code data' empty (Ok needed) left
    → end ≡ address_length address + length data' + 2 → take end left ≡ body_of address code data'
put-body address code data' ready is = ready_body _ _ _ ready (is ∙ sym (size address code data'))

pub returns-in_err-needed : goal.returns-in_err-needed
unfolding written_frame
returns-in_err-needed c =
    let p = err_from_is_err_and c.from_residual.result c.from_residual.ensures.1 in
    rw (p.1, p.2) (rw (fields_refused _ _ _ _ c.in_err-needed.ensures) (refused_leaves refl))

pub returns-then-room-needed : goal.returns-then-room-needed
unfolding written_frame
returns-then-room-needed c = rw (room_left _ _ _ _ c.in_ok-needed.ensures, lt-ltb _ _ c.if-room-needed.true) (refused_leaves refl)

pub slice_bounds-body-end : goal.slice_bounds-body-end
slice_bounds-body-end c =
    let start = c.args in
    omega (arith, c.body_length-end.ensures, size start.address start.code start.«data».now, good_length _ _ _ (bytes_good _ _ _ c.in_ok-needed.ensures).0)

pub slice_bounds-put_frame-end : goal.slice_bounds-put_frame-end
slice_bounds-put_frame-end c =
    let start = c.args in
    sym (length-take-le _ c.prepare.new.body (omega (arith, c.body_length-end.ensures, size start.address start.code start.«data».now, good_length _ _ _ (bytes_good _ _ _ c.in_ok-needed.ensures).0, c.prepare.array_long)))

pub put_frame-requires : goal.put_frame-requires
put_frame-requires c =
    rw (put-body c.args.address c.args.code c.args.«data».now c.in_ok-needed.ensures c.body_length-end.ensures)
    (rw (bytes_good _ _ _ c.in_ok-needed.ensures).1 at c.if-room-needed.false)

pub returns : goal.returns
unfolding written_frame
returns c =
    let enough = c.if-room-needed.false in
    rw (room_left _ _ _ _ c.in_ok-needed.ensures, le-ltb _ _ enough)
    (good_leaves
    (rw (framed_length _, ← (bytes_good _ _ _ c.in_ok-needed.ensures).1) enough)
    (rw (put-body c.args.address c.args.code c.args.«data».now c.in_ok-needed.ensures c.body_length-end.ensures) at c.put_frame.ensures))
