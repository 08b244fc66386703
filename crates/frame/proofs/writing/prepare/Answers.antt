-- `frame::prepare` meets its contract: 5, then 2, then the body made ready and its room counted.
-- Why: each return is one of the three answers, and the FF bytes are counted in exactly what was assembled.
use Rattle.std.proofs.Common.{ℕ, ◌≡◌, ◌∙◌, ◌≤◌, ◌+◌, List, length, sym, arith}
use Rattle.body.specs.declared.addresses.Address.{Address}
use Rattle.body.specs.Addresses.{address_length}
use Rattle.body.specs.Body.{body_of}
use Rattle.body.proofs.Anatomy.{body_length as size}
use Rattle.room.proofs.Over.{laid_front}
use Rattle.frame.proofs.Ready.{illegal_prepared, long_prepared, ready_prepared}
use Rattle.frame.proofs.Stuffing.{counted_ff}
use Rattle.frame.proofs.writing.prepare.Goals as goal

-- behind the second test the body has at most 255 bytes
fits : (address : Address) (code : ℕ) (data' : List ℕ) {count : ℕ} → count ≡ address_length address + length data' + 2 → count ≤ 255
    → length (body_of address code data') ≤ 255
fits address code data' is most = omega (arith, size address code data')

pub returns-then-not-legal : goal.returns-then-not-legal
returns-then-not-legal c = illegal_prepared _ _ _ _ _ (sym c.legal.ensures ∙ c.if-not-legal.true)

pub returns-then-body_length-gt-LONGEST_BODY : goal.returns-then-body_length-gt-LONGEST_BODY
returns-then-body_length-gt-LONGEST_BODY c =
    let start = c.args in
    long_prepared _ _ _ _ _ (sym c.legal.ensures ∙ c.if-not-legal.false)
    (rw (size start.address start.code start.«data».now, ← c.body_length.ensures) c.if-body_length-gt-LONGEST_BODY.true)

pub assemble-end-requires : goal.assemble-end-requires
assemble-end-requires c = omega (arith, fits c.args.address c.args.code c.args.«data».now c.body_length.ensures c.if-body_length-gt-LONGEST_BODY.false)

pub shared_ref_as_front-count_ff : goal.shared_ref_as_front-count_ff
shared_ref_as_front-count_ff c =
    let short = fits c.args.address c.args.code c.args.«data».now c.body_length.ensures c.if-body_length-gt-LONGEST_BODY.false in
    let end = (laid_front (omega arith) c.assemble-end.ensures).0 in
    omega arith

pub returns : goal.returns
returns c =
    ready_prepared _ _ _ (sym c.legal.ensures ∙ c.if-not-legal.false)
    (fits c.args.address c.args.code c.args.«data».now c.body_length.ensures c.if-body_length-gt-LONGEST_BODY.false) (omega arith) c.assemble-end.ensures
    (c.count_ff-count.ensures ∙ counted_ff _)
