-- `parcel_check::check_of` meets its contract: the check of a body.
-- Why: what the bytes not yet fed make of the register that the wide number stands for is what the whole body makes of an empty one.
use Rattle.std.proofs.Common.{◌≡◌, ◌*◌, ◌%◌, ◌<◌, drop, length}
use Rattle.register.specs.Register.{all_in}
use Rattle.parcel_check.specs.Check.{enter_byte, parcel_check}
use Rattle.parcel_check.proofs.Laws.{stands_for}
use Rattle.parcel_check.proofs.check_of.Given as goal

abbrev pub invariant-loop-four : goal.invariant-loop-four
invariant-loop-four l =
    (l.wide < 4294967296) × (all_in enter_byte (stands_for l.wide) (drop (4 * l.four-index) (drop (length l.body % 4) l.body)) ≡ parcel_check l.body)
