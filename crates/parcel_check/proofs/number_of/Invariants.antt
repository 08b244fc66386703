-- `parcel_check::number_of` meets its contract: at most three bytes as a number.
-- Why: a byte comes to stand behind a number by entering the register that it stands for.
use Rattle.std.proofs.Common.{◌≡◌, ◌+◌, ◌^◌, ◌<◌, drop}
use Rattle.register.specs.Register.{all_in}
use Rattle.parcel_check.specs.Check.{enter_byte}
use Rattle.parcel_check.proofs.Laws.{stands_for}
use Rattle.parcel_check.proofs.number_of.Given as goal

abbrev pub invariant-loop-byte : goal.invariant-loop-byte
invariant-loop-byte l =
    (l.number < 256 ^ (l.byte-index + 1)) × (all_in enter_byte (stands_for l.number) (drop l.byte-index l.few) ≡ all_in enter_byte 0 l.few)
