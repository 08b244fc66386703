-- `parcel_check::number_of` meets its contract: at most three bytes as a number.
-- Why: a byte comes to stand behind a number by entering the register that it stands for.
use Rattle.std.proofs.Common.{ℕ, ◌∙◌, ◌<◌, ◌≤◌, ap, arith, length, get_or, lit<}
use lib.ListN.{drop_of_length-le}
use Rattle.register.specs.Register.{all_in}
use Rattle.register.proofs.Slices.{one_in, few_more, few_fit}
use Rattle.parcel_check.specs.Check.{enter_byte}
use Rattle.parcel_check.proofs.Laws.{stands_for, byte_behind, itself}
use Rattle.parcel_check.proofs.number_of.Goals as goal

pub loop-byte-init : goal.loop-byte-init
loop-byte-init c = (omega arith, ap (λ (n : ℕ). all_in enter_byte n c.args.few.now) (itself 0 (lit< tt)))

pub overflow_mul-number : goal.overflow_mul-number
overflow_mul-number c = let small = few_fit c.loop-byte.number c.loop-byte.byte-index (omega arith) c.loop-byte.invariant.0 in record { fits = omega arith }

pub overflow_add-number : goal.overflow_add-number
overflow_add-number c = let small = few_fit c.loop-byte.number c.loop-byte.byte-index (omega arith) c.loop-byte.invariant.0 in record { fits = omega arith }

pub loop-byte-preserved : goal.loop-byte-preserved
loop-byte-preserved c =
    let at = c.loop-byte in
    let few = c.args.few.now in
    let small = few_fit at.number at.byte-index (omega arith) at.invariant.0 in
    let each : (i : ℕ) → get_or few i 0 < 256 = λ i. (c.type_inv.few i).fits in
    rw c.from.ensures (
      few_more at.number at.byte-index (get_or few at.byte-index 0) at.invariant.0 (each at.byte-index),
      one_in enter_byte stands_for byte_behind few each at.number at.byte-index (omega arith) (omega arith) ∙ at.invariant.1,
    )

pub returns : goal.returns
returns c = let none : length c.args.few.now ≤ c.loop-byte.byte-index = omega arith in rw (drop_of_length-le c.args.few.now none) at c.loop-byte.invariant.1
