-- Shown: the parcel check may be made in parts, it has 16 bits, and it is linear over exclusive or.
-- Why: the register's laws, byte after byte, from any register of 16 bits.
use Prim.Native.Nat.{ℕ, ◌^◌, ◌<◌}
use mathlib.Core.Path.{◌≡◌, refl}
use mathlib.Core.List.{List, [], ◌∷◌}
use native.Mathlib.Omega.{arith}
use lib.Bits.{bit_xor}
use lib.Dec.{lit<}
use lib.ListN.{length}
use Rattle.std.proofs.lemmas.Grind.{common_steps}
use Rattle.register.specs.Register.{all_in}
use Rattle.register.proofs.Laws.{all_append}
use Rattle.parcel_check.specs.Check.{enter_byte, parcel_check}
use Rattle.parcel_check.proofs.Laws.{byte_below, check_below, bits_linear}
use Rattle.demands.specs.Parcels.{CheckInParts, CheckOfSixteenBits, folded_bytes, CheckLinear}

pub check_in_parts : CheckInParts
unfolding parcel_check
check_in_parts = all_append enter_byte 0

pub check_of_sixteen_bits : CheckOfSixteenBits
check_of_sixteen_bits = check_below

-- from any two registers, since the bodies' bytes change them
all_linear : (r s : ℕ) (first second : List ℕ) → r < 2 ^ 16 → s < 2 ^ 16 → length first ≡ length second
    → all_in enter_byte (bit_xor r s) (folded_bytes first second) ≡ bit_xor (all_in enter_byte r first) (all_in enter_byte s second)
unfolding folded_bytes enter_byte
all_linear r s [] [] hr hs same = refl
all_linear r s [] (other ∷ second) hr hs same = omega arith
all_linear r s (byte ∷ first) [] hr hs same = omega arith
all_linear r s (byte ∷ first) (other ∷ second) hr hs same = grind (arith, common_steps, bits_linear, byte_below, all_linear (enter_byte r byte) (enter_byte s other) first second (byte_below r byte hr) (byte_below s other hs) (omega arith))

pub check_linear : CheckLinear
unfolding parcel_check
check_linear first second = all_linear 0 0 first second (lit< tt) (lit< tt)
