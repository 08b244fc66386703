-- 02, request 5: the check is the one "printed in 003 section 4.1" (`Printed`). 02 words it too, for a copy that lacks the page: "polynomial 11021h over
-- the body, register from 0, top bit first, no zero bytes fed". Reader and writer use the wording, which is the register of the check byte with
-- another width and another polynomial; `demands` states that the two are one check (`PrintedIsTheCheck`).
use Rattle.std.specs.Prelude.{ℕ, List}
use Rattle.register.specs.Register.{shifted, bits_in, all_in}

-- one bit enters the register of sixteen, whose top bit counts 8000h; if the bit that falls out is 1, 1021h is folded in
unfoldable pub shift_word : ℕ → ℕ → ℕ
shift_word register bit = shifted 0x8000 0x1021 register bit

-- the low `count` bits of a number enter, the top one first
unfoldable pub enter_bits : ℕ → ℕ → ℕ → ℕ
enter_bits count register number = bits_in shift_word count register number

-- a byte enters
unfoldable pub enter_byte : ℕ → ℕ → ℕ
enter_byte register byte = enter_bits 8 register byte

-- the check of a body: "register from 0 .. no zero bytes fed"
unfoldable pub parcel_check : List ℕ → ℕ
parcel_check body = all_in enter_byte 0 body
