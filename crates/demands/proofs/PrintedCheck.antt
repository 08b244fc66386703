-- Shown: the code that 003 prints makes the check that 02 words, of whatever numbers.
-- Why: its two words, folded together, are the register: a turn is a shift. The register's low byte and the entering one stay as they are.
use Prim.Native.Nat.{ℕ, zero, suc, ◌+◌, ◌*◌, ◌/◌, ◌%◌, ◌^◌, ◌<◌}
use mathlib.Core.Path.{◌≡◌, ◌∙◌, refl, sym, ap, ap₂}
use mathlib.Core.List.{List, [], ◌∷◌}
use native.Mathlib.Omega.{arith}
use native.Mathlib.Nat.{mod-lt, zero-div}
use lib.Dec.{lit<}
use lib.Bits.{bit_and, bit_xor, and_high, and_mask, xor_comm, xor_zero_l, xor_zero_r, xor_shifted}
use lib.Pow.{split, high, low}
use Rattle.std.proofs.lemmas.Grind.{common_steps}
use Rattle.register.specs.Register.{all_in}
use Rattle.register.proofs.Bits.{xor_assoc}
use Rattle.register.proofs.Laws.{shift_below, enters}
use Rattle.register.proofs.SingleBits.{itself_linear, low_linear, up_linear}
use Rattle.register.proofs.Wide.{entering_alone}
use Rattle.parcel_check.specs.Check.{shift_word, enter_bits, enter_byte, parcel_check}
use Rattle.parcel_check.specs.Printed.{up, Words, turn, turns, at_first, printed_byte, printed}
use Rattle.parcel_check.proofs.Laws.{shifts, byte_below, bits_linear}
use Rattle.demands.specs.Parcels.{PrintedIsTheCheck}

-- the register that the two words make
abbrev together : Words → ℕ
together words = bit_xor words.accumulator words.temp

-- moving up goes over exclusive or, also where a top bit is lost
up_over : (a b : ℕ) → bit_xor (up a 1) (up b 1) ≡ up (bit_xor a b) 1
up_over a b = sym ((low_linear 16 (up_linear 1 itself_linear)).over a b)

-- what is folded into one of two numbers is folded into both together
folded_in_behind : (a b c : ℕ) → bit_xor (bit_xor a b) c ≡ bit_xor (bit_xor a c) b
folded_in_behind a b c = xor_assoc a b c ∙ ap (bit_xor a) (xor_comm b c) ∙ sym (xor_assoc a c b)

-- the bit that is tested is the register's top bit
tested : (words : Words) → bit_and (bit_xor words.temp words.accumulator) 0x8000 ≡ together words / 2 ^ 15 % 2 * 0x8000
tested words = ap (λ (n : ℕ). bit_and n 0x8000) (xor_comm words.temp words.accumulator) ∙ and_high (together words) 1 15

-- a turn is a shift with 0 entering
turn_shifts : (words : Words) → together words < 2 ^ 16 → together (turn words) ≡ shift_word (together words) 0
unfolding turn shift_word
turn_shifts words h = grind (arith, common_steps, folded_in_behind, tested, up_over)

-- so turns are zeros that enter
turns_shift : (count : ℕ) (words : Words) → together words < 2 ^ 16 → together (turns count words) ≡ enter_bits count (together words) 0
unfolding turns enter_bits
turns_shift zero words h = refl
turns_shift (suc count) words h =
    let next : shift_word (together words) 0 < 2 ^ 16 = shift_below shifts (together words) 0 h (lit< tt) in
    rw (zero-div (2 ^ count), ← turn_shifts words h) (turns_shift count (turn words) (rw (turn_shifts words h) next))

-- the temp word, a multiple of 256 at first, runs empty in eight turns
temp_empty : (crc : ℕ) → (turns 8 (at_first crc)).temp ≡ 0
unfolding turns turn
temp_empty crc = omega arith

-- so the accumulator is what eight zeros make of the high byte alone
accumulator_is : (crc : ℕ) → crc < 2 ^ 16 → (turns 8 (at_first crc)).accumulator ≡ enter_bits 8 (crc / 256 * 256) 0
accumulator_is crc h =
    let words = turns 8 (at_first crc) in
    let fits : crc / 256 * 256 % 2 ^ 16 ≡ crc / 256 * 256 = omega arith in
    let first : together (at_first crc) ≡ crc / 256 * 256 = xor_zero_l (up (crc / 256) 8) ∙ fits in
    let small : crc / 256 * 256 < 2 ^ 16 = omega arith in
    sym (xor_zero_r words.accumulator) ∙ ap (bit_xor words.accumulator) (sym (temp_empty crc)) ∙ turns_shift 8 (at_first crc) (rw first small)
    ∙ ap (λ (n : ℕ). enter_bits 8 n 0) first

-- the register's low byte and the byte that enters come beside it: nothing of them falls out
beside_high : (crc byte : ℕ) → crc < 2 ^ 16 → enter_bits 8 crc byte ≡ bit_xor (enter_bits 8 (crc / 256 * 256) 0) (crc % 256 * 256 + byte % 256)
unfolding enter_bits
beside_high crc byte h =
    let both = crc % 256 * 256 + byte % 256 in
    let top : crc % 256 < 2 ^ 8 = mod-lt crc (lit< tt) in
    let entering : byte % 256 < 2 ^ 8 = mod-lt byte (lit< tt) in
    sym (entering_alone shift_word 8 crc byte)
    ∙ ap (enter_bits 8 crc) (sym (low (crc % 256) 8 entering))
    ∙ entering_alone shift_word 8 crc both
    ∙ ap₂ (enter_bits 8) (sym (xor_shifted (crc / 256) 8 (crc % 256) top ∙ split crc 8)) (sym (xor_zero_l both))
    ∙ bits_linear 8 (crc / 256 * 256) (crc % 256) 0 both (omega arith) (omega arith)
    ∙ ap (bit_xor (enter_bits 8 (crc / 256 * 256) 0))
    (ap (λ (n : ℕ). enter_bits 8 n both) (sym (high (crc % 256) 8 entering)) ∙ enters shifts 8 both (omega arith))

-- the printed code keeps those two as they are, one by `<< 8` and one by its mask
printed_byte_lem : (crc byte : ℕ) → crc < 2 ^ 16 → printed_byte crc byte ≡ enter_byte crc byte
unfolding printed_byte enter_byte
printed_byte_lem crc byte h =
    let front = enter_bits 8 (crc / 256 * 256) 0 in
    let moved : up crc 8 ≡ crc % 256 * 256 = omega arith in
    ap₂ bit_xor (ap₂ bit_xor (accumulator_is crc h) moved) (and_mask byte 8)
    ∙ xor_assoc front (crc % 256 * 256) (byte % 256)
    ∙ ap (bit_xor front) (xor_shifted (crc % 256) 8 (byte % 256) (mod-lt byte (lit< tt)))
    ∙ sym (beside_high crc byte h)

-- from any register of 16 bits, since the list's bytes change it
from_any : (crc : ℕ) (body : List ℕ) → crc < 2 ^ 16 → printed crc body ≡ all_in enter_byte crc body
unfolding printed
from_any crc [] h = refl
from_any crc (byte ∷ body) h = rw (printed_byte_lem crc byte h) (from_any (enter_byte crc byte) body (byte_below crc byte h))

pub printed_is_the_check : PrintedIsTheCheck
unfolding parcel_check
printed_is_the_check body = from_any 0 body (lit< tt)
