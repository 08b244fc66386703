-- Shown: where two tables pass their computed test, a byte enters the register by them: what they hold for the register's two halves, and the byte.
-- Why: the test asks of each entry what a zero byte makes of its half, and feeding is linear over exclusive or.
use Prim.Native.Nat.{ℕ, ◌*◌, ◌/◌, ◌%◌, ◌^◌, ◌<◌}
use mathlib.Core.Path.{◌≡◌, ◌∙◌, sym, ap, ap₂}
use mathlib.Core.Bool.{Bool}
use mathlib.Core.List.{List}
use native.Mathlib.Nat.{mod-lt}
use native.Mathlib.Omega.{arith}
use lib.Dec.{T, eqb, eqb→eq, lit<}
use lib.ListN.{get_or}
use lib.Bits.{bit_xor, xor_shifted, xor_comm}
use lib.Pow.{split}
use Rattle.laws.proofs.Computed.{every, below}
use Rattle.check_byte.specs.Register.{feed_bits, feed_byte}
use Rattle.check_byte.proofs.Laws.{bits_linear, byte_beside}

-- the test of one entry: what a zero byte makes of the register that is `times` the half
abbrev right : List ℕ → ℕ → ℕ → Bool
right table times half = eqb (get_or table half 0) (feed_byte (half * times) 0)

-- the test of a table
abbrev pub Right : List ℕ → ℕ → Type 0
Right table times = T (every (right table times) 16)

entry : (table : List ℕ) (times : ℕ) → Right table times → (half : ℕ) → half < 16 → get_or table half 0 ≡ feed_byte (half * times) 0
entry table times test half h = eqb→eq _ _ (below (right table times) 16 test half h)

-- the register is its two halves
in_halves : (register : ℕ) → register < 256 → feed_byte register 0 ≡ bit_xor (feed_byte (register % 16 * 1) 0) (feed_byte (register / 16 * 16) 0)
unfolding feed_byte
in_halves register h =
    let low : register % 16 < 2 ^ 4 = mod-lt register (lit< tt) in
    let below : register / 16 * 16 < 256 = omega arith in
    let one : register % 16 ≡ register % 16 * 1 = omega arith in
    let same : bit_xor (register / 16 * 2 ^ 4) (register % 16) ≡ register = xor_shifted (register / 16) 4 (register % 16) low ∙ split register 4 in
    ap (λ (n : ℕ). feed_bits 8 n 0) (sym same)
    ∙ bits_linear 8 (register / 16 * 16) (register % 16) 0 0 below (omega arith)
    ∙ xor_comm (feed_bits 8 (register / 16 * 16) 0) (feed_bits 8 (register % 16) 0)
    ∙ ap (λ (n : ℕ). bit_xor (feed_bits 8 n 0) (feed_bits 8 (register / 16 * 16) 0)) one

pub by_halves : (low high : List ℕ) → Right low 1 → Right high 16 → (register byte : ℕ) → register < 256 → byte < 256
    → bit_xor (bit_xor (get_or low (register % 16) 0) (get_or high (register / 16) 0)) byte ≡ feed_byte register byte
by_halves low high l h register byte r b =
    ap (λ (n : ℕ). bit_xor n byte)
    (ap₂ bit_xor (entry low 1 l (register % 16) (mod-lt register (lit< tt))) (entry high 16 h (register / 16) (omega arith)) ∙ sym (in_halves register r))
    ∙ sym (byte_beside register byte r b)
