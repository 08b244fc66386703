-- 02, request 9: "Keep the 255 powers of x under the polynomial, each the previous one doubled and folded." 01, of the same: "constant table, each entry
-- the previous doubled and folded with 69h, rule proved once by a computed test". The code's table is `powers_kept`, and its entries are request 8's powers.
use Rattle.std.specs.Prelude.{ℕ, zero, suc, ◌-◌, ◌*◌, ◌<◌, ◌≡◌, Bool, cond, List, [], ◌∷◌, length, get_or, ltb, eqb}
use Rattle.std.specs.Int.Bits.{bit_xor}
use Rattle.check_misses.specs.Powers.{power}

-- a bit that leaves the eight folds in 69h
unfoldable pub doubled_and_folded : ℕ → ℕ
doubled_and_folded entry = cond (ltb entry 128) (2 * entry) (bit_xor (2 * entry - 256) 0x69)

-- so many entries from the first one on
unfoldable pub entries_from : ℕ → ℕ → List ℕ
entries_from entry zero = []
entries_from entry (suc more) = entry ∷ entries_from (doubled_and_folded entry) more

-- the power 0 of x is 1
abbrev pub powers_kept : List ℕ
powers_kept = entries_from 1 255

pub record AllPowers (table : List ℕ) : Type 0 where
  pub many : length table ≡ 255
  pub each : (place : ℕ) → place < 255 → get_or table place 0 ≡ power place

abbrev pub TableHasPowers : Type 0
TableHasPowers = AllPowers powers_kept

-- whether a register is the power of x of a place: what the code asks of the table instead of turning a bit over. No public promise rests on it.
unfoldable pub is_power : ℕ → ℕ → Bool
is_power register place = eqb (power place) register
