-- Shown: feeding in two parts; a register stays within its bits; feeding is linear over exclusive or; a number that fits enters an empty register
-- as it is. Why: one shift is linear, so all of feeding is.
use Prim.Native.Nat.{ℕ, zero, suc, ◌+◌, ◌-◌, ◌*◌, ◌/◌, ◌%◌, ◌^◌, ◌<◌}
use mathlib.Core.Path.{◌≡◌, ◌∙◌, refl, subst, sym, ap, ap₂}
use mathlib.Core.List.{List, [], ◌∷◌, ◌++◌}
use native.Mathlib.Omega.{arith}
use native.Mathlib.Decide.{dec_le}
use native.Mathlib.Nat.{lt_of_not-le, lt_of_le_of_lt, mod-lt, mod-eq_of_lt, div-eq_of_lt, zero-mul, one-mul, pow-suc, add-zero, add-suc}
use native.Mathlib.Numerals.{add-one, one-add}
use borrow.Author.Tests.{lt-ltb, le-ltb}
use lib.Bits.{bit_xor, xor_shr, xor_mod, xor_block, xor_lt, xor_zero_l, xor_zero_r, xor_self}
use lib.Arith.{digits_lt}
use lib.Pow.{shr-shr, shr_lt, shr_le, split, high, low, pow_pos}
use Rattle.register.specs.Register.{shifted, bits_in, all_in}
use Rattle.register.proofs.Bits.{bit, bit_cases, xor_swap}

-- feeding a list in two parts
pub all_append : (feed : ℕ → ℕ → ℕ) (register : ℕ) (first second : List ℕ) → all_in feed register (first ++ second) ≡ all_in feed (all_in feed register first) second
all_append feed register [] second = refl
all_append feed register (byte ∷ first) second = all_append feed (feed register byte) first second

-- bits enter in two parts: those from the place `last` up, and then the low ones
pub in_parts : (shift : ℕ → ℕ → ℕ) (last first register number : ℕ)
    → bits_in shift (last + first) register number ≡ bits_in shift last (bits_in shift first register (number / 2 ^ last)) number
in_parts shift last zero register number = ap (λ (n : ℕ). bits_in shift n register number) (add-zero last)
in_parts shift last (suc first) register number =
    ap (λ (n : ℕ). bits_in shift n register number) (add-suc last first)
    ∙ in_parts shift last first (shift register (number / 2 ^ (last + first) % 2)) number
    ∙ ap (λ (n : ℕ). bits_in shift last (bits_in shift first (shift register (n % 2)) (number / 2 ^ last)) number) (sym (shr-shr number last first))

-- a shift of a register of places + 1 bits, and what is folded in fits it
pub record Shifts (places fold : ℕ) (shift : ℕ → ℕ → ℕ) : Type 0 where
  pub is : (register entering : ℕ) → shift register entering ≡ shifted (2 ^ places) fold register entering
  pub small : fold < 2 ^ suc places

module _ {places fold : ℕ} {shift : ℕ → ℕ → ℕ} (shifts : Shifts places fold shift) where
  doubled : 2 ^ suc places ≡ 2 ^ places * 2
  doubled = pow-suc 2 places

  -- one shift, without a choice: the bit that falls out is register / 2 ^ places
  shift_is : (register entering : ℕ) → register < 2 ^ suc places
      → shift register entering ≡ bit_xor (register % 2 ^ places * 2 + entering) (register / 2 ^ places * fold)
  shift_is register entering h = elim (dec_le (2 ^ places) register) [
    | yes out ↦
        let within : register < 2 ^ places * 2 = subst (λ (n : ℕ). register < n) doubled h in
        let rest : register - 2 ^ places < 2 ^ places = omega arith in
        let whole : 1 * 2 ^ places + (register - 2 ^ places) ≡ register = omega arith in
        let one : register / 2 ^ places ≡ 1 = ap (λ (n : ℕ). n / 2 ^ places) (sym whole) ∙ high 1 places rest in
        let left : register % 2 ^ places ≡ register - 2 ^ places = ap (λ (n : ℕ). n % 2 ^ places) (sym whole) ∙ low 1 places rest in
        rw (shifts.is register entering, le-ltb register (2 ^ places) out, one, left, one-mul fold)
    | no stays ↦
        let below : register < 2 ^ places = lt_of_not-le stays in
        rw (shifts.is register entering, lt-ltb register (2 ^ places) below, div-eq_of_lt below, mod-eq_of_lt below, zero-mul fold) (sym (xor_zero_r (register * 2 + entering)))
  ]

  -- what falls out of a register is a bit
  out_bit : (register : ℕ) → register < 2 ^ suc places → register / 2 ^ places < 2
  out_bit register h = shr_lt 1 places (subst (λ (n : ℕ). register < 2 ^ n) (sym (one-add places)) h)

  folded_below_lem : (out : ℕ) → out < 2 → out * fold < 2 ^ suc places
  folded_below_lem out h =
      bit_cases (λ (out : ℕ). out * fold < 2 ^ suc places) (subst (λ (n : ℕ). n < 2 ^ suc places) (sym (zero-mul fold)) (pow_pos (suc places)))
      (subst (λ (n : ℕ). n < 2 ^ suc places) (sym (one-mul fold)) shifts.small) out h

  pub shift_below : (register entering : ℕ) → register < 2 ^ suc places → entering < 2 → shift register entering < 2 ^ suc places
  shift_below register entering h e =
      let moved : register % 2 ^ places * 2 + entering < 2 ^ suc places =
      subst (λ (n : ℕ). register % 2 ^ places * 2 + entering < n) (sym doubled) (digits_lt (mod-lt register (pow_pos places)) e) in
      rw (shift_is register entering h)
      (xor_lt (suc places) (register % 2 ^ places * 2 + entering) (register / 2 ^ places * fold) moved (folded_below_lem (register / 2 ^ places) (out_bit register h)))

  -- the register stays within its bits
  pub bits_below : (count register number : ℕ) → register < 2 ^ suc places → bits_in shift count register number < 2 ^ suc places
  bits_below zero register number h = h
  bits_below (suc count) register number h =
      bits_below count (shift register (number / 2 ^ count % 2)) number (shift_below register _ h (bit (number / 2 ^ count)))

  -- one shift is linear
  fold_linear : (p q : ℕ) → p < 2 → q < 2 → bit_xor p q * fold ≡ bit_xor (p * fold) (q * fold)
  fold_linear p q hp hq =
      bit_cases (λ (p : ℕ). bit_xor p q * fold ≡ bit_xor (p * fold) (q * fold))
      (ap (λ (n : ℕ). n * fold) (xor_zero_l q) ∙ sym (ap (λ (n : ℕ). bit_xor n (q * fold)) (zero-mul fold) ∙ xor_zero_l (q * fold)))
      (bit_cases (λ (q : ℕ). bit_xor 1 q * fold ≡ bit_xor (1 * fold) (q * fold))
      (sym (ap (λ (n : ℕ). bit_xor (1 * fold) n) (zero-mul fold) ∙ xor_zero_r (1 * fold))) (zero-mul fold ∙ sym (xor_self (1 * fold))) q hq) p hp

  pub shift_linear : (r s b c : ℕ) → r < 2 ^ suc places → s < 2 ^ suc places → b < 2 → c < 2
      → shift (bit_xor r s) (bit_xor b c) ≡ bit_xor (shift r b) (shift s c)
  shift_linear r s b c hr hs hb hc =
      shift_is (bit_xor r s) (bit_xor b c) (xor_lt (suc places) r s hr hs)
      ∙ ap₂ bit_xor
      (ap (λ (n : ℕ). n * 2 + bit_xor b c) (xor_mod r s places) ∙ sym (xor_block 1 (r % 2 ^ places) (s % 2 ^ places) b c hb hc))
      (ap (λ (n : ℕ). n * fold) (xor_shr r s places) ∙ fold_linear (r / 2 ^ places) (s / 2 ^ places) (out_bit r hr) (out_bit s hs))
      ∙ xor_swap (r % 2 ^ places * 2 + b) (s % 2 ^ places * 2 + c) (r / 2 ^ places * fold) (s / 2 ^ places * fold)
      ∙ sym (ap₂ bit_xor (shift_is r b hr) (shift_is s c hs))

  -- feeding is linear over exclusive or
  pub bits_linear : (count r s x y : ℕ) → r < 2 ^ suc places → s < 2 ^ suc places
      → bits_in shift count (bit_xor r s) (bit_xor x y) ≡ bit_xor (bits_in shift count r x) (bits_in shift count s y)
  bits_linear zero r s x y hr hs = refl
  bits_linear (suc count) r s x y hr hs =
      ap (λ (n : ℕ). bits_in shift count n (bit_xor x y))
      (ap (λ (n : ℕ). shift (bit_xor r s) n) (ap (λ (n : ℕ). n % 2) (xor_shr x y count) ∙ xor_mod (x / 2 ^ count) (y / 2 ^ count) 1)
      ∙ shift_linear r s (x / 2 ^ count % 2) (y / 2 ^ count % 2) hr hs (bit (x / 2 ^ count)) (bit (y / 2 ^ count)))
      ∙ bits_linear count (shift r (x / 2 ^ count % 2)) (shift s (y / 2 ^ count % 2)) x y
      (shift_below r _ hr (bit (x / 2 ^ count))) (shift_below s _ hs (bit (y / 2 ^ count)))

  -- into an empty register a number that fits it enters as it is
  rejoins : (n : ℕ) → n < 2 ^ suc places → shift (n / 2) (n % 2) ≡ n
  rejoins n h =
      let half : n / 2 < 2 ^ places = shr_lt places 1 (subst (λ (k : ℕ). n < 2 ^ k) (sym (add-one places)) h) in
      rw (shifts.is (n / 2) (n % 2), lt-ltb (n / 2) (2 ^ places) half) (split n 1)

  pub enters : (count number : ℕ) → number < 2 ^ suc places → bits_in shift count (number / 2 ^ count) number ≡ number
  enters zero number h = omega arith
  enters (suc count) number h =
      let half : number / 2 ^ suc count ≡ number / 2 ^ count / 2 = sym (shr-shr number count 1 ∙ ap (λ (n : ℕ). number / 2 ^ n) (add-one count)) in
      rw (half, rejoins (number / 2 ^ count) (lt_of_le_of_lt (shr_le number count) h)) (enters count number h)

  -- what enters a register comes beside what zeros would make of it
  pub beside : (count register number : ℕ) → register < 2 ^ suc places
      → bits_in shift count register number ≡ bit_xor (bits_in shift count register 0) (bits_in shift count 0 number)
  beside count register number h =
      ap₂ (bits_in shift count) (sym (xor_zero_r register)) (sym (xor_zero_l number)) ∙ bits_linear count register 0 0 number h (pow_pos (suc places))
