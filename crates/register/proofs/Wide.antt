-- Shown: what a wide number stands for, and that bits come to stand behind it by entering the register that it stands for.
-- Why: bits enter in two parts as they do in one, and zeros ahead of a number change nothing.
use Prim.Native.Nat.{ℕ, zero, suc, ◌+◌, ◌*◌, ◌/◌, ◌%◌, ◌^◌, ◌≤◌, ◌<◌}
use mathlib.Core.Path.{◌≡◌, ◌∙◌, refl, sym, ap}
use native.Mathlib.Nat.{add-suc, zero-add, suc-add, add_comm, div-eq_of_lt, lt_of_lt_of_le}
use native.Mathlib.Numerals.{add-one}
use lib.Pow.{field, mod-mod-pow, high, low, pow_pos, pow_mono}
use Rattle.register.specs.Register.{bits_in}
use Rattle.register.proofs.Laws.{Shifts, in_parts, enters}

-- of a number no more is looked at than enters
low_alone : (shift : ℕ → ℕ → ℕ) (more count register number : ℕ) → bits_in shift count register (number % 2 ^ (more + count)) ≡ bits_in shift count register number
low_alone shift more zero register number = refl
low_alone shift more (suc count) register number =
    let places : suc more + count ≡ more + suc count = suc-add more count ∙ sym (add-suc more count) in
    let same : number % 2 ^ (more + suc count) / 2 ^ count % 2 ≡ number / 2 ^ count % 2 =
    ap (λ (n : ℕ). number % 2 ^ n / 2 ^ count % 2) (sym places) ∙ ap (λ (n : ℕ). n % 2) (field number (suc more) count)
    ∙ ap (λ (n : ℕ). number / 2 ^ count % 2 ^ n % 2) (sym (add-one more)) ∙ mod-mod-pow (number / 2 ^ count) more 1 in
    ap (λ (n : ℕ). bits_in shift count (shift register n) (number % 2 ^ (more + suc count))) same
    ∙ ap (λ (n : ℕ). bits_in shift count (shift register (number / 2 ^ count % 2)) (number % 2 ^ n)) (sym places)
    ∙ low_alone shift (suc more) count (shift register (number / 2 ^ count % 2)) number

-- the low bits that enter are all that counts
pub entering_alone : (shift : ℕ → ℕ → ℕ) (count register number : ℕ) → bits_in shift count register (number % 2 ^ count) ≡ bits_in shift count register number
entering_alone shift count register number =
    ap (λ (n : ℕ). bits_in shift count register (number % 2 ^ n)) (sym (zero-add count)) ∙ low_alone shift 0 count register number

-- the register that a number of `whole` bits stands for: the one that those bits make of an empty one
module _ {places fold : ℕ} {shift : ℕ → ℕ → ℕ} (shifts : Shifts places fold shift) (whole : ℕ) where
  -- zeros into an empty register
  zeros : (count : ℕ) → bits_in shift count 0 0 ≡ 0
  zeros count = ap (λ (n : ℕ). bits_in shift count n 0) (sym (div-eq_of_lt (pow_pos count))) ∙ enters shifts count 0 (pow_pos (suc places))

  -- zeros ahead of a number change nothing
  pub ahead : (count more number : ℕ) → number < 2 ^ count → bits_in shift (count + more) 0 number ≡ bits_in shift count 0 number
  ahead count more number h =
      in_parts shift count more 0 number
      ∙ ap (λ (n : ℕ). bits_in shift count (bits_in shift more 0 n) number) (div-eq_of_lt h)
      ∙ ap (λ (n : ℕ). bits_in shift count n number) (zeros more)

  pub narrow : (count more : ℕ) → count + more ≡ whole → (number : ℕ) → number < 2 ^ count → bits_in shift count 0 number ≡ bits_in shift whole 0 number
  narrow count more e number h = sym (ahead count more number h) ∙ ap (λ (n : ℕ). bits_in shift n 0 number) e

  -- bits come to stand behind a number by entering the register
  pub behind : (count rest : ℕ) → count + rest ≡ whole → (number entering : ℕ) → number < 2 ^ rest → entering < 2 ^ count
      → bits_in shift whole 0 (number * 2 ^ count + entering) ≡ bits_in shift count (bits_in shift whole 0 number) entering
  behind count rest e number entering h l =
      let all = number * 2 ^ count + entering in
      ap (λ (n : ℕ). bits_in shift n 0 all) (sym e)
      ∙ in_parts shift count rest 0 all
      ∙ ap (λ (n : ℕ). bits_in shift count (bits_in shift rest 0 n) all) (high number count l)
      ∙ ap (λ (n : ℕ). bits_in shift count n all) (narrow rest count (add_comm rest count ∙ e) number h)
      ∙ sym (entering_alone shift count (bits_in shift whole 0 number) all)
      ∙ ap (λ (n : ℕ). bits_in shift count (bits_in shift whole 0 number) n) (low number count l)

  -- a number that fits the register stands for itself
  pub itself : suc places ≤ whole → (number : ℕ) → number < 2 ^ suc places → bits_in shift whole 0 number ≡ number
  itself enough number h =
      ap (λ (n : ℕ). bits_in shift whole n number) (sym (div-eq_of_lt (lt_of_lt_of_le h (pow_mono enough)))) ∙ enters shifts whole number h
