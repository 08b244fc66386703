-- Shown: two maps that are linear over exclusive or and agree on every single bit agree on every number. Also what such maps are made of.
-- Why: a number is its top bit and the rest, folded together.
use Prim.Native.Nat.{ℕ, zero, suc, ◌*◌, ◌/◌, ◌%◌, ◌^◌, ◌<◌}
use mathlib.Core.Path.{◌≡◌, ◌∙◌, refl, subst, sym, ap, ap₂}
use mathlib.Core.Bool.{Bool}
use native.Mathlib.Nat.{mod-lt, zero-mul, one-mul, add-zero}
use native.Mathlib.Numerals.{one-add}
use native.Mathlib.Omega.{arith}
use lib.Dec.{T, eqb, eqb→eq}
use lib.Arith.{lt-one}
use lib.Bits.{bit_xor, xor_shr, xor_mod, xor_shifted, xor_self, xor_block}
use lib.Pow.{split, shr_lt, pow_pos}
use Rattle.laws.proofs.Computed.{every, below}
use Rattle.register.specs.Register.{bits_in}
use Rattle.register.proofs.Bits.{bit_cases, xor_swap}
use Rattle.register.proofs.Laws.{Shifts, bits_linear}

-- a map that goes over exclusive or
pub record Linear (map : ℕ → ℕ) : Type 0 where
  pub over : (a b : ℕ) → map (bit_xor a b) ≡ bit_xor (map a) (map b)

-- ---- what they are made of

pub itself_linear : Linear (λ (n : ℕ). n)
itself_linear = record { over = λ a b. refl }

pub down_linear : (places : ℕ) {f : ℕ → ℕ} → Linear f → Linear (λ (n : ℕ). f n / 2 ^ places)
down_linear places {f} linear = record { over = λ a b. ap (λ (n : ℕ). n / 2 ^ places) (linear.over a b) ∙ xor_shr (f a) (f b) places }

pub low_linear : (places : ℕ) {f : ℕ → ℕ} → Linear f → Linear (λ (n : ℕ). f n % 2 ^ places)
low_linear places {f} linear = record { over = λ a b. ap (λ (n : ℕ). n % 2 ^ places) (linear.over a b) ∙ xor_mod (f a) (f b) places }

moved_up : (places a b : ℕ) → bit_xor a b * 2 ^ places ≡ bit_xor (a * 2 ^ places) (b * 2 ^ places)
moved_up places a b =
    sym (add-zero (bit_xor a b * 2 ^ places))
    ∙ sym (xor_block places a b 0 0 (pow_pos places) (pow_pos places))
    ∙ ap₂ bit_xor (add-zero (a * 2 ^ places)) (add-zero (b * 2 ^ places))

pub up_linear : (places : ℕ) {f : ℕ → ℕ} → Linear f → Linear (λ (n : ℕ). f n * 2 ^ places)
up_linear places {f} linear = record { over = λ a b. ap (λ (n : ℕ). n * 2 ^ places) (linear.over a b) ∙ moved_up places (f a) (f b) }

pub folded_linear : {f g : ℕ → ℕ} → Linear f → Linear g → Linear (λ (n : ℕ). bit_xor (f n) (g n))
folded_linear {f} {g} l m = record { over = λ a b. ap₂ bit_xor (l.over a b) (m.over a b) ∙ xor_swap (f a) (f b) (g a) (g b) }

-- what a number's bits make of an empty register
pub fed_linear : {places fold : ℕ} {shift : ℕ → ℕ → ℕ} → Shifts places fold shift → (count : ℕ) {f : ℕ → ℕ} → Linear f → Linear (λ (n : ℕ). bits_in shift count 0 (f n))
fed_linear {places} {fold} {shift} shifts count {f} linear =
    record { over = λ a b. ap (bits_in shift count 0) (linear.over a b) ∙ bits_linear shifts count 0 0 (f a) (f b) (pow_pos (suc places)) (pow_pos (suc places)) }

-- ---- a computed test at the single bits is enough

of_zero : {map : ℕ → ℕ} → Linear map → map 0 ≡ 0
of_zero {map} linear = linear.over 0 0 ∙ xor_self (map 0)

module _ {f g : ℕ → ℕ} (l : Linear f) (m : Linear g) where
  -- one bit, or none
  one_bit : (place out : ℕ) → f (2 ^ place) ≡ g (2 ^ place) → out < 2 → f (out * 2 ^ place) ≡ g (out * 2 ^ place)
  one_bit place out same h =
      bit_cases (λ (out : ℕ). f (out * 2 ^ place) ≡ g (out * 2 ^ place))
      (ap f (zero-mul (2 ^ place)) ∙ of_zero l ∙ sym (of_zero m) ∙ ap g (sym (zero-mul (2 ^ place))))
      (ap f (one-mul (2 ^ place)) ∙ same ∙ ap g (sym (one-mul (2 ^ place)))) out h

  abbrev test : ℕ → Bool
  test place = eqb (f (2 ^ place)) (g (2 ^ place))

  agreed : (count : ℕ) → ((place : ℕ) → place < count → f (2 ^ place) ≡ g (2 ^ place)) → (number : ℕ) → number < 2 ^ count → f number ≡ g number
  agreed zero same number h = ap f (lt-one h) ∙ of_zero l ∙ sym (of_zero m) ∙ ap g (sym (lt-one h))
  agreed (suc count) same number h =
      let top = number / 2 ^ count in
      let rest = number % 2 ^ count in
      let low : rest < 2 ^ count = mod-lt number (pow_pos count) in
      let parts : number ≡ bit_xor (top * 2 ^ count) rest = sym (xor_shifted top count rest low ∙ split number count) in
      ap f parts ∙ l.over (top * 2 ^ count) rest
      ∙ ap₂ bit_xor (one_bit count top (same count (omega arith)) (shr_lt 1 count (subst (λ (n : ℕ). number < 2 ^ n) (sym (one-add count)) h)))
      (agreed count (λ (place : ℕ) (before : place < count). same place (omega arith)) rest low)
      ∙ sym (m.over (top * 2 ^ count) rest) ∙ ap g (sym parts)

  pub agree : (count : ℕ) → T (every test count) → (number : ℕ) → number < 2 ^ count → f number ≡ g number
  agree count passed = agreed count (λ place h. eqb→eq _ _ (below test count passed place h))
