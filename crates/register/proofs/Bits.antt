-- Shown: exclusive or is associative, a number is its own inverse under it, and only that one.
-- Why: by halving, since the operation goes digit by digit and a single digit has four cases.
use Prim.Native.Nat.{ℕ, zero, suc, ◌+◌, ◌*◌, ◌/◌, ◌%◌, ◌<◌}
use mathlib.Core.Path.{◌≡◌, ◌∙◌, refl, sym, ap, ap₂}
use mathlib.Core.Bool.{Bool, true, false}
use native.Mathlib.Nat.{mod-lt, not-suc-le-zero, le_of_suc-le-suc}
use borrow.Author.Tests.{eq-eqb, ne_eqb, eqb-true, eqb-false}
use lib.Dec.{eqb, lit<}
use lib.Bits.{bit_xor, differ, xor_step, xor_shr, xor_zero_l, xor_zero_r, xor_self, xor_comm}
use lib.Arith.{bin_ind, digits_mod}

-- what holds of 0 and of 1 holds of every bit
pub bit_cases {ℓ} : (P : ℕ → Type ℓ) → P 0 → P 1 → (bit : ℕ) → bit < 2 → P bit
bit_cases P p q zero h = p
bit_cases P p q (suc zero) h = q
bit_cases P p q (suc (suc bit)) h = absurd (not-suc-le-zero (le_of_suc-le-suc (le_of_suc-le-suc h)))

pub bit : (n : ℕ) → n % 2 < 2
bit n = mod-lt n (lit< tt)

differ_bit : (x y : ℕ) → x < 2 → y < 2 → differ x y < 2
differ_bit x y hx hy =
    bit_cases (λ (x : ℕ). differ x y < 2) hy (bit_cases (λ (y : ℕ). differ 1 y < 2) (lit< tt) (lit< tt) y hy) x hx

differ_assoc : (x y z : ℕ) → x < 2 → y < 2 → z < 2 → differ (differ x y) z ≡ differ x (differ y z)
differ_assoc x y z hx hy hz =
    bit_cases (λ (x : ℕ). differ (differ x y) z ≡ differ x (differ y z)) refl
    (bit_cases (λ (y : ℕ). differ (differ 1 y) z ≡ differ 1 (differ y z)) refl
    (bit_cases (λ (z : ℕ). differ (differ 1 1) z ≡ differ 1 (differ 1 z)) refl refl z hz) y hy) x hx

xor_odd : (a b : ℕ) → bit_xor a b % 2 ≡ differ (a % 2) (b % 2)
xor_odd a b = ap (λ (n : ℕ). n % 2) (xor_step a b) ∙ digits_mod (bit_xor (a / 2) (b / 2)) (differ_bit (a % 2) (b % 2) (bit a) (bit b))

pub xor_assoc : (a b c : ℕ) → bit_xor (bit_xor a b) c ≡ bit_xor a (bit_xor b c)
xor_assoc a =
    bin_ind (λ (a : ℕ). (b c : ℕ) → bit_xor (bit_xor a b) c ≡ bit_xor a (bit_xor b c))
    (λ b c. ap (λ (n : ℕ). bit_xor n c) (xor_zero_l b) ∙ sym (xor_zero_l (bit_xor b c)))
    (λ a half b c.
    xor_step (bit_xor a b) c
    ∙ ap₂ (λ (high odd : ℕ). high * 2 + odd)
    (ap (λ (n : ℕ). bit_xor n (c / 2)) (xor_shr a b 1) ∙ half (b / 2) (c / 2) ∙ ap (λ (n : ℕ). bit_xor (a / 2) n) (sym (xor_shr b c 1)))
    (ap (λ (n : ℕ). differ n (c % 2)) (xor_odd a b) ∙ differ_assoc (a % 2) (b % 2) (c % 2) (bit a) (bit b) (bit c)
    ∙ ap (λ (n : ℕ). differ (a % 2) n) (sym (xor_odd b c)))
    ∙ sym (xor_step a (bit_xor b c)))
    a

-- two pairs may be taken crosswise
pub xor_swap : (a b c d : ℕ) → bit_xor (bit_xor a b) (bit_xor c d) ≡ bit_xor (bit_xor a c) (bit_xor b d)
xor_swap a b c d =
    xor_assoc a b (bit_xor c d)
    ∙ ap (λ (n : ℕ). bit_xor a n) (sym (xor_assoc b c d) ∙ ap (λ (n : ℕ). bit_xor n d) (xor_comm b c) ∙ xor_assoc c b d)
    ∙ sym (xor_assoc a c (bit_xor b d))

pub xor_zero_eq : (a b : ℕ) → bit_xor a b ≡ 0 → a ≡ b
xor_zero_eq a b none =
    sym (xor_zero_r a) ∙ ap (λ (n : ℕ). bit_xor a n) (sym (xor_self b)) ∙ sym (xor_assoc a b b) ∙ ap (λ (n : ℕ). bit_xor n b) none
    ∙ xor_zero_l b

-- as a test: two numbers are the same exactly where they fold to 0
pub xor_test : (a b : ℕ) → eqb (bit_xor a b) 0 ≡ eqb a b
xor_test a b = by_test (eqb a b) refl
  where
    by_test : (same : Bool) → eqb a b ≡ same → eqb (bit_xor a b) 0 ≡ same
    by_test true is = let e : a ≡ b = eqb-true a b is in eq-eqb (bit_xor a b) 0 (ap (λ (n : ℕ). bit_xor n b) e ∙ xor_self b)
    by_test false is = ne_eqb (bit_xor a b) 0 (λ none. eqb-false a b is (xor_zero_eq a b none))
