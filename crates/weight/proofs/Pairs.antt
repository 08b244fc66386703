-- Shown: three packed bytes give back the number they hold, and a number gives back its three packed bytes.
-- Why: a byte's decimal halves are the two digits of a number below 100, and such pairs are a number's digits by hundreds.
use Prim.Native.Nat.{ℕ, ◌+◌, ◌*◌, ◌/◌, ◌%◌, ◌<◌, ◌≤◌}
use mathlib.Core.Path.{◌≡◌, sym, ◌∙◌}
use mathlib.Core.Bool.{true, ◌&&◌, and-eq-true_iff}
use native.Mathlib.Omega.{arith}
use native.Mathlib.Nat.{div-add-mod'}
use lib.Arith.{digits_div, digits_mod, mod-mul}
use lib.Dec.{leb, lit<}
use borrow.Author.Tests.{leb-true, le-leb}
use Rattle.weight.specs.Digits.{decimal, all_decimal, two_digits, digits_of, pair_of}

decimal_high : (byte : ℕ) → decimal byte ≡ true → byte / 16 ≤ 9
decimal_high byte e = leb-true _ _ ((and-eq-true_iff (leb (byte / 16) 9) (leb (byte % 16) 9)).0 e).0

decimal_low : (byte : ℕ) → decimal byte ≡ true → byte % 16 ≤ 9
decimal_low byte e = leb-true _ _ ((and-eq-true_iff (leb (byte / 16) 9) (leb (byte % 16) 9)).0 e).1

-- the halves of a packed byte
half_high : (high low : ℕ) → low ≤ 9 → (high * 16 + low) / 16 ≡ high
half_high high low l = digits_div high {m = 16} (omega arith)

half_low : (high low : ℕ) → low ≤ 9 → (high * 16 + low) % 16 ≡ low
half_low high low l = digits_mod high {m = 16} (omega arith)

-- a number that ends in the two digits of a byte has that byte as its last pair
pair_back : (above byte : ℕ) → decimal byte ≡ true → pair_of (above * 100 + two_digits byte) ≡ byte
pair_back above byte e =
    let high = decimal_high byte e in
    let low = decimal_low byte e in
    let tens : above * 100 + two_digits byte ≡ (above * 10 + byte / 16) * 10 + byte % 16 = omega arith in
    rw (
      tens,
      digits_div (above * 10 + byte / 16) {m = 10} {r = byte % 16} (omega arith),
      digits_mod (above * 10 + byte / 16) {m = 10} {r = byte % 16} (omega arith),
      digits_mod above {m = 10} {r = byte / 16} (omega arith),
    )
    (div-add-mod' byte 16)

-- the last pair of a number is decimal, and its digits are the number's last two
module _ (number : ℕ) where
  low_digit : number % 10 ≤ 9
  low_digit = omega arith

  high_digit : number / 10 % 10 ≤ 9
  high_digit = omega arith

  pair_decimal : decimal (pair_of number) ≡ true
  pair_decimal =
      rw (half_high (number / 10 % 10) (number % 10) low_digit, half_low (number / 10 % 10) (number % 10) low_digit, le-leb (number / 10 % 10) 9 high_digit)
      (le-leb (number % 10) 9 low_digit)

  pair_digits : two_digits (pair_of number) ≡ number % 100
  pair_digits =
      rw (half_high (number / 10 % 10) (number % 10) low_digit, half_low (number / 10 % 10) (number % 10) low_digit)
      (sym (mod-mul number {m = 10} {c = 10} (lit< tt) (lit< tt)))

-- ---- three bytes

module _ (w0 w1 w2 : ℕ) (good : all_decimal w0 w1 w2 ≡ true) where
  first : decimal w0 ≡ true
  first = ((and-eq-true_iff (decimal w0) (decimal w1)).0 ((and-eq-true_iff (decimal w0 && decimal w1) (decimal w2)).0 good).0).0

  second : decimal w1 ≡ true
  second = ((and-eq-true_iff (decimal w0) (decimal w1)).0 ((and-eq-true_iff (decimal w0 && decimal w1) (decimal w2)).0 good).0).1

  third : decimal w2 ≡ true
  third = ((and-eq-true_iff (decimal w0 && decimal w1) (decimal w2)).0 good).1

  -- the digits of each byte are below 100
  small : (byte : ℕ) → decimal byte ≡ true → two_digits byte < 100
  small byte e =
      let high = decimal_high byte e in
      let low = decimal_low byte e in
      omega arith

  pub number_small : digits_of w0 w1 w2 ≤ 999999
  number_small =
      let a = small w0 first in
      let b = small w1 second in
      let c = small w2 third in
      omega arith

  hundreds : digits_of w0 w1 w2 / 100 ≡ two_digits w2 * 100 + two_digits w1
  hundreds =
      let by_hundreds : digits_of w0 w1 w2 ≡ (two_digits w2 * 100 + two_digits w1) * 100 + two_digits w0 = omega arith in
      rw by_hundreds (digits_div (two_digits w2 * 100 + two_digits w1) {m = 100} (small w0 first))

  pub first_back : pair_of (digits_of w0 w1 w2) ≡ w0
  first_back =
      let by_hundreds : digits_of w0 w1 w2 ≡ (two_digits w2 * 100 + two_digits w1) * 100 + two_digits w0 = omega arith in
      rw by_hundreds (pair_back (two_digits w2 * 100 + two_digits w1) w0 first)

  pub second_back : pair_of (digits_of w0 w1 w2 / 100) ≡ w1
  second_back = rw hundreds (pair_back (two_digits w2) w1 second)

  pub third_back : pair_of (digits_of w0 w1 w2 / 10000) ≡ w2
  third_back =
      let a = small w0 first in
      let b = small w1 second in
      let by_myriads : digits_of w0 w1 w2 ≡ two_digits w2 * 10000 + (two_digits w1 * 100 + two_digits w0) = omega arith in
      let top : digits_of w0 w1 w2 / 10000 ≡ 0 * 100 + two_digits w2 =
      rw by_myriads (digits_div (two_digits w2) {m = 10000} {r = two_digits w1 * 100 + two_digits w0} (omega arith) ∙ omega arith) in
      rw top (pair_back 0 w2 third)

module _ (number : ℕ) where
  pub all_decimal_lem : all_decimal (pair_of number) (pair_of (number / 100)) (pair_of (number / 10000)) ≡ true
  all_decimal_lem = simp (pair_decimal number, pair_decimal (number / 100), pair_decimal (number / 10000))

  pub number_back : number ≤ 999999 → digits_of (pair_of number) (pair_of (number / 100)) (pair_of (number / 10000)) ≡ number
  number_back h = simp (pair_digits number, pair_digits (number / 100), pair_digits (number / 10000)) (omega arith)
