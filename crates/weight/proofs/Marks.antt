-- Shown: a status byte gives back its marks and its point, and marks and point give back their status byte.
-- Why: the byte is the sum of its marks' places and the point, and each place is twice the one below it.
use Prim.Native.Nat.{ℕ, zero, suc, ◌+◌, ◌*◌, ◌/◌, ◌%◌, ◌^◌, ◌<◌, ◌≤◌}
use mathlib.Core.Path.{◌≡◌, refl, sym}
use mathlib.Core.Bool.{Bool, true, false}
use mathlib.Core.List.{List, [], ◌∷◌}
use native.Mathlib.Omega.{arith}
use native.Mathlib.Nat.{mod-eq_of_lt, mod-lt, pow-suc, mul_comm, zero-div, div-one, div-div-eq-div-mul}
use lib.Arith.{digits_div, digits_mod, mod-mul}
use lib.Dec.{eqb, lit<}
use lib.ListN.{get_or}
use lib.Pow.{pow_pos, pow-add}
use Rattle.weight.specs.declared.families.Family.{Family}
use Rattle.weight.specs.declared.Reading.{Reading}
use Rattle.weight.specs.Status.{Mark, minus, sixth, fifth, settled, overload, bit_of, marked, on_at, reading_of, status_of}

-- ---- from a status byte

-- a place's weight where its digit is 1
weighed : (digit place : ℕ) → digit < 2 → on_at (eqb digit 1) place ≡ digit * place
weighed zero place h = omega arith
weighed (suc zero) place h = omega arith
weighed (suc (suc digit)) place h = absurd (omega arith)

-- what is left below a mark's place, with the mark
with_mark : (mark : Mark) (con : ℕ) → on_at (marked mark con) (2 ^ bit_of mark) + con % 2 ^ bit_of mark ≡ con % (2 * 2 ^ bit_of mark)
with_mark mark con =
    rw (weighed (con / 2 ^ bit_of mark % 2) (2 ^ bit_of mark) (mod-lt (con / 2 ^ bit_of mark) (lit< tt)))
    (sym (mod-mul con {m = 2} {c = 2 ^ bit_of mark} (lit< tt) (pow_pos (bit_of mark))))

pub status_back : (family : Family) (number con : ℕ) → con < 256 → status_of (reading_of family number con) ≡ con
status_back family number con h =
    let seven = with_mark minus con in
    let six = with_mark sixth con in
    let five = with_mark fifth con in
    let four = with_mark settled con in
    let three = with_mark overload con in
    let whole : con % 256 ≡ con = mod-eq_of_lt h in
    omega arith

-- ---- from a reading

-- marks as the digits of a number, the lowest first
unfoldable number : List Bool → ℕ
number [] = 0
number (mark ∷ marks) = number marks * 2 + on_at mark 1

digit_small : (mark : Bool) → on_at mark 1 < 2
digit_small true = omega arith
digit_small false = omega arith

-- the digit at each place is the mark at that place
digit_at : (place : ℕ) (marks : List Bool) → number marks / 2 ^ place % 2 ≡ on_at (get_or marks place false) 1
unfolding number
digit_at place [] = rw zero-div
digit_at zero (mark ∷ marks) = rw div-one (digits_mod (number marks) {m = 2} {r = on_at mark 1} (digit_small mark))
digit_at (suc place) (mark ∷ marks) =
    rw (pow-suc, mul_comm (2 ^ place) 2, ← div-div-eq-div-mul, digits_div (number marks) {m = 2} {r = on_at mark 1} (digit_small mark)) (digit_at place marks)

set_again : (mark : Bool) → eqb (on_at mark 1) 1 ≡ mark
set_again true = refl
set_again false = refl

-- a mark's place is its digit that many times over
scaled : (mark : Bool) (place : ℕ) → on_at mark place ≡ on_at mark 1 * place
scaled true place = omega arith
scaled false place = omega arith

module _ (reading : Reading) (small : reading.point ≤ 7) where
  -- the marks from bit 3 up
  abbrev marks : List Bool
  marks = reading.overload ∷ reading.settled ∷ reading.bit5 ∷ reading.bit6 ∷ reading.minus ∷ []

  split : status_of reading ≡ number marks * 8 + reading.point
  unfolding number
  split =
      simp (scaled reading.minus 128, scaled reading.bit6 64, scaled reading.bit5 32, scaled reading.settled 16, scaled reading.overload 8)
      (omega arith)

  mark_at : (place : ℕ) → eqb (status_of reading / 2 ^ (3 + place) % 2) 1 ≡ get_or marks place false
  mark_at place =
      rw (pow-add, ← div-div-eq-div-mul, split, digits_div (number marks) {m = 8} {r = reading.point} (omega arith), digit_at) (set_again (get_or marks place false))

  point_back : status_of reading % 2 ^ 3 ≡ reading.point
  point_back = rw (split, digits_mod (number marks) {m = 8} {r = reading.point} (omega arith))

  pub sixth_back : marked sixth (status_of reading) ≡ reading.bit6
  sixth_back = mark_at 3

  pub reading_back : reading_of reading.family reading.number (status_of reading) ≡ reading
  reading_back = λ i. record {
    minus = mark_at 4 i;
    number = reading.number;
    point = point_back i;
    bit6 = mark_at 3 i;
    bit5 = mark_at 2 i;
    settled = mark_at 1 i;
    overload = mark_at 0 i;
    family = reading.family;
  }
