-- Shown: the places of a number's ones do not depend on the room it is given, and go up with it.
-- Why: past its end a number has no ones; moved up, its bits stand as many places higher, with zeros below them.
use Prim.Native.Nat.{ℕ, zero, suc, ◌+◌, ◌-◌, ◌*◌, ◌/◌, ◌%◌, ◌^◌, ◌≤◌, ◌<◌}
use mathlib.Core.Path.{◌≡◌, ◌∙◌, refl, sym, ap, ap₂}
use mathlib.Core.Bool.{Bool, true, false, cond}
use mathlib.Core.List.{[], ◌∷◌, map}
use native.Mathlib.Decide.{dec_le}
use native.Mathlib.Nat.{mul_assoc, one-mul, add-zero, add-suc, lt_of_not-le, add-sub_of_le}
use native.Mathlib.Omega.{arith}
use lib.Dec.{eqb}
use lib.Bits.{bit_xor, shifted_even, xor_shr, xor_mod, xor_lt, xor_zero_l}
use lib.Pow.{pow-add, pow-lt, shl-shr, shr-shr}
use Rattle.check_misses.proofs.Ones.{bit_of, ones}
use Rattle.check_misses.proofs.Windows.{past_end}

-- ---- any room

no_more : (count more number : ℕ) → number < 2 ^ count → ones (count + more) number ≡ ones count number
unfolding ones
no_more count zero number h = ap (λ (n : ℕ). ones n number) (add-zero count)
no_more count (suc more) number h =
    let none : bit_of (count + more) number ≡ 0 = past_end count number (count + more) h (omega arith) in
    rw (add-suc count more, none) (no_more count more number h)

pub ones_in : (a b number : ℕ) → number < 2 ^ a → number < 2 ^ b → ones a number ≡ ones b number
ones_in a b number ha hb = elim (dec_le a b) [
  | yes l ↦ sym (ap (λ (n : ℕ). ones n number) (sym (add-sub_of_le l)) ∙ no_more a (b - a) number ha)
  | no g ↦
      let l : b ≤ a = omega (arith, lt_of_not-le g) in
      ap (λ (n : ℕ). ones n number) (sym (add-sub_of_le l)) ∙ no_more b (a - b) number hb
]

-- ---- moved up

pub bit_moved : (from place part : ℕ) → bit_of (from + place) (part * 2 ^ from) ≡ bit_of place part
bit_moved from place part =
    ap (λ (n : ℕ). n % 2) (sym (shr-shr (part * 2 ^ from) from place)) ∙ ap (λ (n : ℕ). n / 2 ^ place % 2) (shl-shr part from)

pub zero_below : (from place part : ℕ) → place < from → bit_of place (part * 2 ^ from) ≡ 0
zero_below from place part h =
    let gap = from - place - 1 in
    let places : from ≡ suc gap + place = omega (arith, h) in
    let number : part * 2 ^ from ≡ part * 2 ^ suc gap * 2 ^ place =
    ap (λ (n : ℕ). part * 2 ^ n) places ∙ ap (λ (n : ℕ). part * n) (pow-add 2 (suc gap) place) ∙ sym (mul_assoc part (2 ^ suc gap) (2 ^ place)) in
    ap (bit_of place) number ∙ ap (λ (n : ℕ). n % 2) (shl-shr (part * 2 ^ suc gap) place) ∙ shifted_even part gap

none_below : (from part count : ℕ) → count ≤ from → ones count (part * 2 ^ from) ≡ []
unfolding ones
none_below from part zero h = refl
none_below from part (suc place) h = rw (zero_below from place part (omega (arith, h))) (none_below from part place (omega (arith, h)))

pub ones_moved : (from part count : ℕ) → ones (from + count) (part * 2 ^ from) ≡ map (λ (n : ℕ). from + n) (ones count part)
unfolding ones
ones_moved from part zero = ap (λ (n : ℕ). ones n (part * 2 ^ from)) (add-zero from) ∙ none_below from part from (omega arith)
ones_moved from part (suc place) =
    rw (add-suc from place, bit_moved from place part, ones_moved from part place) (over (eqb (bit_of place part) 0))
  where
    over : (test : Bool) → cond test (map (λ (n : ℕ). from + n) (ones place part)) ((from + place) ∷ map (λ (n : ℕ). from + n) (ones place part))
        ≡ map (λ (n : ℕ). from + n) (cond test (ones place part) (place ∷ ones place part))
    over true = refl
    over false = refl

-- ---- one bit, two bits

-- of 1, moved up, there is one place
one_alone : (place : ℕ) → map (λ (n : ℕ). place + n) (ones 1 1) ≡ place ∷ []
unfolding ones
one_alone place = ap (λ (n : ℕ). n ∷ []) (add-zero place)

pub ones_single : (count place : ℕ) → place < count → ones count (2 ^ place) ≡ place ∷ []
ones_single count place h =
    let one : 1 * 2 ^ place ≡ 2 ^ place = one-mul (2 ^ place) in
    let next : 2 ^ place < 2 ^ (place + 1) = pow-lt (omega arith) in
    ones_in count (place + 1) (2 ^ place) (pow-lt h) next ∙ ap (ones (place + 1)) (sym one) ∙ ones_moved place 1 1 ∙ one_alone place

-- below its place a single bit has none, and there it has one
below_single : (place high : ℕ) → place < high → bit_of place (2 ^ high) ≡ 0
below_single place high h = ap (bit_of place) (sym (one-mul (2 ^ high))) ∙ zero_below high place 1 h

at_single : (place : ℕ) → bit_of place (2 ^ place) ≡ 1
at_single place =
    let one : 1 * 2 ^ place ≡ 2 ^ place = one-mul (2 ^ place) in
    let here : place + 0 ≡ place = add-zero place in
    ap₂ bit_of (sym here) (sym one) ∙ bit_moved place 0 1

pub bit_across : (place a b : ℕ) → bit_of place (bit_xor a b) ≡ bit_xor (bit_of place a) (bit_of place b)
bit_across place a b = ap (λ (n : ℕ). n % 2) (xor_shr a b place) ∙ xor_mod (a / 2 ^ place) (b / 2 ^ place) 1

-- numbers with the same bits have the same ones
same_ones : (count a b : ℕ) → ((place : ℕ) → place < count → bit_of place a ≡ bit_of place b) → ones count a ≡ ones count b
unfolding ones
same_ones zero a b same = refl
same_ones (suc place) a b same = rw (same place (omega arith), same_ones place a b (λ lower h. same lower (omega (arith, h))))

ones_with_top : (high low : ℕ) → low < high → ones (suc high) (bit_xor (2 ^ high) (2 ^ low)) ≡ high ∷ low ∷ []
unfolding ones
ones_with_top high low h =
    let number = bit_xor (2 ^ high) (2 ^ low) in
    let top : bit_of high number ≡ 1 = bit_across high (2 ^ high) (2 ^ low) ∙ ap₂ bit_xor (at_single high) (past_end high (2 ^ low) high (pow-lt h) (omega arith)) in
    let below : ones high number ≡ ones high (2 ^ low) =
    same_ones high number (2 ^ low)
    (λ place l. bit_across place (2 ^ high) (2 ^ low) ∙ ap (λ (n : ℕ). bit_xor n (bit_of place (2 ^ low))) (below_single place high l) ∙ xor_zero_l (bit_of place (2 ^ low))) in
    rw (top, below, ones_single high low h)

pub ones_two : (count high low : ℕ) → low < high → high < count → ones count (bit_xor (2 ^ high) (2 ^ low)) ≡ high ∷ low ∷ []
ones_two count high low h l =
    let small : bit_xor (2 ^ high) (2 ^ low) < 2 ^ suc high = xor_lt (suc high) (2 ^ high) (2 ^ low) (pow-lt (omega arith)) (pow-lt (omega (arith, h))) in
    ones_in count (suc high) (bit_xor (2 ^ high) (2 ^ low)) (xor_lt count (2 ^ high) (2 ^ low) (pow-lt l) (pow-lt (omega (arith, h, l)))) small
    ∙ ones_with_top high low h
