-- Shown: what stands of a number while its digits are put one by one, the last one first.
-- Why: what is left of the number, spelt ahead of the digits that stand, is the whole number.
use Prim.Native.Nat.{ℕ, zero, suc, ◌+◌, ◌/◌, ◌%◌, ◌^◌, ◌≤◌, ◌<◌}
use mathlib.Core.Path.{◌≡◌, ap, refl}
use mathlib.Core.List.{List, [], ◌∷◌, ◌++◌, append_assoc}
use native.Mathlib.Omega.{arith}
use lib.ListN.{length, length-append}
use Rattle.listing.specs.Texts.{digit, digits, decimal}
use Rattle.listing.specs.Writing.{HasRoom}
use Rattle.listing.proofs.Decimals.{decimal_tens, decimal_one, decimal_size}

-- there is a place for the next digit
pub room_ahead : (left number : ℕ) (stands before : List ℕ) → decimal left ++ stands ≡ decimal number ++ before → HasRoom 20 before → HasRoom 1 stands
room_ahead left number stands before so_far room =
    omega (arith, simp length-append at (ap length so_far), decimal_size left, decimal_size number)

-- the last digit of a number that has tens
pub next_digit : (left : ℕ) {byte : ℕ} {stands next whole : List ℕ} → left < 2 ^ 64 → 10 ≤ left → decimal left ++ stands ≡ whole
    → byte ≡ digit (left % 10) → next ≡ byte ∷ stands → decimal (left / 10) ++ next ≡ whole
next_digit left {byte} {stands} {next} {whole} small more so_far is_digit put =
    rw (put, is_digit, ← append_assoc (decimal (left / 10)) (digit (left % 10) ∷ []) stands, ← decimal_tens left more small) so_far

-- the last one to be put
pub last_digit : (left : ℕ) {byte : ℕ} {stands next whole : List ℕ} → left < 10 → decimal left ++ stands ≡ whole → byte ≡ digit left → next ≡ byte ∷ stands → next ≡ whole
last_digit left {byte} {stands} {next} {whole} one so_far is_digit put = rw (put, is_digit) (rw (decimal_one left one) at so_far)

digits_length : (base width number : ℕ) → length (digits base width number) ≡ width
digits_length base zero number = refl
digits_length base (suc width) number =
    omega (arith, length-append (digits base width (number / base)) (digit (number % base) ∷ []), digits_length base width (number / base))

-- there is a place for the next of so many digits
pub place_ahead : (base more width left number : ℕ) (stands before : List ℕ) → digits base more left ++ stands ≡ digits base width number ++ before
    → length stands + more ≡ length before + width
place_ahead base more width left number stands before so_far =
    omega (arith, simp length-append at (ap length so_far), digits_length base more left, digits_length base width number)

-- the last of so many digits
pub further_digit : (base more rest left : ℕ) {byte : ℕ} {stands next whole : List ℕ} → more ≡ suc rest → digits base more left ++ stands ≡ whole
    → byte ≡ digit (left % base) → next ≡ byte ∷ stands → digits base rest (left / base) ++ next ≡ whole
further_digit base more rest left {byte} {stands} {next} {whole} one_more so_far is_digit put =
    rw (put, is_digit, ← append_assoc (digits base rest (left / base)) (digit (left % base) ∷ []) stands) (rw one_more at so_far)
