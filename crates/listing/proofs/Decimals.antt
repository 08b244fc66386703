-- Shown: how a number in decimal comes apart into its tens and its last digit, and how many digits it has.
-- Why: a number below 2^64 has fewer digits than the definition allows it, so one digit more or less to go makes no difference.
use Prim.Native.Nat.{ℕ, zero, suc, ◌/◌, ◌%◌, ◌^◌, ◌≤◌, ◌<◌}
use mathlib.Core.Path.{◌≡◌, ◌∙◌, ap, sym}
use mathlib.Core.Bool.{Bool, true, false, cond}
use mathlib.Core.List.{List, [], ◌∷◌, ◌++◌}
use native.Mathlib.Omega.{arith}
use native.Mathlib.Nat.{pow-suc}
use borrow.Author.Tests.{lt-ltb, le-ltb}
use lib.Dec.{ltb}
use lib.ListN.{length, length-append}
use Rattle.listing.specs.Texts.{digit, decimal_in, decimal}

tens_in : (more number : ℕ) → 10 ≤ number → decimal_in (suc more) number ≡ decimal_in more (number / 10) ++ (digit (number % 10) ∷ [])
unfolding decimal_in
tens_in more number h = rw (le-ltb number 10 h)

one_in : (more number : ℕ) → number < 10 → decimal_in (suc more) number ≡ digit number ∷ []
unfolding decimal_in
one_in more number h = rw (lt-ltb number 10 h)

-- one digit more to go makes no difference to a number that has no such digit
more_in : (more number : ℕ) → number < 10 ^ suc more → decimal_in (suc more) number ≡ decimal_in more number
unfolding decimal_in
more_in zero number h = rw (lt-ltb number 10 h)
more_in (suc more) number h =
    let tens : number / 10 < 10 ^ suc more = omega (arith, pow-suc 10 (suc more)) in
    ap (λ (tens : List ℕ). cond (ltb number 10) (digit number ∷ []) (tens ++ (digit (number % 10) ∷ []))) (more_in more (number / 10) tens)

pub decimal_tens : (number : ℕ) → 10 ≤ number → number < 2 ^ 64 → decimal number ≡ decimal (number / 10) ++ (digit (number % 10) ∷ [])
unfolding decimal
decimal_tens number h small =
    tens_in 18 number h ∙ ap (λ (tens : List ℕ). tens ++ (digit (number % 10) ∷ [])) (sym (more_in 18 (number / 10) (omega arith)))

pub decimal_one : (number : ℕ) → number < 10 → decimal number ≡ digit number ∷ []
unfolding decimal
decimal_one number h = one_in 18 number h

-- at least one digit, and at most one more than `more`
picked_size : (short : Bool) (byte : ℕ) (tens : List ℕ) (last more : ℕ) → length tens ≤ suc more
    → (1 ≤ length (cond short (byte ∷ []) (tens ++ (last ∷ [])))) × (length (cond short (byte ∷ []) (tens ++ (last ∷ []))) ≤ suc (suc more))
picked_size true byte tens last more h = (omega arith, omega arith)
picked_size false byte tens last more h = (omega (arith, length-append tens (last ∷ [])), omega (arith, length-append tens (last ∷ [])))

size_in : (more number : ℕ) → (1 ≤ length (decimal_in more number)) × (length (decimal_in more number) ≤ suc more)
unfolding decimal_in
size_in zero number = (omega arith, omega arith)
size_in (suc more) number = picked_size (ltb number 10) (digit number) (decimal_in more (number / 10)) (digit (number % 10)) more (size_in more (number / 10)).1

pub decimal_size : (number : ℕ) → (1 ≤ length (decimal number)) × (length (decimal number) ≤ 20)
unfolding decimal
decimal_size number = size_in 19 number
