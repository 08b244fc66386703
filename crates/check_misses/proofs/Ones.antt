-- Shown: the places of a number's ones, the highest first: they add up to the number, go down, and tell where it has no ones.
-- Why: by induction from the highest place down; a number's low part below a place is the bit at the place beneath, and what is below that.
use Prim.Native.Nat.{ℕ, zero, suc, ◌+◌, ◌*◌, ◌/◌, ◌%◌, ◌^◌, ◌≤◌, ◌<◌}
use mathlib.Core.Path.{◌≡◌, ◌∙◌, refl, sym, ap}
use mathlib.Core.Bool.{Bool, true, false, cond}
use mathlib.Core.List.{List, [], ◌∷◌, map}
use mathlib.Core.Logic.{◌⊎◌, ⊎_elim}
use native.Mathlib.Nat.{mod-one, zero-mul, one-mul, zero-add, suc-add, le_of_suc-le-suc, eq-or-lt_of_le}
use native.Mathlib.Numerals.{one-add}
use native.Mathlib.Omega.{arith}
use mir.Facts.{and_yes, yes_and}
use borrow.Author.Tests.{eqb-true, eqb-false}
use lib.Dec.{T, leb, ltb, eqb, leb→le, ltb→lt, le→leb, lt→ltb}
use lib.Pow.{mod-pow-add}
use Rattle.register.proofs.Bits.{bit, bit_cases}
use Rattle.check_misses.specs.Places.{among}

-- the bit of a number at a place
abbrev pub bit_of : ℕ → ℕ → ℕ
bit_of place number = number / 2 ^ place % 2

unfoldable pub ones : ℕ → ℕ → List ℕ
ones zero number = []
ones (suc place) number = cond (eqb (bit_of place number) 0) (ones place number) (place ∷ ones place number)

-- what is below the next place is the bit at this one, and what is below it
pub next_part : (place number : ℕ) → number % 2 ^ suc place ≡ bit_of place number * 2 ^ place + number % 2 ^ place
next_part place number = ap (λ (n : ℕ). number % 2 ^ n) (sym (one-add place)) ∙ mod-pow-add number 1 place

zero_bit : (place number : ℕ) → bit_of place number ≡ 0 → number % 2 ^ suc place ≡ number % 2 ^ place
zero_bit place number none = rw (next_part place number, none, zero-mul (2 ^ place), zero-add (number % 2 ^ place))

one_bit : (place number : ℕ) → (bit_of place number ≡ 0 → ⊥) → bit_of place number ≡ 1
one_bit place number some = bit_cases (λ (b : ℕ). (b ≡ 0 → ⊥) → b ≡ 1) (λ no. absurd (no refl)) (λ _. refl) (bit_of place number) (bit (number / 2 ^ place)) some

-- by the bit at a place: it is 0, or it is 1
by_bit : (P : List ℕ → Type 0) (place number : ℕ) (places : List ℕ) → (bit_of place number ≡ 0 → P places) → (bit_of place number ≡ 1 → P (place ∷ places))
    → P (cond (eqb (bit_of place number) 0) places (place ∷ places))
by_bit P place number places none some = by (eqb (bit_of place number) 0) refl
  where
    by : (test : Bool) → eqb (bit_of place number) 0 ≡ test → P (cond test places (place ∷ places))
    by true e = none (eqb-true _ _ e)
    by false e = some (one_bit place number (eqb-false _ _ e))

-- ---- they add up to the number's part

unfoldable pub sum_of : List ℕ → ℕ
sum_of [] = 0
sum_of (place ∷ places) = 2 ^ place + sum_of places

pub sum_ones : (count number : ℕ) → sum_of (ones count number) ≡ number % 2 ^ count
unfolding ones sum_of
sum_ones zero number = sym (mod-one number)
sum_ones (suc place) number =
    let sooner = sum_ones place number in
    by_bit (λ (places : List ℕ). sum_of places ≡ number % 2 ^ suc place) place number (ones place number)
    (λ none. sooner ∙ sym (zero_bit place number none))
    (λ some. rw (next_part place number, some, one-mul) (ap (λ (n : ℕ). 2 ^ place + n) sooner))

-- ---- they go down from below the count

abbrev pub Falling : ℕ → List ℕ → Type 0
Falling below [] = Unit {0}
Falling below (place ∷ places) = (place < below) × Falling place places

wider : (below : ℕ) (places : List ℕ) → Falling below places → Falling (suc below) places
wider below [] falls = tt
wider below (place ∷ places) falls = (omega (arith, falls.0), falls.1)

pub ones_fall : (count number : ℕ) → Falling count (ones count number)
unfolding ones
ones_fall zero number = tt
ones_fall (suc place) number =
    let sooner = ones_fall place number in
    by_bit (Falling (suc place)) place number (ones place number) (λ _. wider place (ones place number) sooner) (λ _. (omega arith, sooner))

-- ---- what is told of each of them

-- each is among so many neighbours, by some order of the places: so is every place of a one
pub told : (order : ℕ → ℕ) (from many count number : ℕ) → T (among from many (map order (ones count number)))
    → (place : ℕ) → place < count → bit_of place number ≡ 1 → (from ≤ order place) × (order place < from + many)
unfolding ones among
told order from many zero number all place h one = absurd (omega (arith, h))
told order from many (suc last) number all place h one =
    let sooner : T (among from many (map order (ones last number))) → place < last → (from ≤ order place) × (order place < from + many) =
    λ all l. told order from many last number all place l one in
    let which : (place ≡ last) ⊎ (place < last) = eq-or-lt_of_le (le_of_suc-le-suc h) in
    by_bit (λ (places : List ℕ). T (among from many (map order places)) → (from ≤ order place) × (order place < from + many)) last number (ones last number)
    (λ none all. ⊎_elim (λ (e : place ≡ last). absurd (omega (arith, one, ap (λ (n : ℕ). bit_of n number) e, none))) (sooner all) which)
    (λ some all.
    let parts = and_yes (leb from (order last)) _ all in
    let rest = and_yes (ltb (order last) (from + many)) _ parts.1 in
    ⊎_elim (λ (e : place ≡ last). rw e (leb→le from (order last) parts.0, ltb→lt (order last) (from + many) rest.0)) (sooner rest.1) which)
    all

-- and back
pub among_ones : (from many count number : ℕ) → ((place : ℕ) → place < count → bit_of place number ≡ 1 → (from ≤ place) × (place < from + many))
    → T (among from many (ones count number))
unfolding ones among
among_ones from many zero number each = tt
among_ones from many (suc last) number each =
    let sooner = among_ones from many last number (λ place h. each place (omega (arith, h))) in
    by_bit (λ (places : List ℕ). T (among from many places)) last number (ones last number) (λ _. sooner)
    (λ some.
    let bounds = each last (omega arith) some in
    yes_and (leb from last) _ (le→leb _ _ bounds.0) (yes_and (ltb last (from + many)) _ (lt→ltb _ _ bounds.1) sooner))

-- ---- where there are no ones

-- no ones from a place up to another: the parts below the two are the same
pub clear : (from more number : ℕ) → ((place : ℕ) → from ≤ place → place < more + from → bit_of place number ≡ 0) → number % 2 ^ (more + from) ≡ number % 2 ^ from
clear from zero number none = ap (λ (n : ℕ). number % 2 ^ n) (zero-add from)
clear from (suc more) number none =
    let next : suc more + from ≡ suc (more + from) = suc-add more from in
    ap (λ (n : ℕ). number % 2 ^ n) next
    ∙ zero_bit (more + from) number (none (more + from) (omega arith) (omega arith))
    ∙ clear from more number (λ place l h. none place l (omega (arith, h)))
