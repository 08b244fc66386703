-- Shown: where the ones of a number lie only among some neighbours, it is a number that fits between them, moved up to the lowest of them.
-- Why: below the lowest and above the highest its bits are zeros, so its parts are those without them.
use Prim.Native.Nat.{ℕ, ◌+◌, ◌-◌, ◌*◌, ◌/◌, ◌%◌, ◌^◌, ◌≤◌, ◌<◌}
use mathlib.Core.Path.{◌≡◌, ◌∙◌, refl, sym, ap, subst}
use mathlib.Core.List.{map, map-id}
use native.Mathlib.Decide.{dec_le}
use native.Mathlib.Nat.{mod-lt, mod-one, mod-eq_of_lt, div-eq_of_lt, lt_of_lt_of_le, lt_of_not-le, add-zero, sub-add_cancel}
use native.Mathlib.Omega.{arith}
use lib.Dec.{T}
use lib.Pow.{split, shr_lt, pow_pos, pow_mono}
use Rattle.register.proofs.Bits.{bit, bit_cases}
use Rattle.check_misses.specs.Places.{among}
use Rattle.check_misses.proofs.Ones.{bit_of, ones, told, among_ones, clear}

-- past its end a number has no ones
pub past_end : (count number place : ℕ) → number < 2 ^ count → count ≤ place → bit_of place number ≡ 0
past_end count number place h l = ap (λ (n : ℕ). n % 2) (div-eq_of_lt (lt_of_lt_of_le h (pow_mono l)))

module _ (order : ℕ → ℕ) (from many count number : ℕ) (h : number < 2 ^ count) (all : T (among from many (map order (ones count number)))) where
  -- a place that is none of the neighbours has no one
  pub quiet : (place : ℕ) → (from ≤ order place → order place < from + many → ⊥) → bit_of place number ≡ 0
  quiet place outside =
      bit_cases (λ (b : ℕ). bit_of place number ≡ b → bit_of place number ≡ 0) (λ e. e)
      (λ one. elim (dec_le count place) [
        | yes l ↦ past_end count number place h l
        | no g ↦
            let bounds = told order from many count number all place (lt_of_not-le g) one in
            absurd (outside bounds.0 bounds.1)
      ])
      (bit_of place number) (bit (number / 2 ^ place)) refl

  -- no ones from a place on
  pub ends_below : (end : ℕ) → ((place : ℕ) → end ≤ place → from ≤ order place → order place < from + many → ⊥) → number < 2 ^ end
  ends_below end outside = elim (dec_le count end) [
    | yes l ↦ lt_of_lt_of_le h (pow_mono l)
    | no g ↦
        let more : count - end + end ≡ count = sub-add_cancel (omega (arith, lt_of_not-le g)) in
        let same : number ≡ number % 2 ^ end =
        sym (mod-eq_of_lt h) ∙ ap (λ (n : ℕ). number % 2 ^ n) (sym more)
        ∙ clear end (count - end) number (λ place l _. quiet place (outside place l)) in
        subst (λ (n : ℕ). n < 2 ^ end) (sym same) (mod-lt number (pow_pos end))
  ]

  -- no ones below a place
  pub starts_at : (start : ℕ) → ((place : ℕ) → place < start → from ≤ order place → order place < from + many → ⊥) → number / 2 ^ start * 2 ^ start ≡ number
  starts_at start outside =
      let none : number % 2 ^ start ≡ 0 =
      ap (λ (n : ℕ). number % 2 ^ n) (sym (add-zero start)) ∙ clear 0 start number (λ place _ l. quiet place (outside place (omega (arith, l)))) ∙ mod-one number in
      sym (add-zero _) ∙ ap (λ (n : ℕ). number / 2 ^ start * 2 ^ start + n) (sym none) ∙ split number start

-- ---- neighbours in the order of the places

abbrev itself : ℕ → ℕ
itself place = place

in_order : (from many count number : ℕ) → T (among from many (ones count number)) → T (among from many (map itself (ones count number)))
in_order from many count number all = rw (map-id (ones count number)) all

-- no ones outside: and back
pub none_outside : (from many count number : ℕ) → number < 2 ^ count → T (among from many (ones count number))
    → (place : ℕ) → (from ≤ place → place < from + many → ⊥) → bit_of place number ≡ 0
none_outside from many count number h all = quiet itself from many count number h (in_order from many count number all)

pub only_inside : (from many count number : ℕ) → ((place : ℕ) → (from ≤ place → place < from + many → ⊥) → bit_of place number ≡ 0)
    → T (among from many (ones count number))
only_inside from many count number none =
    among_ones from many count number
    (λ place _ one. elim (dec_le from place) [
      | yes l ↦ elim (dec_le (from + many) place) [
        | yes past ↦ absurd (omega (arith, one, none place (λ _ g. omega (arith, past, g))))
        | no g ↦ (l, lt_of_not-le g)
      ]
      | no g ↦ absurd (omega (arith, one, none place (λ l _. omega (arith, l, lt_of_not-le g))))
    ])

-- so the number is one that fits between them, moved up
pub record Moved (from many number : ℕ) : Type 0 where
  pub part : ℕ
  pub small : part < 2 ^ many
  pub is : part * 2 ^ from ≡ number

pub moved : (from many count number : ℕ) → number < 2 ^ count → T (among from many (ones count number)) → Moved from many number
moved from many count number h all =
    let same = in_order from many count number all in
    let top : number < 2 ^ (many + from) = ends_below itself from many count number h same (many + from) (λ place l _ g. omega (arith, l, g)) in
    record {
      part = number / 2 ^ from;
      small = shr_lt many from top;
      is = starts_at itself from many count number h same from (λ place l g _. omega (arith, l, g));
    }
