-- Shown: only a place of the body's own can make a body pass that fails, and only one place has the power of x that the register ends as.
-- Why: a place that the body does not have leaves it as it is; the powers of x come round every 255 places and no sooner.
use Prim.Native.Nat.{ℕ, zero, suc, ◌/◌, ◌≤◌, ◌<◌}
use mathlib.Core.Path.{◌≡◌, ◌∙◌, refl, sym, ap}
use mathlib.Core.List.{List, [], ◌∷◌, reverse, reverse-reverse}
use mathlib.Core.Logic.{⊎_elim}
use native.Mathlib.Decide.{dec_le}
use native.Mathlib.Nat.{lt_of_not-le, eq-or-lt_of_le}
use native.Mathlib.Omega.{arith}
use lib.ListN.{length, length-reverse, set}
use lib.Bits.{bit_xor, xor_self}
use Rattle.register.proofs.Bits.{xor_zero_eq}
use Rattle.check_byte.specs.Register.{received}
use Rattle.check_misses.specs.Places.{bits_of, turned_over}
use Rattle.check_misses.specs.Powers.{power}
use Rattle.check_misses.specs.Misses.{Passes}
use Rattle.check_misses.proofs.OneOrTwo.{apart}
use Rattle.check_misses.proofs.TurnedOver.{check_turned}

module _ (body : List ℕ) (place : ℕ) (h : place < bits_of body) where
  pub passes_power : Passes (turned_over place body) → received body ≡ power place
  passes_power passes = xor_zero_eq (received body) (power place) (sym (check_turned place body h) ∙ passes)

  pub power_passes : received body ≡ power place → Passes (turned_over place body)
  power_passes ends = check_turned place body h ∙ ap (λ (n : ℕ). bit_xor n (power place)) ends ∙ xor_self (power place)

-- ---- a place that the body does not have

set_outside : (l : List ℕ) (i value : ℕ) → length l ≤ i → set l i value ≡ l
set_outside [] i value h = refl
set_outside (byte ∷ rest) zero value h = absurd (omega (arith, h))
set_outside (byte ∷ rest) (suc i) value h = ap (λ (l : List ℕ). byte ∷ l) (set_outside rest i value (omega (arith, h)))

pub turned_outside : (place : ℕ) (body : List ℕ) → bits_of body ≤ place → turned_over place body ≡ body
unfolding turned_over
turned_outside place body h = ap reverse (set_outside (reverse body) (place / 8) _ (omega (arith, h, length-reverse body))) ∙ reverse-reverse body

-- so in a body that fails only a place of its own can be the bit
pub place_inside : (body : List ℕ) → (Passes body → ⊥) → (place : ℕ) → Passes (turned_over place body) → place < bits_of body
place_inside body fails place passes =
    elim (dec_le (bits_of body) place) [
      | yes outside ↦ absurd (fails (sym (ap received (turned_outside place body outside)) ∙ passes))
      | no inside ↦ lt_of_not-le inside
    ]

-- ---- the first 255 powers

pub powers_differ : (place other : ℕ) → place < 255 → other < 255 → power place ≡ power other → place ≡ other
powers_differ place other h k same =
    elim (dec_le place other) [
      | yes up ↦
          ⊎_elim (λ (e : place ≡ other). e) (λ (l : place < other). let round = apart place other l (sym same) in omega (arith, l, k, round)) (eq-or-lt_of_le up)
      | no down ↦ let l = lt_of_not-le down in let round = apart other place l same in omega (arith, l, h, round)
    ]
