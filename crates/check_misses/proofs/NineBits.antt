-- Shown: of the differences inside nine neighbouring bits the polynomial's is missed, and no other.
-- Why: moved down, a difference is one of 512 numbers; only 0 and 169h feed to 0, computed.
use Prim.Native.Nat.{ℕ, ◌+◌, ◌*◌, ◌^◌, ◌<◌}
use mathlib.Core.Path.{◌≡◌, ◌∙◌, refl, sym, ap, subst}
use mathlib.Core.Bool.{Bool, not, ◌||◌}
use mathlib.Core.List.{List, [], ◌∷◌, map}
use mathlib.Core.Logic.{◌⊎◌, ⊎_elim, inl, inr}
use native.Mathlib.Nat.{add-zero, mod-eq_of_lt}
use native.Mathlib.Omega.{arith}
use mir.Facts.{or_yes}
use lib.Dec.{T, eqb, eqb→eq, lit<}
use lib.Pow.{pow-add, pow_pos}
use Rattle.laws.proofs.Computed.{below}
use Rattle.register.proofs.Bits.{xor_zero_eq}
use Rattle.check_byte.specs.Register.{shift_in, feed_bits, received}
use Rattle.check_misses.specs.Places.{bits_of}
use Rattle.check_misses.specs.Misses.{EquallyLong, under_ones, ByPolynomial, NineNeighbours}
use Rattle.check_misses.proofs.Ones.{ones, sum_of, sum_ones}
use Rattle.check_misses.proofs.MovedUp.{ones_in, ones_moved}
use Rattle.check_misses.proofs.Zeros.{zeros_of_zero}
use Rattle.check_misses.proofs.Bursts.{in_room}
use Rattle.check_misses.proofs.Numbers.{between, between_below, differing_ones, findings}
use Rattle.check_misses.proofs.Neighbours.{window, window_passes, no_part}

-- the numbers of nine bits that feed to 0
abbrev only169 : ℕ → Bool
only169 number = not (eqb (feed_bits 9 0 number) 0) || (eqb number 0 || eqb number 0x169)

either : (number : ℕ) → number < 512 → feed_bits 9 0 number ≡ 0 → (number ≡ 0) ⊎ (number ≡ 0x169)
unfolding feed_bits shift_in
either number h none =
    let passed = below only169 512 tt number h in
    ⊎_elim (λ (e : T (eqb number 0)). inl (eqb→eq number 0 e)) (λ (e : T (eqb number 0x169)). inr (eqb→eq number 0x169 e))
    (or_yes (eqb number 0) (eqb number 0x169) (rw none at passed))

polynomial_fed : feed_bits 9 0 0x169 ≡ 0
unfolding feed_bits shift_in
polynomial_fed = refl

-- the polynomial's ones, moved up
ones_of_169 : (from : ℕ) → map (λ (n : ℕ). from + n) (ones 9 0x169) ≡ under_ones from
unfolding ones
ones_of_169 from = ap (λ (n : ℕ). (from + 8) ∷ (from + 6) ∷ (from + 5) ∷ (from + 3) ∷ n ∷ []) (add-zero from)

sum_of_169 : (from : ℕ) → sum_of (under_ones from) ≡ 0x169 * 2 ^ from
unfolding sum_of
sum_of_169 from = omega (arith, pow-add 2 from 8, pow-add 2 from 6, pow-add 2 from 5, pow-add 2 from 3)

module _ (first second : List ℕ) (alike : EquallyLong first second) where
  -- what differs by the polynomial feeds to the same
  by_polynomial : ByPolynomial first second → received first ≡ received second
  by_polynomial by =
      let from = by.from in
      let number : between first second ≡ 0x169 * 2 ^ from =
      sym (mod-eq_of_lt (between_below first second alike)) ∙ sym (sum_ones (bits_of first) (between first second))
      ∙ ap sum_of (sym (differing_ones first second alike (bits_of first)) ∙ by.differ) ∙ sum_of_169 from in
      xor_zero_eq (received first) (received second)
      (findings first second alike ∙ ap (feed_bits (bits_of first) 0) number
      ∙ in_room (bits_of first) from 9 0x169 (subst (λ (n : ℕ). n < 2 ^ bits_of first) number (between_below first second alike)) (lit< tt)
      ∙ ap (λ (n : ℕ). feed_bits from n 0) polynomial_fed ∙ zeros_of_zero from)

  -- and a number that is the polynomial moved up has its ones there
  as_polynomial : (from : ℕ) → 0x169 * 2 ^ from ≡ between first second → ByPolynomial first second
  as_polynomial from is = record {
    from = from;
    differ =
        differing_ones first second alike (bits_of first) ∙ ap (ones (bits_of first)) (sym is)
        ∙ ones_in (bits_of first) (from + 9) (0x169 * 2 ^ from) (subst (λ (n : ℕ). n < 2 ^ bits_of first) (sym is) (between_below first second alike))
        (omega (arith, pow-add 2 from 9, pow_pos from))
        ∙ ones_moved from 0x169 9 ∙ ones_of_169 from;
  }

pub nine_neighbours : NineNeighbours
nine_neighbours first second alike = record {
  missed = λ by p. sym (by_polynomial first second alike by) ∙ p;
  no_other = λ other only p q.
      let w = window first second alike only.from 9 only.inside in
      ⊎_elim (λ (none : w.part ≡ 0). absurd (other (no_part first second alike only.from 9 w none)))
      (λ (is : w.part ≡ 0x169). as_polynomial first second alike only.from (ap (λ (n : ℕ). n * 2 ^ only.from) (sym is) ∙ w.is))
      (either w.part w.small (window_passes first second alike only.from 9 w p q));
}
