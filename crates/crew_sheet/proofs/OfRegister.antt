-- Shown: each register but 0 is one of the first 255 powers of x.
-- Why: looked for in the table, each of the 255 is there: computed.
use Prim.Native.Nat.{ℕ, zero, suc, ◌<◌}
use mathlib.Core.Path.{◌≡◌, ◌∙◌, refl, sym}
use mathlib.Core.Bool.{Bool, cond, ◌&&◌}
use mathlib.Core.List.{List, [], ◌∷◌}
use native.Mathlib.Omega.{arith}
use mir.Facts.{and_yes}
use lib.Dec.{ltb, eqb, eqb→eq, ltb→lt}
use lib.ListN.{get_or}
use Rattle.laws.proofs.Computed.{below}
use Rattle.check_misses.specs.Powers.{power}
use Rattle.bad_bit.specs.Table.{doubled_and_folded, entries_from, powers_kept}
use Rattle.bad_bit.proofs.Table.{table_has_powers}

-- where a number stands in a list
place_in : List ℕ → ℕ → ℕ
place_in [] number = 0
place_in (entry ∷ entries) number = cond (eqb entry number) 0 (suc (place_in entries number))

abbrev is_kept : ℕ → Bool
is_kept register = ltb (place_in powers_kept (suc register)) 255 && eqb (get_or powers_kept (place_in powers_kept (suc register)) 0) (suc register)

pub record OfPower (register : ℕ) : Type 0 where
  pub place : ℕ
  pub below : place < 255
  pub is : register ≡ power place

pub of_power : (register : ℕ) → register < 256 → (register ≡ 0 → ⊥) → OfPower register
unfolding entries_from doubled_and_folded place_in
of_power zero h some = absurd (some refl)
of_power (suc register) h some =
    let place = place_in powers_kept (suc register) in
    let kept = and_yes (ltb place 255) _ (below is_kept 255 tt register (omega (arith, h))) in
    let few = ltb→lt place 255 kept.0 in
    record { place = place; below = few; is = sym (eqb→eq _ (suc register) kept.1) ∙ table_has_powers.each place few }
