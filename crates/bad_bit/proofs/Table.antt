-- Shown: the table that the code keeps has request 8's powers of x, all 255, each at its place.
-- Why: doubling and folding is a zero that enters the register, computed at each of the 256 registers; so each entry is the next power.
use Prim.Native.Nat.{ℕ, zero, suc, ◌+◌, ◌<◌}
use mathlib.Core.Path.{◌≡◌, ◌∙◌, refl, sym, ap}
use mathlib.Core.Bool.{Bool}
use native.Mathlib.Nat.{add-zero, add-suc, suc-add, zero-add, le_of_suc-le-suc, not-suc-le-zero}
use lib.Dec.{eqb, eqb→eq}
use lib.ListN.{length, get_or}
use Rattle.laws.proofs.Computed.{below}
use Rattle.check_byte.specs.Register.{shift_in}
use Rattle.check_misses.specs.Powers.{power}
use Rattle.check_misses.proofs.Zeros.{power_below}
use Rattle.bad_bit.specs.Table.{doubled_and_folded, entries_from, TableHasPowers}

abbrev same_next : ℕ → Bool
same_next entry = eqb (doubled_and_folded entry) (shift_in entry 0)

next_power : (place : ℕ) → doubled_and_folded (power place) ≡ power (suc place)
unfolding doubled_and_folded shift_in power
next_power place = eqb→eq (doubled_and_folded (power place)) (shift_in (power place) 0) (below same_next 256 tt (power place) (power_below place))

entry_at : (more first place : ℕ) → place < more → get_or (entries_from (power first) more) place 0 ≡ power (first + place)
unfolding entries_from
entry_at zero first place h = absurd (not-suc-le-zero h)
entry_at (suc more) first zero h = ap power (sym (add-zero first))
entry_at (suc more) first (suc place) h =
    ap (λ (entry : ℕ). get_or (entries_from entry more) place 0) (next_power first)
    ∙ entry_at more (suc first) place (le_of_suc-le-suc h)
    ∙ ap power (suc-add first place ∙ sym (add-suc first place))

pub entries_many : (more first : ℕ) → length (entries_from first more) ≡ more
unfolding entries_from
entries_many zero first = refl
entries_many (suc more) first = ap suc (entries_many more (doubled_and_folded first))

pub table_has_powers : TableHasPowers
unfolding power
table_has_powers = record {
  many = entries_many 255 1;
  each = λ place h. entry_at 255 0 place h ∙ ap power (zero-add place);
}
