-- Shown: a sound cell with one weight more is sound, and its sum fits 64 bits; what a record counts as has at most the largest value.
-- Why: a sum's size is at most the two sizes together, and no value is beyond 9,999,990,000,000.
use Rattle.std.specs.Prelude.{Result, Ok, Err}
use Prim.Native.Nat.{ℕ, zero, suc, ◌+◌, ◌*◌, ◌≤◌}
use mathlib.Core.Path.{◌≡◌, refl, subst}
use mathlib.Core.Bool.{Bool, true, false, not, cond, ◌&&◌}
use native.Mathlib.Omega.{arith}
use lib.Dec.{eqb}
use lib.IntN.{ℤ, pos, negsuc, neg_ℤ, nat_abs, ◌+ℤ◌, neg_ℤ-neg_ℤ}
use mir.Syntax.{w64}
use mir.Val.{SFits}
use borrow.Author.Tests.{leb-true}
use Rattle.refusal.specs.declared.Refusal.{Refusal}
use Rattle.codes.specs.declared.table.Load.TheVariants.{Gross}
use Rattle.weight.specs.declared.Reading.{Reading}
use Rattle.weight.specs.Tenths.{value_of}
use Rattle.weight.proofs.Sizes.{fits_64}
use Rattle.weight.proofs.Values.{value_bound, abs_less}
use Rattle.records.specs.declared.records.Record.{Record}
use Rattle.records.specs.Records.{kind_of, was_met, good}
use Rattle.records.specs.Weighings.{weight_noted}
use Rattle.hour_cell.specs.declared.cells.Cell.{Cell}
use Rattle.hour_cell.specs.declared.counting.CountsAs.{CountsAs}
use Rattle.hour_cell.specs.declared.counting.CountsAs.TheVariants.{Weight, Met, Nothing}
use Rattle.hour_cell.specs.Cells.{sound}
use Rattle.hour_cell.specs.Counting.{by_value, by_reading, by_noted, counts_as}

abs_neg : (z : ℤ) → nat_abs (neg_ℤ z) ≡ nat_abs z
abs_neg (pos zero) = refl
abs_neg (pos (suc n)) = refl
abs_neg (negsuc n) = refl

pub abs_plus : (a b : ℤ) → nat_abs (a +ℤ b) ≤ nat_abs a + nat_abs b
abs_plus a b =
    let apart : nat_abs (a +ℤ neg_ℤ (neg_ℤ b)) ≤ nat_abs a + nat_abs (neg_ℤ b) = abs_less a (neg_ℤ b) in
    rw (neg_ℤ-neg_ℤ b, abs_neg b) at apart

pub sound_size : (cell : Cell) → sound cell ≡ true → nat_abs cell.sum ≤ cell.weights * 9999990000000
unfolding sound
sound_size cell s = leb-true _ _ s

-- one weight more
module _ (cell : Cell) (tenths : ℤ) (s : sound cell ≡ true) (t : nat_abs tenths ≤ 9999990000000) where
  pub grown_size : nat_abs (cell.sum +ℤ tenths) ≤ (cell.weights + 1) * 9999990000000
  grown_size = omega (arith, abs_plus cell.sum tenths, sound_size cell s)

  pub grown_fits : cell.weights ≤ 65535 → SFits w64 (cell.sum +ℤ tenths)
  grown_fits few = fits_64 _ (omega (arith, grown_size))

-- ---- what a record counts as

-- a weight that counts has at most the largest value
data Small : Result CountsAs Refusal → Type 0 where
  weight : {tenths : ℤ} → nat_abs tenths ≤ 9999990000000 → Small (Ok (Weight tenths))
  met : Small (Ok Met)
  nothing : Small (Ok Nothing)
  refused : {why : Refusal} → Small (Err why)

by_value_lem : (reading : Reading) (value : Result ℤ Refusal) → value_of reading ≡ value → Small (by_value value)
by_value_lem reading (Ok tenths) e = weight (value_bound reading tenths e)
by_value_lem reading (Err why) e = refused

by_test : (test : Bool) (there other : Result CountsAs Refusal) → Small there → Small other → Small (cond test there other)
by_test true there other h k = h
by_test false there other h k = k

by_reading_lem : (kind : ℕ) (reading : Reading) → Small (by_reading kind reading)
unfolding by_reading
by_reading_lem kind reading =
    by_test (eqb kind (kind_of Gross) && reading.settled && not reading.overload) _ _ (by_value_lem reading (value_of reading) refl) nothing

by_noted_lem : (kind : ℕ) (read : Result Reading Refusal) → Small (by_noted kind read)
by_noted_lem kind (Ok reading) = by_reading_lem kind reading
by_noted_lem kind (Err why) = refused

counts_small : (item : Record) → Small (counts_as item)
unfolding counts_as
counts_small item = by_test (good item) _ _ (by_test (was_met item) _ _ met (by_noted_lem item.kind (weight_noted item))) refused

size_in : Result CountsAs Refusal → ℕ
size_in (Ok (Weight tenths)) = nat_abs tenths
size_in (Ok Met) = 0
size_in (Ok Nothing) = 0
size_in (Err why) = 0

small_within : {counts : Result CountsAs Refusal} → Small counts → size_in counts ≤ 9999990000000
unfolding size_in
small_within (weight h) = h
small_within met = omega arith
small_within nothing = omega arith
small_within refused = omega arith

pub counts_size : (item : Record) (tenths : ℤ) → counts_as item ≡ Ok (Weight tenths) → nat_abs tenths ≤ 9999990000000
unfolding size_in
counts_size item tenths e = subst (λ (counts : Result CountsAs Refusal). size_in counts ≤ 9999990000000) e (small_within (counts_small item))
