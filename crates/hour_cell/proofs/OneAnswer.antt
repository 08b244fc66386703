-- Shown: each promise of this crate admits one answer.
-- Why: each is an equation with a definition.
use Rattle.std.specs.Prelude.{Result}
use Prim.Native.Nat.{ℕ}
use mathlib.Core.Path.{◌≡◌}
use mathlib.Core.Bool.{Bool}
use lib.IntN.{ℤ, nat_abs}
use Rattle.laws.proofs.OneAnswer.{one}
use Rattle.records.specs.declared.records.Record.{Record}
use Rattle.hour_cell.specs.declared.cells.Cell.{Cell}
use Rattle.hour_cell.specs.declared.slots.Slot.{Slot}
use Rattle.hour_cell.specs.declared.counting.CountsAs.{CountsAs}
use Rattle.hour_cell.specs.Slots.{slot_of}
use Rattle.hour_cell.specs.Cells.{sound, with_weight, with_refused}
use Rattle.hour_cell.specs.Counting.{counts_as}
use Rattle.refusal.specs.declared.Refusal.{Refusal}

pub slot_of_one : (time : ℕ) (a b : Slot) → a ≡ slot_of time → b ≡ slot_of time → a ≡ b
slot_of_one time a b = one

pub size_of_one : (sum : ℤ) (a b : ℕ) → a ≡ nat_abs sum → b ≡ nat_abs sum → a ≡ b
size_of_one sum a b = one

pub is_sound_one : (cell : Cell) (a b : Bool) → a ≡ sound cell → b ≡ sound cell → a ≡ b
is_sound_one cell a b = one

pub counts_as_one : (item : Record) (a b : Result CountsAs Refusal) → a ≡ counts_as item → b ≡ counts_as item → a ≡ b
counts_as_one item a b = one

pub add_weight_one : (tenths : ℤ) (cell : Cell) (a b : Result Cell Refusal) → a ≡ with_weight tenths cell → b ≡ with_weight tenths cell → a ≡ b
add_weight_one tenths cell a b = one

pub add_refused_one : (cell : Cell) (a b : Result Cell Refusal) → a ≡ with_refused cell → b ≡ with_refused cell → a ≡ b
add_refused_one cell a b = one
