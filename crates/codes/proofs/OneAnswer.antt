-- Shown: each promise of this crate admits one answer.
-- Why: each is an equation with a definition.
use Rattle.std.specs.Prelude.{Option}
use Prim.Native.Nat.{ℕ}
use mathlib.Core.Path.{◌≡◌}
use mathlib.Core.Bool.{Bool}
use mathlib.Core.List.{List}
use Rattle.laws.proofs.OneAnswer.{one}
use Rattle.codes.specs.declared.table.Num.{Num}
use Rattle.codes.specs.declared.table.Role.{Role}
use Rattle.codes.specs.declared.table.Row.{Row}
use Rattle.codes.specs.Lengths.{length_of, length_right}
use Rattle.codes.specs.Table.{row_of, in_table, among}

pub row_of_one : (role : Role) (code : ℕ) (a b : Option Row) → a ≡ row_of role code → b ≡ row_of role code → a ≡ b
row_of_one role code a b = one

pub in_table_one : (row : Option Row) (a b : Bool) → a ≡ in_table row → b ≡ in_table row → a ≡ b
in_table_one row a b = one

pub length_right_one : (row : Option Row) (data' : List ℕ) (a b : Bool) → a ≡ length_right (length_of row) data' → b ≡ length_right (length_of row) data' → a ≡ b
length_right_one row data' a b = one

pub is_among_one : (numbers : Num) (number : ℕ) (a b : Bool) → a ≡ among numbers number → b ≡ among numbers number → a ≡ b
is_among_one numbers number a b = one
