-- Shown: each promise of this crate admits one answer.
-- Why: each is an equation with a definition; the answer has the table, the number of records and the verdict.
use Prim.Native.Nat.{ℕ}
use mathlib.Core.Path.{◌≡◌}
use mathlib.Core.List.{List}
use Rattle.laws.proofs.OneAnswer.{one}
use Rattle.records.specs.declared.records.Record.{Record}
use Rattle.hour_table.specs.declared.filled.Filled.{Filled}
use Rattle.hour_table.specs.Tables.{Table, empty_table}
use Rattle.hour_table.specs.Filling.{table_in, entered, filled_from}

pub empty_table_one : (a b : Table) → a ≡ empty_table → b ≡ empty_table → a ≡ b
empty_table_one a b = one

pub table_of_one : (filled : Filled) (a b : Table) → a ≡ table_in filled → b ≡ table_in filled → a ≡ b
table_of_one filled a b = one

pub enter_one : (item : Record) (table : Table) (a b : Filled) → a ≡ entered item table → b ≡ entered item table → a ≡ b
enter_one item table a b = one

pub fill_one : (log : List ℕ) (table : Table) (a b : Filled) → a ≡ filled_from log table → b ≡ filled_from log table → a ≡ b
fill_one log table a b = one
