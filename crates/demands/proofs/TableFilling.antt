-- Shown: after records went into a table one behind the other, each cell holds what it held and what was counted by hand in those that went in.
-- Why: one record changes the cell of its time alone, by what its fields say; the rest is by induction over the records.
use Rattle.std.specs.Prelude.{Result, Ok, Err}
use Prim.Native.Nat.{ℕ, suc, ◌+◌, ◌≤◌}
use mathlib.Core.Path.{◌≡◌, refl}
use mathlib.Core.Bool.{Bool, true, false}
use mathlib.Core.List.{List, [], ◌∷◌}
use native.Mathlib.Omega.{arith}
use lib.IntN.{◌+ℤ◌}
use lib.ListN.{length, take}
use Rattle.std.proofs.lemmas.Grind.{common_steps}
use Rattle.refusal.specs.declared.Refusal.{Refusal}
use Rattle.records.specs.declared.records.Record.{Record}
use Rattle.hour_cell.specs.declared.cells.Cell.{Cell}
use Rattle.hour_cell.specs.Slots.{slot_of}
use Rattle.hour_table.specs.declared.filled.Filled.{Filled}
use Rattle.hour_table.specs.Tables.{Table, cell_at, with_cell, sound_table}
use Rattle.hour_table.specs.Filling.{stays, replaced_by, put, followed, poured}
use Rattle.demands.specs.Tables.{falls, how_many, sum_of, cell_of}
use Rattle.demands.specs.LentTables.{Holds, SevenByTwentyFour}
use Rattle.demands.proofs.TableCells.{There, with_cell_seven, replaced}
use Rattle.demands.proofs.TableSound.{cell_sound, with_cell_sound}
use Rattle.demands.proofs.TableCounts.{added, StaysFew, few_same, Grown, grown}

-- ---- counted by hand, one record ahead of others

pub many_then : (such : Record → Bool) (item : Record) (items : List Record) → how_many such (item ∷ items) ≡ how_many such (item ∷ []) + how_many such items
unfolding how_many
many_then such item items = grind (arith, common_steps)

sum_then : (such : Record → Bool) (item : Record) (items : List Record) → sum_of such (item ∷ items) ≡ sum_of such (item ∷ []) +ℤ sum_of such items
unfolding sum_of
sum_then such item items = grind (arith, common_steps)

module _ (weekday hour : ℕ) where
  pub holds_nothing : (cell : Cell) → Holds weekday hour cell [] cell
  unfolding how_many sum_of
  holds_nothing cell = grind (arith, common_steps)

  holds_then : (item : Record) (items : List Record) (first second third : Cell) → Holds weekday hour first (item ∷ []) second → Holds weekday hour second items third
      → Holds weekday hour first (item ∷ items) third
  holds_then item items first second third one rest = grind (arith, common_steps, many_then, sum_then)

  -- a record of that weekday and hour, in the cell that it went into; any other adds nothing
  holds_one : (item : Record) (before after : Cell) → falls weekday hour item ≡ true → Grown item before after → Holds weekday hour before (item ∷ []) after
  unfolding how_many sum_of
  holds_one item before after here more = grind (arith, common_steps)

  holds_none : (item : Record) (cell : Cell) → falls weekday hour item ≡ false → Holds weekday hour cell (item ∷ []) cell
  unfolding how_many sum_of
  holds_none item cell elsewhere = grind (arith, common_steps)

-- ---- one record into a table

-- the cell of its time, and the table with that cell replaced
abbrev pub cell_for : Record → Table → Cell
cell_for item table = cell_at table (slot_of item.time)

abbrev pub next : Record → Table → Cell → Table
next item table cell = with_cell table (slot_of item.time) cell

-- what counts for nothing replaces a cell by itself
put_added : (item : Record) (table : Table) → put item table ≡ replaced_by (added item (cell_for item table)) (slot_of item.time) table
unfolding put added
put_added item table = grind (arith, common_steps)

pub slot_there : (time : ℕ) → There (slot_of time)
unfolding slot_of
slot_there time = record { weekday = omega arith; hour = omega arith }

-- the cell of its own time is its cell
pub falls_own : (item : Record) → falls (slot_of item.time).weekday (slot_of item.time).hour item ≡ true
unfolding slot_of
falls_own item = grind (arith, common_steps)

own_slot : (item : Record) (weekday hour : ℕ) → falls weekday hour item ≡ true → slot_of item.time ≡ record { weekday = weekday; hour = hour }
unfolding slot_of
own_slot item weekday hour here = grind (arith, common_steps)

module _ (item : Record) (table : Table) (after : Cell) (went : added item (cell_for item table) ≡ Ok after) where
  pub grew : Grown item (cell_for item table) after
  grew = grown item (cell_for item table) after went

  -- also in a table of other rows
  pub next_sound : sound_table table ≡ true → sound_table (next item table after) ≡ true
  next_sound s = grind (arith, common_steps, cell_sound, grew, with_cell_sound)

module _ (item : Record) (table : Table) (seven : SevenByTwentyFour table) (after : Cell) where
  pub next_seven : SevenByTwentyFour (next item table after)
  next_seven = with_cell_seven table seven (slot_of item.time) (slot_there item.time) after

  own_cell : (weekday hour : ℕ) → falls weekday hour item ≡ true → cell_of (next item table after) weekday hour ≡ after
  own_cell weekday hour here = grind (arith, common_steps, own_slot, replaced)

  other_cell : (weekday hour : ℕ) → falls weekday hour item ≡ false → cell_of (next item table after) weekday hour ≡ cell_of table weekday hour
  unfolding slot_of
  other_cell weekday hour here = grind (arith, common_steps)

  -- so each cell is either the one it went into, or as it was
  at_each : (R : Cell → Cell → Type 0) (weekday hour : ℕ) → (falls weekday hour item ≡ true → R (cell_for item table) after)
      → (falls weekday hour item ≡ false → R (cell_of table weekday hour) (cell_of table weekday hour)) → R (cell_of table weekday hour) (cell_of (next item table after) weekday hour)
  at_each R weekday hour own other = grind (arith, common_steps, other_cell, own_cell, own_slot)

  module _ (went : added item (cell_for item table) ≡ Ok after) (weekday hour : ℕ) where
    pub one_in : Holds weekday hour (cell_of table weekday hour) (item ∷ []) (cell_of (next item table after) weekday hour)
    one_in =
        at_each (λ (before behind : Cell). Holds weekday hour before (item ∷ []) behind) weekday hour
        (λ here. holds_one weekday hour item (cell_for item table) after here (grew item table after went)) (holds_none weekday hour item (cell_of table weekday hour))

    one_few : StaysFew (cell_of table weekday hour) (cell_of (next item table after) weekday hour)
    one_few = at_each StaysFew weekday hour (λ _. (grew item table after went).few) (λ _. few_same (cell_of table weekday hour))

-- ---- records one behind the other

-- what `poured` does, step by step
pub data Poured (ending : Result (Unit {0}) Refusal) : List Record → Table → Filled → Type 0 where
  ends : {table : Table} → Poured ending [] table (record { table = table; records = 0; verdict = ending })
  stops : {item : Record} {items : List Record} {table : Table} {why : Refusal} → added item (cell_for item table) ≡ Err why
      → Poured ending (item ∷ items) table (stays table why)
  goes : {item : Record} {items : List Record} {table : Table} {after : Cell} {rest : Filled} → added item (cell_for item table) ≡ Ok after
      → Poured ending items (next item table after) rest
      → Poured ending (item ∷ items) table (record { table = rest.table; records = suc rest.records; verdict = rest.verdict })

pub pours : (items : List Record) (ending : Result (Unit {0}) Refusal) (table : Table) → Poured ending items table (poured items ending table)
unfolding poured
pours [] ending table = ends
pours (item ∷ items) ending table = rw (put_added item table) (by_added (added item (cell_for item table)) refl (pours items ending))
  where
    by_added : (made : Result Cell Refusal) → added item (cell_for item table) ≡ made → ((next : Table) → Poured ending items next (poured items ending next))
        → Poured ending (item ∷ items) table
        (followed (replaced_by made (slot_of item.time) table).verdict (replaced_by made (slot_of item.time) table) (poured items ending (replaced_by made (slot_of item.time) table).table))
    by_added (Ok after) e behind =
        let one : 1 + (poured items ending (next item table after)).records ≡ suc (poured items ending (next item table after)).records = omega arith in
        rw one (goes e (behind (next item table after)))
    by_added (Err why) e behind = stops e

-- one record is a list of one
pub put_alone : (item : Record) (table : Table) → put item table ≡ poured (item ∷ []) (Ok tt) table
unfolding poured
put_alone item table = grind (arith, common_steps)

pub poured_seven : {ending : Result (Unit {0}) Refusal} {items : List Record} {table : Table} {filled : Filled} → Poured ending items table filled
    → SevenByTwentyFour table → SevenByTwentyFour filled.table
poured_seven ends seven = seven
poured_seven (stops e) seven = seven
poured_seven (goes {item} {table = table} {after = after} e more) seven = poured_seven more (next_seven item table seven after)

-- each cell holds what it held and what was counted in the records that went in
pub poured_holds : {ending : Result (Unit {0}) Refusal} {items : List Record} {table : Table} {filled : Filled} → Poured ending items table filled → SevenByTwentyFour table → (weekday hour : ℕ)
    → Holds weekday hour (cell_of table weekday hour) (take filled.records items) (cell_of filled.table weekday hour)
poured_holds (ends {table}) seven weekday hour = holds_nothing weekday hour (cell_of table weekday hour)
poured_holds (stops {table = table} e) seven weekday hour = holds_nothing weekday hour (cell_of table weekday hour)
poured_holds (goes {item} {items} {table} {after} {rest} e more) seven weekday hour =
    holds_then weekday hour item (take rest.records items) (cell_of table weekday hour) _ (cell_of rest.table weekday hour) (one_in item table seven after e weekday hour)
    (poured_holds more (next_seven item table seven after) weekday hour)

-- one record leaves every cell as it was but its own
pub alone_elsewhere : {item : Record} {table : Table} {filled : Filled} → Poured (Ok tt) (item ∷ []) table filled → SevenByTwentyFour table → (weekday hour : ℕ)
    → falls weekday hour item ≡ false → cell_of filled.table weekday hour ≡ cell_of table weekday hour
alone_elsewhere (stops e) seven weekday hour elsewhere = refl
alone_elsewhere (goes {item} {table = table} {after = after} e ends) seven weekday hour elsewhere = other_cell item table seven after weekday hour elsewhere

pub poured_below : {ending : Result (Unit {0}) Refusal} {items : List Record} {table : Table} {filled : Filled} → Poured ending items table filled → SevenByTwentyFour table → (weekday hour : ℕ)
    → StaysFew (cell_of table weekday hour) (cell_of filled.table weekday hour)
poured_below (ends {table}) seven weekday hour = few_same (cell_of table weekday hour)
poured_below (stops {table = table} e) seven weekday hour = few_same (cell_of table weekday hour)
poured_below (goes {item} {table = table} {after = after} e more) seven weekday hour =
    let one = one_few item table seven after e weekday hour in
    let rest = poured_below more (next_seven item table seven after) weekday hour in
    record { weights = λ few. rest.weights (one.weights few); refused = λ few. rest.refused (one.refused few) }

pub poured_few : {ending : Result (Unit {0}) Refusal} {items : List Record} {table : Table} {filled : Filled} → Poured ending items table filled → filled.records ≤ length items
poured_few ends = omega arith
poured_few (stops e) = omega arith
poured_few (goes e more) = omega (arith, poured_few more)

-- the table is the one that the records which went in make by themselves
pub poured_again : {ending : Result (Unit {0}) Refusal} {items : List Record} {table : Table} {filled : Filled} → Poured ending items table filled
    → poured (take filled.records items) (Ok tt) table ≡ record { table = filled.table; records = filled.records; verdict = Ok tt }
unfolding poured
poured_again ends = refl
poured_again (stops e) = refl
poured_again (goes {item} {table = table} {rest = rest} e more) = grind (arith, common_steps, put_added, poured_again more)
