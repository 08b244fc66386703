-- Shown: each cell of a sound table is sound, a table of sound cells is sound, and it stays so where a sound cell goes in.
-- Why: a table is asked cell by cell, and a replaced cell is asked in the place of the one before it.
use Prim.Native.Nat.{ℕ, zero, suc, ◌*◌, ◌<◌}
use mathlib.Core.Path.{◌≡◌, refl}
use mathlib.Core.Bool.{Bool, true, ◌&&◌, and-eq-true_iff}
use mathlib.Core.List.{List, [], ◌∷◌}
use native.Mathlib.Omega.{arith}
use borrow.Author.Tests.{leb-true}
use lib.IntN.{nat_abs}
use lib.ListN.{length, get_or, set}
use Rattle.std.proofs.lemmas.Grind.{common_steps}
use Rattle.hour_cell.specs.declared.cells.Cell.{Cell}
use Rattle.hour_cell.specs.declared.slots.Slot.{Slot}
use Rattle.hour_cell.specs.Cells.{empty_cell, sound}
use Rattle.hour_table.specs.Tables.{Table, empty_table, cell_at, with_cell, sound_row, sound_table}
use Rattle.demands.specs.Tables.{cell_of}
use Rattle.demands.specs.LentTables.{SevenByTwentyFour, IsBeyond}
use Rattle.demands.proofs.TableCells.{row_length}

-- ---- a sound table has sound cells, and stays sound where a sound one goes in

both : (a b : Bool) → a ≡ true → b ≡ true → (a && b) ≡ true
both a b e f = (and-eq-true_iff a b).1 (e, f)

row_sound : (row : List Cell) (hour : ℕ) → sound_row row ≡ true → sound (get_or row hour empty_cell) ≡ true
unfolding sound_row sound
row_sound [] hour s = refl
row_sound (cell ∷ cells) zero s = ((and-eq-true_iff (sound cell) (sound_row cells)).0 s).0
row_sound (cell ∷ cells) (suc hour) s = row_sound cells hour ((and-eq-true_iff (sound cell) (sound_row cells)).0 s).1

table_row : (table : Table) (weekday : ℕ) → sound_table table ≡ true → sound_row (get_or table weekday []) ≡ true
unfolding sound_table sound_row
table_row [] weekday s = refl
table_row (row ∷ rows) zero s = ((and-eq-true_iff (sound_row row) (sound_table rows)).0 s).0
table_row (row ∷ rows) (suc weekday) s = table_row rows weekday ((and-eq-true_iff (sound_row row) (sound_table rows)).0 s).1

row_stays : (row : List Cell) (hour : ℕ) (cell : Cell) → sound_row row ≡ true → sound cell ≡ true → sound_row (set row hour cell) ≡ true
unfolding sound_row
row_stays [] hour cell s c = refl
row_stays (first ∷ cells) zero cell s c = grind (arith, common_steps, both)
row_stays (first ∷ cells) (suc hour) cell s c =
    let (here, more) = (and-eq-true_iff (sound first) (sound_row cells)).0 s in
    both (sound first) (sound_row (set cells hour cell)) here (row_stays cells hour cell more c)

table_stays : (table : Table) (weekday : ℕ) (row : List Cell) → sound_table table ≡ true → sound_row row ≡ true → sound_table (set table weekday row) ≡ true
unfolding sound_table
table_stays [] weekday row s r = refl
table_stays (first ∷ rows) zero row s r = grind (arith, common_steps, both)
table_stays (first ∷ rows) (suc weekday) row s r =
    let (here, more) = (and-eq-true_iff (sound_row first) (sound_table rows)).0 s in
    both (sound_row first) (sound_table (set rows weekday row)) here (table_stays rows weekday row more r)

-- each cell of a sound table is sound, also where there is none
pub cell_sound : (table : Table) (slot : Slot) → sound_table table ≡ true → sound (cell_at table slot) ≡ true
cell_sound table slot s = grind (arith, common_steps, row_sound, table_row)

pub with_cell_sound : (table : Table) (slot : Slot) (cell : Cell) → sound_table table ≡ true → sound cell ≡ true → sound_table (with_cell table slot cell) ≡ true
with_cell_sound table slot cell s c = grind (arith, common_steps, row_stays, table_row, table_stays)

pub empty_is_sound : sound_table empty_table ≡ true
unfolding empty_table sound_table sound_row sound
empty_is_sound = refl

-- ---- a table whose cells are sound is sound

all_of_row : (row : List Cell) → ((hour : ℕ) → hour < length row → sound (get_or row hour empty_cell) ≡ true) → sound_row row ≡ true
unfolding sound_row
all_of_row [] each = refl
all_of_row (cell ∷ cells) each =
    both (sound cell) (sound_row cells) (each 0 (omega arith)) (all_of_row cells (λ (hour : ℕ) (there : hour < length cells). each (suc hour) (omega arith)))

all_of_rows : (table : Table) → ((weekday : ℕ) → weekday < length table → sound_row (get_or table weekday []) ≡ true) → sound_table table ≡ true
unfolding sound_table
all_of_rows [] each = refl
all_of_rows (row ∷ rows) each =
    both (sound_row row) (sound_table rows) (each 0 (omega arith)) (all_of_rows rows (λ (weekday : ℕ) (there : weekday < length rows). each (suc weekday) (omega arith)))

pub all_sound : (table : Table) → SevenByTwentyFour table → ((weekday hour : ℕ) → weekday < 7 → hour < 24 → sound (cell_of table weekday hour) ≡ true) → sound_table table ≡ true
all_sound table seven each = grind (arith, common_steps, all_of_row, all_of_rows, row_length)

-- ---- 31 is the cell that is not sound

pub beyond_unsound : (cell : Cell) → IsBeyond cell → sound cell ≡ true → ⊥
unfolding sound
beyond_unsound cell far s = omega (arith, leb-true (nat_abs cell.sum) (cell.weights * 9999990000000) s)

pub not_beyond_sound : (cell : Cell) → (IsBeyond cell → ⊥) → sound cell ≡ true
unfolding sound
not_beyond_sound cell near = grind (arith, common_steps)
