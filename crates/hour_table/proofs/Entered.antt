-- Shown: a record counts as one that went in exactly if it is not refused.
-- Why: what it counts as, and the cell that it is added to, tell both at once.
use Rattle.std.proofs.Common.{◌≡◌, refl, sym, Result, Ok, Err}
use Rattle.records.specs.declared.records.Record.{Record}
use Rattle.refusal.specs.declared.Refusal.{Refusal}
use Rattle.hour_cell.specs.declared.cells.Cell.{Cell}
use Rattle.hour_cell.specs.declared.counting.CountsAs.{CountsAs}
use Rattle.hour_cell.specs.declared.counting.CountsAs.TheVariants.{Weight, Met, Nothing}
use Rattle.hour_cell.specs.declared.slots.Slot.{Slot}
use Rattle.hour_cell.specs.Slots.{slot_of}
use Rattle.hour_cell.specs.Cells.{with_weight, with_refused}
use Rattle.hour_cell.specs.Counting.{counts_as}
use Rattle.hour_table.specs.declared.filled.Filled.{Filled}
use Rattle.hour_table.specs.Tables.{Table, cell_at}
use Rattle.hour_table.specs.Filling.{gone_in, replaced_by, put_as, put}

abbrev Counted : Filled → Type 0
Counted filled = filled.records ≡ gone_in filled.verdict

by_cell : (added : Result Cell Refusal) (slot : Slot) (cells : Table) → Counted (replaced_by added slot cells)
by_cell (Ok cell) slot cells = refl
by_cell (Err why) slot cells = refl

by_kind : (counts : Result CountsAs Refusal) (slot : Slot) (cells : Table) → Counted (put_as counts slot cells)
by_kind (Ok (Weight tenths)) slot cells = by_cell (with_weight tenths (cell_at cells slot)) slot cells
by_kind (Ok Met) slot cells = by_cell (with_refused (cell_at cells slot)) slot cells
by_kind (Ok Nothing) slot cells = refl
by_kind (Err why) slot cells = refl

pub went_in : (item : Record) (cells : Table) → (put item cells).records ≡ gone_in (put item cells).verdict
unfolding put
went_in item cells = by_kind (counts_as item) (slot_of item.time) cells

-- the table, the count and the verdict of a record that was tried are all of it
pub put_whole : (item : Record) (cells : Table)
    → ◌≡◌ {A = Filled} (record { table = (put item cells).table; records = gone_in (put item cells).verdict; verdict = (put item cells).verdict }) (put item cells)
put_whole item cells = let whole = put item cells in λ i. record { table = whole.table; records = sym (went_in item cells) i; verdict = whole.verdict }
