-- Shown: records leave a sound table sound and never meet 31; all go in while no count passes 65,535; only 23 stops good ones, where a count would pass.
-- Why: a record is stopped only in the cell of its time, and there a full count is what the cell held and what was counted by hand.
use Rattle.std.specs.Prelude.{Result, Ok, Err}
use Prim.Native.Nat.{ℕ, suc, ◌+◌, ◌<◌}
use mathlib.Core.Path.{◌≡◌, refl, ap}
use mathlib.Core.Bool.{true}
use mathlib.Core.List.{List, [], ◌∷◌}
use native.Mathlib.Omega.{arith}
use lib.ListN.{length, take}
use Rattle.std.proofs.lemmas.Grind.{common_steps}
use Rattle.refusal.specs.declared.Refusal.{Refusal}
use Rattle.refusal.specs.declared.Refusal.TheVariants.{CountFull, SumBeyond}
use Rattle.records.specs.declared.records.Record.{Record}
use Rattle.records.specs.Records.{good}
use Rattle.hour_cell.specs.declared.cells.Cell.{Cell}
use Rattle.hour_cell.specs.Cells.{sound}
use Rattle.hour_cell.specs.Slots.{slot_of}
use Rattle.hour_table.specs.declared.filled.Filled.{Filled}
use Rattle.hour_table.specs.Tables.{Table, sound_table}
use Rattle.demands.specs.Tables.{weight_in, refused_in, how_many, cell_of}
use Rattle.demands.specs.LentTables.{SevenByTwentyFour, KeptSound, Room, Passes}
use Rattle.demands.proofs.TableSound.{cell_sound}
use Rattle.demands.proofs.TableCounts.{added, Full, full_weights, full_refused, Stopped, beyond, broken, full, stopped}
use Rattle.demands.proofs.TableFilling.{many_then, cell_for, next, slot_there, falls_own, next_sound, next_seven, one_in, Poured, ends, stops, goes, poured_holds, poured_below}
use Rattle.demands.proofs.TableLogs.{AllGood}

-- ---- what stops a record in a sound table

module _ (item : Record) (table : Table) (s : sound_table table ≡ true) where
  not_unsound : sound (cell_for item table) ≡ true
  not_unsound = cell_sound table (slot_of item.time) s

  -- never 31
  not_beyond : {why : Refusal} → Stopped item (cell_for item table) why → why ≡ SumBeyond → ⊥
  not_beyond (beyond unsound) e = cc not_unsound
  not_beyond (broken bad) e = cc
  not_beyond (full count) e = cc

  -- and a good one only a full count
  only_full : good item ≡ true → {why : Refusal} → Stopped item (cell_for item table) why → (why ≡ CountFull) × Full item (cell_for item table)
  only_full is_good_lem (beyond unsound) = cc not_unsound
  only_full is_good_lem (broken bad) = cc
  only_full is_good_lem (full count) = (refl, count)

pub poured_sound : {ending : Result (Unit {0}) Refusal} {items : List Record} {table : Table} {filled : Filled} → Poured ending items table filled
    → (ending ≡ Err SumBeyond → ⊥) → sound_table table ≡ true → KeptSound filled
poured_sound ends never s = record { sound = s; verdict = never }
poured_sound (stops {item} {table = table} {why = why} e) never s =
    record { sound = s; verdict = λ is. not_beyond item table s (stopped item (cell_for item table) why e) (cc) }
poured_sound (goes {item} {table = table} {after = after} e more) never s = grind (arith, common_steps, next_sound, poured_sound more never (next_sound item table after e s))

pub poured_stopped : {ending : Result (Unit {0}) Refusal} {items : List Record} {table : Table} {filled : Filled} → Poured ending items table filled
    → sound_table table ≡ true → AllGood items → filled.records < length items → filled.verdict ≡ Err CountFull
poured_stopped ends s all fewer = absurd (omega arith)
poured_stopped (stops {item} {table = table} {why = why} e) s all fewer = ap Err (only_full item table s all.0 (stopped item (cell_for item table) why e)).0
poured_stopped (goes {item} {table = table} {after = after} e more) s all fewer = poured_stopped more (next_sound item table after e s) all.1 (omega arith)

-- ---- a count and what is still to come

-- what a count will be with some records more
abbrev weights_with : Table → List Record → ℕ → ℕ → ℕ
weights_with table items weekday hour = (cell_of table weekday hour).weights + how_many (weight_in weekday hour) items

abbrev refused_with : Table → List Record → ℕ → ℕ → ℕ
refused_with table items weekday hour = (cell_of table weekday hour).refused + how_many (refused_in weekday hour) items

-- it is the same before the first of them went in, and behind it
module _ (item : Record) (items : List Record) (table : Table) (seven : SevenByTwentyFour table) (after : Cell) (e : added item (cell_for item table) ≡ Ok after)
    (weekday hour : ℕ) where
  weights_behind : weights_with table (item ∷ items) weekday hour ≡ weights_with (next item table after) items weekday hour
  weights_behind = grind (arith, common_steps, many_then, one_in)

  refused_behind : refused_with table (item ∷ items) weekday hour ≡ refused_with (next item table after) items weekday hour
  refused_behind = grind (arith, common_steps, many_then, one_in)

-- a full count of the cell of its time would pass with it
module _ (item : Record) (items : List Record) (table : Table) where
  passes_here : Full item (cell_for item table) → Passes table (item ∷ items)
  unfolding how_many
  passes_here (full_weights gross big) =
      Passes.weights (slot_of item.time).weekday (slot_of item.time).hour (slot_there item.time).weekday (slot_there item.time).hour
      (rw (falls_own item, gross) (omega arith))
  passes_here (full_refused met big) =
      Passes.refused (slot_of item.time).weekday (slot_of item.time).hour (slot_there item.time).weekday (slot_there item.time).hour
      (rw (falls_own item, met) (omega arith))

-- ---- while no count passes

abbrev pub AllRoom : Table → List Record → Type 0
AllRoom table items = (weekday hour : ℕ) → weekday < 7 → hour < 24 → Room table items weekday hour

no_pass : {table : Table} {items : List Record} → AllRoom table items → Passes table items → ⊥
no_pass room passes = grind (arith, common_steps)

next_room : (item : Record) (items : List Record) (table : Table) (seven : SevenByTwentyFour table) (after : Cell) → added item (cell_for item table) ≡ Ok after
    → AllRoom table (item ∷ items) → AllRoom (next item table after) items
next_room item items table seven after e room weekday hour w h = grind (arith, common_steps, refused_behind, weights_behind)

-- all go in, and the ending is the log's
pub poured_whole : {ending : Result (Unit {0}) Refusal} {items : List Record} {table : Table} {filled : Filled} → Poured ending items table filled
    → SevenByTwentyFour table → sound_table table ≡ true → AllGood items → AllRoom table items → (filled.records ≡ length items) × (filled.verdict ≡ ending)
poured_whole ends seven s all room = (refl, refl)
poured_whole (stops {item} {items} {table} {why} e) seven s all room =
    absurd (no_pass room (passes_here item items table (only_full item table s all.0 (stopped item (cell_for item table) why e)).1))
poured_whole (goes {item} {items} {table} {after} e more) seven s all room =
    let (count, verdict) =
    poured_whole more (next_seven item table seven after) (next_sound item table after e s) all.1 (next_room item items table seven after e room) in
    (ap suc count, verdict)

-- ---- where a count would pass

passes_behind : {item : Record} {items : List Record} {table : Table} → SevenByTwentyFour table → {after : Cell} → added item (cell_for item table) ≡ Ok after
    → Passes (next item table after) items → Passes table (item ∷ items)
passes_behind {item} {items} {table} seven {after} e (Passes.weights weekday hour w h far) =
    Passes.weights weekday hour w h (omega (arith, weights_behind item items table seven after e weekday hour))
passes_behind {item} {items} {table} seven {after} e (Passes.refused weekday hour w h far) =
    Passes.refused weekday hour w h (omega (arith, refused_behind item items table seven after e weekday hour))

stops_full : {item : Record} {table : Table} {why : Refusal} → Stopped item (cell_for item table) why → why ≡ CountFull → Passes table (item ∷ [])
stops_full (beyond unsound) e = cc
stops_full (broken bad) e = cc
stops_full {item} {table} (full count) e = passes_here item [] table count

pub poured_full : {ending : Result (Unit {0}) Refusal} {items : List Record} {table : Table} {filled : Filled} → Poured ending items table filled
    → (ending ≡ Err CountFull → ⊥) → SevenByTwentyFour table → filled.verdict ≡ Err CountFull → Passes table (take (suc filled.records) items)
poured_full ends never seven e = absurd (never e)
poured_full (stops {item} {table = table} {why = why} went) never seven e = stops_full (stopped item (cell_for item table) why went) (cc)
poured_full (goes {item} {items} {table} {after} {rest} went more) never seven e =
    passes_behind seven went (poured_full more never (next_seven item table seven after) e)

-- ---- no count passes

pub poured_room : {ending : Result (Unit {0}) Refusal} {items : List Record} {table : Table} {filled : Filled} → Poured ending items table filled
    → SevenByTwentyFour table → (weekday hour : ℕ) → Room table [] weekday hour → Room table (take filled.records items) weekday hour
unfolding how_many
poured_room {items = items} {filled = filled} steps seven weekday hour room =
    let held = poured_holds steps seven weekday hour in
    let few = poured_below steps seven weekday hour in
    record { weights = omega (arith, few.weights (omega arith)); refused = omega (arith, few.refused (omega arith)) }
