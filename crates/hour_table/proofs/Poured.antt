-- Shown: what is left of a log from a place, poured into the cells as they are, with the records that went in before, is the same at every place of the
-- loop; a step from a place goes on in the log.
-- Why: a step tells the first of the records that are left, or how the log ends there.
use Rattle.std.specs.Prelude.{Result, Ok, Err, Some, None}
use Prim.Native.Nat.{ℕ, ◌+◌, ◌-◌, ◌/◌, ◌≤◌}
use mathlib.Core.Path.{◌≡◌, refl, ap}
use mathlib.Core.Bool.{Bool, true, false, cond}
use mathlib.Core.List.{List, [], ◌∷◌}
use native.Mathlib.Omega.{arith}
use native.Mathlib.Nat.{zero-add, add-zero, add_assoc}
use lib.Dec.{leb, ltb}
use lib.ListN.{length, take, drop}
use borrow.Author.Tests.{ltb-false}
use Rattle.refusal.specs.declared.Refusal.{Refusal}
use Rattle.refusal.specs.declared.Refusal.TheVariants.{LogLeftOver}
use Rattle.records.specs.declared.records.Record.{Record}
use Rattle.records.specs.Reading.{read_record}
use Rattle.records.specs.Stepping.{entered, stepped, whole_log, ends, breaks, goes}
use Rattle.records.proofs.WholeLog.{steps_whole, steps_one}
use Rattle.hour_table.specs.declared.filled.Filled.{Filled}
use Rattle.hour_table.specs.Tables.{Table}
use Rattle.hour_table.proofs.Entered.{went_in}
use Rattle.hour_table.specs.Filling.{put, poured, from_here}

-- ---- a step goes on in the log

by_read : (read : Result Record Refusal) (place next : ℕ) (item : Record) → entered read (place + 20) ≡ Ok (Some (item, next)) → next ≡ place + 20
by_read (Ok there) place next item e =
    let both : ◌≡◌ {A = Record × ℕ} (item, next) (there, place + 20) = cc in ap (λ (one : Record × ℕ). one.1) both
by_read (Err why) place next item e = let clash : ◌≡◌ {A = ℕ} 0 1 = cc in omega arith

module _ (log : List ℕ) (place next : ℕ) (item : Record) where
  by_left : (few : Bool) → ltb (length log - place) 20 ≡ few
      → cond few (Err LogLeftOver) (entered (read_record (take 20 (drop place log))) (place + 20)) ≡ Ok (Some (item, next))
      → (next ≡ place + 20) × (20 ≤ length log - place)
  by_left true few e = let clash : ◌≡◌ {A = ℕ} 0 1 = cc in absurd (omega arith)
  by_left false few e = (by_read (read_record (take 20 (drop place log))) place next item e, ltb-false _ _ few)

  by_place : (past : Bool) → leb (length log) place ≡ past
      → cond past (Ok None) (cond (ltb (length log - place) 20) (Err LogLeftOver) (entered (read_record (take 20 (drop place log))) (place + 20))) ≡ Ok (Some (item, next))
      → (next ≡ place + 20) × (20 ≤ length log - place)
  by_place true past e = let clash : ◌≡◌ {A = ℕ} 0 1 = cc in absurd (omega arith)
  by_place false past e = by_left (ltb (length log - place) 20) refl e

  pub step_goes : stepped log place ≡ Ok (Some (item, next)) → (next ≡ place + 20) × (20 ≤ length log - place)
  unfolding stepped
  step_goes e = by_place (leb (length log) place) refl e

-- ---- the rest of a log

module _ (log : List ℕ) (table : Table) where
  -- at the front nothing went in before
  pub from_front : from_here log 0 0 table ≡ poured (whole_log log).records (whole_log log).ending table
  unfolding from_here
  from_front =
      let all : Filled = poured (whole_log log).records (whole_log log).ending table in
      λ i. record { table = all.table; records = zero-add all.records i; verdict = all.verdict }

module _ (log : List ℕ) (place : ℕ) where
  -- what a step from here tells of the rest
  rest_ends : stepped log place ≡ Ok None → whole_log (drop place log) ≡ record { records = []; ending = Ok tt }
  rest_ends e = steps_one log (steps_whole log place) (ends e)

  rest_breaks : {why : Refusal} → stepped log place ≡ Err why → whole_log (drop place log) ≡ record { records = []; ending = Err why }
  rest_breaks e = steps_one log (steps_whole log place) (breaks e)

  rest_goes : {item : Record} {next : ℕ} → stepped log place ≡ Ok (Some (item, next))
      → whole_log (drop place log) ≡ record { records = item ∷ (whole_log (drop next log)).records; ending = (whole_log (drop next log)).ending }
  rest_goes {item} {next} e = steps_one log (steps_whole log place) (goes e (steps_whole log next))

  module _ (cells : Table) where
    -- nothing more goes in
    abbrev so_far : Table → Result (Unit {0}) Refusal → Filled
    so_far table verdict = record { table = table; records = place / 20; verdict = verdict }

    pub at_end : stepped log place ≡ Ok None → so_far cells (Ok tt) ≡ from_here log (place / 20) place cells
    unfolding from_here poured
    at_end e = rw (rest_ends e, add-zero)

    pub at_break : {why : Refusal} → stepped log place ≡ Err why → so_far cells (Err why) ≡ from_here log (place / 20) place cells
    unfolding from_here poured
    at_break {why} e = rw (rest_breaks e, add-zero)

    module _ {item : Record} {next : ℕ} (e : stepped log place ≡ Ok (Some (item, next))) where
      pub at_refusal : {why : Refusal} → Err why ≡ (put item cells).verdict → so_far (put item cells).table (Err why) ≡ from_here log (place / 20) place cells
      unfolding from_here poured
      at_refusal {why} p = rw (rest_goes e, went_in item cells, ← p, add-zero)

      pub at_record : Ok tt ≡ (put item cells).verdict → from_here log (next / 20) next (put item cells).table ≡ from_here log (place / 20) place cells
      unfolding from_here poured
      at_record p =
          let one_more : next / 20 ≡ place / 20 + 1 = omega (arith, (step_goes log place next item e).0) in
          rw (rest_goes e, went_in item cells, ← p, one_more, add_assoc)
