-- Shown: every record that is read from a log is good, a log ends `Ok` or with 10 or 11, and the first n records' bytes alone are a whole log of them.
-- Why: nothing else is read as a record, and a log is judged record by record from the front.
use Rattle.std.specs.Prelude.{Result, Ok, Err}
use Prim.Native.Nat.{ℕ, zero, suc, ◌+◌, ◌*◌, ◌/◌, ◌≤◌}
use mathlib.Core.Path.{◌≡◌, ◌∙◌, refl, ap}
use mathlib.Core.Bool.{Bool, true, false}
use mathlib.Core.List.{List, [], ◌∷◌, ◌++◌}
use native.Mathlib.Omega.{arith}
use lib.ListN.{length, take, drop}
use lib.Seq.{length-take-le, take-add}
use Rattle.std.proofs.lemmas.Grind.{common_steps}
use Rattle.refusal.specs.declared.Refusal.{Refusal}
use Rattle.refusal.specs.declared.Refusal.TheVariants.{LogLeftOver, RecordBroken}
use Rattle.refusal.specs.Numbers.{number_of, verdict_number, refuse_if}
use Rattle.records.specs.declared.records.Record.{Record}
use Rattle.records.specs.Records.{good}
use Rattle.records.specs.Reading.{read_record}
use Rattle.records.specs.Stepping.{Log, ahead, records_of, whole_log}
use Rattle.records.proofs.Rules.{read_good}
use Rattle.records.proofs.Joining.{one_more, apart}

-- ---- what a log gives

abbrev pub AllGood : List Record → Type 0
AllGood [] = Unit
AllGood (item ∷ items) = (good item ≡ true) × AllGood items

-- 10 and 11 are the last numbers of a log's ending: neither 23 nor 31 is one
pub record Orderly (log : Log) : Type 0 where
  pub all_good : AllGood log.records
  pub ending : verdict_number log.ending ≤ 11

-- bytes that are no record are 11
only_broken : (bytes : List ℕ) (why : Refusal) → read_record bytes ≡ Err why → RecordBroken ≡ why
unfolding read_record
only_broken bytes why = grind (arith, common_steps)

orderly_ahead : (bytes : List ℕ) (rest : Log) (entry : Result Record Refusal) → read_record bytes ≡ entry → Orderly rest → Orderly (ahead entry rest)
orderly_ahead bytes rest entry e behind = grind (arith, common_steps, only_broken, read_good)

left_over : (some : Bool) → verdict_number (refuse_if some LogLeftOver (Ok tt)) ≤ 11
left_over true = omega arith
left_over false = omega arith

orderly_count : (count : ℕ) (log : List ℕ) → Orderly (records_of count log)
unfolding records_of
orderly_count zero log = grind (arith, common_steps, left_over)
orderly_count (suc count) log = grind (arith, common_steps, orderly_ahead, orderly_count count (drop 20 log))

pub orderly : (log : List ℕ) → Orderly (whole_log log)
unfolding whole_log
orderly log = orderly_count (length log / 20) log

-- no log ends with a refusal of a later number
pub not_at_end : (log : List ℕ) (why : Refusal) → 12 ≤ number_of why → (whole_log log).ending ≡ Err why → ⊥
not_at_end log why later e = omega (arith, (orderly log).ending, ap verdict_number e)

-- ---- the first records of a log

-- a log of fewer than 20 bytes has no record
none_short : (log : List ℕ) → length log / 20 ≡ 0 → (whole_log log).records ≡ []
unfolding whole_log records_of
none_short log e = rw e

module _ (n : ℕ) (log : List ℕ) where
  -- the first record's bytes and those of n records behind it
  split : take (20 * suc n) log ≡ take 20 log ++ take (20 * n) (drop 20 log)
  split =
      let size : 20 * suc n ≡ 20 + 20 * n = omega arith in
      rw size (take-add 20 (20 * n) log)

  cut_ahead : (entry : Result Record Refusal) → suc n ≤ length (ahead entry (whole_log (drop 20 log))).records
      → (n ≤ length (whole_log (drop 20 log)).records → whole_log (take (20 * n) (drop 20 log)) ≡ record { records = take n (whole_log (drop 20 log)).records; ending = Ok tt })
      → ahead entry (whole_log (take (20 * n) (drop 20 log))) ≡ record { records = take (suc n) (ahead entry (whole_log (drop 20 log))).records; ending = Ok tt }
  cut_ahead entry enough behind = grind (arith, common_steps)

  cut_more : (count : ℕ) → length log / 20 ≡ count → suc n ≤ length (whole_log log).records
      → (n ≤ length (whole_log (drop 20 log)).records → whole_log (take (20 * n) (drop 20 log)) ≡ record { records = take n (whole_log (drop 20 log)).records; ending = Ok tt })
      → whole_log (take (20 * suc n) log) ≡ record { records = take (suc n) (whole_log log).records; ending = Ok tt }
  cut_more zero e enough behind = absurd (omega (arith, ap length (none_short log e)))
  cut_more (suc count) e enough behind =
      let whole = apart log count e in
      rw (split, whole)
      (one_more (take 20 log) (take (20 * n) (drop 20 log)) (length-take-le 20 log (omega arith))
      ∙ cut_ahead (read_record (take 20 log)) (rw whole at enough) behind)

-- the bytes of the first n records are a whole log, and hold these records
pub cut : (n : ℕ) (log : List ℕ) → n ≤ length (whole_log log).records → whole_log (take (20 * n) log) ≡ record { records = take n (whole_log log).records; ending = Ok tt }
unfolding whole_log records_of
cut zero log enough = refl
cut (suc n) log enough = cut_more n log (length log / 20) refl enough (cut n (drop 20 log))
