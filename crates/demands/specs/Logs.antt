-- 01, "Log records": "Each record has 20 bytes; there is no header." "With no bytes left the log ends; an empty log is whole."
use Rattle.std.specs.Prelude.{ℕ, ◌^◌, ◌<◌, ◌≡◌, T, Ok}
use mathlib.Core.List.{List, [], ◌∷◌, map, flatten}
use Rattle.std.proofs.Math.Pow.{are_bytes}
use Rattle.line.specs.Listener.{Heard}
use Rattle.body.specs.declared.addresses.Address.TheVariants.{Short}
use Rattle.weight.specs.declared.families.Family.{Family}
use Rattle.weight.specs.declared.families.Family.TheVariants.{Of002}
use Rattle.codes.specs.declared.table.Role.{Role}
use Rattle.codes.specs.declared.table.Role.TheVariants.{Reply}
use Rattle.codes.specs.declared.table.Load.TheVariants.{Net, Gross}
use Rattle.weighing_log.specs.Hearing.{weighing, met_on_line}
use Rattle.records.specs.Stepping.{Log, whole_log, bytes_of_log, Steps}
use Rattle.demands.specs.Examples.{Example, e3, e4, examples}
use Rattle.demands.specs.Weighings.{records_heard}

-- a whole log is the bytes of its records, one behind the other, and nothing else
abbrev pub WholeLogAgain : Type 0
WholeLogAgain = (log : List ℕ) → T (are_bytes log) → (whole_log log).ending ≡ Ok tt → bytes_of_log (whole_log log).records ≡ log

-- who steps from its front until there is no further step meets all its records, and nothing else; of any bytes, and of a log that breaks too
pub record SteppedWhole (log : List ℕ) : Type 0 where
  pub comes : Steps log 0 (whole_log log)
  pub only : (other : Log) → Steps log 0 other → other ≡ whole_log log

abbrev pub EveryLogStepped : Type 0
EveryLogStepped = (log : List ℕ) → SteppedWhole log

-- the log that a line makes is whole, and its records are those that were noted; times are of 64 bits
abbrev pub LineLogWhole : Type 0
LineLogWhole =
    (time : ℕ → ℕ) → ((number : ℕ) → time number < 2 ^ 64) → (role : Role) (family : Family) (heard : List Heard)
    → whole_log (bytes_of_log (records_heard time role family heard)) ≡ record { records = records_heard time role family heard; ending = Ok tt }

-- the events of the judged examples, one after the other, read as replies of 002 and noted at the times 1, 2, 3 ... E1 and E2 are requests; as replies
-- their length is wrong (7). E3 and E4 are weighings. E5 makes no record. The first body of E8 has no code of the table (6).
abbrev pub ExamplesNoted : Type 0
ExamplesNoted =
    records_heard (λ (number : ℕ). number) Reply Of002 (flatten (map (λ (example : Example). example.heard) examples))
    ≡ met_on_line 1 7 ∷ met_on_line 2 7 ∷ weighing 3 (Short 1) Gross (e3 Of002).bytes ∷ weighing 4 (Short 1) Net (e4 Of002).bytes ∷ met_on_line 6 4
    ∷ met_on_line 7 1 ∷ met_on_line 8 3 ∷ met_on_line 9 6 ∷ met_on_line 10 2 ∷ []
