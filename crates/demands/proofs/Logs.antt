-- Shown: a whole log is the bytes of its records, and the log that a line makes is whole and holds what was noted.
-- Why: 20 bytes that were read as a record are written back as themselves; every record that is noted is good, at the time that was given.
use Rattle.std.specs.Prelude.{Result, Ok, Err, Option, Some}
use Prim.Native.Nat.{ℕ, ◌+◌, ◌^◌, ◌<◌}
use mathlib.Core.Path.{◌≡◌, ap}
use mathlib.Core.Bool.{true}
use mathlib.Core.List.{List, [], ◌∷◌}
use native.Mathlib.Omega.{arith}
use Rattle.std.proofs.lemmas.Grind.{common_steps}
use Rattle.line.specs.Listener.{Heard}
use Rattle.weight.specs.declared.families.Family.{Family}
use Rattle.codes.specs.declared.table.Role.{Role}
use Rattle.meaning.specs.Weights.{weight_said}
use Rattle.records.specs.declared.records.Record.{Record}
use Rattle.records.specs.Records.{good}
use Rattle.weighing_log.specs.Hearing.{record_of, noted_heard}
use Rattle.weighing_log.proofs.Heard.{refusal_made, said_made, made_good}
use Rattle.records.proofs.WholeLog.{stepping, steps_one}
use Rattle.records.proofs.Joining.{Writable, none, more, log_back, log_again}
use Rattle.demands.specs.Weighings.{note_then, records_from}
use Rattle.demands.specs.Logs.{WholeLogAgain, EveryLogStepped, LineLogWhole}
use Rattle.refusal.specs.declared.Refusal.{Refusal}
use Rattle.message.specs.declared.reading.Message.{Message}

pub whole_log_again : WholeLogAgain
whole_log_again = log_again

pub every_log_stepped : EveryLogStepped
every_log_stepped log = record { comes = stepping log; only = λ other steps. steps_one log steps (stepping log) }

-- what is noted is good, and of its time
time_kept : (time : ℕ) (received : Result Message Refusal) (item : Record) → record_of time received ≡ Ok (Some item) → item.time ≡ time
unfolding record_of
time_kept time (Ok message) item e = ap (λ (one : Record). one.time) (said_made time message.address (weight_said message.what) item e).is
time_kept time (Err why) item e = ap (λ (one : Record). one.time) (refusal_made time why item e)

pub noted_good : (time : ℕ) (role : Role) (family : Family) (heard : Heard) (item : Record) → noted_heard time role family heard ≡ Ok (Some item) → (good item ≡ true) × (item.time ≡ time)
noted_good time role family heard item e = grind (arith, common_steps, made_good, time_kept)

module _ (time : ℕ → ℕ) (small : (number : ℕ) → time number < 2 ^ 64) (role : Role) (family : Family) where
  note_writable : (heard : Heard) (number : ℕ) (later : List Record) → Writable later → (made : Result (Option Record) Refusal) → noted_heard (time number) role family heard ≡ made
      → Writable (note_then made later)
  note_writable heard number later rest made e = grind (arith, common_steps, more, noted_good)

  writable : (heard : List Heard) (number : ℕ) → Writable (records_from time role family number heard)
  unfolding records_from
  writable [] number = none
  writable (heard ∷ later) number = grind (arith, common_steps, note_writable, writable later (number + 1))

pub line_log_whole : LineLogWhole
line_log_whole time small role family heard = log_back (writable time small role family heard 1)
