-- Shown: every refusal of the line, and every refusal of a body's message, has its record in the log and its line in the listing.
-- Why: each test of either refuses with one of 1 to 8, and those are the refusals that the log notes.
use Prim.Native.Nat.{ℕ}
use mathlib.Core.Path.{◌≡◌, refl, subst}
use mathlib.Core.Bool.{true}
use Rattle.refusal.specs.declared.Refusal.{Refusal}
use Rattle.refusal.specs.Numbers.{number_of, line_status}
use Rattle.line.specs.Listener.{Heard, Listener, nothing, frame, refused, hear}
use Rattle.line.proofs.EveryStep.{every_told}
use Rattle.weighing_log.proofs.Heard.{met_noted}
use Rattle.entries.specs.Entries.{entry_heard}
use Rattle.demands.specs.Noted.{LineRefusalsNoted, LineRefusalsListed, MessageRefusalsNoted, MessageRefusalsListed}
use Rattle.message.proofs.Refusals.{end_refuses, message_refuses}

-- the log notes 1 to 8
abbrev pub Met : Refusal → Type 0
Met why = line_status (number_of why) ≡ true

pub message_refusals_noted : MessageRefusalsNoted
message_refusals_noted time role family wire kept body why e =
    rw e (met_noted time why (message_refuses Met body refl refl (λ _. refl) refl refl refl refl role family why e))

pub message_refusals_listed : MessageRefusalsListed
unfolding entry_heard
message_refusals_listed family wire kept body why e = rw e

abbrev pub Told : Heard → Type 0
Told nothing = Unit {0}
Told (frame wire kept body) = Unit {0}
Told (refused why wire kept) = Met why

pub line_told : (listener : Listener) (byte : ℕ) → Told (hear listener byte).event
line_told listener byte = every_told Told listener byte tt refl refl (λ good. tt) (end_refuses Met _ refl refl (λ _. refl))

pub line_refusals_noted : LineRefusalsNoted
line_refusals_noted time role family listener byte why wire kept e = rw e (met_noted time why (subst Told e (line_told listener byte)))

pub line_refusals_listed : LineRefusalsListed
unfolding entry_heard
line_refusals_listed family listener byte why wire kept e = rw e
