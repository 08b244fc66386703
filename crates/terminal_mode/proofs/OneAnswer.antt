-- Shown: the promise of this crate admits one answer.
-- Why: it is an equation with a definition.
use Rattle.std.specs.Prelude.{Result}
use mathlib.Core.Path.{◌≡◌}
use Rattle.laws.proofs.OneAnswer.{one}
use Rattle.weight.specs.declared.Reading.{Reading}
use Rattle.terminal_mode.specs.Modes.{mode_of}
use Rattle.terminal_mode.specs.declared.Mode.{Mode}
use Rattle.refusal.specs.declared.Refusal.{Refusal}

pub mode_of_one : (reading : Reading) (a b : Result Mode Refusal) → a ≡ mode_of reading → b ≡ mode_of reading → a ≡ b
mode_of_one reading a b = one
