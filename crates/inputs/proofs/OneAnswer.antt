-- Shown: the promise of `count_on` admits one answer.
-- Why: it is an equation with a definition, so two answers that meet it are equal by way of that definition.
use Prim.Native.Nat.{ℕ}
use mathlib.Core.Path.{◌≡◌, ◌∙◌, sym}
use Rattle.inputs.specs.On.{inputs_on}

pub count_on_one : (first second third fourth a b : ℕ) → a ≡ inputs_on first second third fourth → b ≡ inputs_on first second third fourth → a ≡ b
count_on_one first second third fourth a b p q = p ∙ sym q
