-- Shown: a promise that is an equation with a definition admits one answer.
-- Why: two answers that meet it are equal by way of that definition.
use mathlib.Core.Path.{◌≡◌, ◌∙◌, sym}

-- the law behind every `NAME-one`: two answers that are both the defined one are equal
pub one {ℓ} : {A : Type ℓ} {defined a b : A} → a ≡ defined → b ≡ defined → a ≡ b
one p q = p ∙ sym q
