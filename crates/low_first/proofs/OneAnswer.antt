-- Shown: each promise of this crate admits one answer.
-- Why: each is an equation with a definition.
use Prim.Native.Nat.{ℕ, ◌+◌, ◌*◌}
use mathlib.Core.Path.{◌≡◌}
use mathlib.Core.List.{[], ◌∷◌}
use lib.IntN.{ℤ}
use Rattle.laws.proofs.OneAnswer.{one}
use Rattle.low_first.specs.LowFirst.{low_first}
use Rattle.low_first.specs.Signed.{signed_of, word_of}

pub word_one : (first second third fourth a b : ℕ) → a ≡ low_first (first ∷ second ∷ third ∷ fourth ∷ []) → b ≡ low_first (first ∷ second ∷ third ∷ fourth ∷ []) → a ≡ b
word_one first second third fourth a b = one

pub long_one : (low high a b : ℕ) → a ≡ low + 4_294_967_296 * high → b ≡ low + 4_294_967_296 * high → a ≡ b
long_one low high a b = one

pub half_one : (first second a b : ℕ) → a ≡ low_first (first ∷ second ∷ []) → b ≡ low_first (first ∷ second ∷ []) → a ≡ b
half_one first second a b = one

pub signed_one : (word : ℕ) (a b : ℤ) → a ≡ signed_of word → b ≡ signed_of word → a ≡ b
signed_one word a b = one

pub word_of_one : (number : ℤ) (a b : ℕ) → a ≡ word_of number → b ≡ word_of number → a ≡ b
word_of_one number a b = one
