-- Shown: each promise of this crate admits one answer.
-- Why: each is an equation with a definition.
use Prim.Native.Nat.{ℕ}
use mathlib.Core.Path.{◌≡◌}
use mathlib.Core.List.{List}
use Rattle.laws.proofs.OneAnswer.{one}
use Rattle.check_byte.specs.Register.{feed_byte, feed_all, check_of}

pub feed_one : (register byte a b : ℕ) → a ≡ feed_byte register byte → b ≡ feed_byte register byte → a ≡ b
feed_one register byte a b = one

pub feed_all_one : (register : ℕ) (bytes : List ℕ) (a b : ℕ) → a ≡ feed_all register bytes → b ≡ feed_all register bytes → a ≡ b
feed_all_one register bytes a b = one

pub check_of_one : (bytes : List ℕ) (a b : ℕ) → a ≡ check_of bytes → b ≡ check_of bytes → a ≡ b
check_of_one bytes a b = one
