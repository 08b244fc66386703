-- `check_byte::feed` meets its contract: a byte enters the register.
-- Why: the code's two tables pass the computed test: they hold what a zero byte makes of the register's halves.
use Prim.Native.Nat.{ℕ}
use mathlib.Core.List.{List, [], ◌∷◌}
use borrow.Author.Rules.{rules}
use Rattle.check_byte.specs.Register.{shift_in, feed_bits, feed_byte}
use Rattle.check_byte.proofs.Halves.{by_halves}
use Rattle.check_byte.proofs.feed.Goals as goal

-- the tables of the code
abbrev low_half : List ℕ
low_half = 0x00 ∷ 0x69 ∷ 0xD2 ∷ 0xBB ∷ 0xCD ∷ 0xA4 ∷ 0x1F ∷ 0x76 ∷ 0xF3 ∷ 0x9A ∷ 0x21 ∷ 0x48 ∷ 0x3E ∷ 0x57 ∷ 0xEC ∷ 0x85 ∷ []

abbrev high_half : List ℕ
high_half = 0x00 ∷ 0x8F ∷ 0x77 ∷ 0xF8 ∷ 0xEE ∷ 0x61 ∷ 0x99 ∷ 0x16 ∷ 0xB5 ∷ 0x3A ∷ 0xC2 ∷ 0x4D ∷ 0x5B ∷ 0xD4 ∷ 0x2C ∷ 0xA3 ∷ []

pub returns : goal.returns
unfolding feed_byte feed_bits shift_in
returns c =
    rw (c.from-low.ensures, c.from-high.ensures) (by_halves low_half high_half tt tt c.args.register c.args.byte (search rules) (search rules))
