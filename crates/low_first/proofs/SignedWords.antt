-- Shown: a word and its signed number give each other back; the two are the machine's own reading.
-- Why: two's complement. A word from 2^31 up is 2^32 less one more than the number it is below -1 by.
use Prim.Native.Nat.{ℕ, suc, ◌-◌, ◌^◌, ◌<◌}
use mathlib.Core.Path.{◌≡◌, refl, ap, ◌∙◌}
use native.Mathlib.Omega.{arith}
use native.Mathlib.Decide.{dec_le}
use native.Mathlib.Nat.{lt_of_not-le}
use borrow.Author.Tests.{lt-ltb, le-ltb}
use lib.IntN.{ℤ, pos, negsuc}
use mir.Syntax.{w32}
use mir.Val.{SFits, to_z, of_z}
use mir.ValLaws.{to_z-of_z, of_z-to_z, of_z_fits}
use Rattle.low_first.specs.Signed.{signed_of, word_of}

-- ---- the two are the machine's own reading of 32 bits

pub signed_is : (word : ℕ) → word < 2 ^ 32 → signed_of word ≡ to_z w32 word
unfolding signed_of
signed_is word h = elim (dec_le 0x8000_0000 word) [
  | yes high ↦
      let one_less : 0x1_0000_0000 - word ≡ suc (0xFFFF_FFFF - word) = omega arith in
      let same : 0xFFFF_FFFF - word ≡ 0x1_0000_0000 - suc word = omega arith in
      rw (le-ltb word 0x8000_0000 high, one_less) (ap negsuc same)
  | no low ↦ let below : word < 0x8000_0000 = lt_of_not-le low in rw (lt-ltb word 0x8000_0000 below)
]

pub word_is : (number : ℤ) → word_of number ≡ of_z w32 number
unfolding word_of
word_is (pos n) = refl
word_is (negsuc n) = refl

-- ---- so they give each other back

pub word_fits : (number : ℤ) → SFits w32 number → word_of number < 2 ^ 32
word_fits number fits = rw word_is (of_z_fits w32 number fits).fits

pub signed_back : (number : ℤ) → SFits w32 number → signed_of (word_of number) ≡ number
signed_back number fits = signed_is (word_of number) (word_fits number fits) ∙ rw word_is (to_z-of_z w32 number fits)

pub word_back : (word : ℕ) → word < 2 ^ 32 → word_of (signed_of word) ≡ word
word_back word h = word_is (signed_of word) ∙ rw (signed_is word h) (of_z-to_z w32 word (record { fits = h }))
