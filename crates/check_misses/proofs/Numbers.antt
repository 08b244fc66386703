-- Shown: a body as one number, whose bits are the body's; what the receiver finds is what the number's bits make of an empty register.
-- Why: byte by byte, from the last one on; a byte comes to stand behind a number by entering the register.
use Prim.Native.Nat.{ℕ, zero, suc, ◌+◌, ◌-◌, ◌*◌, ◌/◌, ◌%◌, ◌^◌, ◌<◌}
use mathlib.Core.Path.{◌≡◌, ◌∙◌, refl, sym, ap, ap₂}
use mathlib.Core.List.{List, [], ◌∷◌, reverse, reverse-cons, reverse-reverse}
use native.Mathlib.Decide.{dec_le}
use native.Mathlib.Nat.{zero-div, lt_of_not-le}
use native.Mathlib.Omega.{arith}
use mir.Facts.{and_yes}
use lib.Dec.{T, ltb, eqb, ltb→lt, lit<}
use lib.ListN.{length, length-reverse, get_or}
use lib.Bits.{bit_xor, xor_shr, xor_mod, xor_lt, xor_self, xor_zero_l}
use lib.Pow.{are_bytes, field, mod-mod-pow, shr-shr, pow-add}
use Rattle.laws.proofs.ByteLists.{bytes_one_more}
use Rattle.register.proofs.Bits.{xor_assoc, xor_zero_eq, xor_test}
use Rattle.low_first.specs.LowFirst.{low_first, low_bytes}
use Rattle.low_first.proofs.Digits.{bytes_back}
use Rattle.check_byte.specs.Register.{feed_bits, feed_byte, feed_all, received}
use Rattle.check_byte.proofs.Laws.{feed_append, all_below, bits_linear}
use Rattle.check_byte.proofs.Wide.{in_parts}
use Rattle.check_misses.specs.Places.{bits_of, byte_around, bit_at, differing_below}
use Rattle.check_misses.specs.Misses.{EquallyLong}
use Rattle.check_misses.proofs.Ones.{bit_of, ones}
use Rattle.check_misses.proofs.Bursts.{low_alone}

-- folded in twice, a number is gone
pub folded_back : (a b : ℕ) → bit_xor a (bit_xor a b) ≡ b
folded_back a b = sym (xor_assoc a a b) ∙ ap (λ (n : ℕ). bit_xor n b) (xor_self a) ∙ xor_zero_l b

-- ---- a list from its last byte on

pub bytes_reverse : (bytes : List ℕ) → T (are_bytes bytes) → T (are_bytes (reverse bytes))
bytes_reverse [] all = tt
bytes_reverse (byte ∷ bytes) all =
    let parts = and_yes (ltb byte 256) (are_bytes bytes) all in
    rw (reverse-cons byte bytes) (bytes_one_more (reverse bytes) byte (bytes_reverse bytes parts.1) parts.0)

pub received_below : (body : List ℕ) → received body < 256
unfolding received
received_below body = all_below 0 body (lit< tt)

-- what the receiver finds, by the last byte
pub by_last : (byte : ℕ) (rest : List ℕ) → received (reverse (byte ∷ rest)) ≡ feed_byte (received (reverse rest)) byte
unfolding received feed_all
by_last byte rest = ap (feed_all 0) (reverse-cons byte rest) ∙ feed_append 0 (reverse rest) (byte ∷ [])

-- ---- the number

head_below : (byte : ℕ) (rest : List ℕ) → T (are_bytes (byte ∷ rest)) → byte < 256
head_below byte rest all = ltb→lt byte 256 (and_yes (ltb byte 256) (are_bytes rest) all).0

tail_bytes : (byte : ℕ) (rest : List ℕ) → T (are_bytes (byte ∷ rest)) → T (are_bytes rest)
tail_bytes byte rest all = (and_yes (ltb byte 256) (are_bytes rest) all).1

pub number_below : (l : List ℕ) → T (are_bytes l) → low_first l < 2 ^ (8 * length l)
unfolding low_first
number_below [] all = lit< tt
number_below (byte ∷ rest) all =
    let more : 8 * suc (length rest) ≡ 8 + 8 * length rest = omega arith in
    let sooner = number_below rest (tail_bytes byte rest all) in
    let first = head_below byte rest all in
    rw (more, pow-add 2 8 (8 * length rest)) (omega (arith, sooner, first))

-- the low eight bits are those of the low byte
low_bits : (number place : ℕ) → place < 8 → bit_of place number ≡ bit_of place (number % 256)
low_bits number place h =
    let places : 7 - place + (1 + place) ≡ 8 = omega arith in
    sym (field number 1 place)
    ∙ ap (λ (n : ℕ). n / 2 ^ place) (sym (mod-mod-pow number (7 - place) (1 + place)))
    ∙ ap (λ (n : ℕ). number % 2 ^ n % 2 ^ (1 + place) / 2 ^ place) places
    ∙ field (number % 2 ^ 8) 1 place

-- its bits are those of the bytes
bit_in : (l : List ℕ) → T (are_bytes l) → (place : ℕ) → get_or l (place / 8) 0 / 2 ^ (place % 8) % 2 ≡ bit_of place (low_first l)
unfolding low_first
bit_in [] all place = rw (zero-div (2 ^ (place % 8)), zero-div (2 ^ place))
bit_in (byte ∷ rest) all place =
    let small = head_below byte rest all in
    elim (dec_le 8 place) [
      | yes beyond ↦
          let which : place / 8 ≡ suc ((place - 8) / 8) = omega arith in
          let same : place % 8 ≡ (place - 8) % 8 = omega arith in
          let parts : place ≡ 8 + (place - 8) = omega arith in
          let high : (byte + 256 * low_first rest) / 2 ^ 8 ≡ low_first rest = omega (arith, small) in
          rw (which, same) (bit_in rest (tail_bytes byte rest all) (place - 8))
          ∙ ap (λ (n : ℕ). n / 2 ^ (place - 8) % 2) (sym high)
          ∙ ap (λ (n : ℕ). n % 2) (shr-shr (byte + 256 * low_first rest) 8 (place - 8))
          ∙ ap (λ (n : ℕ). (byte + 256 * low_first rest) / 2 ^ n % 2) (sym parts)
      | no within ↦
          let h : place < 8 = lt_of_not-le within in
          let which : place / 8 ≡ 0 = omega arith in
          let same : place % 8 ≡ place = omega arith in
          let low : (byte + 256 * low_first rest) % 256 ≡ byte = omega (arith, small) in
          rw (which, same) (sym (low_bits (byte + 256 * low_first rest) place h ∙ ap (bit_of place) low))
    ]

none_fed : received [] ≡ feed_bits 0 0 0
unfolding received feed_all feed_bits
none_fed = refl

-- and what the receiver finds is what they make of an empty register
fed : (l : List ℕ) → T (are_bytes l) → received (reverse l) ≡ feed_bits (8 * length l) 0 (low_first l)
unfolding low_first feed_byte
fed [] all = none_fed
fed (byte ∷ rest) all =
    let small = head_below byte rest all in
    let number = byte + 256 * low_first rest in
    let count = 8 * length rest in
    let more : 8 + count ≡ 8 * suc (length rest) = omega arith in
    let high : number / 2 ^ 8 ≡ low_first rest = omega (arith, small) in
    let low : number % 2 ^ 8 ≡ byte = omega (arith, small) in
    by_last byte rest
    ∙ ap (λ (r : ℕ). feed_bits 8 r byte) (fed rest (tail_bytes byte rest all))
    ∙ ap₂ (λ (top last : ℕ). feed_bits 8 (feed_bits count 0 top) last) (sym high) (sym low)
    ∙ low_alone 8 (feed_bits count 0 (number / 2 ^ 8)) number
    ∙ sym (in_parts 8 count 0 number)
    ∙ ap (λ (n : ℕ). feed_bits n 0 number) more

-- ---- the number of a body

abbrev pub number_of : List ℕ → ℕ
number_of body = low_first (reverse body)

pub bit_of_lem : (body : List ℕ) → T (are_bytes body) → (place : ℕ) → bit_at place body ≡ bit_of place (number_of body)
unfolding bit_at byte_around
bit_of_lem body all place = bit_in (reverse body) (bytes_reverse body all) place

pub below_of : (body : List ℕ) → T (are_bytes body) → number_of body < 2 ^ bits_of body
below_of body all = rw (length-reverse body) at (number_below (reverse body) (bytes_reverse body all))

pub fed_of : (body : List ℕ) → T (are_bytes body) → received body ≡ feed_bits (bits_of body) 0 (number_of body)
fed_of body all =
    ap received (sym (reverse-reverse body)) ∙ fed (reverse body) (bytes_reverse body all)
    ∙ ap (λ (n : ℕ). feed_bits (8 * n) 0 (number_of body)) (length-reverse body)

-- ---- two bodies

-- where the bits of their numbers differ
abbrev pub between : List ℕ → List ℕ → ℕ
between first second = bit_xor (number_of first) (number_of second)

module _ (first second : List ℕ) (alike : EquallyLong first second) where
  pub between_below : between first second < 2 ^ bits_of first
  between_below =
      xor_lt (bits_of first) (number_of first) (number_of second) (below_of first alike.bytes)
      (rw (sym alike.long) at (below_of second alike.bytes_too))

  same_test : (place : ℕ) → eqb (bit_at place first) (bit_at place second) ≡ eqb (bit_of place (between first second)) 0
  same_test place =
      let a = number_of first in
      let b = number_of second in
      let bits : bit_of place (bit_xor a b) ≡ bit_xor (bit_of place a) (bit_of place b) =
      ap (λ (n : ℕ). n % 2) (xor_shr a b place) ∙ xor_mod (a / 2 ^ place) (b / 2 ^ place) 1 in
      rw (bit_of_lem first alike.bytes place, bit_of_lem second alike.bytes_too place, bits)
      (sym (xor_test (bit_of place a) (bit_of place b)))

  pub differing_ones : (count : ℕ) → differing_below count first second ≡ ones count (between first second)
  unfolding differing_below ones
  differing_ones zero = refl
  differing_ones (suc place) = rw (same_test place, differing_ones place)

  -- the receiver's two findings differ by what these bits make of an empty register
  pub findings : bit_xor (received first) (received second) ≡ feed_bits (bits_of first) 0 (between first second)
  findings =
      ap₂ bit_xor (fed_of first alike.bytes)
      (fed_of second alike.bytes_too ∙ ap (λ (n : ℕ). feed_bits (8 * n) 0 (number_of second)) (sym alike.long))
      ∙ sym (bits_linear (bits_of first) 0 0 (number_of first) (number_of second) (lit< tt) (lit< tt))

  pub both_pass : received first ≡ 0 → received second ≡ 0 → feed_bits (bits_of first) 0 (between first second) ≡ 0
  both_pass p q = sym findings ∙ ap₂ bit_xor p q

  -- with no bit between them they are the same
  pub none_between : between first second ≡ 0 → first ≡ second
  none_between none =
      let a = reverse first in
      let b = reverse second in
      let same : low_first a ≡ low_first b = xor_zero_eq (low_first a) (low_first b) none in
      let long : length a ≡ length b = length-reverse first ∙ alike.long ∙ sym (length-reverse second) in
      let lists : a ≡ b =
      sym (bytes_back a (bytes_reverse first alike.bytes)) ∙ ap₂ low_bytes long same ∙ bytes_back b (bytes_reverse second alike.bytes_too) in
      sym (reverse-reverse first) ∙ ap reverse lists ∙ reverse-reverse second
