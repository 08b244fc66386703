-- Shown: the bytes at the front of what is left of a slice come to stand behind a wide number, one, two or four at a go, and all feeds to the same.
-- Why: one byte comes to stand behind a number by entering the register that it stands for.
use Prim.Native.Nat.{ℕ, zero, suc, ◌+◌, ◌*◌, ◌^◌, ◌<◌, ◌≤◌}
use mathlib.Core.Path.{◌≡◌, ◌∙◌, ap, ap₂}
use mathlib.Core.List.{List, []}
use native.Mathlib.Omega.{arith}
use native.Mathlib.Numerals.{add-one}
use native.Mathlib.Nat.{pow-le-pow_right, pow-suc, lt_of_lt_of_le}
use lib.Arith.{digits_lt}
use lib.Dec.{lit<, lit≤}
use lib.ListN.{length, drop, get_or}
use lib.Seq.{drop-cons}
use Rattle.std.proofs.lemmas.List.{get_or-take, get_or-drop}
use Rattle.std.specs.Simd.{first_chunks}
use Rattle.register.specs.Register.{all_in}

-- a byte of one of a slice's chunks of four
chunk_byte : (count place k : ℕ) (l : List ℕ) → place < count → k < 4 → get_or (get_or (first_chunks 4 count l) place []) k 0 ≡ get_or l (4 * place + k) 0
chunk_byte zero place k l h s = absurd (omega arith)
chunk_byte (suc count) zero k l h s = let same : k ≡ 4 * 0 + k = omega arith in get_or-take 4 l k 0 s ∙ ap (λ (n : ℕ). get_or l n 0) same
chunk_byte (suc count) (suc place) k l h s =
    let same : 4 + (4 * place + k) ≡ 4 * suc place + k = omega arith in
    chunk_byte count place k (drop 4 l) (omega arith) s ∙ get_or-drop 4 l (4 * place + k) 0 ∙ ap (λ (n : ℕ). get_or l n 0) same

-- four bytes as a number, the first on top
abbrev pub on_top : List ℕ → ℕ
on_top four = get_or four 0 0 * 16777216 + get_or four 1 0 * 65536 + get_or four 2 0 * 256 + get_or four 3 0

-- bytes come to stand behind a number of at most 56 bits by entering what it stands for
abbrev pub Behind : (ℕ → ℕ → ℕ) → (ℕ → ℕ) → Type 0
Behind feed stands_for = (number byte : ℕ) → number < 2 ^ 56 → byte < 256 → stands_for (number * 256 + byte) ≡ feed (stands_for number) byte

-- fewer than four bytes behind one fit 32 bits, and leave room for another until the third is in
pub few_fit : (wide i : ℕ) → i < 3 → wide < 256 ^ (i + 1) → wide < 16777216
few_fit wide i few h = lt_of_lt_of_le h (pow-le-pow_right {n = 256} (lit≤ tt) {i = i + 1} {j = 3} (omega arith))

pub few_more : (wide i byte : ℕ) → wide < 256 ^ (i + 1) → byte < 256 → wide * 256 + byte < 256 ^ (i + 1 + 1)
few_more wide i byte h b = let all : 256 ^ (i + 1 + 1) ≡ 256 ^ (i + 1) * 256 = rw (add-one (i + 1)) (pow-suc 256 (i + 1)) in rw all (digits_lt h b)

module _ (feed : ℕ → ℕ → ℕ) (stands_for : ℕ → ℕ) (behind : Behind feed stands_for) (bytes : List ℕ) (byte_each : (i : ℕ) → get_or bytes i 0 < 256) where
  -- what is left of the slice from a place on, fed to the register that a wide number stands for
  abbrev left : ℕ → ℕ → ℕ
  left wide i = all_in feed (stands_for wide) (drop i bytes)

  pub one_in : (wide i : ℕ) → wide < 2 ^ 56 → i < length bytes → left (wide * 256 + get_or bytes i 0) (i + 1) ≡ left wide i
  one_in wide i w h = rw (add-one, drop-cons bytes i 0) (ap (λ (n : ℕ). all_in feed n (drop (suc i) bytes)) (behind wide (get_or bytes i 0) w (byte_each i)))

  two_in : (wide i : ℕ) → wide < 2 ^ 48 → i + 1 < length bytes
      → left ((wide * 256 + get_or bytes i 0) * 256 + get_or bytes (i + 1) 0) (i + 2) ≡ left wide i
  two_in wide i w h =
      let first = byte_each i in
      let once = wide * 256 + get_or bytes i 0 in
      let places : i + 2 ≡ i + 1 + 1 = omega arith in
      ap (left (once * 256 + get_or bytes (i + 1) 0)) places ∙ one_in once (i + 1) (omega arith) h ∙ one_in wide i (omega arith) (omega arith)

  four_bytes : (wide i : ℕ) → wide < 2 ^ 32 → i + 3 < length bytes
      → left (wide * 4294967296 + (((get_or bytes i 0 * 256 + get_or bytes (i + 1) 0) * 256 + get_or bytes (i + 2) 0) * 256 + get_or bytes (i + 3) 0)) (i + 4)
      ≡ left wide i
  four_bytes wide i w h =
      let first = byte_each i in
      let second = byte_each (i + 1) in
      let twice = (wide * 256 + get_or bytes i 0) * 256 + get_or bytes (i + 1) 0 in
      let places : i + 4 ≡ i + 2 + 2 = omega arith in
      let third : i + 3 ≡ i + 2 + 1 = omega arith in
      let number : wide * 4294967296 + (((get_or bytes i 0 * 256 + get_or bytes (i + 1) 0) * 256 + get_or bytes (i + 2) 0) * 256 + get_or bytes (i + 3) 0)
      ≡ (twice * 256 + get_or bytes (i + 2) 0) * 256 + get_or bytes (i + 3) 0 = omega arith in
      ap₂ left (number ∙ ap (λ (n : ℕ). (twice * 256 + get_or bytes (i + 2) 0) * 256 + get_or bytes n 0) third) places
      ∙ two_in twice (i + 2) (omega arith) (omega arith)
      ∙ two_in wide i (omega arith) (omega arith)

  -- a chunk of four at a go
  pub four_in : (count wide place four : ℕ) → wide < 2 ^ 32 → place < count → 4 * count ≤ length bytes → four ≡ on_top (get_or (first_chunks 4 count bytes) place [])
      → left (wide * 4294967296 + four) (4 * (place + 1)) ≡ left wide (4 * place)
  four_in count wide place four w h within is =
      let i = 4 * place in
      let first = chunk_byte count place 0 bytes h (lit< tt) in
      let start : i + 0 ≡ i = omega arith in
      let number : four ≡ ((get_or bytes i 0 * 256 + get_or bytes (i + 1) 0) * 256 + get_or bytes (i + 2) 0) * 256 + get_or bytes (i + 3) 0 =
      omega (arith, is, first, ap (λ (n : ℕ). get_or bytes n 0) start, chunk_byte count place 1 bytes h (lit< tt), chunk_byte count place 2 bytes h (lit< tt), chunk_byte count place 3 bytes h (lit< tt)) in
      let next : 4 * (place + 1) ≡ i + 4 = omega arith in
      ap₂ (λ (n m : ℕ). left (wide * 4294967296 + n) m) number next ∙ four_bytes wide i w (omega arith)
