-- 02, request 8: "How much can the check miss? Maintenance asks what a passed check is worth. Prove it for bodies of equal length, check byte included."
-- It speaks of bodies as lists of bytes, after unstuffing, "not of wires, where a hit can make a false FF".
use Rattle.std.specs.Prelude.{ℕ, ◌+◌, ◌-◌, ◌%◌, ◌≤◌, ◌<◌, ◌≡◌, List, [], ◌∷◌, ◌++◌, length, T}
use Rattle.std.specs.Int.Bits.{bit_xor}
use Rattle.std.proofs.Math.Pow.{are_bytes}
use Rattle.check_byte.specs.Register.{received}
use Rattle.check_misses.specs.Places.{bits_of, turned_over, differing, among, OnlyInside, InBits, OnlyInsideLowFirst}
use Rattle.check_misses.specs.Powers.{power}

-- "bodies of equal length, check byte included"
pub record EquallyLong (first second : List ℕ) : Type 0 where
  pub bytes : T (are_bytes first)
  pub bytes_too : T (are_bytes second)
  pub long : length first ≡ length second

-- "two different bodies"
abbrev pub Different : List ℕ → List ℕ → Type 0
Different first second = first ≡ second → ⊥

-- a body passes: "The receiver feeds the whole body and wants 0." (01)
abbrev pub Passes : List ℕ → Type 0
Passes body = received body ≡ 0

-- "they don't both pass"
abbrev pub NotBoth : List ℕ → List ℕ → Type 0
NotBoth first second = Passes first → Passes second → ⊥

-- ---- what the check never misses

-- "If two different bodies differ only inside eight neighbouring bits, they don't both pass." They may have any length.
abbrev pub EightNeighbours : Type 0
EightNeighbours = (first second : List ℕ) → EquallyLong first second → Different first second → OnlyInside 8 first second → NotBoth first second

-- "If they have at most 31 bytes and differ in one or two bits, they don't both pass."
abbrev pub OneOrTwoBits : Type 0
OneOrTwoBits = (first second : List ℕ) → EquallyLong first second → length first ≤ 31 → InBits 2 first second → NotBoth first second

-- a single bit, in bodies of any length
abbrev pub OneBit : Type 0
OneBit = (first second : List ℕ) → EquallyLong first second → InBits 1 first second → NotBoth first second

-- Eight neighbouring bits, counted with the low bit of each byte first, as a cable carries them: they don't both pass either. This too speaks of
-- bodies. A cable carries start bits, stop bits, inserted FEs and delimiters beside them.
abbrev pub EightLowBitFirst : Type 0
EightLowBitFirst = (first second : List ℕ) → EquallyLong first second → Different first second → OnlyInsideLowFirst 8 first second → NotBoth first second

-- ---- what it misses

-- two bodies both pass, and these are all the places at which they differ
pub record Missed (first second places : List ℕ) : Type 0 where
  pub long : EquallyLong first second
  pub different : Different first second
  pub differ : differing first second ≡ places
  pub passes : Passes first
  pub passes_too : Passes second

-- "At 32 bytes the second is false: the first and last bit flipped together are missed": in every body of 32 bytes that passes
abbrev pub FirstAndLastMissed : Type 0
FirstAndLastMissed =
    (body : List ℕ) → T (are_bytes body) → length body ≡ 32 → Passes body
    → let first = bits_of body - 1 in Missed body (turned_over 0 (turned_over first body)) (first ∷ 0 ∷ [])

-- Two bits, in bodies of any length: they are missed exactly where they stand 255 places apart, or a multiple of 255.
pub record MissedAt (high low : ℕ) (first second : List ℕ) : Type 0 where
  pub missed : (high - low) % 255 ≡ 0 → Passes first → Passes second
  pub no_other : Passes first → Passes second → (high - low) % 255 ≡ 0

abbrev pub TwoBits : Type 0
TwoBits =
    (first second : List ℕ) → EquallyLong first second → (high low : ℕ) → differing first second ≡ high ∷ low ∷ [] → MissedAt high low first second

-- the polynomial 169h is 1 0110 1001. Lay it on nine neighbouring places: these stand under its ones
abbrev pub under_ones : ℕ → List ℕ
under_ones from = (from + 8) ∷ (from + 6) ∷ (from + 5) ∷ (from + 3) ∷ from ∷ []

pub record ByPolynomial (first second : List ℕ) : Type 0 where
  pub from : ℕ
  pub differ : differing first second ≡ under_ones from

-- If two bodies differ by it and one passes, the other passes. No other difference inside nine neighbouring bits is missed.
pub record NineMissOne (first second : List ℕ) : Type 0 where
  pub missed : ByPolynomial first second → Passes first → Passes second
  pub no_other : Different first second → OnlyInside 9 first second → Passes first → Passes second → ByPolynomial first second

abbrev pub NineNeighbours : Type 0
NineNeighbours = (first second : List ℕ) → EquallyLong first second → NineMissOne first second

-- Take any eight neighbouring bits of a body. Leave all others as they are. The eight can be filled in 256 ways, and exactly one passes. (In a
-- difference that spans ten bits or more, eight such bits stand between the first and the last. So 1 in 256 of these differences is missed.)
pub record Filling (from : ℕ) (body filled : List ℕ) : Type 0 where
  pub long : EquallyLong body filled
  pub inside : T (among from 8 (differing body filled))
  pub passes : Passes filled

pub record OneFilling (from : ℕ) (body : List ℕ) : Type 0 where
  pub filled : List ℕ
  pub is : Filling from body filled
  pub no_other : (other : List ℕ) → Filling from body other → other ≡ filled

abbrev pub OneFillingPasses : Type 0
OneFillingPasses = (body : List ℕ) → T (are_bytes body) → (from : ℕ) → from + 8 ≤ bits_of body → OneFilling from body

-- Of other lengths no law says that a difference is found. The check never finds a 00 too many ahead of a body, nor one behind a body that passes.
pub record ZerosMissed (body : List ℕ) : Type 0 where
  pub ahead : received (0x00 ∷ body) ≡ received body
  pub behind : Passes body → Passes (body ++ (0x00 ∷ []))

abbrev pub AddedZeros : Type 0
AddedZeros = (body : List ℕ) → ZerosMissed body

-- ---- a bit turned over

-- the body differs there and nowhere else, and its register ends as it did before with the power of x of that place folded in
pub record BitTurned (place : ℕ) (body : List ℕ) : Type 0 where
  pub long : EquallyLong body (turned_over place body)
  pub differs : differing body (turned_over place body) ≡ place ∷ []
  pub check : received (turned_over place body) ≡ bit_xor (received body) (power place)

abbrev pub EachBitTurned : Type 0
EachBitTurned = (place : ℕ) (body : List ℕ) → T (are_bytes body) → place < bits_of body → BitTurned place body
