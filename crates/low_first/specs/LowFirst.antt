-- 01, "low first": a number of more than one byte and its bytes, as serials, times and counts stand on the wire
-- and in records. 02, request 5, "Numbers go low byte first": so do a parcel's length, fields and check.
use Rattle.std.specs.Prelude.{ℕ, zero, suc, ◌+◌, ◌*◌, ◌/◌, ◌%◌, List, [], ◌∷◌}

-- the number of some bytes
unfoldable pub low_first : List ℕ → ℕ
low_first [] = 0
low_first (byte ∷ rest) = byte + 256 * low_first rest

-- a number in so many bytes
unfoldable pub low_bytes : ℕ → ℕ → List ℕ
low_bytes zero number = []
low_bytes (suc count) number = number % 256 ∷ low_bytes count (number / 256)
