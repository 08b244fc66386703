-- 02, request 5: "another frame (documents 003 and 004): F8 55 CE, a 16-bit length, that many body bytes, a 16-bit check as printed in 003
-- section 4.1." "Numbers go low byte first."
use Rattle.std.specs.Prelude.{ℕ, ◌+◌, Bool, ◌&&◌, List, [], ◌∷◌, ◌++◌, length, get_or, leb, eqb}
use Rattle.std.proofs.Math.Seq.{slice}
use Rattle.low_first.specs.LowFirst.{low_first, low_bytes}
use Rattle.parcel_check.specs.Check.{parcel_check}

-- a body as it goes out
unfoldable pub framed : List ℕ → List ℕ
framed body = (0xF8 ∷ 0x55 ∷ 0xCE ∷ []) ++ (low_bytes 2 (length body) ++ (body ++ low_bytes 2 (parcel_check body)))

-- three bytes at least, and they are the header
unfoldable pub headed : List ℕ → Bool
headed bytes = leb 3 (length bytes) && (eqb (get_or bytes 0 0) 0xF8 && (eqb (get_or bytes 1 0) 0x55 && eqb (get_or bytes 2 0) 0xCE))

-- the length that stands behind the header
unfoldable pub length_in : List ℕ → ℕ
length_in bytes = low_first (slice 3 5 bytes)

-- how many bytes header, length, body and check need
unfoldable pub needs : List ℕ → ℕ
needs bytes = 3 + 2 + length_in bytes + 2

-- the body, and the check behind it
unfoldable pub body_in : List ℕ → List ℕ
body_in bytes = slice 5 (5 + length_in bytes) bytes

unfoldable pub check_in : List ℕ → ℕ
check_in bytes = low_first (slice (5 + length_in bytes) (needs bytes) bytes)
