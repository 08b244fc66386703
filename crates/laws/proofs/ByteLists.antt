-- Shown: an element of a list of bytes is below 256, a part of one is one, one byte more makes one, and a list of known length is its elements by their places; a slice's part.
-- Why: by induction along the list.
use mir.Facts.{and_yes, yes_and}
use Prim.Native.Nat.{ℕ, zero, suc, ◌-◌, ◌≤◌, ◌<◌}
use mathlib.Core.Path.{◌≡◌, ◌∙◌, refl, sym, ap}
use mathlib.Core.List.{List, [], ◌∷◌, ◌++◌}
use native.Mathlib.Nat.{sub-zero, zero-sub, suc-sub-suc}
use native.Mathlib.Omega.{arith}
use lib.Dec.{T, ltb, ltb→lt, lit<}
use lib.ListN.{length, take, drop, get_or}
use lib.Seq.{slice, take_all, take-nil, drop-nil}
use lib.Pow.{are_bytes}

-- a byte of a list of bytes, wherever it stands
pub byte_at : (bytes : List ℕ) → T (are_bytes bytes) → (i : ℕ) → get_or bytes i 0 < 256
byte_at [] all i = lit< tt
byte_at (byte ∷ bytes) all zero = ltb→lt byte 256 (and_yes (ltb byte 256) (are_bytes bytes) all).0
byte_at (byte ∷ bytes) all (suc i) = byte_at bytes (and_yes (ltb byte 256) (are_bytes bytes) all).1 i

-- a part of a list of bytes
pub bytes_take : (count : ℕ) (bytes : List ℕ) → T (are_bytes bytes) → T (are_bytes (take count bytes))
bytes_take zero bytes all = tt
bytes_take (suc count) [] all = tt
bytes_take (suc count) (byte ∷ bytes) all =
    yes_and (ltb byte 256) _ (and_yes (ltb byte 256) (are_bytes bytes) all).0 (bytes_take count bytes (and_yes (ltb byte 256) (are_bytes bytes) all).1)

pub bytes_drop : (count : ℕ) (bytes : List ℕ) → T (are_bytes bytes) → T (are_bytes (drop count bytes))
bytes_drop zero bytes all = all
bytes_drop (suc count) [] all = tt
bytes_drop (suc count) (byte ∷ bytes) all = bytes_drop count bytes (and_yes (ltb byte 256) (are_bytes bytes) all).1

-- with one byte more behind them
pub bytes_one_more : (bytes : List ℕ) (more : ℕ) → T (are_bytes bytes) → T (ltb more 256) → T (are_bytes (bytes ++ (more ∷ [])))
bytes_one_more [] more all small = yes_and (ltb more 256) _ small tt
bytes_one_more (byte ∷ bytes) more all small =
    yes_and (ltb byte 256) _ (and_yes (ltb byte 256) (are_bytes bytes) all).0
    (bytes_one_more bytes more (and_yes (ltb byte 256) (are_bytes bytes) all).1 small)

-- so many elements, each told by its place
unfoldable pub placed : ℕ → (ℕ → ℕ) → List ℕ
placed zero element = []
placed (suc count) element = element 0 ∷ placed count (λ (i : ℕ). element (suc i))

pub front_by_place : (count : ℕ) (l : List ℕ) → count ≤ length l → take count l ≡ placed count (λ (i : ℕ). get_or l i 0)
unfolding placed
front_by_place zero l h = refl
front_by_place (suc count) [] h = absurd (omega arith)
front_by_place (suc count) (element ∷ l) h = ap (λ (rest : List ℕ). element ∷ rest) (front_by_place count l (omega arith))

pub by_place : (count : ℕ) (l : List ℕ) → length l ≡ count → l ≡ placed count (λ (i : ℕ). get_or l i 0)
by_place count l e = sym (take_all count l (omega arith)) ∙ front_by_place count l (omega arith)

-- a part of a slice as the code takes it
pub part : (from to : ℕ) (l : List ℕ) → take (to - from) (drop from l) ≡ slice from to l
part zero to l = rw sub-zero
part (suc from) zero l = rw zero-sub
part (suc from) (suc to) [] = rw (drop-nil, take-nil)
part (suc from) (suc to) (byte ∷ l) = rw suc-sub-suc (part from to l)
