-- Shown: a frame in its pieces: what header, length, body and check are found in bytes that hold one, from either side.
-- Why: each piece starts where the pieces before it end, and a number and its bytes give each other back.
use Prim.Native.Nat.{ℕ, ◌+◌, ◌^◌, ◌≤◌, ◌<◌}
use mathlib.Core.Path.{◌≡◌, ◌∙◌, refl, sym, ap, ap₂}
use mathlib.Core.Bool.{true}
use mathlib.Core.List.{List, [], ◌∷◌, ◌++◌, append_assoc}
use native.Mathlib.Omega.{arith}
use borrow.Author.Tests.{le-ltb, ltb-false, eqb-true, not-true}
use lib.Dec.{T, ltb}
use lib.ListN.{length, take, drop, length-append, take-append-drop}
use lib.Seq.{slice, take_at, drop_at, length-slice, length-take-le, drop-append-le}
use lib.Pow.{are_bytes}
use Rattle.std.proofs.lemmas.Grind.{common_steps}
use Rattle.laws.proofs.ByteLists.{bytes_take, bytes_drop, placed}
use Rattle.low_first.specs.LowFirst.{low_first, low_bytes}
use Rattle.low_first.proofs.Digits.{low_length, number_back, bytes_back}
use Rattle.parcel_check.specs.Check.{parcel_check}
use Rattle.parcel_check.proofs.Laws.{check_below}
use Rattle.parcel_scale.specs.Frame.{framed, headed, length_in, needs, body_in, check_in}
use Rattle.parcel_scale.specs.Reading.{whole, checked}

-- ---- bytes in pieces: header, length, body, check and what stands behind

slice_at : (before piece behind : List ℕ) (from to : ℕ) → length before ≡ from → from + length piece ≡ to → slice from to (before ++ (piece ++ behind)) ≡ piece
slice_at before piece behind from to e f =
    let ends : length (before ++ piece) ≡ to = length-append before piece ∙ ap (λ (n : ℕ). n + length piece) e ∙ f in
    rw (← append_assoc before piece behind, take_at (before ++ piece) behind to ends) (drop_at before piece from e)

pub record Pieces (bytes head low body check behind : List ℕ) : Type 0 where
  pub are : bytes ≡ head ++ (low ++ (body ++ (check ++ behind)))
  pub three : length head ≡ 3
  pub two : length low ≡ 2
  pub told : low_first low ≡ length body
  pub last : length check ≡ 2

module _ {bytes head low body check behind : List ℕ} (pieces : Pieces bytes head low body check behind) where
  length_in_lem : length_in bytes ≡ length body
  unfolding length_in
  length_in_lem = rw (pieces.are, slice_at head low (body ++ (check ++ behind)) 3 5 pieces.three (ap (λ (n : ℕ). 3 + n) pieces.two)) pieces.told

  pub needs_in : needs bytes ≡ 5 + length body + 2
  unfolding needs
  needs_in = rw length_in_lem

  ahead : length (head ++ low) ≡ 5
  ahead = length-append head low ∙ ap₂ ◌+◌ pieces.three pieces.two

  pub body_in_lem : body_in bytes ≡ body
  unfolding body_in
  body_in_lem =
      rw (length_in_lem, pieces.are, ← append_assoc head low (body ++ (check ++ behind)))
      (slice_at (head ++ low) body (check ++ behind) 5 (5 + length body) ahead refl)

  unchecked : length ((head ++ low) ++ body) ≡ 5 + length body
  unchecked = length-append (head ++ low) body ∙ ap (λ (n : ℕ). n + length body) ahead

  pub check_in_lem : check_in bytes ≡ low_first check
  unfolding check_in
  check_in_lem = grind (arith, common_steps, length_in_lem, needs_in, slice_at, unchecked)

  all_length : length bytes ≡ 5 + length body + 2 + length behind
  all_length = grind (arith, common_steps)

  pub whole_in : whole bytes ≡ true
  whole_in = rw (needs_in, le-ltb (length bytes) (5 + length body + 2) (omega (arith, all_length)))

  pub headed_in : headed bytes ≡ headed head
  unfolding headed
  headed_in = grind (arith, common_steps)

  front_in : take (needs bytes) bytes ≡ head ++ (low ++ (body ++ check))
  front_in = grind (arith, common_steps, needs_in)

  pub pieces_more : (more : List ℕ) → Pieces (bytes ++ more) head low body check (behind ++ more)
  pieces_more more = grind (arith, common_steps)

-- ---- the other way: bytes that are long enough are in pieces

slice_drop : (from to : ℕ) (bytes : List ℕ) → from ≤ to → to ≤ length bytes → slice from to bytes ++ drop to bytes ≡ drop from bytes
slice_drop from to bytes h k =
    let reaches : from ≤ length (take to bytes) = rw (length-take-le to bytes k) h in
    sym (drop-append-le from (take to bytes) (drop to bytes) reaches) ∙ ap (drop from) (take-append-drop to bytes)

pub pieces_of : (bytes : List ℕ) → whole bytes ≡ true
    → Pieces bytes (take 3 bytes) (slice 3 5 bytes) (body_in bytes) (slice (5 + length_in bytes) (needs bytes) bytes) (drop (needs bytes) bytes)
unfolding needs body_in length_in
pieces_of bytes is_whole =
    let n = length_in bytes in
    let enough : 5 + n + 2 ≤ length bytes = ltb-false (length bytes) (needs bytes) (not-true (ltb (length bytes) (needs bytes)) is_whole) in
    record {
      are = rw (
        slice_drop (5 + n) (5 + n + 2) bytes (omega arith) enough,
        slice_drop 5 (5 + n) bytes (omega arith) (omega arith),
        slice_drop 3 5 bytes (omega arith) (omega arith),
        take-append-drop 3 bytes,
      );
      three = length-take-le 3 bytes (omega arith);
      two = length-slice 3 5 bytes (omega arith);
      told = sym (length-slice 5 (5 + n) bytes (omega arith) ∙ omega arith);
      last = length-slice (5 + n) (5 + n + 2) bytes enough ∙ omega arith;
    }

-- ---- a body that goes out, and bytes that passed 20, 21, 22

abbrev header : List ℕ
header = 0xF8 ∷ 0x55 ∷ 0xCE ∷ []

pub framed_pieces : (body rest : List ℕ) → length body < 256 ^ 2
    → Pieces (framed body ++ rest) header (low_bytes 2 (length body)) body (low_bytes 2 (parcel_check body)) rest
unfolding framed
framed_pieces body rest h = grind (arith, common_steps, low_length, number_back)

pub header_headed : headed header ≡ true
unfolding headed
header_headed = refl

pub check_told : (body : List ℕ) → low_first (low_bytes 2 (parcel_check body)) ≡ parcel_check body
check_told body = number_back 2 (parcel_check body) (check_below body)

header_is : (head : List ℕ) → length head ≡ 3 → headed head ≡ true → head ≡ header
unfolding headed placed
header_is head three passed = grind (arith, common_steps)

two_bytes : (bytes : List ℕ) (number : ℕ) → T (are_bytes bytes) → length bytes ≡ 2 → low_first bytes ≡ number → low_bytes 2 number ≡ bytes
two_bytes bytes number all two told = rw (← two, ← told) (bytes_back bytes all)

bytes_slice : (from to : ℕ) (bytes : List ℕ) → T (are_bytes bytes) → T (are_bytes (slice from to bytes))
bytes_slice from to bytes all = bytes_drop from (take to bytes) (bytes_take to bytes all)

pub body_bytes : (bytes : List ℕ) → T (are_bytes bytes) → T (are_bytes (body_in bytes))
unfolding body_in
body_bytes bytes = bytes_slice 5 (5 + length_in bytes) bytes

pub framed_back : (bytes : List ℕ) → T (are_bytes bytes) → headed bytes ≡ true → whole bytes ≡ true → checked bytes ≡ true
    → framed (body_in bytes) ≡ take (needs bytes) bytes
unfolding framed
framed_back bytes all is_headed is_whole is_checked =
    let pieces = pieces_of bytes is_whole in
    let low_back = two_bytes (slice 3 5 bytes) (length (body_in bytes)) (bytes_slice 3 5 bytes all) pieces.two pieces.told in
    let check_back = two_bytes (slice (5 + length_in bytes) (needs bytes) bytes) (parcel_check (body_in bytes))
    (bytes_slice (5 + length_in bytes) (needs bytes) bytes all) pieces.last (sym (check_in_lem pieces) ∙ eqb-true (check_in bytes) _ is_checked) in
    rw (front_in pieces, header_is (take 3 bytes) pieces.three (sym (headed_in pieces) ∙ is_headed), low_back, check_back)
