-- Shown: what the first bytes say of a frame, by their places; a frame whose check is wrong or right; the length that goes out.
-- Why: slices of known length are their bytes by their places.
use Rattle.std.specs.Prelude.{Err}
use Prim.Native.Nat.{ℕ, suc, ◌+◌, ◌-◌, ◌≤◌}
use mathlib.Core.Path.{◌≡◌, ◌∙◌, sym, ap, ap₂}
use mathlib.Core.Bool.{true}
use mathlib.Core.List.{List, [], ◌∷◌}
use native.Mathlib.Numerals.{add-one}
use native.Mathlib.Omega.{arith}
use borrow.Author.Tests.{le-ltb, eq-eqb, ne_eqb}
use lib.ListN.{length, take, drop, get_or, length-append, length-drop}
use Rattle.std.proofs.lemmas.List.{get_or-drop}
use Rattle.std.proofs.Common.{add-zero, add_assoc}
use Rattle.laws.proofs.ByteLists.{part}
use lib.Seq.{slice, slice-cons, slice_empty}
use Rattle.refusal.specs.declared.Refusal.TheVariants.{ParcelCheckWrong}
use Rattle.low_first.specs.LowFirst.{low_first}
use Rattle.low_first.proofs.Digits.{low_length}
use Rattle.parcel_check.specs.Check.{parcel_check}
use Rattle.parcel_scale.specs.Frame.{framed, headed, length_in, needs, body_in, check_in}
use Rattle.parcel_scale.specs.Reading.{read_body, judged_frame, read_parcel}

-- two bytes of a slice, by their places
two_at : (at : ℕ) (bytes : List ℕ) → at + 2 ≤ length bytes → slice at (at + 2) bytes ≡ get_or bytes at 0 ∷ get_or bytes (at + 1) 0 ∷ []
two_at at bytes h =
    let end : at + 2 ≡ suc (suc at) = omega arith in
    let none : slice (suc (suc at)) (at + 2) bytes ≡ [] = ap (λ (n : ℕ). slice (suc (suc at)) n bytes) end ∙ slice_empty (suc (suc at)) bytes in
    slice-cons at (at + 2) bytes 0 (omega arith) h
    ∙ ap (λ (rest : List ℕ). get_or bytes at 0 ∷ rest)
    (slice-cons (suc at) (at + 2) bytes 0 (omega arith) h ∙ ap₂ (λ (n : ℕ) (rest : List ℕ). get_or bytes n 0 ∷ rest) (sym (add-one at)) none)

-- the length that two bytes say
length_in_lem : (bytes : List ℕ) → 5 ≤ length bytes → length_in bytes ≡ low_first (get_or bytes 3 0 ∷ get_or bytes 4 0 ∷ [])
unfolding length_in
length_in_lem bytes h = ap low_first (two_at 3 bytes h)

module _ (bytes : List ℕ) (count : ℕ) (says : length_in bytes ≡ count) where
  needs_is : needs bytes ≡ 7 + count
  unfolding needs
  needs_is = omega (arith, says)

  check_in_lem : 7 + count ≤ length bytes → check_in bytes ≡ low_first (get_or bytes (5 + count) 0 ∷ get_or bytes (5 + count + 1) 0 ∷ [])
  unfolding check_in
  check_in_lem h =
      let end : needs bytes ≡ 5 + count + 2 = omega (arith, needs_is) in
      rw (says, end) (ap low_first (two_at (5 + count) bytes (omega arith)))

  body_in_lem : body_in bytes ≡ slice 5 (5 + count) bytes
  unfolding body_in
  body_in_lem = rw says

-- 22, or what the body says
module _ (bytes : List ℕ) where
  check_wrong : headed bytes ≡ true → needs bytes ≤ length bytes → (check_in bytes ≡ parcel_check (body_in bytes) → ⊥) → read_parcel bytes ≡ Err ParcelCheckWrong
  unfolding read_parcel judged_frame
  check_wrong e h other = rw (e, le-ltb _ _ h, ne_eqb _ _ other)

  frame_right : headed bytes ≡ true → needs bytes ≤ length bytes → check_in bytes ≡ parcel_check (body_in bytes) → read_parcel bytes ≡ read_body (needs bytes) (body_in bytes)
  unfolding read_parcel judged_frame
  frame_right e h same = rw (e, le-ltb _ _ h, eq-eqb _ _ same)

-- a body goes out with header, length and check around it
pub framed_length : (body : List ℕ) → length (framed body) ≡ 5 + length body + 2
unfolding framed
framed_length body = simp (length-append, low_length) (omega arith)

-- a frame taken apart: behind header and length come so many bytes of a body, and two of a check at least
module _ (bytes body behind : List ℕ) (count : ℕ) (head : headed bytes ≡ true) (long : 5 ≤ length bytes)
    (says : count ≡ low_first (get_or bytes 3 0 ∷ get_or bytes 4 0 ∷ []))
    (is_body : body ≡ take count (drop 5 bytes)) (is_behind : behind ≡ drop count (drop 5 bytes)) (two : 2 ≤ length behind) where
  says_in : length_in bytes ≡ count
  says_in = length_in_lem bytes long ∙ sym says

  enough : 7 + count ≤ length bytes
  enough = let h : 2 ≤ length (drop count (drop 5 bytes)) = rw is_behind at two in omega (arith, length-drop count (drop 5 bytes), length-drop 5 bytes)

  all_there : needs bytes ≤ length bytes
  all_there = omega (arith, needs_is bytes count says_in, enough)

  same_body : body_in bytes ≡ body
  same_body =
      let less : 5 + count - 5 ≡ count = omega arith in
      body_in_lem bytes count says_in ∙ sym (part 5 (5 + count) bytes) ∙ ap (λ (n : ℕ). take n (drop 5 bytes)) less ∙ sym is_body

  same_check : check_in bytes ≡ low_first (get_or behind 0 0 ∷ get_or behind 1 0 ∷ [])
  same_check = check_in_lem bytes count says_in enough ∙ rw is_behind (simp (get_or-drop, add-zero, add_assoc))

  pub parts_wrong : (low_first (get_or behind 0 0 ∷ get_or behind 1 0 ∷ []) ≡ parcel_check body → ⊥) → read_parcel bytes ≡ Err ParcelCheckWrong
  parts_wrong other = check_wrong bytes head all_there (λ (same : check_in bytes ≡ parcel_check (body_in bytes)). other (sym same_check ∙ same ∙ ap parcel_check same_body))

  pub parts_right : low_first (get_or behind 0 0 ∷ get_or behind 1 0 ∷ []) ≡ parcel_check body → read_parcel bytes ≡ read_body (7 + count) body
  parts_right same =
      frame_right bytes head all_there (same_check ∙ same ∙ ap parcel_check (sym same_body))
      ∙ ap₂ read_body (needs_is bytes count says_in) same_body
