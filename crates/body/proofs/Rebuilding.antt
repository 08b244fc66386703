-- Shown: a good body taken apart and put together is itself, and a body put together from a legal address is good and gives back its parts.
-- Why: the first byte tells how long the address is, and the check is the only last byte that feeds to 0.
use Rattle.std.specs.Prelude.{Ok}
use Prim.Native.Nat.{ℕ, suc, ◌+◌, ◌-◌, ◌≤◌, ◌<◌}
use mathlib.Core.Path.{◌≡◌, ◌∙◌, refl, sym, ap, ap₂}
use mathlib.Core.Bool.{Bool, true, false, not, and-eq-true_iff}
use mathlib.Core.List.{List, [], ◌∷◌, ◌++◌}
use native.Mathlib.Omega.{arith}
use native.Mathlib.Numerals.{add-one}
use borrow.Author.Tests.{ltb-false, leb-true, ne_eqb, eqb-true, not-false, lt-ltb, le-ltb}
use lib.Dec.{T, ltb, leb, eqb}
use lib.ListN.{length, take, drop, get_or, length-append, take-append-drop}
use lib.Seq.{slice, take_at, take-suc, take-take, take-length, slice-cons}
use lib.Pow.{are_bytes}
use Rattle.refusal.proofs.Verdicts.{test_passed, rest_passed}
use Rattle.laws.proofs.ByteLists.{byte_at, placed, front_by_place}
use Rattle.check_byte.specs.Register.{received, check_of}
use Rattle.check_byte.proofs.Laws.{checked, only_check}
use Rattle.low_first.specs.LowFirst.{low_bytes}
use Rattle.low_first.proofs.Digits.{number_back, bytes_back}
use Rattle.body.specs.declared.addresses.Address.{Address}
use Rattle.body.specs.declared.addresses.Address.TheVariants.{Short, Serial}
use Rattle.body.specs.Addresses.{highest_short, legal, address_bytes, address_in, address_length}
use Rattle.body.specs.Body.{longest, unchecked, body_of, short, judged, judged_lent, code_in, data_in}
use Rattle.body.proofs.Anatomy.{body_length}
use Rattle.body.proofs.Shortness.{three, address_inside, six, not_short, good_not_short}

-- ---- what a good body is known to have

pub good_check : (body : List ℕ) → judged body ≡ Ok tt → received body ≡ 0
unfolding judged
good_check body good =
    eqb-true (received body) 0 (not-false _ (test_passed (not (eqb (received body) 0)) _ _ (rest_passed (short body) _ _ good)))

pub good_address_lem : (body : List ℕ) → judged body ≡ Ok tt → legal (address_in body) ≡ true
unfolding judged
good_address_lem body good =
    not-false _ (test_passed (not (legal (address_in body))) _ _ (rest_passed (not (eqb (received body) 0)) _ _ (rest_passed (short body) _ _ good)))

pub good_not_empty : judged [] ≡ Ok tt → ⊥
good_not_empty good = let long = three [] (good_not_short [] good) in omega arith

-- a lent body that is good has at most 255 bytes, and is good at its end
pub lent_at_most : (body : List ℕ) → judged_lent body ≡ Ok tt → length body ≤ longest
unfolding judged_lent
lent_at_most body good = ltb-false longest (length body) (test_passed (ltb longest (length body)) _ _ good)

-- of at most 255 bytes the two verdicts are one
pub lent_is : (body : List ℕ) → length body ≤ longest → judged_lent body ≡ judged body
unfolding judged_lent judged
lent_is body most = rw (le-ltb longest (length body) most)

pub lent_good : (body : List ℕ) → judged_lent body ≡ Ok tt → judged body ≡ Ok tt
unfolding judged_lent judged
lent_good body good = rest_passed (ltb longest (length body)) _ _ good

-- the first byte is never FF or FE
pub first_low : (body : List ℕ) → judged body ≡ Ok tt → get_or body 0 0 < 0xFE
unfolding address_in legal
first_low body good = by_first (eqb (get_or body 0 0) 0) refl
  where
    by_first : (test : Bool) → eqb (get_or body 0 0) 0 ≡ test → get_or body 0 0 < 0xFE
    by_first true zero_first = omega (arith, eqb-true (get_or body 0 0) 0 zero_first)
    by_first false other =
        omega (arith, leb-true (get_or body 0 0) highest_short ((and-eq-true_iff (leb 1 (get_or body 0 0)) _).0 (rw other at (good_address_lem body good))).1)

-- ---- put together and taken apart

module _ (code : ℕ) (data' : List ℕ) where
  pub address_back : (address : Address) → legal address ≡ true → address_in (body_of address code data') ≡ address
  unfolding legal address_in body_of unchecked address_bytes low_bytes
  address_back (Short byte) is_legal =
      let above = leb-true 1 byte ((and-eq-true_iff (leb 1 byte) _).0 is_legal).0 in
      rw (ne_eqb byte 0 (λ (e : byte ≡ 0). omega arith))
  address_back (Serial serial) is_legal =
      let fits = leb-true serial 16_777_215 is_legal in
      ap Serial (number_back 3 serial (omega arith))

  -- where the code stands, and where the data
  code_place : (address : Address) → get_or (body_of address code data') (address_length address) 0 ≡ code
  unfolding body_of unchecked address_bytes low_bytes address_length
  code_place (Short byte) = refl
  code_place (Serial serial) = refl

  data_place : (address : Address) → drop (address_length address + 1) (unchecked address code data') ≡ data'
  unfolding unchecked address_bytes low_bytes address_length
  data_place (Short byte) = refl
  data_place (Serial serial) = refl

  module _ (address : Address) (is_legal : legal address ≡ true) where
    pub code_back : code_in (body_of address code data') ≡ code
    unfolding code_in
    code_back = ap (λ (a : Address). get_or (body_of address code data') (address_length a) 0) (address_back address is_legal) ∙ code_place address

    -- everything before the check
    front : take (length (body_of address code data') - 1) (body_of address code data') ≡ unchecked address code data'
    unfolding body_of
    front =
        let end : length (unchecked address code data') ≡ length (unchecked address code data' ++ (check_of (unchecked address code data') ∷ [])) - 1 =
        omega (arith, length-append (unchecked address code data') (check_of (unchecked address code data') ∷ [])) in
        take_at (unchecked address code data') (check_of (unchecked address code data') ∷ []) _ end

    pub data_back : data_in (body_of address code data') ≡ data'
    unfolding data_in
    data_back =
        ap (λ (a : Address). slice (address_length a + 1) (length (body_of address code data') - 1) (body_of address code data')) (address_back address is_legal)
        ∙ ap (λ (l : List ℕ). drop (address_length address + 1) l) front ∙ data_place address

  -- a body put together is not short
  long : (address : Address) → legal address ≡ true → short (body_of address code data') ≡ false
  unfolding legal body_of unchecked address_bytes low_bytes address_length
  long (Short byte) is_legal =
      let above = leb-true 1 byte ((and-eq-true_iff (leb 1 byte) _).0 is_legal).0 in
      not_short (body_of (Short byte) code data') (omega (arith, body_length (Short byte) code data')) (λ (e : byte ≡ 0). omega arith)
  long (Serial serial) is_legal =
      not_short (body_of (Serial serial) code data') (omega (arith, body_length (Serial serial) code data')) (λ _. omega (arith, body_length (Serial serial) code data'))

  -- and it is good
  pub made_good : (address : Address) → legal address ≡ true → judged (body_of address code data') ≡ Ok tt
  unfolding judged body_of
  made_good address is_legal =
      rw (long address is_legal, checked (unchecked address code data'), address_back address is_legal, is_legal)

-- ---- taken apart and put together

module _ (body : List ℕ) (all : T (are_bytes body)) where
  three_bytes : T (are_bytes (get_or body 1 0 ∷ get_or body 2 0 ∷ get_or body 3 0 ∷ []))
  three_bytes = rw (lt-ltb _ _ (byte_at body all 1), lt-ltb _ _ (byte_at body all 2), lt-ltb _ _ (byte_at body all 3)) tt

  -- the bytes that the address takes spell it
  spelled : short body ≡ false → take (address_length (address_in body)) body ≡ address_bytes (address_in body)
  unfolding address_in address_length address_bytes placed
  spelled enough = by_first (eqb (get_or body 0 0) 0) refl
    where
      by_first : (test : Bool) → eqb (get_or body 0 0) 0 ≡ test → take (address_length (address_in body)) body ≡ address_bytes (address_in body)
      by_first true zero_first =
          let is_zero = eqb-true (get_or body 0 0) 0 zero_first in
          let four = front_by_place 4 body (omega (arith, six body enough is_zero)) in
          rw zero_first
          (four ∙ ap (λ (n : ℕ). n ∷ get_or body 1 0 ∷ get_or body 2 0 ∷ get_or body 3 0 ∷ []) is_zero
          ∙ ap (λ (l : List ℕ). 0 ∷ l) (sym (bytes_back (get_or body 1 0 ∷ get_or body 2 0 ∷ get_or body 3 0 ∷ []) three_bytes)))
      by_first false other = rw other (front_by_place 1 body (omega (arith, address_inside body enough)))

  -- everything before the check
  begins : short body ≡ false → take (length body - 1) body ≡ unchecked (address_in body) (code_in body) (data_in body)
  unfolding unchecked code_in data_in
  begins enough =
      let n = address_length (address_in body) in
      let inside = address_inside body enough in
      let end = length body - 1 in
      sym (take-append-drop n (take end body))
      ∙ ap₂ ◌++◌ (take-take n end body (omega arith) ∙ spelled enough)
      (slice-cons n end body 0 (omega arith) (omega arith) ∙ ap (λ (k : ℕ). get_or body n 0 ∷ slice k end body) (sym (add-one n)))

  pub rebuilt : judged body ≡ Ok tt → body_of (address_in body) (code_in body) (data_in body) ≡ body
  unfolding body_of
  rebuilt good =
      let enough = good_not_short body good in
      let inside = address_inside body enough in
      let end = length body - 1 in
      let last : suc end ≡ length body = omega arith in
      let whole : body ≡ take end body ++ (get_or body end 0 ∷ []) = sym (take-length body) ∙ ap (λ (k : ℕ). take k body) (sym last) ∙ take-suc body end 0 (omega arith) in
      let is_check : get_or body end 0 ≡ check_of (take end body) =
      only_check (take end body) (get_or body end 0) (byte_at body all end) (ap received (sym whole) ∙ good_check body good) in
      ap (λ (l : List ℕ). l ++ (check_of l ∷ [])) (sym (begins enough)) ∙ ap (λ (k : ℕ). take end body ++ (k ∷ [])) (sym is_check) ∙ sym whole
