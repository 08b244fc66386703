-- Shown: a body that is not short has 3 bytes, and 6 where its first byte is 00, so that address, code and check stand inside it.
-- Why: the two halves of refusal 1's test are both false.
use Rattle.std.specs.Prelude.{Ok}
use mathlib.Mathlib.Data.Bool.Basic.{or-eq-false-eq-eq-false-and-eq-false}
use Prim.Native.Nat.{ℕ, ◌+◌, ◌≤◌}
use mathlib.Core.Path.{◌≡◌, refl}
use mathlib.Core.Bool.{Bool, true, false, ◌&&◌}
use mathlib.Core.List.{List}
use borrow.Author.Tests.{ltb-false, le-ltb, eq-eqb, eqb-true}
use lib.Dec.{ltb, eqb}
use lib.ListN.{length, get_or}
use Rattle.refusal.proofs.Verdicts.{test_passed, rest_passed}
use Rattle.body.specs.Addresses.{address_in, address_length}
use Rattle.body.specs.Body.{longest, short, judged, judged_lent_if}

pub three : (body : List ℕ) → short body ≡ false → 3 ≤ length body
unfolding short
three body e = ltb-false (length body) 3 ((or-eq-false-eq-eq-false-and-eq-false _ _).0 e).0

pub six : (body : List ℕ) → short body ≡ false → get_or body 0 0 ≡ 0 → 6 ≤ length body
unfolding short
six body e zero_first = ltb-false (length body) 6 (rw (eq-eqb (get_or body 0 0) 0 zero_first) at ((or-eq-false-eq-eq-false-and-eq-false (ltb (length body) 3) (eqb (get_or body 0 0) 0 && ltb (length body) 6)).0 e).1)

-- and that is all that refusal 1 asks
pub not_short : (body : List ℕ) → 3 ≤ length body → (get_or body 0 0 ≡ 0 → 6 ≤ length body) → short body ≡ false
unfolding short
not_short body h k = rw (le-ltb (length body) 3 h) (by_first (eqb (get_or body 0 0) 0) refl)
  where
    by_first : (first : Bool) → eqb (get_or body 0 0) 0 ≡ first → (first && ltb (length body) 6) ≡ false
    by_first true zero_first = le-ltb (length body) 6 (k (eqb-true (get_or body 0 0) 0 zero_first))
    by_first false other = refl

-- behind the address of a body that is not short, two bytes stand: code and check
pub address_inside : (body : List ℕ) → short body ≡ false → address_length (address_in body) + 2 ≤ length body
unfolding address_in address_length
address_inside body e = by_first (eqb (get_or body 0 0) 0) refl
  where
    by_first : (first : Bool) → eqb (get_or body 0 0) 0 ≡ first → address_length (address_in body) + 2 ≤ length body
    by_first true zero_first = rw zero_first (six body e (eqb-true (get_or body 0 0) 0 zero_first))
    by_first false other = rw other (three body e)

-- a good body is not short
pub told_not_short : (right : Bool) (body : List ℕ) → judged_lent_if right body ≡ Ok tt → short body ≡ false
told_not_short right body good = test_passed (short body) _ _ (rest_passed (ltb longest (length body)) _ _ good)

pub good_not_short : (body : List ℕ) → judged body ≡ Ok tt → short body ≡ false
unfolding judged
good_not_short body good = test_passed (short body) _ _ good
