-- 02, request 9: "Which bit went bad. The cable crew sees the same core fail when wet and wants the bad bit's place. For a body of at most 31 bytes that
-- fails its check, say which single bit, if flipped, makes it pass, counted from the last bit as 0, or say that no single bit would."
-- Places of bits, and a bit turned over, are request 8's. Only the check is asked: the body may have one byte, and its first byte need be no address.
use Rattle.std.specs.Prelude.{ℕ, zero, suc, Bool, cond, ◌||◌, List, length, ltb, eqb, Result, Ok, Err, Option, Some, None}
use Rattle.refusal.specs.declared.Refusal.TheVariants.{LengthOutside, CheckRight}
use Rattle.refusal.specs.Numbers.{refuse_if, by_verdict}
use Rattle.body.specs.Body.{check_right}
use Rattle.check_misses.specs.Places.{bits_of, turned_over}
use Rattle.refusal.specs.declared.Refusal.{Refusal}
use Rattle.bad_bit.specs.declared.BitPlace.{BitPlace}

-- whether a body passes its check if the bit at a place is turned over
unfoldable pub passes_with : List ℕ → ℕ → Bool
passes_with body place = check_right (turned_over place body)

-- of the places below a number, the highest one that passes a test
unfoldable pub highest_below : ℕ → (ℕ → Bool) → Option BitPlace
highest_below zero test = None
highest_below (suc place) test = cond (test place) (Some (record { 0 = place })) (highest_below place test)

-- "which single bit, if flipped, makes it pass .. or say that no single bit would": the highest of all its bits that does. Of a body of at most 31 bytes
-- "At most one can" (`AtMostOne`), so that it is the lowest too.
unfoldable pub bit_that_would : List ℕ → Option BitPlace
bit_that_would body = highest_below (bits_of body) (passes_with body)

-- "a body of at most 31 bytes"
abbrev pub longest_asked : ℕ
longest_asked = 31

-- "Refusals: 25 body empty or over 31 bytes, 26 check already right", in this order
unfoldable pub judged_for : List ℕ → Result (Unit {0}) Refusal
judged_for body =
    refuse_if (eqb (length body) 0 || ltb longest_asked (length body)) LengthOutside
    (refuse_if (check_right body) CheckRight
    (Ok tt))

-- what is told of a body
unfoldable pub finding : List ℕ → Result (Option BitPlace) Refusal
finding body = by_verdict Ok Err (judged_for body) (bit_that_would body)
