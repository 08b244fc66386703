-- `bad_bit::find` meets its contract: which single bit makes the body pass, or none; 25 and 26 in their order.
-- Why: the tests are the definition's; a bit makes the body pass where the register is the power of x of its place, and the table is looked through for that.
use Rattle.std.proofs.Common.{ℕ, ◌≡◌, ◌∙◌, refl, sym, ap, arith, length, false, Ok, inl, inr}
use Rattle.check_byte.specs.Register.{received}
use Rattle.check_misses.specs.Places.{bits_of}
use Rattle.bad_bit.specs.WhichBit.{passes_with, highest_below, bit_that_would}
use Rattle.bad_bit.specs.Table.{doubled_and_folded, entries_from, is_power}
use Rattle.bad_bit.proofs.Asked.{outside, is_outside, is_inside, said_outside, said_right, said_bit}
use Rattle.bad_bit.proofs.Search.{same_search}
use Rattle.bad_bit.proofs.BitTest.{power_test}
use Rattle.bad_bit.proofs.find.Goals as goal
use Rattle.bad_bit.proofs.find.Goals.{then-is_empty-via-then-is_empty, then-is_empty-via-else-is_empty+then-body-gt-LONGEST_ASKED}

pub returns-then-is_empty : goal.returns-then-is_empty
returns-then-is_empty c = let body = c.args.body.now in sym (said_outside body (is_outside (length body) (elim c.then-is_empty.branch [
  | then-is_empty-via-then-is_empty w ↦ inl (grind arith)
  | then-is_empty-via-else-is_empty+then-body-gt-LONGEST_ASKED w ↦ inr w.if-body-gt-LONGEST_ASKED.true
])))

pub returns-then-register-eq0 : goal.returns-then-register-eq0
unfolding received
returns-then-register-eq0 c =
    let body = c.args.body.now in
    let inside : outside (length body) ≡ false = is_inside (length body) (grind arith) (omega arith) in
    sym (said_right body inside (sym c.feed_all-register.ensures ∙ c.if-register-eq0.true))

pub place_of-requires : goal.place_of-requires
unfolding entries_from doubled_and_folded
place_of-requires c = (omega arith, refl)

pub returns : goal.returns
unfolding received bit_that_would
returns c =
    let body = c.args.body.now in
    let inside : outside (length body) ≡ false = is_inside (length body) (grind arith) (omega arith) in
    let ends = c.feed_all-register.ensures in
    ap Ok
    (c.place_of.ensures
    ∙ ap (λ (register : ℕ). highest_below (bits_of body) (is_power register)) ends
    ∙ same_search (bits_of body) (is_power (received body)) (passes_with body) (power_test body))
    ∙ sym (said_bit body inside (λ none. c.if-register-eq0.false (ends ∙ none)))
