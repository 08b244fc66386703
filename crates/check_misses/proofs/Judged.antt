-- Shown: of two bodies that are taken the differences that the check never misses do not occur, and a heard body with one bit turned over is refused.
-- Why: what is taken passes. A heard body passes and is long enough: turned over it has the same length and another check, so it fails 1 by its address
-- alone, or 4.
use Rattle.std.specs.Prelude.{Result, Ok, Err}
use Prim.Native.Nat.{ℕ, ◌≤◌, ◌<◌}
use mathlib.Core.Path.{◌≡◌, ◌∙◌, refl, sym, ap}
use mathlib.Core.Bool.{Bool, true, false, not, cond, ◌&&◌}
use mathlib.Core.List.{List, [], ◌∷◌}
use native.Mathlib.Omega.{arith}
use borrow.Author.Tests.{le-ltb, ne_eqb}
use lib.Dec.{ltb, eqb}
use lib.ListN.{length, length-append, get_or}
use lib.Bits.{bit_xor, xor_zero_l}
use Rattle.refusal.specs.declared.Refusal.TheVariants.{BodyShort, CheckWrong, AddressIllegal}
use Rattle.refusal.specs.Numbers.{refuse_if}
use Rattle.check_byte.specs.Register.{received}
use Rattle.body.specs.Addresses.{legal, address_in}
use Rattle.body.specs.Body.{longest, short, check_right, judged, judged_lent}
use Rattle.body.proofs.Rebuilding.{good_check, lent_good, lent_is}
use Rattle.body.proofs.Shortness.{good_not_short, three}
use Rattle.line.specs.Listener.{Heard, nothing, frame, refused, Listener, Step, hear}
use Rattle.line.specs.Readers.{view, kept_of}
use Rattle.line.proofs.EveryStep.{every_step, every_event}
use Rattle.line.proofs.Joined.{few_kept}
use Rattle.check_misses.specs.Places.{bits_of, turned_over}
use Rattle.check_misses.specs.Powers.{power}
use Rattle.check_misses.specs.Judged.{BothTaken, earned_by, OneBitRefused}
use Rattle.check_misses.proofs.Zeros.{power_some}
use Rattle.check_misses.proofs.Neighbours.{eight_neighbours}
use Rattle.check_misses.proofs.OneOrTwo.{one_or_two_bits}
use Rattle.check_misses.proofs.TurnedOver.{length_turned, check_turned}
use Rattle.refusal.specs.declared.Refusal.{Refusal}

pub both_taken : BothTaken
both_taken first second alike a b =
    let p = good_check first (lent_good first a) in
    let q = good_check second (lent_good second b) in
    record { neighbours = λ other only. eight_neighbours first second alike other only p q; bits = λ few bits. one_or_two_bits first second alike few bits p q }

-- a body whose check is wrong is refused by 4, or by 1 where it is short
pub short_or_four : (is_short : Bool) (later : Result (Unit {0}) Refusal) → refuse_if is_short BodyShort (refuse_if true CheckWrong later) ≡ Err (cond is_short BodyShort CheckWrong)
short_or_four true later = refl
short_or_four false later = refl

-- ---- a good body with one bit turned over

module _ (body : List ℕ) (good : judged body ≡ Ok tt) (most : length body ≤ longest) (place : ℕ) (h : place < bits_of body) where
  body' : List ℕ
  body' = turned_over place body

  -- its check is wrong
  wrong : check_right body' ≡ false
  unfolding body'
  wrong =
      let is : received (turned_over place body) ≡ power place =
      check_turned place body h ∙ ap (λ (n : ℕ). bit_xor n (power place)) (good_check body good) ∙ xor_zero_l (power place) in
      ne_eqb (received (turned_over place body)) 0 (λ none. power_some place (sym is ∙ none))

  -- it has the three bytes that it had
  serial_alone : short body' ≡ (eqb (get_or body' 0 0) 0 && ltb (length body') 6)
  unfolding short body'
  serial_alone = rw (le-ltb (length (turned_over place body)) 3 (rw (length_turned place body) (three body (good_not_short body good))))

  turned_judged : judged_lent (turned_over place body) ≡ Err (earned_by (turned_over place body))
  unfolding judged body'
  turned_judged =
      lent_is body' (rw (length_turned place body) most)
      ∙ rw (serial_alone, wrong) (short_or_four (eqb (get_or body' 0 0) 0 && ltb (length body') 6) (refuse_if (not (legal (address_in body'))) AddressIllegal (Ok tt)))

-- ---- what a listener hears

abbrev Few : Listener → Type 0
Few listener = length (kept_of listener.state) ≤ longest

-- a frame's body is good and has at most 255 bytes
abbrev Sound : Heard → Type 0
Sound nothing = Unit {0}
Sound (frame wire kept body) = (judged body ≡ Ok tt) × (length body ≤ longest)
Sound (refused why wire kept) = Unit {0}

one_byte : (listener : Listener) (byte : ℕ) → Few listener → Few (hear listener byte).next × Sound (hear listener byte).event
one_byte listener byte few =
    let kept = kept_of listener.state in
    every_step (λ (s : Step). Few s.next × Sound s.event) listener byte
    (record {
      empty = λ next none. (omega (arith, ap length none), tt);
      as_it_was = (few, tt);
      keeps = λ more _ fits. (omega (arith, length-append kept (more ∷ [])), tt);
      full = λ over. (omega arith, tt);
      broken = (omega arith, tt);
      good = λ good. (omega arith, (good, few));
      bad = λ why e. (omega arith, tt);
    })

pub one_bit_refused : OneBitRefused
one_bit_refused reader bytes wire kept body heard place h =
    let sound = every_event (λ (listener : Listener) (bytes : List ℕ). Few listener) Sound (λ listener byte bytes few. one_byte listener byte few) (view reader) bytes
    (few_kept reader.place reader.body) (frame wire kept body) heard in
    turned_judged body sound.0 sound.1 place h
