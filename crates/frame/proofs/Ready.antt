-- Shown: once a body was made ready, or refused, the verdict of frame writing is that of the paper's order 5, 2, 9.
-- Why: the verdict on the fields decides the rest, and a body made ready is the one the frame is defined by.
use Rattle.std.specs.Prelude.{Result, Ok, Err}
use Prim.Native.Nat.{ℕ, ◌+◌, ◌≤◌, ◌<◌}
use mathlib.Core.Path.{◌≡◌, ◌∙◌, sym, ap}
use mathlib.Core.Bool.{Bool, true, false, not}
use mathlib.Core.List.{List}
use native.Mathlib.Omega.{arith}
use borrow.Author.Tests.{lt-ltb, le-ltb, ltb-false}
use lib.Dec.{ltb}
use lib.ListN.{length, take}
use lib.Seq.{take_at}
use Rattle.refusal.specs.declared.Refusal.{Refusal}
use Rattle.refusal.specs.declared.Refusal.TheVariants.{AddressIllegal, BodyLong}
use Rattle.refusal.specs.Numbers.{refuse_if}
use Rattle.refusal.proofs.Verdicts.{refused_not_good, test_passed, rest_passed, Tells, verdict_good, verdict_refused}
use Rattle.room.specs.Laying.{Laid}
use Rattle.room.specs.Writing.{judged_room}
use Rattle.room.proofs.Over.{laid_front}
use Rattle.body.specs.declared.addresses.Address.{Address}
use Rattle.body.specs.Addresses.{legal}
use Rattle.body.specs.Body.{body_of}
use Rattle.frame.specs.Stuffing.{count_ff, needed}
use Rattle.frame.specs.Writing.{judged_fields, needed_for, judged_write}
use Rattle.frame.specs.Preparing.{Prepared}
use Rattle.frame.proofs.Pieces.{read_back}

needed_tells : Tells {A = ℕ} {B = Result ℕ Refusal} Ok Err
needed_tells = record { value = λ e. cc; refusal = λ e. cc; apart = λ e. cc }

-- a chain of two tests that refuses goes on refusing, whatever is judged after it
chain_refused : (a b : Bool) (p q : Refusal) (after : Result (Unit {0}) Refusal) (why : Refusal) → refuse_if a p (refuse_if b q (Ok tt)) ≡ Err why → refuse_if a p (refuse_if b q after) ≡ Err why
chain_refused true b p q after why e = e
chain_refused false true p q after why e = e
chain_refused false false p q after why e = refused_not_good (sym e)

module _ (address : Address) (code : ℕ) (data' : List ℕ) where
  -- the three answers of making ready
  pub illegal_prepared : (empty left : List ℕ) → legal address ≡ false → Prepared address code data' empty (Err AddressIllegal) left
  unfolding needed_for judged_fields
  illegal_prepared empty left illegal = record { answer = rw illegal; body = λ good. refused_not_good (rw illegal at good) }

  pub long_prepared : (empty left : List ℕ) → legal address ≡ true → 255 < length (body_of address code data')
      → Prepared address code data' empty (Err BodyLong) left
  unfolding needed_for judged_fields
  long_prepared empty left is_legal long =
      let test = lt-ltb 255 _ long in
      record { answer = rw (is_legal, test); body = λ good. refused_not_good (rw (is_legal, test) at good) }

  pub ready_prepared : {empty left : List ℕ} {end count : ℕ} → legal address ≡ true → length (body_of address code data') ≤ 255 → 255 ≤ length empty
      → Laid 0 (body_of address code data') empty end left → count ≡ count_ff (take end left)
      → Prepared address code data' empty (Ok (end + 3 + count)) left
  unfolding needed_for judged_fields needed
  ready_prepared {empty} {left} {end} {count} is_legal short enough laid counted =
      let fits : length (body_of address code data') ≤ length empty = omega arith in
      let test = le-ltb 255 _ short in
      record {
        answer = rw (is_legal, test, counted, read_back fits laid, (laid_front fits laid).0);
        body = λ _. (laid_front fits laid).1;
      }

  -- what was made ready tells the verdict on the fields, and the room needed
  pub bytes_good : {n : ℕ} {empty left : List ℕ} → Prepared address code data' empty (Ok n) left
      → (judged_fields address code data' (Ok tt) ≡ Ok tt) × (n ≡ needed (body_of address code data'))
  unfolding needed_for
  bytes_good {n} p = verdict_good needed_tells (judged_fields address code data' (Ok tt)) _ n (sym p.answer)

  pub good_length : judged_fields address code data' (Ok tt) ≡ Ok tt → length (body_of address code data') ≤ 255
  unfolding judged_fields
  good_length good = ltb-false 255 _ (test_passed (ltb 255 (length (body_of address code data'))) _ _ (rest_passed (not (legal address)) _ _ good))

  fields_good : (after : Result (Unit {0}) Refusal) → judged_fields address code data' (Ok tt) ≡ Ok tt → judged_fields address code data' after ≡ after
  unfolding judged_fields
  fields_good after good =
      let is_legal = test_passed (not (legal address)) _ _ good in
      let fits = le-ltb 255 _ (good_length good) in
      rw (is_legal, fits)

  -- the verdict on the write: 5 or 2; or else 9 alone is left to be judged
  pub fields_refused : {why : Refusal} {empty left : List ℕ} (room : List ℕ) → Prepared address code data' empty (Err why) left
      → judged_write address code data' room ≡ Err why
  unfolding needed_for judged_write judged_fields
  fields_refused {why} room p =
      let verdict = verdict_refused needed_tells (judged_fields address code data' (Ok tt)) _ why (sym p.answer) in
      chain_refused (not (legal address)) (ltb 255 (length (body_of address code data'))) _ _ (judged_room (needed (body_of address code data')) room) why verdict

  pub room_left : {n : ℕ} {empty left : List ℕ} (room : List ℕ) → Prepared address code data' empty (Ok n) left
      → judged_write address code data' room ≡ judged_room n room
  unfolding judged_write
  room_left room p =
      fields_good (judged_room (needed (body_of address code data')) room) (bytes_good p).0 ∙ ap (λ (n : ℕ). judged_room n room) (sym (bytes_good p).1)

  -- the body made ready is there to be read
  pub ready_body : {n end : ℕ} {empty left : List ℕ} → Prepared address code data' empty (Ok n) left
      → end ≡ length (body_of address code data') → take end left ≡ body_of address code data'
  ready_body {n} {end} {empty} {left} p e =
      ap (λ (l : List ℕ). take end l) (p.body (bytes_good p).0) ∙ take_at (body_of address code data') _ end (sym e)
