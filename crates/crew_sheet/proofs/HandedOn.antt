-- Shown: after refusal 4 the first `kept` bytes of the array are the body that failed, of `take`, `feed`, `listen` and a walker's step; of 31 bytes at most it is asked.
-- Why: only a body that has ended is refused by 4. Its bytes stood at the array's front, and the listener, now Delimited, laid none over them.
use Rattle.std.specs.Prelude.{Result, Ok, Err, Option, Some, None}
use Prim.Native.Nat.{ℕ, suc, ◌+◌, ◌-◌}
use mathlib.Core.Path.{◌≡◌, ◌∙◌, refl, sym, ap, subst}
use mathlib.Core.Bool.{Bool, true, false, not}
use mathlib.Core.List.{List, [], ◌∷◌}
use mathlib.Core.Logic.{inr}
use native.Mathlib.Decide.{dec_le}
use native.Mathlib.Nat.{zero-add, lt_of_not-le}
use native.Mathlib.Omega.{arith}
use borrow.Author.Tests.{eqb-true, eqb-false}
use lib.Dec.{ltb, eqb, lit≤}
use lib.ListN.{length, take, drop}
use Rattle.refusal.specs.declared.Refusal.{Refusal}
use Rattle.refusal.specs.declared.Refusal.TheVariants.{BodyShort, BodyLong, HeldBroken, CheckWrong, AddressIllegal}
use Rattle.refusal.specs.Numbers.{number_of, verdict_number, refuse_if}
use Rattle.check_byte.specs.Register.{received}
use Rattle.body.specs.Addresses.{legal, address_in}
use Rattle.body.specs.Body.{longest, short, check_right, judged}
use Rattle.body.proofs.Shortness.{three}
use Rattle.room.specs.Laying.{over}
use Rattle.line.specs.declared.places.WirePlace.{WirePlace}
use Rattle.line.specs.declared.places.BodyPlace.{BodyPlace}
use Rattle.line.specs.declared.places.Event.{Event}
use Rattle.line.specs.declared.places.Event.TheVariants as event_as
use Rattle.line.specs.declared.places.Place.{Place}
use Rattle.line.specs.declared.reading.Reader.{Reader}
use Rattle.line.specs.declared.listening.Went.{Went}
use Rattle.line.specs.declared.reading.Taken.{Taken}
use Rattle.line.specs.declared.reading.Fed.{Fed}
use Rattle.line.specs.Listener.{State, seeking, delimited, inside, held, Heard, nothing, frame, refused, Listener, Step, step, keep, ended, tick, hear_in, hear, after}
use Rattle.line.specs.Readers.{listening, view, place_of, kept_of, event_of, taken, unless, fed_from, fed, fed_lent}
use Rattle.line.proofs.EveryStep.{either}
use Rattle.line.proofs.Joined.{kept_front, joined}
use Rattle.capture_walker.specs.declared.stepping.Stepped.{Stepped}
use Rattle.capture_walker.specs.declared.walking.Walked.{Walked}
use Rattle.capture_walker.specs.Walking.{start_at, step_from}
use Rattle.capture_walker.proofs.AtRest.{at_start}
use Rattle.capture_walker.proofs.OneStep.{step_ends, step_hears}
use Rattle.crew_sheet.specs.HandedOn.{BodyThatFailed, AfterListen, AfterFeed, AfterTake, AfterStep, AfterWalkerStep, HandedOn}
use Rattle.crew_sheet.proofs.Findings.{each_told_exactly}

-- ---- one byte

-- a state holds a body that an FF ended, and it is refused by 4
pub record Ends (state : State) (byte : ℕ) (next : State) (kept : ℕ) : Type 0 where
  pub body : List ℕ
  pub was_held : state ≡ held body
  pub by : byte ≡ 0xFF
  pub whole : length body ≡ kept
  pub failed : judged body ≡ Err CheckWrong
  pub empty : kept_of next ≡ []

abbrev IfFour : State → ℕ → State → Heard → Type 0
IfFour state byte next nothing = Unit {0}
IfFour state byte next (frame wire kept body) = Unit {0}
IfFour state byte next (refused why wire kept) = why ≡ CheckWrong → Ends state byte next kept

abbrev Four : State → ℕ → Step → Type 0
Four state byte s = IfFour state byte s.next.state s.event

not_four : {A : Type 0} (why : Refusal) → (number_of why ≡ 4 → ⊥) → why ≡ CheckWrong → A
not_four why other is = absurd (other (ap number_of is))

to_keep : (state : State) (byte : ℕ) (kept : List ℕ) (more wire : ℕ) → Four state byte (keep kept more wire)
unfolding keep
to_keep state byte kept more wire = either (Four state byte) (ltb (length kept) longest) _ _ (λ _. tt) (λ _. not_four BodyLong (λ (e : 2 ≡ 4). omega (arith, e)))

at_end : (kept : List ℕ) (byte wire : ℕ) → byte ≡ 0xFF → (verdict : Result (Unit {0}) Refusal) → judged kept ≡ verdict → Four (held kept) byte (step delimited wire (ended verdict kept wire))
unfolding ended
at_end kept byte wire by (Ok tt) is = tt
at_end kept byte wire by (Err why) is =
    λ four. record { body = kept; was_held = refl; by = by; whole = refl; failed = is ∙ ap Err four; empty = refl }

four_in_lem : (state : State) (byte wire : ℕ) → Four state byte (hear_in state byte wire)
unfolding hear_in
four_in_lem seeking byte wire = either (Four seeking byte) (eqb byte 0xFF) _ _ (λ _. tt) (λ _. tt)
four_in_lem delimited byte wire =
    either (Four delimited byte) (eqb byte 0xFF) _ _ (λ _. tt)
    (λ _. either (Four delimited byte) (eqb byte 0xFE) _ _ (λ _. tt) (λ _. to_keep delimited byte [] byte wire))
four_in_lem (inside kept) byte wire = either (Four (inside kept) byte) (eqb byte 0xFF) _ _ (λ _. tt) (λ _. to_keep (inside kept) byte kept byte wire)
four_in_lem (held kept) byte wire =
    either (Four (held kept) byte) (eqb byte 0xFE) _ _ (λ _. to_keep (held kept) byte kept 0xFF wire)
    (λ _. either (Four (held kept) byte) (eqb byte 0xFF) _ _ (λ is. at_end kept byte wire (eqb-true byte 0xFF is) (judged kept) refl)
    (λ _. not_four HeldBroken (λ (e : 3 ≡ 4). omega (arith, e))))

-- the same of an event that is handed back
abbrev IfEventFour : State → ℕ → State → Option Event → Type 0
IfEventFour state byte next None = Unit {0}
IfEventFour state byte next (Some (event_as.Frame wire kept)) = Unit {0}
IfEventFour state byte next (Some (event_as.Refused why wire kept)) = why ≡ CheckWrong → Ends state byte next kept.0

handed_back : (state : State) (byte : ℕ) (next : State) (heard : Heard) → IfFour state byte next heard → IfEventFour state byte next (event_of heard)
handed_back state byte next nothing four = tt
handed_back state byte next (frame wire kept body) four = tt
handed_back state byte next (refused why wire kept) four = four

ends_at : (reader : Reader) (byte : ℕ) (wire : WirePlace) (kept : BodyPlace) → (taken reader byte).event ≡ Some (event_as.Refused CheckWrong wire kept)
    → Ends (view reader).state byte (hear (view reader) byte).next.state kept.0
unfolding taken hear
ends_at reader byte wire kept is =
    let state = (view reader).state in
    let heard = hear_in state byte (tick (view reader).wire) in
    subst (IfEventFour state byte heard.next.state) is (handed_back state byte heard.next.state heard.event (four_in_lem state byte (tick (view reader).wire))) refl

-- the body that ended stands at the array's front, in the array handed back too
one_byte : (reader : Reader) (byte : ℕ) (block : List ℕ) (wire : WirePlace) (kept : BodyPlace) → (taken reader byte).event ≡ Some (event_as.Refused CheckWrong wire kept)
    → BodyThatFailed (view reader) (byte ∷ block) 1 kept.0 (taken reader byte).reader.body
unfolding taken after
one_byte reader byte block wire kept is =
    let ends = ends_at reader byte wire kept is in
    let body = ends.body in
    let array : over (kept_of (hear (view reader) byte).next.state) reader.body ≡ reader.body = ap (λ (front : List ℕ). over front reader.body) ends.empty in
    let front : take kept.0 reader.body ≡ body =
    ap (λ (n : ℕ). take n reader.body) (sym ends.whole ∙ ap (λ (s : State). length (kept_of s)) (sym ends.was_held))
    ∙ kept_front reader.place reader.body ∙ ap kept_of ends.was_held in
    let same = ap (take kept.0) array ∙ front in
    record {
      was_held = ends.was_held ∙ ap held (sym same);
      some = lit≤ tt;
      by_delimiter = ends.by;
      whole = ap length same ∙ ends.whole;
      failed = ap judged same ∙ ends.failed;
    }

pub after_take : AfterTake
after_take reader byte answered takes wire kept is =
    rw takes.answer (one_byte reader byte [] wire kept (ap (λ (t : Taken). t.event) (sym takes.answer) ∙ is))

-- ---- a block

-- the listener one byte ahead, with the rest of the block
one_sooner : (listener : Listener) (byte : ℕ) (block : List ℕ) (used kept : ℕ) (array : List ℕ) → BodyThatFailed (hear listener byte).next block (suc used) kept array
    → BodyThatFailed listener (byte ∷ block) (suc (suc used)) kept array
unfolding after
one_sooner listener byte block used kept array failed =
    let here : suc (suc used) - 1 ≡ suc used = omega arith in
    let there : suc used - 1 ≡ used = omega arith in
    record {
      some = omega arith;
      was_held = rw here (rw there at failed.was_held);
      by_delimiter = rw here (rw there at failed.by_delimiter);
      whole = failed.whole;
      failed = failed.failed;
    }

-- a block fed from some bytes used on: it used one more at least, and the body that failed is the one that the bytes used from there on ended
pub record FailedFrom (used : ℕ) (listener : Listener) (block : List ℕ) (kept : BodyPlace) (answer : Fed) : Type 0 where
  pub before_last : ℕ
  pub counts : answer.used ≡ used + suc before_last
  pub failed : BodyThatFailed listener block (suc before_last) kept.0 answer.reader.body

abbrev IsNothing : Option Event → Type 0
IsNothing None = Unit {0}
IsNothing (Some event) = ⊥

module _ (wire : WirePlace) (kept : BodyPlace) where
  abbrev IsFour : Option Event → Type 0
  IsFour event = event ≡ Some (event_as.Refused CheckWrong wire kept)

  at_byte : (used : ℕ) (reader : Reader) (byte : ℕ) (block : List ℕ) (event : Option Event) → (taken reader byte).event ≡ event → IsFour event
      → FailedFrom used (view reader) (byte ∷ block) kept (record { reader = (taken reader byte).reader; event = event; used = used + 1 })
  at_byte used reader byte block event told is =
      record { before_last = 0; counts = refl; failed = one_byte reader byte block wire kept (told ∙ is) }

  by_event : (used : ℕ) (reader : Reader) (byte : ℕ) (block : List ℕ) (later : Fed) → (IsFour later.event → FailedFrom (used + 1) (hear (view reader) byte).next block kept later)
      → (event : Option Event) → (taken reader byte).event ≡ event
      → IsFour (unless event later (record { reader = (taken reader byte).reader; event = event; used = used + 1 })).event
      → FailedFrom used (view reader) (byte ∷ block) kept (unless event later (record { reader = (taken reader byte).reader; event = event; used = used + 1 }))
  by_event used reader byte block later sooner None told is =
      let failed = sooner is in
      let more : used + 1 + suc failed.before_last ≡ used + suc (suc failed.before_last) = omega arith in
      record {
        before_last = suc failed.before_last;
        counts = failed.counts ∙ more;
        failed = one_sooner (view reader) byte block failed.before_last kept.0 later.reader.body failed.failed;
      }
  by_event used reader byte block later sooner (Some (event_as.Frame wire' kept')) told is = at_byte used reader byte block (Some (event_as.Frame wire' kept')) told is
  by_event used reader byte block later sooner (Some (event_as.Refused why wire' kept')) told is = at_byte used reader byte block (Some (event_as.Refused why wire' kept')) told is

  failed_from : (used : ℕ) (reader : Reader) (block : List ℕ) → IsFour (fed_from used reader block).event → FailedFrom used (view reader) block kept (fed_from used reader block)
  unfolding fed_from
  failed_from used reader [] is = absurd (subst IsNothing is tt)
  failed_from used reader (byte ∷ block) is =
      let next = (taken reader byte).reader in
      by_event used reader byte block (fed_from (used + 1) next block)
      (λ later. subst (λ (l : Listener). FailedFrom (used + 1) l block kept (fed_from (used + 1) next block)) (joined reader byte) (failed_from (used + 1) next block later))
      (taken reader byte).event refl is

  failed_fed : (reader : Reader) (block : List ℕ) → IsFour (fed reader block).event
      → BodyThatFailed (view reader) block (fed reader block).used kept.0 (fed reader block).reader.body
  failed_fed reader block is =
      let failed = failed_from 0 reader block is in
      let count : (fed reader block).used ≡ suc failed.before_last = failed.counts ∙ zero-add (suc failed.before_last) in
      rw count failed.failed

pub after_feed : AfterFeed
after_feed reader block answered feeds wire kept is =
    rw feeds.answer (failed_fed wire kept reader block (ap (λ (f : Fed). f.event) (sym feeds.answer) ∙ is))

-- with the array lent: where it has 255 bytes it is fed, and a list of another length gives no event
lent : (place : Place) (block before : List ℕ) (wire : WirePlace) (kept : BodyPlace) (full : Bool) → eqb (length before) longest ≡ full
    → (fed_lent place block before).event ≡ Some (event_as.Refused CheckWrong wire kept)
    → BodyThatFailed (listening place before) block (fed_lent place block before).used kept.0 (fed_lent place block before).reader.body
unfolding fed_lent
lent place block before wire kept true is four = rw is (failed_fed wire kept (record { place = place; body = before }) block (rw is at four))
lent place block before wire kept false is four = absurd (subst IsNothing (rw is at four) tt)

pub after_listen : AfterListen
after_listen place block before answered left listens wire kept is =
    rw (listens.answer, listens.body)
    (lent place block before wire kept (eqb (length before) longest) refl (ap (λ (w : Went). w.event) (sym listens.answer) ∙ is))

-- ---- a capture that is walked

-- a step that tells refusal 4
walked : (block : List ℕ) (place : ℕ) (before : List ℕ) (wire : WirePlace) (kept : BodyPlace)
    → (step_from block place before).answer.next ≡ Some (event_as.Refused CheckWrong wire kept)
    → BodyThatFailed (start_at block place) (drop place block) ((step_from block place before).answer.place - place) kept.0 (step_from block place before).body
walked block place before wire kept is =
    elim (dec_le (length block) place) [
      | yes past ↦ absurd (subst IsNothing (rw (step_ends block place before past) at is) tt)
      | no within ↦
          let hears = step_hears block place before (lt_of_not-le within) in
          let heard = fed_lent (place_of (start_at block place)) (drop place block) before in
          let four : heard.event ≡ Some (event_as.Refused CheckWrong wire kept) = rw hears at is in
          let many : place + heard.used - place ≡ heard.used = omega arith in
          rw (hears, many)
          (subst (λ (l : Listener). BodyThatFailed l (drop place block) heard.used kept.0 heard.reader.body) (at_start block place before)
          (lent (place_of (start_at block place)) (drop place block) before wire kept (eqb (length before) longest) refl four))
    ]

pub after_step : AfterStep
after_step block place before answered left steps wire kept is =
    rw (steps.answer, steps.body) (walked block place before wire kept (ap (λ (s : Stepped). s.next) (sym steps.answer) ∙ is))

pub after_walker_step : AfterWalkerStep
after_walker_step walker before answered left steps wire kept is =
    rw (steps.answer, steps.body)
    (walked walker.block.now walker.place before wire kept (ap (λ (w : Walked). w.next) (sym steps.answer) ∙ is))

-- ---- handed on

-- a chain that is refused by 4 passed the test ahead, and failed the check
refused_by_four : (a b c : Bool) → refuse_if a BodyShort (refuse_if (not b) CheckWrong (refuse_if c AddressIllegal (Ok tt))) ≡ Err CheckWrong
    → (a ≡ false) × (b ≡ false)
refused_by_four true b c is = absurd (omega (arith, ap verdict_number is))
refused_by_four false false c is = (refl, refl)
refused_by_four false true true is = absurd (omega (arith, ap verdict_number is))
refused_by_four false true false is = absurd (omega (arith, ap verdict_number is))

pub handed_on_lem : HandedOn
unfolding judged
handed_on_lem listener block used kept array failed =
    let body = take kept array in
    let tests = refused_by_four (short body) (check_right body) (not (legal (address_in body))) failed.failed in
    let some = three body tests.0 in
    record {
      served = λ few. record { some = omega (arith, some); few = rw failed.whole few; fails = eqb-false (received body) 0 tests.1 };
      long = λ over. (each_told_exactly body).outside.1 (inr (rw failed.whole over));
    }
