-- Shown: what the block feeder goes by: one byte taken, the next turn, the stop at an event, the end of the block; and what a block tells.
-- Why: a block is fed byte by byte by its definition, and each byte is joined to the paper's listener.
use Rattle.std.proofs.Common.{◌≡◌, ℕ, ◌+◌, ◌<◌, ◌≤◌, Bool, true, false, ltb, List, [], ◌∷◌, length, get_or, drop, sym, refl, ap, ◌∙◌, add-one, arith, drop_of_length-le, drop-cons, eq-eqb, Option, Some, None}
use Rattle.std.specs.Prelude.{is_some}
use Rattle.line.specs.declared.places.Place.{Place}
use Rattle.line.specs.declared.moving.Moved.{Moved}
use Rattle.line.specs.declared.places.Event.{Event}
use Rattle.line.specs.declared.places.Event.TheVariants.{Frame, Refused}
use Rattle.line.specs.declared.listening.Went.{Went}
use Rattle.line.specs.declared.reading.Reader.{Reader}
use Rattle.line.specs.declared.reading.Taken.{Taken}
use Rattle.line.specs.declared.reading.Fed.{Fed}
use Rattle.line.specs.Listener.{Heard, Listener, hear}
use Rattle.line.specs.Readers.{listening, view, heard_as, taken, unless, fed_from, fed, or_else, first_heard, Takes, Feeds, fed_lent, went_of, Listens}
use Rattle.line.specs.Steps.{sound_place, Keeps}
use Rattle.line.proofs.Joined.{joined, told, over_full}

-- ---- a state handed in with more than 255 kept

pub sound_view : (place : Place) (array : List ℕ) → listening (sound_place place) array ≡ listening place array
unfolding listening
sound_view place array = by_count (ltb 255 place.kept.0) refl
  where
    by_count : (test : Bool) → ltb 255 place.kept.0 ≡ test → listening (sound_place place) array ≡ listening place array
    by_count true over_long = rw over_long
    by_count false few = rw few (rw few)

-- ---- one byte

-- a step is a byte taken
pub taken_is : (reader : Reader) (byte : ℕ) {moved : Moved} {left : List ℕ} → Keeps (hear (view reader) byte) reader.body moved left
    → ◌≡◌ {A = Taken} (record { reader = record { place = moved.place.place; body = left }; event = moved.event }) (taken reader byte)
unfolding taken
taken_is reader byte keeps = λ i. record { reader = record { place = keeps.moved.place i; body = keeps.body i }; event = keeps.moved.event i }

pub taken_full : (reader : Reader) (byte : ℕ) → length reader.body ≡ 255 → length (taken reader byte).reader.body ≡ 255
unfolding taken
taken_full reader byte full = over_full reader.place reader.body byte full

-- the reader that a reader handed in is treated as
abbrev pub soundly : Reader → Reader
soundly reader = record { place = sound_place reader.place; body = reader.body }

pub taken_sound : (reader : Reader) (byte : ℕ) → taken (soundly reader) byte ≡ taken reader byte
unfolding taken
taken_sound reader byte = rw (sound_view reader.place reader.body)

-- ---- a block

pub fed_sound : (reader : Reader) (block : List ℕ) → 0 < length block → fed (soundly reader) block ≡ fed reader block
unfolding fed_from
fed_sound reader [] h = absurd (omega arith)
fed_sound reader (byte ∷ block) h = rw (taken_sound reader byte)

unless_some : (event : Option Event) (later stopped : Fed) → is_some event ≡ true → unless event later stopped ≡ stopped
unless_some None later stopped e = cc
unless_some (Some event) later stopped e = refl

unless_none : (event : Option Event) (later stopped : Fed) → is_some event ≡ false → unless event later stopped ≡ later
unless_none None later stopped e = refl
unless_none (Some event) later stopped e = cc

-- what holds of the rest of a block and of a stop here holds of both
unless_either : (holds : Fed → Type 0) (event : Option Event) (later stopped : Fed) → holds later → holds stopped → holds (unless event later stopped)
unless_either holds None later stopped l s = l
unless_either holds (Some event) later stopped l s = s

module _ (block : List ℕ) (reader : Reader) (used : ℕ) (more : used < length block) {t : Taken} (is : t ≡ taken reader (get_or block used 0)) where
  -- a byte that gives nothing, and the rest of the block
  pub next_turn : is_some t.event ≡ false → fed_from (used + 1) t.reader (drop (used + 1) block) ≡ fed_from used reader (drop used block)
  unfolding fed_from
  next_turn silent = rw (drop-cons block used 0 more, ← is, add-one used) (sym (unless_none _ _ _ silent))

  -- a byte that gives an event is the last one taken
  pub stop : is_some t.event ≡ true → ◌≡◌ {A = Fed} (record { reader = t.reader; event = t.event; used = used + 1 }) (fed_from used reader (drop used block))
  unfolding fed_from
  stop spoken = rw (drop-cons block used 0 more, ← is) (sym (unless_some _ _ _ spoken))

pub at_end : (block : List ℕ) (reader : Reader) (used : ℕ) → length block ≤ used → ◌≡◌ {A = Fed} (record { reader = reader; event = None; used = used }) (fed_from used reader (drop used block))
unfolding fed_from
at_end block reader used h = rw (drop_of_length-le block h)

-- what a block tells is what the paper's listener says first
step_told : (event : Option Event) (reader : Reader) (later : Fed) (used : ℕ) (first rest : Heard) → heard_as event reader.body ≡ first → heard_as later.event later.reader.body ≡ rest
    → heard_as (unless event later (record { reader = reader; event = event; used = used })).event (unless event later (record { reader = reader; event = event; used = used })).reader.body ≡ or_else first rest
step_told None reader later used first rest e f = f ∙ ap (λ (h : Heard). or_else h rest) e
step_told (Some (Frame wire kept)) reader later used first rest e f = ap (λ (h : Heard). or_else h rest) e
step_told (Some (Refused why wire kept)) reader later used first rest e f = ap (λ (h : Heard). or_else h rest) e

pub fed_told : (used : ℕ) (reader : Reader) (block : List ℕ) → heard_as (fed_from used reader block).event (fed_from used reader block).reader.body ≡ first_heard (view reader) block
unfolding fed_from first_heard
fed_told used reader [] = refl
fed_told used reader (byte ∷ block) =
    step_told (taken reader byte).event (taken reader byte).reader (fed_from (used + 1) (taken reader byte).reader block) (used + 1) _ _ (told reader byte)
    (fed_told (used + 1) (taken reader byte).reader block ∙ ap (λ (l : Listener). first_heard l block) (joined reader byte))

-- how far a block goes: on, and not past its end
fed_inside : (used : ℕ) (reader : Reader) (block : List ℕ) → (fed_from used reader block).used ≤ used + length block
unfolding fed_from
fed_inside used reader [] = omega arith
fed_inside used reader (byte ∷ block) =
    unless_either (λ (f : Fed). f.used ≤ used + length (byte ∷ block)) (taken reader byte).event _ _
    (omega (arith, fed_inside (used + 1) (taken reader byte).reader block)) (omega arith)

fed_forward : (used : ℕ) (reader : Reader) (block : List ℕ) → used ≤ (fed_from used reader block).used
unfolding fed_from
fed_forward used reader [] = omega arith
fed_forward used reader (byte ∷ block) =
    unless_either (λ (f : Fed). used ≤ f.used) (taken reader byte).event _ _
    (omega (arith, fed_forward (used + 1) (taken reader byte).reader block)) (omega arith)

fed_on : (reader : Reader) (block : List ℕ) → 0 < length block → 0 < (fed reader block).used
unfolding fed_from
fed_on reader [] h = absurd (omega arith)
fed_on reader (byte ∷ block) h = unless_either (λ (f : Fed). 0 < f.used) (taken reader byte).event _ _ (fed_forward 1 (taken reader byte).reader block) (omega arith)

-- the promise of a block, from its answer
pub feeds : (reader : Reader) (block : List ℕ) {answered : Fed} → answered ≡ fed reader block → Feeds reader block answered
feeds reader block e = record {
  answer = e;
  told = rw e (fed_told 0 reader block);
  inside = rw e (omega (arith, fed_inside 0 reader block));
  forward = λ some. rw e (fed_on reader block some);
}

pub takes : (reader : Reader) (byte : ℕ) {answered : Taken} → answered ≡ taken reader byte → Takes reader byte answered
takes reader byte e = record { answer = e; told = rw e (told reader byte) }

-- ---- the same with the array lent

abbrev pub standing : Place → List ℕ → Reader
standing place body = record { place = place; body = body }

pub lent_full : (place : Place) (block before : List ℕ) → length before ≡ 255 → fed_lent place block before ≡ fed (standing place before) block
unfolding fed_lent
lent_full place block before full = rw (eq-eqb (length before) 255 full)

-- a fed reader's array is as long as before
fed_full : (used : ℕ) (reader : Reader) (block : List ℕ) → length reader.body ≡ 255 → length (fed_from used reader block).reader.body ≡ 255
unfolding fed_from
fed_full used reader [] full = full
fed_full used reader (byte ∷ block) full =
    let after = taken_full reader byte full in
    unless_either (λ (f : Fed). length f.reader.body ≡ 255) (taken reader byte).event _ _ (fed_full (used + 1) (taken reader byte).reader block after) after

-- the promise, from an answer
pub listens : (place : Place) (block before : List ℕ) (next : Place) (event : Option Event) (used : ℕ) (left : List ℕ) → length before ≡ 255
    → ◌≡◌ {A = Fed} (record { reader = standing next left; event = event; used = used }) (fed (standing place before) block)
    → Listens place block before (record { place = next; event = event; used = used }) left
listens place block before next event used left full e =
    let reader = standing place before in
    let lent = e ∙ sym (lent_full place block before full) in
    let promise = feeds reader block e in
    record {
      answer = ap went_of lent;
      body = ap (λ (f : Fed). f.reader.body) lent;
      told = λ _. promise.told;
      inside = promise.inside;
      forward = λ _. promise.forward;
      full = λ _. ap (λ (f : Fed). length f.reader.body) e ∙ fed_full 0 reader block full;
    }

-- a block heard with the array lent is a block fed
pub fed_lent_lem : (reader : Reader) (block : List ℕ) {went : Went} {left : List ℕ} → length reader.body ≡ 255 → Listens reader.place block reader.body went left
    → ◌≡◌ {A = Fed} (record { reader = standing went.place left; event = went.event; used = went.used }) (fed reader block)
fed_lent_lem reader block full l =
    (λ i. record { reader = standing (l.answer i).place (l.body i); event = (l.answer i).event; used = (l.answer i).used })
    ∙ lent_full reader.place block reader.body full
