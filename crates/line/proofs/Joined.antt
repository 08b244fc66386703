-- Shown: a state handed in and handed back stands for the paper's listener, byte by byte, for every state and every byte.
-- Why: the kept bytes are read back from the array's front, and there are never more than 255 of them.
use Rattle.std.proofs.Common.{◌≡◌, ℕ, ◌≤◌, Bool, true, false, ltb, List, [], ◌∷◌, length, take, drop, sym, refl, ap, ◌∙◌, arith, length-append, take-append-drop, length-take, ltb-false, le-ltb}
use lib.Seq.{take-append_seam}
use Rattle.room.specs.Laying.{over}
use Rattle.room.proofs.Over.{over_length}
use Rattle.line.specs.declared.places.Phase.{Phase}
use Rattle.line.specs.declared.places.Phase.TheVariants.{Seeking, Delimited, Inside, Held}
use Rattle.line.specs.declared.places.Place.{Place}
use Rattle.line.specs.declared.reading.Reader.{Reader}
use Rattle.line.specs.Listener.{State, seeking, delimited, inside, held, frame, Listener, Step, tick, hear}
use Rattle.line.specs.Readers.{state_of, listening, view, phase_of, kept_of, place_of, event_of, heard_as, taken}
use Rattle.line.proofs.EveryStep.{every_step}

-- what a step's array and count can hold: few kept bytes, and the body of a frame just heard
Fine : List ℕ → Step → Type 0
Fine array s = (length (kept_of s.next.state) ≤ 255) × (heard_as (event_of s.event) (over (kept_of s.next.state) array) ≡ s.event)

-- the bytes kept in the array are read back from it
front : (kept : ℕ) (array : List ℕ) → take (length (take kept array)) array ≡ take kept array
front kept array =
    ap (λ (l : List ℕ). take (length (take kept array)) l) (sym (take-append-drop kept array)) ∙ take-append_seam (take kept array) (drop kept array)

-- what a state handed in keeps: 255 bytes at most, and they stand at the front of its array
AtFront : List ℕ → List ℕ → Type 0
AtFront array kept = (length kept ≤ 255) × (take (length kept) array ≡ kept)

in_phase : (phase : Phase) (kept : ℕ) (array : List ℕ) → kept ≤ 255 → AtFront array (kept_of (state_of phase (take kept array)))
unfolding AtFront
in_phase Seeking kept array few = (omega arith, refl)
in_phase Delimited kept array few = (omega arith, refl)
in_phase Inside kept array few = (omega (arith, length-take kept array), front kept array)
in_phase Held kept array few = (omega (arith, length-take kept array), front kept array)

at_front : (place : Place) (array : List ℕ) → AtFront array (kept_of (listening place array).state)
unfolding AtFront listening
at_front place array = by_count (ltb 255 place.kept.0) refl
  where
    by_count : (test : Bool) → ltb 255 place.kept.0 ≡ test → AtFront array (kept_of (listening place array).state)
    by_count true over_long = rw over_long (omega arith, refl)
    by_count false few = rw few (in_phase place.phase place.kept.0 array (ltb-false 255 place.kept.0 few))

pub few_kept : (place : Place) (array : List ℕ) → length (kept_of (listening place array).state) ≤ 255
unfolding AtFront
few_kept place array = (at_front place array).0

pub kept_front : (place : Place) (array : List ℕ) → take (length (kept_of (listening place array).state)) array ≡ kept_of (listening place array).state
unfolding AtFront
kept_front place array = (at_front place array).1

listening_fine : (place : Place) (array : List ℕ) (byte : ℕ) → Fine array (hear (listening place array) byte)
unfolding Fine AtFront
listening_fine place array byte =
    let kept = kept_of (listening place array).state in
    let (few, stands) = at_front place array in
    every_step (Fine array) (listening place array) byte
    (record {
      empty = λ next none. (omega (arith, ap length none), refl);
      as_it_was = (few, refl);
      keeps = λ more _ fits. (omega (arith, length-append kept (more ∷ [])), refl);
      full = λ _. (omega arith, refl);
      broken = (omega arith, refl);
      good = λ _. (omega arith, ap (λ (l : List ℕ). frame (tick (listening place array).wire) (length kept) l) stands);
      bad = λ why _. (omega arith, refl);
    })

-- a listener with few kept bytes is read back from its place and array
state_back : (state : State) → state_of (phase_of state) (kept_of state) ≡ state
state_back seeking = refl
state_back delimited = refl
state_back (inside kept) = refl
state_back (held kept) = refl

view_back : (listener : Listener) (array : List ℕ) → length (kept_of listener.state) ≤ 255 → listening (place_of listener) (over (kept_of listener.state) array) ≡ listener
unfolding listening
view_back listener array few =
    rw (le-ltb 255 (length (kept_of listener.state)) few)
    (λ i. record {
      state = (ap (λ (kept : List ℕ). state_of (phase_of listener.state) kept) (take-append_seam (kept_of listener.state) (drop (length (kept_of listener.state)) array)) ∙ state_back listener.state) i;
      wire = listener.wire;
    })

-- the state handed back stands for the listener's next one
pub joined : (reader : Reader) (byte : ℕ) → view (taken reader byte).reader ≡ (hear (view reader) byte).next
unfolding taken Fine
joined reader byte = view_back (hear (view reader) byte).next reader.body (listening_fine reader.place reader.body byte).0

-- and the event with it is the listener's, a frame's body read from that state
pub told : (reader : Reader) (byte : ℕ) → heard_as (taken reader byte).event (taken reader byte).reader.body ≡ (hear (view reader) byte).event
unfolding taken Fine
told reader byte = (listening_fine reader.place reader.body byte).1

-- a step leaves an array as long as before
pub over_full : (place : Place) (array : List ℕ) (byte : ℕ) → length array ≡ 255 → length (over (kept_of (hear (listening place array) byte).next.state) array) ≡ 255
unfolding Fine
over_full place array byte full = over_length _ array (omega (arith, (listening_fine place array byte).0)) ∙ full
