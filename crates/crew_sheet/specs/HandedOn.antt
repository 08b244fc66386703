-- Where the crew has the body from: after refusal 4 the first bytes of the lent array, or of the state's, are the body that failed, as many as the event's
-- `kept` says (the place handed back keeps none). So a caller of `listen`, `feed` or `take`, or of a walker's step, can hand it on to
-- `find` until the next byte is taken.
use Rattle.std.specs.Prelude.{ℕ, ◌-◌, ◌≤◌, ◌<◌, ◌≡◌, List, [], ◌∷◌, length, take, drop, get_or, Err, Some}
use Rattle.refusal.specs.declared.Refusal.TheVariants.{CheckWrong, LengthOutside}
use Rattle.body.specs.Body.{judged}
use Rattle.line.specs.declared.places.WirePlace.{WirePlace}
use Rattle.line.specs.declared.places.BodyPlace.{BodyPlace}
use Rattle.line.specs.declared.places.Event.TheVariants as event_as
use Rattle.line.specs.declared.places.Place.{Place}
use Rattle.line.specs.declared.listening.Went.{Went}
use Rattle.line.specs.declared.reading.Reader.{Reader}
use Rattle.line.specs.declared.reading.Taken.{Taken}
use Rattle.line.specs.declared.reading.Fed.{Fed}
use Rattle.line.specs.Listener.{held, Listener, after}
use Rattle.line.specs.Readers.{listening, view, Takes, Feeds, Listens}
use Rattle.capture_walker.specs.declared.stepping.Stepped.{Stepped}
use Rattle.capture_walker.specs.declared.walking.Walker.{Walker}
use Rattle.capture_walker.specs.declared.walking.Walked.{Walked}
use Rattle.capture_walker.specs.Walking.{start_at, StepsFrom}
use Rattle.capture_walker.specs.Walkers.{WalkerSteps}
use Rattle.bad_bit.specs.WhichBit.{finding}
use Rattle.crew_sheet.specs.Findings.{AskedAndFails}

-- The paper's listener took some bytes of a block. Ahead of the last of them it was Held, and what it had kept of the body stands at the front of the
-- array: all `kept` bytes. The last byte, FF, ended this body, and it is refused by 4.
pub record BodyThatFailed (listener : Listener) (block : List ℕ) (used kept : ℕ) (array : List ℕ) : Type 0 where
  pub some : 1 ≤ used
  pub was_held : (after listener (take (used - 1) block)).state ≡ held (take kept array)
  pub by_delimiter : get_or block (used - 1) 0 ≡ 0xFF
  pub whole : length (take kept array) ≡ kept
  pub failed : judged (take kept array) ≡ Err CheckWrong

-- `listen`: the lent bytes as they are afterwards
abbrev pub AfterListen : Type 0
AfterListen =
    (place : Place) (block before : List ℕ) (answered : Went) (left : List ℕ) → Listens place block before answered left
    → (wire : WirePlace) (kept : BodyPlace) → answered.event ≡ Some (event_as.Refused CheckWrong wire kept)
    → BodyThatFailed (listening place before) block answered.used kept.0 left

-- `feed` and `take`: the array of the state handed back
abbrev pub AfterFeed : Type 0
AfterFeed =
    (reader : Reader) (block : List ℕ) (answered : Fed) → Feeds reader block answered
    → (wire : WirePlace) (kept : BodyPlace) → answered.event ≡ Some (event_as.Refused CheckWrong wire kept)
    → BodyThatFailed (view reader) block answered.used kept.0 answered.reader.body

abbrev pub AfterTake : Type 0
AfterTake =
    (reader : Reader) (byte : ℕ) (answered : Taken) → Takes reader byte answered
    → (wire : WirePlace) (kept : BodyPlace) → answered.event ≡ Some (event_as.Refused CheckWrong wire kept)
    → BodyThatFailed (view reader) (byte ∷ []) 1 kept.0 answered.reader.body

-- a capture that is walked, by `step_from` or by a walker: the lent bytes behind a step, which heard the rest of the block from its place on
abbrev pub AfterStep : Type 0
AfterStep =
    (block : List ℕ) (place : ℕ) (lent : List ℕ) (answered : Stepped) (left : List ℕ) → StepsFrom block place lent answered left
    → (wire : WirePlace) (kept : BodyPlace) → answered.next ≡ Some (event_as.Refused CheckWrong wire kept)
    → BodyThatFailed (start_at block place) (drop place block) (answered.place - place) kept.0 left

abbrev pub AfterWalkerStep : Type 0
AfterWalkerStep =
    (walker : Walker) (lent : List ℕ) (answered : Walked) (left : List ℕ) → WalkerSteps walker lent answered left
    → (wire : WirePlace) (kept : BodyPlace) → answered.next ≡ Some (event_as.Refused CheckWrong wire kept)
    → let block = walker.block.now in let place = walker.place in
    BodyThatFailed (start_at block place) (drop place block) (answered.walker.place - place) kept.0 left

-- so what is handed on is a body that is asked and fails, unless it has over 31 bytes: then, and only then, it is refused, by 25
pub record ServedOrLong (kept : ℕ) (body : List ℕ) : Type 0 where
  pub served : kept ≤ 31 → AskedAndFails body
  pub long : 31 < kept → finding body ≡ Err LengthOutside

abbrev pub HandedOn : Type 0
HandedOn =
    (listener : Listener) (block : List ℕ) (used kept : ℕ) (array : List ℕ) → BodyThatFailed listener block used kept array
    → ServedOrLong kept (take kept array)
