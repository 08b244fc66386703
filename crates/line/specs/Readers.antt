-- 01, "The frame": "The reader takes one byte at a time, and its state is handed in by value and handed back." A state stands for the
-- paper's listener and becomes the listener's next state. The kept bytes stand at the front of an array of 255.
use Rattle.std.specs.Prelude.{◌≡◌, ℕ, ◌+◌, ◌<◌, ◌≤◌, cond, List, [], ◌∷◌, length, take, replicate, ◌==◌, nat_lt, Option, Some, None}
use Rattle.room.specs.Laying.{over}
use Rattle.body.specs.Body.{longest}
use Rattle.line.specs.declared.places.Phase.{Phase}
use Rattle.line.specs.declared.places.Phase.TheVariants.{Seeking, Delimited, Inside, Held}
use Rattle.line.specs.declared.places.Event.{Event}
use Rattle.line.specs.declared.places.Event.TheVariants.{Frame, Refused}
use Rattle.line.specs.declared.places.Place.{Place}
use Rattle.line.specs.declared.listening.Went.{Went}
use Rattle.line.specs.declared.reading.Reader.{Reader}
use Rattle.line.specs.declared.reading.Taken.{Taken}
use Rattle.line.specs.declared.reading.Fed.{Fed}
use Rattle.line.specs.Listener.{State, seeking, delimited, inside, held, Heard, nothing, frame, refused, Listener, fresh, hear}

-- ---- what a state handed in stands for

-- the paper's state of a phase; only an open body has kept bytes
abbrev pub state_of : Phase → List ℕ → State
state_of Seeking kept = seeking
state_of Delimited kept = delimited
state_of Inside kept = inside kept
state_of Held kept = held kept

-- "A state handed in with more than 255 kept bytes is treated as fresh, wire count 0."
unfoldable pub listening : Place → List ℕ → Listener
listening place body =
    cond (nat_lt longest place.kept.0) fresh
    (record { state = state_of place.phase (take place.kept.0 body); wire = place.wire.0 })

abbrev pub view : Reader → Listener
view reader = listening reader.place reader.body

-- ---- what is handed back

abbrev pub phase_of : State → Phase
phase_of seeking = Seeking
phase_of delimited = Delimited
phase_of (inside kept) = Inside
phase_of (held kept) = Held

abbrev pub kept_of : State → List ℕ
kept_of seeking = []
kept_of delimited = []
kept_of (inside kept) = kept
kept_of (held kept) = kept

abbrev pub place_of : Listener → Place
place_of listener = record {
  phase = phase_of listener.state;
  wire = record { 0 = listener.wire };
  kept = record { 0 = length (kept_of listener.state) };
}

-- an event without its body; the body stands in the state handed back
abbrev pub event_of : Heard → Option Event
event_of nothing = None
event_of (frame wire kept body) = Some (Frame (record { 0 = wire }) (record { 0 = kept }))
event_of (refused why wire kept) = Some (Refused why (record { 0 = wire }) (record { 0 = kept }))

-- one byte: the listener's step. Its kept bytes stand at the front of the array, and every other byte of the array is as it stood
unfoldable pub taken : Reader → ℕ → Taken
taken reader byte =
    let step = hear (view reader) byte in
    record {
      reader = record { place = place_of step.next; body = over (kept_of step.next.state) reader.body };
      event = event_of step.event;
    }

-- an event as the paper has it: a frame's body is read from the array of the state handed back
abbrev pub heard_as : Option Event → List ℕ → Heard
heard_as None body = nothing
heard_as (Some (Frame wire kept)) body = frame wire.0 kept.0 (take kept.0 body)
heard_as (Some (Refused why wire kept)) body = refused why wire.0 kept.0

-- a promise: the whole answer of one byte, and that the body of a frame just heard can be read from it
pub record Takes (reader : Reader) (byte : ℕ) (answered : Taken) : Type 0 where
  pub answer : answered ≡ taken reader byte
  pub told : heard_as answered.event answered.reader.body ≡ (hear (view reader) byte).event

-- ---- a block, byte by byte: up to and with the first event, or to the block's end

abbrev pub unless : Option Event → Fed → Fed → Fed
unless None later stopped = later
unless (Some event) later stopped = stopped

unfoldable pub fed_from : ℕ → Reader → List ℕ → Fed
fed_from used reader [] = record { reader = reader; event = None; used = used }
fed_from used reader (byte ∷ block) =
    unless (taken reader byte).event (fed_from (used + 1) (taken reader byte).reader block)
    (record { reader = (taken reader byte).reader; event = (taken reader byte).event; used = used + 1 })

abbrev pub fed : Reader → List ℕ → Fed
fed reader block = fed_from 0 reader block

-- "A fresh reader seeks."
abbrev pub fresh_place : Place
fresh_place = place_of fresh

abbrev pub fresh_reader : Reader
fresh_reader = record { place = fresh_place; body = replicate longest 0 }

-- the first event that the paper's listener gives on a list of bytes
abbrev pub or_else : Heard → Heard → Heard
or_else nothing later = later
or_else (frame wire kept body) later = frame wire kept body
or_else (refused why wire kept) later = refused why wire kept

unfoldable pub first_heard : Listener → List ℕ → Heard
first_heard listener [] = nothing
first_heard listener (byte ∷ bytes) = or_else (hear listener byte).event (first_heard (hear listener byte).next bytes)

-- a promise: the whole answer of a block; the body of a frame just heard can be read from it; it used a byte, if there is one, and none past the end
pub record Feeds (reader : Reader) (block : List ℕ) (answered : Fed) : Type 0 where
  pub answer : answered ≡ fed reader block
  pub told : heard_as answered.event answered.reader.body ≡ first_heard (view reader) block
  pub inside : answered.used ≤ length block
  pub forward : 0 < length block → 0 < answered.used

-- ---- the same, with the array lent beside the place

-- an array of 255 bytes always has 255; a list of another length would take nothing
unfoldable pub fed_lent : Place → List ℕ → List ℕ → Fed
fed_lent place block before =
    cond (length before == longest) (fed (record { place = place; body = before }) block)
    (record { reader = record { place = place; body = before }; event = None; used = 0 })

abbrev pub went_of : Fed → Went
went_of answer = record { place = answer.reader.place; event = answer.event; used = answer.used }

pub record Listens (place : Place) (block before : List ℕ) (answered : Went) (left : List ℕ) : Type 0 where
  pub answer : answered ≡ went_of (fed_lent place block before)
  pub body : left ≡ (fed_lent place block before).reader.body
  pub told : length before ≡ longest → heard_as answered.event left ≡ first_heard (listening place before) block
  pub inside : answered.used ≤ length block
  pub forward : length before ≡ longest → 0 < length block → 0 < answered.used
  pub full : length before ≡ longest → length left ≡ longest
