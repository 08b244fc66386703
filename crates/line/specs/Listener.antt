-- 01, "The frame", "Listening has four states": the paper's listener, over lists of bytes. It knows nothing of how the reader keeps its bytes.
use Rattle.std.specs.Prelude.{ℕ, ◌+◌, ◌%◌, ◌^◌, cond, List, [], ◌∷◌, ◌++◌, length, ◌==◌, nat_lt, Result, Ok, Err}
use Rattle.refusal.specs.declared.Refusal.{Refusal}
use Rattle.refusal.specs.declared.Refusal.TheVariants.{BodyLong, HeldBroken}
use Rattle.body.specs.Body.{longest, judged}

-- the four states; while a body is open, the bytes kept of it
pub data State : Type 0 where
  seeking : State
  delimited : State
  inside : List ℕ → State
  held : List ℕ → State

-- "Each event carries two counts": the place on the wire, then the place in the body. A frame also has its body.
pub data Heard : Type 0 where
  nothing : Heard
  frame : (wire kept : ℕ) → List ℕ → Heard
  refused : Refusal → (wire kept : ℕ) → Heard

-- a listener: its state, and how many bytes it has taken since it started
pub record Listener : Type 0 where
  pub state : State
  pub wire : ℕ

pub record Step : Type 0 where
  pub next : Listener
  pub event : Heard

-- "A fresh reader seeks."
abbrev pub fresh : Listener
fresh = record { state = seeking; wire = 0 }

-- "counts bytes since the reader started, modulo 2^64, up to and including the byte that gave the event"
unfoldable pub tick : ℕ → ℕ
tick wire = (wire + 1) % 2 ^ 64

abbrev pub step : State → ℕ → Heard → Step
step state wire event = record { next = record { state = state; wire = wire }; event = event }

-- "A byte to keep that would be the 256th is refusal 2 and leads to Seeking"; its body count is 255
unfoldable pub keep : List ℕ → ℕ → ℕ → Step
keep kept byte wire = cond (nat_lt (length kept) longest) (step (inside (kept ++ (byte ∷ []))) wire nothing) (step seeking wire (refused BodyLong wire longest))

-- a body has ended: the frame, or 1, 4, 5 in that order
unfoldable pub ended : Result (Unit {0}) Refusal → List ℕ → ℕ → Heard
ended (Ok tt) body wire = frame wire (length body) body
ended (Err why) body wire = refused why wire (length body)

-- one byte in each of the four states; `wire` counts this byte already
unfoldable pub hear_in : State → ℕ → ℕ → Step
-- "FF leads to Delimited, any other byte is dropped"
hear_in seeking byte wire = cond (byte == 0xFF) (step delimited wire nothing) (step seeking wire nothing)
-- "FF stays, FE goes back to Seeking, any other byte starts a body"
hear_in delimited byte wire =
    cond (byte == 0xFF) (step delimited wire nothing)
    (cond (byte == 0xFE) (step seeking wire nothing)
    (keep [] byte wire))
-- "FF leads to Held, any other byte is kept"
hear_in (inside kept) byte wire = cond (byte == 0xFF) (step (held kept) wire nothing) (keep kept byte wire)
-- "FE keeps one FF and returns to Inside; FF ends the body, gives its event and leads to Delimited; any other byte is refusal 3 and leads
-- to Seeking"
hear_in (held kept) byte wire =
    cond (byte == 0xFE) (keep kept 0xFF wire)
    (cond (byte == 0xFF) (step delimited wire (ended (judged kept) kept wire))
    (step seeking wire (refused HeldBroken wire (length kept))))

unfoldable pub hear : Listener → ℕ → Step
hear listener byte = hear_in listener.state byte (tick listener.wire)

-- the events of a list of bytes, in order; a byte that gives none leaves none
unfoldable pub heard_then : Heard → List Heard → List Heard
heard_then nothing later = later
heard_then (frame wire kept body) later = frame wire kept body ∷ later
heard_then (refused why wire kept) later = refused why wire kept ∷ later

unfoldable pub events : Listener → List ℕ → List Heard
events listener [] = []
events listener (byte ∷ bytes) = heard_then (hear listener byte).event (events (hear listener byte).next bytes)

-- the listener after a list of bytes
unfoldable pub after : Listener → List ℕ → Listener
after listener [] = listener
after listener (byte ∷ bytes) = after (hear listener byte).next bytes
