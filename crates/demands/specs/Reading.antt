-- The reader that the code has is the paper's listener: byte by byte, block by block, and for what the frame writer wrote.
use Rattle.std.specs.Prelude.{ℕ, ◌≤◌, ◌≡◌, length, take, drop, Ok, None}
use mathlib.Core.List.{List, [], ◌∷◌, flatten}
use Rattle.room.specs.Writing.{Leaves}
use Rattle.body.specs.declared.addresses.Address.{Address}
use Rattle.body.specs.Body.{body_of}
use Rattle.frame.specs.Writing.{written_frame}
use Rattle.line.specs.declared.reading.Reader.{Reader}
use Rattle.line.specs.Listener.{Heard, frame, hear, heard_then, events}
use Rattle.line.specs.Readers.{view, taken, heard_as, fed, fresh_reader}
use Rattle.demands.specs.Wire.{Sent, AllShared, wire_of, heard_of, over_blocks}

-- ---- one byte

-- for every state, also one with over 255 kept, and every byte: the state handed back stands for the listener's next state, and it tells what
-- the listener hears
pub record Joins (reader : Reader) (byte : ℕ) : Type 0 where
  pub next : view (taken reader byte).reader ≡ (hear (view reader) byte).next
  pub event : heard_as (taken reader byte).event (taken reader byte).reader.body ≡ (hear (view reader) byte).event

abbrev pub EveryByte : Type 0
EveryByte = (reader : Reader) (byte : ℕ) → Joins reader byte

-- ---- bytes fed one by one

-- the reader after some bytes, and all that it told on the way
unfoldable pub after_bytes : Reader → List ℕ → Reader
after_bytes reader [] = reader
after_bytes reader (byte ∷ bytes) = after_bytes (taken reader byte).reader bytes

unfoldable pub heard_by : Reader → List ℕ → List Heard
heard_by reader [] = []
heard_by reader (byte ∷ bytes) = heard_then (heard_as (taken reader byte).event (taken reader byte).reader.body) (heard_by (taken reader byte).reader bytes)

abbrev pub HearsAsListener : Type 0
HearsAsListener = (reader : Reader) (bytes : List ℕ) → heard_by reader bytes ≡ events (view reader) bytes

-- ---- a block

-- a reader that is fed a block takes it up to and including the first event, or to the block's end. It is then where feeding byte by byte
-- would have brought it, and it has told the first thing that feeding byte by byte would have told.
pub record AsBytes (reader : Reader) (block : List ℕ) : Type 0 where
  pub inside : (fed reader block).used ≤ length block
  pub to_the_end : (fed reader block).event ≡ None → (fed reader block).used ≡ length block
  pub stands : (fed reader block).reader ≡ after_bytes reader (take (fed reader block).used block)
  pub heard :
      heard_by reader block
      ≡ heard_then (heard_as (fed reader block).event (fed reader block).reader.body) (heard_by (fed reader block).reader (drop (fed reader block).used block))

abbrev pub EveryBlock : Type 0
EveryBlock = (reader : Reader) (block : List ℕ) → AsBytes reader block

-- ---- any cut of the bytes into blocks

abbrev pub EveryCut : Type 0
EveryCut = (reader : Reader) (blocks : List (List ℕ)) → over_blocks heard_by after_bytes reader blocks ≡ heard_by reader (flatten blocks)

-- ---- demand 3, by the reader; and demand 2's reading of what the frame writer wrote

abbrev pub ReaderDemand3 : Type 0
ReaderDemand3 = (list : List Sent) → AllShared list → (joined : ℕ) → heard_by fresh_reader (drop joined (wire_of list)) ≡ heard_of (wire_of list) joined 0 list

abbrev pub FrameReadsBack : Type 0
FrameReadsBack =
    (address : Address) (code : ℕ) (data' room : List ℕ) (count : ℕ) (left : List ℕ) → Leaves (written_frame address code data' room) (Ok count) left
    → heard_by fresh_reader (take count left) ≡ frame count (length (body_of address code data')) (body_of address code data') ∷ []
