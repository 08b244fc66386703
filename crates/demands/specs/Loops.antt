-- Block feeding, as everybody runs it: feed the block, note what it told, drop what was used, feed the rest. If nothing is left of a block,
-- take the next one. Whatever the blocks are, the loop ends and has told what the bytes tell. Demand 3 holds of it.
use Rattle.std.specs.Prelude.{ℕ, ◌≡◌, length, drop}
use mathlib.Core.List.{List, [], ◌∷◌, flatten}
use Rattle.body.specs.Body.{longest}
use Rattle.line.specs.declared.reading.Reader.{Reader}
use Rattle.line.specs.declared.reading.Fed.{Fed}
use Rattle.line.specs.Listener.{Heard, heard_then}
use Rattle.line.specs.Readers.{heard_as, fed, fed_lent, fresh_place, fresh_reader}
use Rattle.demands.specs.Reading.{after_bytes, heard_by}
use Rattle.demands.specs.Wire.{Sent, AllShared, wire_of, heard_of}

-- one call over a block: `Reader::feed` is `fed`, and `Place::listen` is this; a place with the array lent beside it makes a reader
abbrev pub listened : Reader → List ℕ → Fed
listened reader block = fed_lent reader.place block reader.body

-- the loop over some blocks: from a reader, what it told and the reader it left
pub data Loop (call : Reader → List ℕ → Fed) : Reader → List (List ℕ) → List Heard → Reader → Type 0 where
  ends : {reader : Reader} → Loop call reader [] [] reader
  next : {reader left : Reader} {blocks : List (List ℕ)} {told : List Heard} → Loop call reader blocks told left → Loop call reader ([] ∷ blocks) told left
  turn : {reader left : Reader} {byte : ℕ} {block : List ℕ} {blocks : List (List ℕ)} {later : List Heard} (answer : Fed)
      → answer ≡ call reader (byte ∷ block)
      → Loop call answer.reader (drop answer.used (byte ∷ block) ∷ blocks) later left
      → Loop call reader ((byte ∷ block) ∷ blocks) (heard_then (heard_as answer.event answer.reader.body) later) left

-- the loop ends, tells its caller this and leaves him this reader, and no other
pub record LoopTells (call : Reader → List ℕ → Fed) (reader : Reader) (blocks : List (List ℕ)) (told : List Heard) (left : Reader) : Type 0 where
  pub comes : Loop call reader blocks told left
  pub only : (other : List Heard) (end : Reader) → Loop call reader blocks other end → (other ≡ told) × (end ≡ left)

-- ---- any list of blocks tells what the bytes tell, and leaves the reader that the bytes leave

abbrev pub TellsAsBytes : (Reader → List ℕ → Fed) → Reader → Type 0
TellsAsBytes call reader = (blocks : List (List ℕ)) → LoopTells call reader blocks (heard_by reader (flatten blocks)) (after_bytes reader (flatten blocks))

abbrev pub FeedLoop : Type 0
FeedLoop = (reader : Reader) → TellsAsBytes fed reader

abbrev pub ListenLoop : Type 0
ListenLoop = (reader : Reader) → length reader.body ≡ longest → TellsAsBytes listened reader

-- ---- demand 3, whatever the cut

abbrev pub LoopDemand3 : (Reader → List ℕ → Fed) → Reader → Type 0
LoopDemand3 call reader =
    (list : List Sent) → AllShared list → (joined : ℕ) (blocks : List (List ℕ)) → flatten blocks ≡ drop joined (wire_of list)
    → LoopTells call reader blocks (heard_of (wire_of list) joined 0 list) (after_bytes reader (flatten blocks))

abbrev pub FeedDemand3 : Type 0
FeedDemand3 = LoopDemand3 fed fresh_reader

abbrev pub ListenDemand3 : Type 0
ListenDemand3 = (lent : List ℕ) → length lent ≡ longest → LoopDemand3 listened (record { place = fresh_place; body = lent })
