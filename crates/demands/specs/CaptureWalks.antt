-- 02, request 2, "Walk a whole capture without feeding bytes": what all steps of a walk tell together, over any block and from any place of it.
-- It asks nothing of a block: its numbers need not be bytes, and its length is any.
use Rattle.std.specs.Prelude.{ℕ, ◌+◌, ◌-◌, ◌%◌, ◌^◌, ◌≤◌, ◌<◌, ◌≡◌, cond, List, [], ◌∷◌, ◌++◌, ◌⊎◌, leb, length, drop, get_or, Some}
use Rattle.std.proofs.Math.Seq.{slice}
use Rattle.refusal.specs.Numbers.{number_of}
use Rattle.body.specs.Body.{longest}
use Rattle.line.specs.declared.places.Event.{Event}
use Rattle.line.specs.Listener.{State, seeking, delimited, Heard, nothing, frame, refused, fresh, hear, events, after}
use Rattle.line.specs.Readers.{heard_as, fresh_reader}
use Rattle.capture_walker.specs.Walking.{start_at, StepTaken, said_end, step_from}
use Rattle.demands.specs.Reading.{heard_by}
use Rattle.demands.specs.Wire.{Sent, AllShared, wire_of, heard_of}

-- ---- a walk: step after step, until one says "end"

-- a step that met an event, the place behind it, and the lent bytes then (`said_end` is one that said "end")
abbrev pub met : Event → ℕ → List ℕ → StepTaken
met event behind body = record { answer = record { next = Some event; place = behind }; body = body }

-- what the caller lends with the step from a place: other bytes each time if he likes, with anything in them
abbrev pub Lends : (ℕ → List ℕ) → Type 0
Lends lending = (place : ℕ) → length (lending place) ≡ longest

-- the walk from a place: what its steps tell up to "end", and the place then. A frame's body is read from what was lent with its step.
pub data Walk (block : List ℕ) (lending : ℕ → List ℕ) : ℕ → List Heard → ℕ → Type 0 where
  ends : {place end : ℕ} {body : List ℕ} → step_from block place (lending place) ≡ said_end end body → Walk block lending place [] end
  goes : {place behind end : ℕ} {event : Event} {body : List ℕ} {later : List Heard} → step_from block place (lending place) ≡ met event behind body
      → Walk block lending behind later end → Walk block lending place (heard_as (Some event) body ∷ later) end

-- every step from a place says "end", stays there and changes nothing lent: so do all later ones
abbrev pub EndsForEver : List ℕ → ℕ → Type 0
EndsForEver block place = (lent : List ℕ) → step_from block place lent ≡ said_end place lent

-- where a walk ends: at the block's end. A place at it or past it stays.
abbrev pub end_from : List ℕ → ℕ → ℕ
end_from block place = cond (leb (length block) place) place (length block)

-- a walk from a place comes to its end, whatever is lent. It tells these events on its way and no others, and then says "end" for ever.
pub record WalkTells (block : List ℕ) (place : ℕ) (told : List Heard) : Type 0 where
  pub comes : (lending : ℕ → List ℕ) → Lends lending → Walk block lending place told (end_from block place)
  pub only : (lending : ℕ → List ℕ) → Lends lending → (other : List Heard) (end : ℕ) → Walk block lending place other end → (other ≡ told) × (end ≡ end_from block place)
  pub for_ever : EndsForEver block (end_from block place)

-- ---- what it tells

-- "Started at place 0, it must give exactly the events, counts and order of the byte-fed reader started fresh, and after the last one say "end" for
-- ever.": the paper's listener, and the code's reader, byte by byte
pub record AsByteFed (block : List ℕ) : Type 0 where
  pub as_listener : WalkTells block 0 (events fresh block)
  pub as_reader : WalkTells block 0 (heard_by fresh_reader block)

abbrev pub WalkFromStart : Type 0
WalkFromStart = (block : List ℕ) → AsByteFed block

-- "Any other place handed in goes on with no body open, Delimited if the byte before the place is FF and Seeking otherwise, the wire count going on
-- from the place."
abbrev pub WalkFromAnyPlace : Type 0
WalkFromAnyPlace = (block : List ℕ) (place : ℕ) → WalkTells block place (events (start_at block place) (drop place block))

-- "An empty block, or a place past its end, ends at once."
abbrev pub EndsAtOnce : Type 0
EndsAtOnce = (block : List ℕ) (place : ℕ) → length block ≤ place → EndsForEver block place

-- "Demand 3 holds for both, a late listener's walker being started at place 0 of the part of the block from that byte."
abbrev pub WalkerDemand3 : Type 0
WalkerDemand3 = (list : List Sent) → AllShared list → (joined : ℕ) → WalkTells (drop joined (wire_of list)) 0 (heard_of (wire_of list) joined 0 list)

-- ---- "each step answers the next event and the walker moved on"

-- how an event leaves the line: behind an FF and Delimited after a frame, 1, 4 and 5; behind another byte and Seeking after 2 and 3. No other refusal
-- is met.
abbrev pub LeavesLine : Heard → ℕ → State → Type 0
LeavesLine nothing byte state = ⊥
LeavesLine (frame wire kept body) byte state = (byte ≡ 0xFF) × (state ≡ delimited)
LeavesLine (refused why wire kept) byte state =
    (((number_of why ≡ 1) ⊎ ((number_of why ≡ 4) ⊎ (number_of why ≡ 5))) × ((byte ≡ 0xFF) × (state ≡ delimited)))
    ⊎ (((number_of why ≡ 2) ⊎ (number_of why ≡ 3)) × ((byte ≡ 0xFF → ⊥) × (state ≡ seeking)))

-- the wire count that an event carries
abbrev pub CountsWire : ℕ → Heard → Type 0
CountsWire count nothing = ⊥
CountsWire count (frame wire kept body) = wire ≡ count
CountsWire count (refused why wire kept) = wire ≡ count

-- a step from a place met an event: the walk moved on, and not past the block's end. It stands where the listener stands that took those bytes, so
-- that to walk on from its place is to walk on. Its place is the event's wire count, which turns at 2^64.
pub record MovedOn (block : List ℕ) (place : ℕ) (heard : Heard) (behind : ℕ) : Type 0 where
  pub forward : place < behind
  pub inside : behind ≤ length block
  pub stands : start_at block behind ≡ after (start_at block place) (slice place behind block)
  pub leaves : LeavesLine heard (get_or block (behind - 1) 0) (start_at block behind).state
  pub counts : CountsWire (behind % 2 ^ 64) heard

-- the walk ends: each step moves on, or ends it
pub record MovesOrEnds (block : List ℕ) (place : ℕ) (lent : List ℕ) : Type 0 where
  pub moves : (event : Event) (behind : ℕ) (body : List ℕ) → step_from block place lent ≡ met event behind body → MovedOn block place (heard_as (Some event) body) behind
  pub or_ends : (end : ℕ) (body : List ℕ) → step_from block place lent ≡ said_end end body → end ≡ end_from block place

abbrev pub EveryStep : Type 0
EveryStep = (block : List ℕ) (place : ℕ) (lent : List ℕ) → length lent ≡ longest → MovesOrEnds block place lent

-- wherever a byte-fed listener that started as a walk at a place gave an event, a walk begun behind that byte goes on as he does. At place 0 he is the
-- fresh listener.
pub record GoesOnAsFed (block : List ℕ) (place : ℕ) (before : List ℕ) (byte : ℕ) (rest : List ℕ) : Type 0 where
  pub stands : start_at block (place + length before + 1) ≡ after (start_at block place) (before ++ (byte ∷ []))
  pub tells : WalkTells block (place + length before + 1) (events (after (start_at block place) (before ++ (byte ∷ []))) rest)

abbrev pub WalksOn : Type 0
WalksOn =
    (block : List ℕ) (place : ℕ) (before : List ℕ) (byte : ℕ) (rest : List ℕ) → drop place block ≡ before ++ (byte ∷ rest)
    → ((hear (after (start_at block place) before) byte).event ≡ nothing → ⊥) → GoesOnAsFed block place before byte rest

-- a block that has grown: the step that met an event meets it there too, and behind it the walk starts there as in the block as it was
pub record SameThere (block more : List ℕ) (place : ℕ) (lent : List ℕ) (event : Event) (behind : ℕ) (body : List ℕ) : Type 0 where
  pub meets : step_from (block ++ more) place lent ≡ met event behind body
  pub stands : start_at (block ++ more) behind ≡ start_at block behind

abbrev pub GrownBlock : Type 0
GrownBlock =
    (block more : List ℕ) (place : ℕ) (lent : List ℕ) → length lent ≡ longest → (event : Event) (behind : ℕ) (body : List ℕ)
    → step_from block place lent ≡ met event behind body → SameThere block more place lent event behind body
