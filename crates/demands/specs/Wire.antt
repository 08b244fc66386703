-- Demand 3, in the user's words: "Take any list of frames with legal addresses, right check bytes and bodies that run from address through
-- code to check in at most 255 bytes, each written with one or more FFs ahead and two or more behind, on one wire. Start listening at any
-- byte. You get exactly the frames before whose first address byte you heard at least one FF since you joined, whole and in order, and no
-- refusal. So two different lists never make the same wire."
use Rattle.std.specs.Prelude.{ℕ, ◌+◌, ◌-◌, ◌%◌, ◌^◌, ◌≤◌, ◌≡◌, Bool, true, false, cond, ◌||◌, length, drop, replicate, T, eqb, Ok}
use mathlib.Core.List.{List, [], ◌∷◌, ◌++◌, map, flatten}
use Rattle.std.proofs.Math.Seq.{slice}
use Rattle.std.proofs.Math.Pow.{are_bytes}
use Rattle.body.specs.declared.addresses.Address.{Address}
use Rattle.body.specs.Addresses.{legal}
use Rattle.body.specs.Body.{longest, body_of, judged, judged_lent}
use Rattle.frame.specs.Stuffing.{stuffed, framed, needed}
use Rattle.line.specs.Listener.{Heard, nothing, frame, refused, Listener, fresh, events, after}

-- ---- the wire

-- a frame on the wire: its body, with some FFs of its own ahead and some behind
pub record Sent : Type 0 where
  pub ahead : ℕ
  pub body : List ℕ
  pub behind : ℕ

-- "legal addresses, right check bytes and bodies .. in at most 255 bytes, each written with .. two or more [FFs] behind". The FFs behind one
-- frame may be the only ones ahead of the next: the two share their delimiter. A body's numbers need not be bytes.
pub record Shared (sent : Sent) : Type 0 where
  pub good : judged sent.body ≡ Ok tt
  pub most : length sent.body ≤ longest
  pub behind : 2 ≤ sent.behind

-- ".. each written with one or more FFs ahead and two or more behind": the user's frame shares nothing
pub record Proper (sent : Sent) : Type 0 where
  pub shared : Shared sent
  pub ahead : 1 ≤ sent.ahead

-- a claim of each frame of a list
abbrev pub Each : (Sent → Type 0) → List Sent → Type 0
Each claim [] = Unit {0}
Each claim (sent ∷ list) = claim sent × Each claim list

abbrev pub AllProper : List Sent → Type 0
AllProper = Each Proper

abbrev pub AllShared : List Sent → Type 0
AllShared = Each Shared

unfoldable pub on_wire : Sent → List ℕ
on_wire sent = replicate sent.ahead 0xFF ++ (stuffed sent.body ++ replicate sent.behind 0xFF)

-- "on one wire"
unfoldable pub wire_of : List Sent → List ℕ
wire_of [] = []
wire_of (sent ∷ list) = on_wire sent ++ wire_of list

-- at least one FF among some bytes
unfoldable pub any_ff : List ℕ → Bool
any_ff [] = false
any_ff (byte ∷ bytes) = eqb byte 0xFF || any_ff bytes

-- of the frames from place `at` of some bytes on: those before whose first address byte a listener who joined at `joined` heard an FF.
-- A frame's wire count runs from the place of joining up to and including the second FF behind its body.
unfoldable pub heard_of : List ℕ → ℕ → ℕ → List Sent → List Heard
heard_of bytes joined at [] = []
heard_of bytes joined at (sent ∷ list) =
    let first = at + sent.ahead in
    let end = first + length (stuffed sent.body) + 2 in
    let later = heard_of bytes joined (at + length (on_wire sent)) list in
    cond (any_ff (slice joined first bytes)) (frame ((end - joined) % 2 ^ 64) (length sent.body) sent.body ∷ later) later

-- ---- demand 3

-- Demand 3: a listener who joins anywhere hears exactly those frames, whole and in order, with both counts, and no refusal
abbrev pub Demand3 : Type 0
Demand3 = (list : List Sent) → AllProper list → (joined : ℕ) → events fresh (drop joined (wire_of list)) ≡ heard_of (wire_of list) joined 0 list

-- the same for a wire with shared delimiters: two or more FFs stand between two frames, behind the one and ahead of the other. If no FF
-- stands ahead of the first frame, nobody heard an FF before it.
abbrev pub SharedDemand3 : Type 0
SharedDemand3 = (list : List Sent) → AllShared list → (joined : ℕ) → events fresh (drop joined (wire_of list)) ≡ heard_of (wire_of list) joined 0 list

-- a body in the user's words: it runs from a legal address through code and data to the right check
pub record RunsToCheck (body : List ℕ) : Type 0 where
  pub address : Address
  pub code : ℕ
  pub data' : List ℕ
  pub is_legal : legal address ≡ true
  pub runs : body ≡ body_of address code data'

-- each such body is judged good, and a body of bytes that is judged good is such a body. So the demands ask no more of a frame than the user does
pub record GoodExactly (body : List ℕ) : Type 0 where
  pub each : RunsToCheck body → judged body ≡ Ok tt
  pub no_other : T (are_bytes body) → judged body ≡ Ok tt → RunsToCheck body

abbrev pub GoodBodies : Type 0
GoodBodies = (body : List ℕ) → GoodExactly body

-- "and no refusal", once more by itself
unfoldable pub any_refused : List Heard → Bool
any_refused [] = false
any_refused (nothing ∷ heard) = any_refused heard
any_refused (frame wire kept body ∷ heard) = any_refused heard
any_refused (refused why wire kept ∷ heard) = true

abbrev pub NoRefusal : Type 0
NoRefusal = (list : List Sent) → AllShared list → (joined : ℕ) → any_refused (events fresh (drop joined (wire_of list))) ≡ false

-- all frames of a list, as heard by a listener who has taken `taken` bytes when their wire begins
unfoldable pub frames_of : ℕ → List Sent → List Heard
frames_of taken [] = []
frames_of taken (sent ∷ list) =
    let end = taken + sent.ahead + length (stuffed sent.body) + 2 in
    frame (end % 2 ^ 64) (length sent.body) sent.body ∷ frames_of (taken + length (on_wire sent)) list

-- "one or more FFs ahead" of a wire's first frame
abbrev pub FirstAhead : List Sent → Type 0
FirstAhead [] = Unit {0}
FirstAhead (sent ∷ list) = 1 ≤ sent.ahead

-- heard from its start, a wire gives the whole list back
abbrev pub FromStart : Type 0
FromStart = (list : List Sent) → AllShared list → FirstAhead list → events fresh (wire_of list) ≡ frames_of 0 list

-- "So two different lists never make the same wire." (A list of frames means a list of bodies here. An FF between two frames is behind one
-- or ahead of the other, and nobody can tell which.)
abbrev pub OneList : Type 0
OneList =
    (list other : List Sent) → AllShared list → AllShared other → wire_of list ≡ wire_of other
    → map (λ (sent : Sent). sent.body) list ≡ map (λ (sent : Sent). sent.body) other

-- demand 2's frame has one FF ahead and two behind
abbrev pub OfFrameRule : Type 0
OfFrameRule = (body : List ℕ) → framed body ≡ on_wire (record { ahead = 1; body = body; behind = 2 })

-- what the frame rule writes reads back as that one frame; all the bytes written are counted
abbrev pub ReadsBack : Type 0
ReadsBack = (body : List ℕ) → judged_lent body ≡ Ok tt → events fresh (framed body) ≡ frame (needed body) (length body) body ∷ []

-- ---- cuts

-- the bytes may be cut in two anywhere: the second part is heard from where the first left the listener, and leaves it as the whole does
pub record CutInTwo (listener : Listener) (first second : List ℕ) : Type 0 where
  pub heard : events listener (first ++ second) ≡ events listener first ++ events (after listener first) second
  pub left : after listener (first ++ second) ≡ after (after listener first) second

abbrev pub AnyCut : Type 0
AnyCut = (listener : Listener) (first second : List ℕ) → CutInTwo listener first second

-- what is told over blocks that are heard one after the other; each starts where the block before it left the listener
unfoldable pub over_blocks : {S : Type 0} → (S → List ℕ → List Heard) → (S → List ℕ → S) → S → List (List ℕ) → List Heard
over_blocks told left state [] = []
over_blocks told left state (block ∷ blocks) = told state block ++ over_blocks told left (left state block) blocks

-- the bytes may be cut into blocks anywhere, and nothing changes
abbrev pub AnyBlocks : Type 0
AnyBlocks = (listener : Listener) (blocks : List (List ℕ)) → over_blocks events after listener blocks ≡ events listener (flatten blocks)
