-- 02, request 2: "Give them a capture walker that holds the lent block and its place in it; each step answers the next event and the walker moved
-- on." The work of a step, over the block, the place and the 255 lent bytes that a body is kept in.
use Rattle.std.specs.Prelude.{ℕ, zero, suc, ◌+◌, ◌%◌, ◌^◌, ◌≤◌, ◌<◌, ◌≡◌, cond, List, eqb, leb, length, drop, get_or, None}
use Rattle.body.specs.Body.{longest}
use Rattle.line.specs.declared.reading.Fed.{Fed}
use Rattle.line.specs.Listener.{State, seeking, delimited, Listener, fresh}
use Rattle.line.specs.Readers.{place_of, heard_as, fed_lent, first_heard}
use Rattle.capture_walker.specs.declared.stepping.Stepped.{Stepped}

-- ---- where a walk starts

-- "no body open, Delimited if the byte before the place is FF and Seeking otherwise"
abbrev pub state_behind : ℕ → State
state_behind byte = cond (eqb byte 0xFF) delimited seeking

-- "Started at place 0 .. the byte-fed reader started fresh. .. Any other place handed in goes on with no body open, Delimited if the byte before the
-- place is FF and Seeking otherwise, the wire count going on from the place." The wire count turns at 2^64 (01).
unfoldable pub start_at : List ℕ → ℕ → Listener
start_at block zero = fresh
start_at block (suc before) = record { state = state_behind (get_or block before 0); wire = suc before % 2 ^ 64 }

-- ---- one step

-- a step that was taken: its answer, "the next event", or `None` for "end", and the lent bytes as it left them
pub record StepTaken : Type 0 where
  pub answer : Stepped
  pub body : List ℕ

-- a step that said "end", the place where it left the walk, and the lent bytes then
abbrev pub said_end : ℕ → List ℕ → StepTaken
said_end place body = record { answer = record { next = None; place = place }; body = body }

-- a step that heard the rest of the block up to and including the first event, or to its end: its place is behind the bytes that it took
abbrev pub after_hearing : ℕ → Fed → StepTaken
after_hearing place heard = record { answer = record { next = heard.event; place = place + heard.used }; body = heard.reader.body }

-- "An empty block, or a place past its end, ends at once": the place stays, and nothing lent changes. From any other place the rest of the block is
-- heard as a line is. (255 bytes are lent; a list of another length, which nobody can lend, would take nothing.)
unfoldable pub step_from : List ℕ → ℕ → List ℕ → StepTaken
step_from block place lent =
    cond (leb (length block) place) (said_end place lent)
    (after_hearing place (fed_lent (place_of (start_at block place)) (drop place block) lent))

-- a promise: the whole answer of a step and every lent byte. And what that is: the first event of the paper's listener over the rest of the block,
-- and no other; the walk is then behind the place and within the block; the 255 lent bytes stay 255.
pub record StepsFrom (block : List ℕ) (place : ℕ) (lent : List ℕ) (answered : Stepped) (left : List ℕ) : Type 0 where
  pub answer : answered ≡ (step_from block place lent).answer
  pub body : left ≡ (step_from block place lent).body
  pub told : length lent ≡ longest → heard_as answered.next left ≡ first_heard (start_at block place) (drop place block)
  pub forward : (answered.next ≡ None → ⊥) → (place < answered.place) × (answered.place ≤ length block)
  pub full : length lent ≡ longest → length left ≡ longest
