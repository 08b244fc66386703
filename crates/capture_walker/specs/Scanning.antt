-- For the step's own scan up to the next body; no public promise rests on this page.
use Rattle.std.specs.Prelude.{ℕ, zero, suc, ◌<◌, ◌≡◌, Bool, true, false, not, ◌&&◌, List, eqb, length, get_or, max, Option, MatchOption}
use Rattle.body.specs.Body.{longest}
use Rattle.capture_walker.specs.Walking.{step_from}

-- whether a walk that starts at a place starts Delimited
abbrev pub delimited_at : List ℕ → ℕ → Bool
delimited_at block zero = false
delimited_at block (suc before) = eqb (get_or block before 0) 0xFF

-- Delimited: "FF stays, FE goes back to Seeking, any other byte starts a body"
abbrev pub starts_body : Bool → ℕ → Bool
starts_body is_delimited byte = (is_delimited && not (eqb byte 0xFF)) && not (eqb byte 0xFE)

-- the step from one place is the step from the other
abbrev pub SameStep : List ℕ → ℕ → ℕ → Type 0
SameStep block from to = (lent : List ℕ) → length lent ≡ longest → step_from block to lent ≡ step_from block from lent

-- a promise: a body starts at a place, and the step from there is the step from another place
pub record StartsAt (block : List ℕ) (from start : ℕ) : Type 0 where
  pub within : start < length block
  pub starts : starts_body (delimited_at block start) (get_or block start 0) ≡ true
  pub same : SameStep block from start

-- a promise: where the next body starts; where none does, the step from the end is the step from the place
abbrev pub NextBody : List ℕ → ℕ → Option ℕ → Type 0
NextBody block from found = MatchOption found (SameStep block from (max from (length block))) (λ start. StartsAt block from start)

-- how many bytes a body can be open for: its 255, each an FF with its FE, and the two FFs behind it
abbrev pub longest_on_wire : ℕ
longest_on_wire = 512
