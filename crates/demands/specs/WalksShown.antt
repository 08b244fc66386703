-- The words of 02's request 2, at work on small blocks: where a walk starts, what a step answers, and where a walk ends. Each is computed.
use Rattle.std.specs.Prelude.{ℕ, ◌^◌, ◌-◌, ◌≡◌, cond, List, [], ◌∷◌, ◌++◌, eqb, take, drop, replicate}
use Rattle.std.specs.Borrow.{Bor}
use Rattle.refusal.specs.declared.Refusal.{Refusal}
use Rattle.refusal.specs.declared.Refusal.TheVariants.{BodyShort, BodyLong, HeldBroken, CheckWrong, AddressIllegal}
use Rattle.body.specs.Body.{longest}
use Rattle.line.specs.declared.places.Event.{Event}
use Rattle.line.specs.declared.places.Event.TheVariants.{Frame, Refused}
use Rattle.line.specs.Listener.{State, seeking, delimited, inside, frame, refused, Listener, fresh, after}
use Rattle.capture_walker.specs.Walking.{start_at, said_end, step_from}
use Rattle.capture_walker.specs.Walkers.{walker_at}
use Rattle.demands.specs.CaptureWalks.{met, Lends, Walk, end_from, LeavesLine, CountsWire}
use Rattle.demands.specs.Shown.{plain, with_ff}
use Rattle.demands.specs.WalkersWalk.{WalkersWalk}

-- E1, then E7, then a body that is cut off
abbrev pub morning : List ℕ
morning = 0xFF ∷ 0x01 ∷ 0xC3 ∷ 0xE3 ∷ 0xFF ∷ 0xFF ∷ 0xFF ∷ 0x01 ∷ 0xFF ∷ 0x02 ∷ 0xFF ∷ 0x05 ∷ 0x06 ∷ []

-- E5, which has a stuffed FF, and the body of E6's first behind its closing FFs
abbrev pub evening : List ℕ
evening = 0xFF ∷ 0x01 ∷ 0xA1 ∷ 0xFF ∷ 0xFE ∷ 0x00 ∷ 0x00 ∷ 0x39 ∷ 0xFF ∷ 0xFF ∷ 0x01 ∷ 0xC3 ∷ 0xE2 ∷ 0xFF ∷ 0xFF ∷ []

-- E6's second; and a body of 255 bytes whose 256th is a stuffed FF
abbrev pub short : List ℕ
short = 0xFF ∷ 0x01 ∷ 0xFF ∷ 0xFF ∷ []

abbrev pub long : List ℕ
long = 0xFF ∷ 0x01 ∷ (replicate 254 0 ++ (0xFF ∷ 0xFE ∷ []))

-- what is lent: 255 sevens; and nothing with the step from one place
abbrev pub sevens : List ℕ
sevens = replicate longest 7

abbrev pub but_at : ℕ → ℕ → List ℕ
but_at one place = cond (eqb place one) [] sevens

abbrev pub listener : State → ℕ → Listener
listener state wire = record { state = state; wire = wire }

abbrev pub whole : ℕ → ℕ → Event
whole wire kept = Frame (record { 0 = wire }) (record { 0 = kept })

abbrev pub refusal : Refusal → ℕ → ℕ → Event
refusal why wire kept = Refused why (record { 0 = wire }) (record { 0 = kept })

-- "fresh" at place 0; Delimited behind an FF, be it the first, a stuffed or a closing one; Seeking behind any other byte, an FE too. The wire count
-- turns at 2^64.
pub record Starts : Type 0 where
  pub first : start_at morning 0 ≡ fresh
  pub behind_ff : start_at morning 1 ≡ listener delimited 1
  pub in_frame : start_at morning 2 ≡ listener seeking 2
  pub between : start_at morning 5 ≡ listener delimited 5
  pub stuffed : start_at evening 4 ≡ listener delimited 4
  pub inserted : start_at evening 5 ≡ listener seeking 5
  pub at_end : start_at evening 15 ≡ listener delimited 15
  pub past_end : start_at morning 14 ≡ listener seeking 14
  pub turned : start_at [] (2 ^ 64) ≡ listener seeking 0

-- a frame, whose body stands over the front of what was lent; refusals 3, 1 and 2, each with what was kept; a cut_off body, which gives no event and
-- leaves what was kept of it; and the ends, which change nothing
pub record Answers : Type 0 where
  pub frame : step_from morning 0 sevens ≡ met (whole 6 3) 6 (plain ++ drop 3 sevens)
  pub broken : step_from morning 6 sevens ≡ met (refusal HeldBroken 10 1) 10 (0x01 ∷ drop 1 sevens)
  pub too_short : step_from short 0 sevens ≡ met (refusal BodyShort 4 1) 4 (0x01 ∷ drop 1 sevens)
  pub too_long : step_from long 0 sevens ≡ met (refusal BodyLong 258 255) 258 (0x01 ∷ replicate 254 0)
  pub no_more : step_from morning 10 sevens ≡ said_end 13 (0x05 ∷ 0x06 ∷ drop 2 sevens)
  pub at_end : step_from morning 13 sevens ≡ said_end 13 sevens
  pub past_end : step_from morning 14 sevens ≡ said_end 14 sevens
  pub far_past : step_from morning (2 ^ 64 - 1) sevens ≡ said_end (2 ^ 64 - 1) sevens
  pub empty : step_from [] 0 sevens ≡ said_end 0 sevens

-- from inside a frame what follows it is heard; from behind its stuffed FF, and from behind the FE there, nothing is made of its rest
pub record FromInside : Type 0 where
  pub behind_first_ff : step_from morning 1 sevens ≡ met (whole 6 3) 6 (plain ++ drop 3 sevens)
  pub in_frame : step_from morning 2 sevens ≡ met (refusal HeldBroken 10 1) 10 (0x01 ∷ drop 1 sevens)
  pub from_start : step_from evening 0 sevens ≡ met (whole 10 6) 10 (with_ff ++ drop 6 sevens)
  pub behind_stuffed : step_from evening 4 sevens ≡ met (refusal CheckWrong 15 3) 15 (0x01 ∷ 0xC3 ∷ 0xE2 ∷ drop 3 sevens)
  pub behind_inserted : step_from evening 5 sevens ≡ met (refusal CheckWrong 15 3) 15 (0x01 ∷ 0xC3 ∷ 0xE2 ∷ drop 3 sevens)

-- a whole walk; and what is lent with a step is what is lent for its own place. (Where nothing is lent a step takes nothing: no array is so short.)
pub record WholeWalks : Type 0 where
  pub lends : Lends (λ _. sevens)
  pub told : Walk morning (λ _. sevens) 0 (frame 6 3 plain ∷ refused HeldBroken 10 1 ∷ []) 13
  pub lent_at_second : Walk morning (but_at 6) 0 (frame 6 3 plain ∷ []) 6
  pub lent_at_last : Walk morning (but_at 13) 0 (frame 6 3 plain ∷ refused HeldBroken 10 1 ∷ []) 13
  pub by_walker : (block : Bor (List ℕ)) → block.now ≡ morning → WalkersWalk (but_at 6) (walker_at block 0) (frame 6 3 plain ∷ []) (walker_at block 6)
  pub to_its_end : (block : Bor (List ℕ)) → block.now ≡ morning
      → WalkersWalk (but_at 13) (walker_at block 0) (frame 6 3 plain ∷ refused HeldBroken 10 1 ∷ []) (walker_at block 13)

-- behind an event a walk starts as the byte-fed reader stands there; behind its "end", inside a body, it does not
pub record GoneOn : Type 0 where
  pub behind_frame : start_at morning 6 ≡ after fresh (take 6 morning)
  pub behind_refusal : start_at morning 10 ≡ after fresh (take 10 morning)
  pub cut_off : after fresh morning ≡ listener (inside (0x05 ∷ 0x06 ∷ [])) 13
  pub behind_end : start_at morning 13 ≡ listener seeking 13
  pub from_inside : start_at morning 10 ≡ after (start_at morning 2) (drop 2 (take 10 morning))

-- a block that grows: E7 cut off behind its held FF. From the start it is refused; from behind its "end" its rest would be taken for a frame
abbrev pub cut : List ℕ
cut = 0xFF ∷ 0x01 ∷ 0xFF ∷ []

abbrev pub grown : List ℕ
grown = cut ++ (0x01 ∷ 0xC3 ∷ 0xE3 ∷ 0xFF ∷ 0xFF ∷ [])

pub record Grown : Type 0 where
  pub not_yet : step_from cut 0 sevens ≡ said_end 3 (0x01 ∷ drop 1 sevens)
  pub broken : step_from grown 0 sevens ≡ met (refusal HeldBroken 4 1) 4 (0x01 ∷ drop 1 sevens)
  pub behind_end : step_from grown 3 sevens ≡ met (whole 8 3) 8 (plain ++ drop 3 sevens)

-- where a walk ends
pub record WalkEnds : Type 0 where
  pub from_start : end_from morning 0 ≡ 13
  pub from_end : end_from morning 13 ≡ 13
  pub from_past : end_from morning 14 ≡ 14
  pub of_empty : end_from [] 0 ≡ 0

-- how each event leaves the line; and an event's wire count (what must not be so stands in proofs/Tells)
pub record Leavings : Type 0 where
  pub frame_leaves : LeavesLine (frame 6 3 plain) 0xFF delimited
  pub one : LeavesLine (refused BodyShort 4 1) 0xFF delimited
  pub two : LeavesLine (refused BodyLong 258 255) 0xFE seeking
  pub three : LeavesLine (refused HeldBroken 10 1) 0x02 seeking
  pub four : LeavesLine (refused CheckWrong 15 3) 0xFF delimited
  pub five : LeavesLine (refused AddressIllegal 6 3) 0xFF delimited
  pub counted : CountsWire 6 (frame 6 3 plain)
  pub counted_too : CountsWire 10 (refused HeldBroken 10 1)

pub record WalksShown : Type 0 where
  pub starts : Starts
  pub answers : Answers
  pub from_inside : FromInside
  pub whole_walks : WholeWalks
  pub gone_on : GoneOn
  pub grown : Grown
  pub walk_ends : WalkEnds
  pub leavings : Leavings
