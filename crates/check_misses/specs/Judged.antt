-- 02, request 8, in the line's own words: what `body::judge` takes, and what a listener hears. "It speaks of bodies after unstuffing, not of wires."
use Rattle.std.specs.Prelude.{ℕ, ◌≤◌, ◌<◌, ◌≡◌, cond, ◌&&◌, length, get_or, ltb, eqb, Ok, Err}
use mathlib.Core.List.{List, Memᴰ}
use Rattle.refusal.specs.declared.Refusal.{Refusal}
use Rattle.refusal.specs.declared.Refusal.TheVariants.{BodyShort, CheckWrong}
use Rattle.body.specs.Body.{judged_lent}
use Rattle.line.specs.declared.reading.Reader.{Reader}
use Rattle.line.specs.Listener.{frame, events}
use Rattle.line.specs.Readers.{view}
use Rattle.check_misses.specs.Places.{bits_of, turned_over, OnlyInside, InBits}
use Rattle.check_misses.specs.Misses.{EquallyLong, Different}

-- neither difference occurs: inside eight neighbouring bits, or, at no more than 31 bytes, in one or two
pub record NeitherOccurs (first second : List ℕ) : Type 0 where
  pub neighbours : Different first second → OnlyInside 8 first second → ⊥
  pub bits : length first ≤ 31 → InBits 2 first second → ⊥

-- of two bodies that `judge` takes; only for the eight neighbouring bits must they be different
abbrev pub BothTaken : Type 0
BothTaken = (first second : List ℕ) → EquallyLong first second → judged_lent first ≡ Ok tt → judged_lent second ≡ Ok tt → NeitherOccurs first second

-- what a body earns in which one bit was turned over: 4, or 1 where its first byte became 00 and it has under 6 bytes (01: "At a body's end the
-- order is 1, 4, 5")
abbrev pub earned_by : List ℕ → Refusal
earned_by turned = cond (eqb (get_or turned 0 0) 0 && ltb (length turned) 6) BodyShort CheckWrong

-- the body of each frame that is heard on any bytes, from any state handed in, with any one of its bits turned over
abbrev pub OneBitRefused : Type 0
OneBitRefused =
    (reader : Reader) (bytes : List ℕ) (wire kept : ℕ) (body : List ℕ) → Memᴰ (frame wire kept body) (events (view reader) bytes)
    → (place : ℕ) → place < bits_of body → judged_lent (turned_over place body) ≡ Err (earned_by (turned_over place body))
