-- Shown: an event is given by the last byte that a block gave up, and that byte tells how the line is left: Delimited behind an FF, or Seeking.
-- Why: a block is fed byte by byte by its definition, and in each state only the tests on the byte lead to an event.
use Rattle.std.specs.Prelude.{Result, Ok, Err, Option, Some, None}
use Prim.Native.Nat.{ℕ, ◌+◌}
use mathlib.Core.Path.{◌≡◌, ◌∙◌, refl, ap}
use mathlib.Core.List.{List, [], ◌∷◌, ◌++◌}
use mathlib.Core.Logic.{◌⊎◌, inl, inr}
use native.Mathlib.Omega.{arith}
use lib.ListN.{length}
use Rattle.std.proofs.lemmas.Grind.{common_steps}
use Rattle.refusal.specs.declared.Refusal.{Refusal}
use Rattle.refusal.specs.Numbers.{number_of}
use Rattle.body.specs.Body.{judged}
use Rattle.line.specs.declared.places.Event.{Event}
use Rattle.line.specs.declared.reading.Reader.{Reader}
use Rattle.line.specs.declared.reading.Fed.{Fed}
use Rattle.line.specs.Listener.{State, delimited, Heard, nothing, Listener, Step, step, keep, ended, hear_in, hear, after}
use Rattle.line.specs.Readers.{view, taken, fed_from}
use Rattle.line.proofs.Joined.{joined}
use Rattle.message.proofs.Refusals.{end_refuses}
use Rattle.capture_walker.specs.Walking.{state_behind}
use Rattle.demands.specs.Reading.{after_bytes}
use Rattle.demands.specs.CaptureWalks.{LeavesLine}

-- ---- the last byte taken

-- a block that told something: its last byte taken told it, from where the bytes before it had led
pub record Gave (used : ℕ) (reader : Reader) (block : List ℕ) : Type 0 where
  pub before : List ℕ
  pub byte : ℕ
  pub later : List ℕ
  pub is : block ≡ before ++ (byte ∷ later)
  pub far : (fed_from used reader block).used ≡ used + length before + 1
  pub event : (fed_from used reader block).event ≡ (taken (after_bytes reader before) byte).event
  pub stands : (fed_from used reader block).reader ≡ (taken (after_bytes reader before) byte).reader

abbrev Spoken : ℕ → Reader → List ℕ → Type 0
Spoken used reader block = (fed_from used reader block).event ≡ None → ⊥

module _ (used : ℕ) (reader : Reader) (byte : ℕ) (block : List ℕ) where
  -- the first byte told it
  at_first : fed_from used reader (byte ∷ block) ≡ record { reader = (taken reader byte).reader; event = (taken reader byte).event; used = used + 1 } → Gave used reader (byte ∷ block)
  unfolding after_bytes
  at_first stopped = record {
    before = [];
    byte = byte;
    later = block;
    is = refl;
    far = ap (λ (f : Fed). f.used) stopped ∙ omega arith;
    event = ap (λ (f : Fed). f.event) stopped;
    stands = ap (λ (f : Fed). f.reader) stopped;
  }

  -- or a later one did
  by_event : (Spoken (used + 1) (taken reader byte).reader block → Gave (used + 1) (taken reader byte).reader block)
      → Spoken used reader (byte ∷ block) → (event : Option Event) → (taken reader byte).event ≡ event → Gave used reader (byte ∷ block)
  unfolding fed_from after_bytes
  by_event rest spoken None e =
      let same : fed_from used reader (byte ∷ block) ≡ fed_from (used + 1) (taken reader byte).reader block = rw e in
      let gave = rest (λ none. spoken (ap (λ (f : Fed). f.event) same ∙ none)) in
      record {
        before = byte ∷ gave.before;
        byte = gave.byte;
        later = gave.later;
        is = ap (λ (l : List ℕ). byte ∷ l) {y = gave.before ++ (gave.byte ∷ gave.later)} gave.is;
        far = ap (λ (f : Fed). f.used) same ∙ gave.far ∙ omega arith;
        event = ap (λ (f : Fed). f.event) same ∙ gave.event;
        stands = ap (λ (f : Fed). f.reader) same ∙ gave.stands;
      }
  by_event rest spoken (Some event) e = at_first (rw e)

pub gave : (used : ℕ) (reader : Reader) (block : List ℕ) → Spoken used reader block → Gave used reader block
unfolding fed_from
gave used reader [] spoken = absurd (spoken refl)
gave used reader (byte ∷ block) spoken = grind (arith, common_steps, by_event, gave (used + 1) (taken reader byte).reader block)

-- bytes taken one by one lead the reader where they lead the listener
pub view_after : (reader : Reader) (bytes : List ℕ) → view (after_bytes reader bytes) ≡ after (view reader) bytes
unfolding after_bytes after
view_after reader [] = refl
view_after reader (byte ∷ bytes) = grind (arith, common_steps, joined, view_after (taken reader byte).reader bytes)

-- ---- how an event leaves the line

-- a step gave no event, or it left the line so
abbrev Leaves : ℕ → Step → Type 0
Leaves byte s = (s.event ≡ nothing) ⊎ LeavesLine s.event byte s.next.state

-- a byte to keep is never FF itself: the 256th is refused behind another byte
module _ (kept : List ℕ) (byte wire : ℕ) where
  no_room : (more : ℕ) → (byte ≡ 0xFF → ⊥) → Leaves byte (keep kept more wire)
  unfolding keep
  no_room more other = grind (arith, common_steps)

  at_end : byte ≡ 0xFF → (verdict : Result (Unit {0}) Refusal) → judged kept ≡ verdict → Leaves byte (step delimited wire (ended verdict kept wire))
  unfolding ended
  at_end ff (Ok tt) e = inr (ff, refl)
  at_end ff (Err why) e =
      inr (inl (end_refuses (λ (why : Refusal). (number_of why ≡ 1) ⊎ ((number_of why ≡ 4) ⊎ (number_of why ≡ 5))) kept (inl refl) (inr (inl refl)) (λ _. inr (inr refl)) why e, (ff, refl)))

leaves_in : (state : State) (byte wire : ℕ) → Leaves byte (hear_in state byte wire)
unfolding hear_in
leaves_in state byte wire = grind (arith, common_steps, at_end, no_room)

pub leaves : (listener : Listener) (byte : ℕ) → ((hear listener byte).event ≡ nothing → ⊥) → LeavesLine (hear listener byte).event byte (hear listener byte).next.state
unfolding hear
leaves listener byte some = grind (arith, common_steps, leaves_in)

-- so the byte before tells the state
pub left_as : (heard : Heard) (byte : ℕ) (state : State) → LeavesLine heard byte state → state ≡ state_behind byte
left_as heard byte state none = grind (arith, common_steps)
