-- Shown: what one byte does in each of the four states, as equations of `events`, and what a run of FFs does.
-- Why: each is the paper's rule for that state, read off; the wire count turns at 2^64 in one lemma and is a plain number elsewhere.
use Rattle.std.specs.Prelude.{Ok}
use Prim.Native.Nat.{ℕ, zero, suc, ◌+◌, ◌%◌, ◌^◌, ◌≤◌, ◌<◌}
use mathlib.Core.Path.{◌≡◌, ◌∙◌, ap}
use mathlib.Core.Bool.{false}
use mathlib.Core.List.{List, [], ◌∷◌, ◌++◌}
use native.Mathlib.Omega.{arith}
use native.Mathlib.Nat.{mod-add-mod}
use native.Mathlib.Numerals.{add-one}
use borrow.Author.Tests.{lt-ltb}
use lib.ListN.{length, replicate}
use lib.Dec.{eqb}
use Rattle.std.proofs.lemmas.Grind.{common_steps}
use Rattle.body.specs.Body.{judged}
use Rattle.line.specs.Listener.{Heard, frame, State, seeking, delimited, inside, held, Listener, Step, tick, keep, ended, hear, hear_in, heard_then, events}

-- a listener that has taken n bytes; the turn of the count at 2^64 is met here and in `ticks`, and nowhere else
abbrev pub clock : ℕ → ℕ
clock n = n % 2 ^ 64

abbrev pub at : State → ℕ → Listener
at state n = record { state = state; wire = clock n }

ticks : (n : ℕ) → tick (clock n) ≡ clock (suc n)
unfolding tick
ticks n = mod-add-mod n (2 ^ 64) 1 ∙ ap clock (add-one n)

-- what a step leaves to the bytes behind it
abbrev onward : Step → List ℕ → List Heard
onward done rest = heard_then done.event (events done.next rest)

one_byte : (state : State) (n byte : ℕ) (rest : List ℕ) → events (at state n) (byte ∷ rest) ≡ onward (hear_in state byte (clock (suc n))) rest
unfolding events hear
one_byte state n byte rest = ap (λ (wire : ℕ). onward (hear_in state byte wire) rest) (ticks n)

module _ (n : ℕ) (rest : List ℕ) where
  pub seeking_ff : events (at seeking n) (0xFF ∷ rest) ≡ events (at delimited (suc n)) rest
  unfolding hear_in heard_then
  seeking_ff = one_byte seeking n 0xFF rest

  pub seeking_other : (byte : ℕ) → eqb byte 0xFF ≡ false → events (at seeking n) (byte ∷ rest) ≡ events (at seeking (suc n)) rest
  unfolding hear_in heard_then
  seeking_other byte other = one_byte seeking n byte rest ∙ rw other

  pub delimited_ff : events (at delimited n) (0xFF ∷ rest) ≡ events (at delimited (suc n)) rest
  unfolding hear_in heard_then
  delimited_ff = one_byte delimited n 0xFF rest

  pub delimited_fe : events (at delimited n) (0xFE ∷ rest) ≡ events (at seeking (suc n)) rest
  unfolding hear_in heard_then
  delimited_fe = one_byte delimited n 0xFE rest

  pub delimited_other : (byte : ℕ) → eqb byte 0xFF ≡ false → eqb byte 0xFE ≡ false
      → events (at delimited n) (byte ∷ rest) ≡ events (at (inside (byte ∷ [])) (suc n)) rest
  unfolding hear_in heard_then keep
  delimited_other byte no_ff no_fe = one_byte delimited n byte rest ∙ rw (no_ff, no_fe)

  pub inside_ff : (kept : List ℕ) → events (at (inside kept) n) (0xFF ∷ rest) ≡ events (at (held kept) (suc n)) rest
  unfolding hear_in heard_then
  inside_ff kept = one_byte (inside kept) n 0xFF rest

  pub inside_other : (kept : List ℕ) (byte : ℕ) → eqb byte 0xFF ≡ false → length kept < 255
      → events (at (inside kept) n) (byte ∷ rest) ≡ events (at (inside (kept ++ (byte ∷ []))) (suc n)) rest
  unfolding hear_in heard_then keep
  inside_other kept byte other room = grind (arith, common_steps, one_byte)

  pub held_fe : (kept : List ℕ) → length kept < 255
      → events (at (held kept) n) (0xFE ∷ rest) ≡ events (at (inside (kept ++ (0xFF ∷ []))) (suc n)) rest
  unfolding hear_in heard_then keep
  held_fe kept room = one_byte (held kept) n 0xFE rest ∙ rw (lt-ltb (length kept) 255 room)

  pub held_ff : (kept : List ℕ) → judged kept ≡ Ok tt
      → events (at (held kept) n) (0xFF ∷ rest) ≡ frame (clock (suc n)) (length kept) kept ∷ events (at delimited (suc n)) rest
  unfolding hear_in heard_then ended
  held_ff kept good = one_byte (held kept) n 0xFF rest ∙ rw good

-- a run of FFs: m is the clock behind it
pub delimited_run : (count n m : ℕ) (rest : List ℕ) → n + count ≡ m
    → events (at delimited n) (replicate count 0xFF ++ rest) ≡ events (at delimited m) rest
delimited_run zero n m rest e = grind (arith, common_steps)
delimited_run (suc count) n m rest e = delimited_ff n (replicate count 0xFF ++ rest) ∙ delimited_run count (suc n) m rest (omega arith)

pub seeking_run : (count n m : ℕ) (rest : List ℕ) → 1 ≤ count → n + count ≡ m
    → events (at seeking n) (replicate count 0xFF ++ rest) ≡ events (at delimited m) rest
seeking_run count n m rest some e = grind (arith, common_steps, delimited_run, seeking_ff)
