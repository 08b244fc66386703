-- Shown: cutting the bytes into blocks anywhere changes nothing.
-- Why: a listener takes byte after byte and has no other past.
use Prim.Native.Nat.{ℕ}
use mathlib.Core.Path.{◌≡◌, refl, sym}
use mathlib.Core.List.{List, [], ◌∷◌, ◌++◌, flatten}
use native.Mathlib.Omega.{arith}
use Rattle.std.proofs.lemmas.Grind.{common_steps}
use Rattle.line.specs.Listener.{Heard, Listener, events, after, hear, heard_then}
use Rattle.demands.specs.Wire.{over_blocks, AnyCut, AnyBlocks}

-- events go byte by byte, so a cut changes nothing
pub and_then_append : (heard : Heard) (later others : List Heard) → heard_then heard (later ++ others) ≡ heard_then heard later ++ others
unfolding heard_then
and_then_append heard later others = grind (arith, common_steps)

heard_in_two : (listener : Listener) (first second : List ℕ)
    → events listener (first ++ second) ≡ events listener first ++ events (after listener first) second
unfolding events after
heard_in_two listener [] second = refl
heard_in_two listener (byte ∷ first) second = grind (arith, common_steps, and_then_append, heard_in_two (hear listener byte).next first second)

left_by_both : (listener : Listener) (first second : List ℕ) → after listener (first ++ second) ≡ after (after listener first) second
unfolding after
left_by_both listener [] second = refl
left_by_both listener (byte ∷ first) second = left_by_both (hear listener byte).next first second

pub any_cut : AnyCut
any_cut listener first second = grind (arith, common_steps, heard_in_two, left_by_both)

-- a hearer whom a cut in two does not change is changed by no cut
pub over_blocks_lem : {S : Type 0} (told : S → List ℕ → List Heard) (left : S → List ℕ → S) → ((state : S) → told state [] ≡ [])
    → ((state : S) (first second : List ℕ) → told state (first ++ second) ≡ told state first ++ told (left state first) second)
    → (state : S) (blocks : List (List ℕ)) → over_blocks told left state blocks ≡ told state (flatten blocks)
unfolding over_blocks flatten
over_blocks_lem told left none in_two state [] = sym (none state)
over_blocks_lem told left none in_two state (block ∷ blocks) = grind (arith, common_steps, over_blocks_lem told left none in_two (left state block) blocks)

pub any_blocks : AnyBlocks
unfolding events
any_blocks = over_blocks_lem events after (λ (listener : Listener). refl) heard_in_two
