-- Shown: a listener that started from a place of a block and gave an event stands as a walk starts behind the event's byte.
-- Why: an event leaves no body open, the byte before tells the rest of the state, and each byte counts one.
use Prim.Native.Nat.{ℕ, zero, suc, ◌+◌, ◌-◌, ◌%◌, ◌^◌, ◌≤◌}
use mathlib.Core.Path.{◌≡◌, ◌∙◌, refl, sym, ap, subst}
use mathlib.Core.List.{List, [], ◌∷◌, ◌++◌, append_assoc}
use native.Mathlib.Omega.{arith}
use lib.ListN.{length, take, drop, get_or, length-append, length-drop}
use lib.Seq.{slice, take-add, take_at}
use Rattle.std.proofs.lemmas.Grind.{common_steps}
use Rattle.line.specs.Listener.{State, Heard, nothing, frame, refused, Listener, hear, after, tick}
use Rattle.line.proofs.EveryStep.{every_told}
use Rattle.capture_walker.specs.Walking.{state_behind, start_at}
use Rattle.capture_walker.proofs.AtRest.{start_behind}
use Rattle.demands.specs.CaptureWalks.{LeavesLine, CountsWire, MovedOn}
use Rattle.demands.proofs.Counts.{ticks, ticked}
use Rattle.demands.proofs.Cuts.{any_cut}
use Rattle.demands.proofs.LastByte.{leaves, left_as}

-- a start counts the bytes before it
start_wire : (block : List ℕ) (place : ℕ) → (start_at block place).wire ≡ place % 2 ^ 64
unfolding start_at
start_wire block zero = refl
start_wire block (suc before) = refl

-- one notion of equals
same_leaves : {heard heard' : Heard} {byte byte' : ℕ} {state state' : State} → heard ≡ heard' → byte ≡ byte' → state ≡ state'
    → LeavesLine heard' byte' state' → LeavesLine heard byte state
same_leaves p q r l = rw (p, q, r) l

-- an event counts the byte that gave it
Wired : ℕ → Heard → Type 0
Wired taken nothing = Unit {0}
Wired taken (frame wire kept body) = wire ≡ taken
Wired taken (refused why wire kept) = wire ≡ taken

wired : (listener : Listener) (byte : ℕ) → Wired (tick listener.wire) (hear listener byte).event
unfolding Wired
wired listener byte = every_told (Wired (tick listener.wire)) listener byte tt refl refl (λ _. refl) (λ _ _. refl)

counts_wire : (heard : Heard) (taken : ℕ) → (heard ≡ nothing → ⊥) → Wired taken heard → CountsWire taken heard
unfolding Wired
counts_wire heard taken some counts = grind (arith, common_steps)

-- a part of a list is the front of what stands behind its start
slice_front : (from count : ℕ) (l : List ℕ) → from ≤ length l → slice from (from + count) l ≡ take count (drop from l)
slice_front from count l fits = grind (arith, common_steps, take-add)

module _ (block : List ℕ) (place : ℕ) (before : List ℕ) (byte : ℕ) (later : List ℕ) (cut : drop place block ≡ before ++ (byte ∷ later)) where
  abbrev behind : ℕ
  behind = place + length before + 1

  abbrev there : Listener
  there = after (start_at block place) before

  byte_there : get_or block (behind - 1) 0 ≡ byte
  byte_there = grind (arith, common_steps)

  wire_there : behind % 2 ^ 64 ≡ tick there.wire
  wire_there = omega (arith, ticks (start_at block place) before, start_wire block place)

  pub inside_block : behind ≤ length block
  inside_block = omega (arith, ap length cut, length-drop place block, length-append before (byte ∷ later))

  taken_there : after (start_at block place) (slice place behind block) ≡ (hear there byte).next
  unfolding after
  taken_there =
      let count : behind ≡ place + (length before + 1) = omega arith in
      let bytes : slice place behind block ≡ before ++ (byte ∷ []) =
      ap (λ (n : ℕ). slice place n block) count ∙ slice_front place (length before + 1) block (omega (arith, inside_block))
      ∙ ap (take (length before + 1)) (cut ∙ sym (append_assoc before (byte ∷ []) later))
      ∙ take_at (before ++ (byte ∷ [])) later (length before + 1) (length-append before (byte ∷ [])) in
      ap (after (start_at block place)) bytes ∙ (any_cut (start_at block place) before (byte ∷ [])).left

  module _ (some : (hear there byte).event ≡ nothing → ⊥) where
    pub stands_behind : start_at block behind ≡ (hear there byte).next
    stands_behind =
        start_behind block behind (omega arith)
        ∙ (λ i. record {
          state = (ap state_behind byte_there ∙ sym (left_as (hear there byte).event byte (hear there byte).next.state (leaves there byte some))) i;
          wire = (wire_there ∙ sym (ticked there byte)) i;
        })

    pub moved_on : {heard : Heard} → heard ≡ (hear there byte).event → MovedOn block place heard behind
    moved_on {heard} is = record {
      forward = omega arith;
      inside = inside_block;
      stands = stands_behind ∙ sym taken_there;
      leaves = same_leaves is byte_there (ap (λ (l : Listener). l.state) stands_behind) (leaves there byte some);
      counts = subst (λ (h : Heard). CountsWire (behind % 2 ^ 64) h) (sym is)
          (rw wire_there (counts_wire (hear there byte).event (tick there.wire) some (wired there byte)));
    }
