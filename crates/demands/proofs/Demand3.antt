-- Shown: demand 3, the wire theorem, of the user's wire and of one with shared delimiters, whatever silence follows the wire.
-- Why: joined among the FFs ahead of a body, all is heard from there on; joined later, the rest of that frame is silent and ends at a
-- delimiter, so that the next frame is the first one heard.
use Prim.Native.Nat.{ℕ, zero, suc, ◌+◌, ◌-◌, ◌≤◌, ◌<◌}
use mathlib.Core.Path.{◌≡◌, ◌∙◌, refl, sym, ap}
use mathlib.Core.List.{List, [], ◌∷◌, ◌++◌, append_assoc, append-nil}
use native.Mathlib.Omega.{arith}
use native.Mathlib.Decide.{dec_le}
use native.Mathlib.Nat.{lt_of_not-le, sub-zero, zero-sub, suc-sub-suc}
use borrow.Author.Tests.{lt-ltb, le-ltb}
use lib.ListN.{length, drop, replicate, length-replicate}
use lib.Seq.{drop-append-le, drop-append-add}
use Rattle.std.proofs.lemmas.Grind.{common_steps}
use Rattle.frame.specs.Stuffing.{stuffed}
use Rattle.line.specs.Listener.{Heard, seeking, delimited, fresh, events}
use Rattle.demands.specs.Wire.{Sent, Shared, AllProper, AllShared, on_wire, wire_of, heard_of, Demand3, SharedDemand3}
use Rattle.demands.proofs.Bytes.{at, seeking_run}
use Rattle.demands.proofs.Piece.{stuff, seeking_late}
use Rattle.demands.proofs.AllHeard.{size, told, length_on_wire, on_wire_ahead, heard_whole, Quiet, quiet_end, to_its_end}
use Rattle.demands.proofs.ByPlaces.{behind_of, none, by_places, behind_all}

-- a wire from a place on, where a part ends ahead of the place, and where the place lies in a run of FFs
skip : (part rest : List ℕ) (size place : ℕ) → length part ≡ size → size ≤ place → drop place (part ++ rest) ≡ drop (place - size) rest
skip part rest size place long past = grind (arith, common_steps, drop-append-add)

drop_replicate : {A : Type 0} (a : A) (i count : ℕ) → drop i (replicate count a) ≡ replicate (count - i) a
drop_replicate a zero count = rw sub-zero
drop_replicate a (suc i) zero = rw zero-sub
drop_replicate a (suc i) (suc count) = rw suc-sub-suc (drop_replicate a i count)

rest_of_run : (count place m : ℕ) (rest : List ℕ) → place + m ≡ count → drop place (replicate count 0xFF ++ rest) ≡ replicate m 0xFF ++ rest
rest_of_run count place m rest e = grind (arith, common_steps, drop_replicate)

-- who joins behind the first address byte, at place `late` of the body and the FFs behind it, hears nothing up to the next frame
late_quiet : (sent : Sent) → Shared sent → (late m : ℕ) (rest : List ℕ) → late + m ≡ size sent + sent.behind → 1 ≤ m
    → events fresh (drop late (stuffed sent.body ++ (replicate sent.behind 0xFF ++ rest))) ≡ events (at delimited m) rest
late_quiet sent shared late m rest e some = elim (dec_le late (size sent)) [
  | yes in_Body ↦
      ap (events fresh) (drop-append-le late (stuffed sent.body) (replicate sent.behind 0xFF ++ rest) in_Body)
      ∙ seeking_late (stuff sent.body) late (replicate sent.behind 0xFF ++ rest) 0 (size sent - late) (omega arith)
      ∙ seeking_run sent.behind (size sent - late) m rest (omega (arith, shared.behind)) (omega arith)
  | no in_behind ↦
      let past : size sent < late = lt_of_not-le in_behind in
      ap (events fresh)
      (skip (stuffed sent.body) (replicate sent.behind 0xFF ++ rest) (size sent) late refl (omega arith)
      ∙ rest_of_run sent.behind (late - size sent) m rest (omega arith))
      ∙ seeking_run m 0 m rest some (omega arith)
]

-- a wire with silence behind it
module _ (rest : List ℕ) (quiet : Quiet rest) where
  -- the frame at `start`, joined at `place` of it: among the FFs ahead it is heard, and so are all others; behind them only the others are
  module _ (sent : Sent) (list : List Sent) (shared : Shared sent) (others : AllShared list)
      (joined start place : ℕ) (here : start + place ≡ joined) where
    split : drop place (wire_of (sent ∷ list) ++ rest)
        ≡ drop place (replicate sent.ahead 0xFF ++ (stuffed sent.body ++ (replicate sent.behind 0xFF ++ (wire_of list ++ rest))))
    unfolding wire_of
    split = ap (drop place) (append_assoc (on_wire sent) (wire_of list) rest ∙ on_wire_ahead sent (wire_of list ++ rest))

    joined_early : place < sent.ahead → events fresh (drop place (wire_of (sent ∷ list) ++ rest)) ≡ behind_of joined start (sent ∷ list)
    unfolding behind_of
    joined_early early =
        let taken = sent.ahead - place in
        let first : joined < start + sent.ahead = omega arith in
        let end : start + sent.ahead + size sent + 2 - joined ≡ taken + size sent + 2 = omega arith in
        let after = taken + size sent + sent.behind in
        rw (lt-ltb joined (start + sent.ahead) first, end)
        (ap (events fresh) (split ∙ rest_of_run sent.ahead place taken _ (omega arith))
        ∙ seeking_run taken 0 taken _ (omega arith) (omega arith)
        ∙ heard_whole sent shared taken after (wire_of list ++ rest) refl
        ∙ ap (λ (later : List Heard). told sent (taken + size sent + 2) ∷ later)
        (to_its_end list others rest quiet after ∙ sym (behind_all list joined (start + length (on_wire sent)) after (omega (arith, length_on_wire sent)) (omega arith))))

    joined_late : sent.ahead ≤ place → place < length (on_wire sent)
        → events fresh (drop place (wire_of (sent ∷ list) ++ rest)) ≡ behind_of joined start (sent ∷ list)
    unfolding behind_of
    joined_late late within =
        let taken = length (on_wire sent) - place in
        let first : start + sent.ahead ≤ joined = omega arith in
        rw (le-ltb joined (start + sent.ahead) first)
        (ap (events fresh) (split ∙ skip (replicate sent.ahead 0xFF) _ sent.ahead place (length-replicate sent.ahead 0xFF) late)
        ∙ late_quiet sent shared (place - sent.ahead) taken (wire_of list ++ rest) (omega (arith, length_on_wire sent)) (omega arith)
        ∙ to_its_end list others rest quiet taken
        ∙ sym (behind_all list joined (start + length (on_wire sent)) taken (omega arith) (omega arith)))

  -- joined anywhere
  joined_at : (list : List Sent) → AllShared list → (joined start place : ℕ) → start + place ≡ joined
      → events fresh (drop place (wire_of list ++ rest)) ≡ behind_of joined start list
  unfolding wire_of behind_of
  joined_at [] shared joined start place here = quiet seeking tt 0 place
  joined_at (sent ∷ list) (shared, others) joined start place here = elim (dec_le (length (on_wire sent)) place) [
    | yes beyond ↦
        let first : start + sent.ahead ≤ joined = omega (arith, length_on_wire sent) in
        rw (le-ltb joined (start + sent.ahead) first)
        (ap (events fresh) (ap (drop place) (append_assoc (on_wire sent) (wire_of list) rest) ∙ skip (on_wire sent) (wire_of list ++ rest) (length (on_wire sent)) place refl beyond)
        ∙ joined_at list others joined (start + length (on_wire sent)) (place - length (on_wire sent)) (omega arith))
    | no within ↦ elim (dec_le sent.ahead place) [
      | yes late ↦ joined_late sent list shared others joined start place here late (lt_of_not-le within)
      | no early ↦ joined_early sent list shared others joined start place here (lt_of_not-le early)
    ]
  ]

  pub demand3_then : (list : List Sent) → AllShared list → (joined : ℕ) → events fresh (drop joined (wire_of list ++ rest)) ≡ heard_of (wire_of list ++ rest) joined 0 list
  demand3_then list shared joined = joined_at list shared joined 0 joined (omega arith) ∙ sym (by_places list shared none rest (wire_of list ++ rest) joined 0 refl refl)

pub shared_demand3 : SharedDemand3
shared_demand3 list shared joined = rw append-nil at (demand3_then [] quiet_end list shared joined)

-- a frame that shares nothing may share
pub may_share : (list : List Sent) → AllProper list → AllShared list
may_share [] proper = tt
may_share (sent ∷ list) (proper, others) = (proper.shared, may_share list others)

pub demand3 : Demand3
demand3 list proper = shared_demand3 list (may_share list proper)
