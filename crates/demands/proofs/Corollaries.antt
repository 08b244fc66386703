-- Shown: what follows from the wire theorem: no refusal, the whole list from its start, one list for a wire, and a written frame reads back.
-- Why: a frame names its body, so the events name the list; a written frame is a wire of one, and its counts are the room rule's.
use Prim.Native.Nat.{ℕ, ◌+◌, ◌^◌, ◌≤◌, ◌<◌}
use mathlib.Core.Path.{◌≡◌, ◌∙◌, refl, sym, ap}
use mathlib.Core.Bool.{Bool, false, cond}
use mathlib.Core.List.{List, [], ◌∷◌, map, append-nil}
use native.Mathlib.Omega.{arith}
use native.Mathlib.Nat.{mod-eq_of_lt}
use lib.ListN.{length}
use lib.Seq.{slice}
use lib.Dec.{lit≤}
use Rattle.std.proofs.lemmas.Grind.{common_steps}
use Rattle.frame.specs.Stuffing.{stuffed, count_ff, framed, needed}
use Rattle.frame.proofs.Stuffing.{stuffed_length, count_most}
use Rattle.body.proofs.Rebuilding.{good_address_lem, made_good, rebuilt, lent_at_most, lent_good}
use Rattle.line.specs.Listener.{Heard, nothing, frame, refused, delimited, fresh, events}
use Rattle.demands.specs.Wire.{Sent, Shared, AllShared, on_wire, wire_of, heard_of, any_refused, frames_of, NoRefusal, GoodBodies, FromStart, OneList, OfFrameRule, ReadsBack}
use Rattle.demands.proofs.Bytes.{clock, at, seeking_run, delimited_run}
use Rattle.demands.proofs.AllHeard.{on_wire_ahead, quiet_end, to_its_end}
use Rattle.demands.proofs.Demand3.{shared_demand3}

-- who stands at a delimiter hears the whole list
from_delimiter : (list : List Sent) → AllShared list → events (at delimited 0) (wire_of list) ≡ frames_of 0 list
from_delimiter list shared = rw append-nil at (to_its_end list shared [] quiet_end 0)

-- frames are no refusals
frame_or_later : (test : Bool) (wire kept : ℕ) (body : List ℕ) (later : List Heard) → any_refused later ≡ false
    → any_refused (cond test (frame wire kept body ∷ later) later) ≡ false
unfolding any_refused
frame_or_later test wire kept body later none = grind (arith, common_steps)

frames_only : (bytes : List ℕ) (joined start : ℕ) (list : List Sent) → any_refused (heard_of bytes joined start list) ≡ false
unfolding heard_of any_refused
frames_only bytes joined start [] = refl
frames_only bytes joined start (sent ∷ list) = grind (arith, common_steps, clock, frame_or_later, slice, frames_only bytes joined (start + length (on_wire sent)) list)

pub no_refusal : NoRefusal
no_refusal list shared joined = grind (arith, common_steps, frames_only, shared_demand3)

-- the whole list, from its start: an FF ahead doesn't tell Seeking from Delimited
pub from_start : FromStart
unfolding wire_of frames_of events
from_start [] shared first = refl
from_start (sent ∷ list) shared first =
    ap (events fresh) (on_wire_ahead sent (wire_of list)) ∙ seeking_run sent.ahead 0 sent.ahead _ first (omega arith)
    ∙ sym (ap (events (at delimited 0)) (on_wire_ahead sent (wire_of list)) ∙ delimited_run sent.ahead 0 sent.ahead _ (omega arith))
    ∙ from_delimiter (sent ∷ list) shared

-- the bodies of the frames heard
bodies : List Heard → List (List ℕ)
bodies [] = []
bodies (nothing ∷ heard) = bodies heard
bodies (frame wire kept body ∷ heard) = body ∷ bodies heard
bodies (refused why wire kept ∷ heard) = bodies heard

bodies_of : (taken : ℕ) (list : List Sent) → bodies (frames_of taken list) ≡ map (λ (sent : Sent). sent.body) list
unfolding bodies frames_of
bodies_of taken [] = refl
bodies_of taken (sent ∷ list) = grind (arith, common_steps, bodies_of (taken + length (on_wire sent)) list)

names_its_list : (list : List Sent) → AllShared list → bodies (events (at delimited 0) (wire_of list)) ≡ map (λ (sent : Sent). sent.body) list
names_its_list list shared = ap bodies (from_delimiter list shared) ∙ bodies_of 0 list

pub one_list : OneList
one_list list other shared others same = grind (arith, common_steps, names_its_list)

-- the verdict is the user's
pub good_bodies : GoodBodies
good_bodies body = grind (arith, common_steps, good_address_lem, made_good, rebuilt)

pub of_frame_rule : OfFrameRule
unfolding framed on_wire
of_frame_rule body = refl

pub reads_back : ReadsBack
unfolding needed wire_of frames_of
reads_back body good =
    let written : Sent = record { ahead = 1; body = body; behind = 2 } in
    let most : length body ≤ 255 = lent_at_most body good in
    let shared : Shared written = record { good = lent_good body good; most = most; behind = lit≤ tt } in
    let twice : count_ff body ≤ length body = count_most body in
    let places : 0 + 1 + length (stuffed body) + 2 ≡ length body + 3 + count_ff body = omega (arith, stuffed_length body) in
    let small : length body + 3 + count_ff body < 2 ^ 64 = omega arith in
    ap (events fresh) (of_frame_rule body ∙ sym (append-nil (on_wire written)))
    ∙ from_start (written ∷ []) (shared, tt) (lit≤ tt)
    ∙ ap (λ (wire : ℕ). frame wire (length body) body ∷ []) (ap clock places ∙ mod-eq_of_lt small)
