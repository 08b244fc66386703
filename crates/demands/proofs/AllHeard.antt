-- Shown: a listener who stands at a delimiter hears every frame of the wire that follows, whole and in order, with both counts.
-- Why: each frame leaves it at a delimiter again, so the list goes by induction.
use Prim.Native.Nat.{ℕ, ◌+◌}
use mathlib.Core.Path.{◌≡◌, ◌∙◌, refl, ap}
use mathlib.Core.List.{List, [], ◌∷◌, ◌++◌, append_assoc, append-nil}
use native.Mathlib.Omega.{arith}
use lib.ListN.{length, drop, replicate, length-append, length-replicate}
use lib.Seq.{drop-nil}
use Rattle.std.proofs.lemmas.Grind.{common_steps}
use Rattle.frame.specs.Stuffing.{stuffed}
use Rattle.line.specs.Listener.{Heard, frame, State, delimited, events}
use Rattle.demands.specs.Stops.{AtRest}
use Rattle.demands.specs.Wire.{Sent, Shared, AllShared, on_wire, wire_of, frames_of}
use Rattle.demands.proofs.Bytes.{clock, at, delimited_run}
use Rattle.demands.proofs.Piece.{stuff, whole}

-- how many places a frame's body takes on the wire, and the frame as it is heard when its second FF behind is byte number `end`
abbrev pub size : Sent → ℕ
size sent = length (stuffed sent.body)

abbrev pub told : Sent → ℕ → Heard
told sent end = frame (clock end) (length sent.body) sent.body

-- the places on the wire of one frame
pub length_on_wire : (sent : Sent) → length (on_wire sent) ≡ sent.ahead + size sent + sent.behind
unfolding on_wire
length_on_wire sent = simp (length-append, length-replicate) (omega arith)

-- a frame that stands on a wire ahead of other bytes
pub on_wire_ahead : (sent : Sent) (rest : List ℕ)
    → on_wire sent ++ rest ≡ replicate sent.ahead 0xFF ++ (stuffed sent.body ++ (replicate sent.behind 0xFF ++ rest))
unfolding on_wire
on_wire_ahead sent rest = simp append_assoc

-- the body and what is behind it, for a listener at the delimiter ahead
pub heard_whole : (sent : Sent) → Shared sent → (n m : ℕ) (rest : List ℕ) → n + size sent + sent.behind ≡ m
    → events (at delimited n) (stuffed sent.body ++ (replicate sent.behind 0xFF ++ rest))
    ≡ told sent (n + size sent + 2) ∷ events (at delimited m) rest
heard_whole sent shared n m rest e = grind (arith, common_steps, stuff, whole)

all_heard : (list : List Sent) → AllShared list → (n m : ℕ) (rest : List ℕ) → n + length (wire_of list) ≡ m
    → events (at delimited n) (wire_of list ++ rest) ≡ frames_of n list ++ events (at delimited m) rest
unfolding wire_of frames_of
all_heard [] shared n m rest e =
    let same : n ≡ m = omega arith in
    rw same
all_heard (sent ∷ list) (shared, others) n m rest e = grind (arith, common_steps, at, delimited_run, heard_whole, length-append, length_on_wire, on_wire_ahead, all_heard list others (n + length (on_wire sent)) m rest (omega (arith, length-append (on_wire sent) (wire_of list))))

-- bytes of which who is between two bodies hears nothing, from whichever of them on
abbrev pub Quiet : List ℕ → Type 0
Quiet rest = (state : State) → AtRest state → (n late : ℕ) → events (at state n) (drop late rest) ≡ []

pub quiet_end : Quiet []
unfolding events
quiet_end state rests n late = rw drop-nil

-- all of a wire, to its end, and then nothing
pub to_its_end : (list : List Sent) → AllShared list → (rest : List ℕ) → Quiet rest → (n : ℕ) → events (at delimited n) (wire_of list ++ rest) ≡ frames_of n list
to_its_end list shared rest quiet n =
    all_heard list shared n (n + length (wire_of list)) rest refl
    ∙ ap (λ (later : List Heard). frames_of n list ++ later) (quiet delimited tt (n + length (wire_of list)) 0)
    ∙ append-nil (frames_of n list)
