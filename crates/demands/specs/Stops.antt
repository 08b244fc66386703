-- 01, "The frame": "A capture that stops inside a body gives no event for it."
use Rattle.std.specs.Prelude.{ℕ, ◌≤◌, ◌≡◌, List, [], ◌∷◌, ◌++◌, length, take, drop, replicate}
use Rattle.std.proofs.Math.Seq.{slice}
use Rattle.body.specs.Body.{longest}
use Rattle.frame.specs.Stuffing.{stuffed}
use Rattle.line.specs.Listener.{State, seeking, delimited, inside, held, Listener, fresh, events}
use Rattle.demands.specs.Wire.{Sent, AllShared, wire_of, heard_of}

-- a listener who is between two bodies
abbrev pub AtRest : State → Type 0
AtRest seeking = Unit {0}
AtRest delimited = Unit {0}
AtRest (inside kept) = ⊥
AtRest (held kept) = ⊥

-- some FFs, a body, and the first FF behind it: wherever this is cut off, the capture stopped ahead of the second FF
abbrev pub unended : ℕ → List ℕ → List ℕ
unended ahead body = replicate ahead 0xFF ++ (stuffed body ++ (0xFF ∷ []))

-- "A capture that stops inside a body gives no event for it": for any body of at most 255 bytes, good or bad, joined and cut off anywhere
abbrev pub SilentInside : Type 0
SilentInside =
    (listener : Listener) → AtRest listener.state → (ahead : ℕ) (body : List ℕ) → length body ≤ longest → (joined stop : ℕ)
    → events listener (slice joined stop (unended ahead body)) ≡ []

-- the frames ahead of that body are heard as always
abbrev pub StopsInside : Type 0
StopsInside =
    (list : List Sent) → AllShared list → (ahead : ℕ) (body : List ℕ) → length body ≤ longest → (joined stop : ℕ)
    → let bytes = wire_of list ++ take stop (unended ahead body) in
    events fresh (drop joined bytes) ≡ heard_of bytes joined 0 list
