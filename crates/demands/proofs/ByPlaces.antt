-- Shown: that an FF went by before a frame's first address byte is that one joined before that byte; so `heard_of` goes by places alone.
-- Why: the byte right ahead of it is an FF, its own or one behind the frame before; ahead of the first frame may stand none.
use Prim.Native.Nat.{ℕ, zero, suc, ◌+◌, ◌-◌, ◌≤◌}
use mathlib.Core.Path.{◌≡◌, ◌∙◌, refl, sym, ap, ap₂}
use mathlib.Core.Bool.{Bool, true, cond, or-true}
use mathlib.Core.List.{List, [], ◌∷◌, ◌++◌, append_assoc, append-nil}
use native.Mathlib.Omega.{arith}
use native.Mathlib.Decide.{dec_le}
use native.Mathlib.Nat.{lt_of_not-le}
use borrow.Author.Tests.{lt-ltb, le-ltb}
use lib.ListN.{length, drop, replicate, length-append, length-replicate, drop_of_length-le}
use lib.Seq.{slice, drop-nil, drop-append-le}
use lib.Dec.{ltb}
use Rattle.std.proofs.lemmas.Grind.{common_steps}
use Rattle.frame.specs.Stuffing.{stuffed}
use Rattle.line.specs.Listener.{Heard}
use Rattle.demands.specs.Wire.{Sent, Shared, AllShared, on_wire, wire_of, any_ff, heard_of, frames_of}
use Rattle.demands.proofs.AllHeard.{size, told, on_wire_ahead}

-- the frames whose first address byte lies behind the place of joining: `heard_of` by places alone
unfoldable pub behind_of : ℕ → ℕ → List Sent → List Heard
behind_of joined start [] = []
behind_of joined start (sent ∷ list) =
    let first = start + sent.ahead in
    let end = first + size sent + 2 in
    let later = behind_of joined (start + length (on_wire sent)) list in
    cond (ltb joined first) (told sent (end - joined) ∷ later) later

-- bytes that are none, or end in an FF
pub data Closed : List ℕ → Type 0 where
  none : Closed []
  ff : (front : List ℕ) → Closed (front ++ (0xFF ∷ []))

still_closed : {front : List ℕ} → Closed front → (count : ℕ) → Closed (front ++ replicate count 0xFF)
still_closed closed zero = rw append-nil closed
still_closed {front} closed (suc count) = rw append_assoc at (still_closed (ff front) count)

run_closes : (front : List ℕ) (count : ℕ) → 1 ≤ count → Closed (front ++ replicate count 0xFF)
run_closes front zero some = absurd (omega arith)
run_closes front (suc count) some = rw append_assoc at (still_closed (ff front) count)

-- of bytes that end in an FF one went by, exactly if one joined before their end
ends_in_ff : (bytes : List ℕ) → any_ff (bytes ++ (0xFF ∷ [])) ≡ true
unfolding any_ff
ends_in_ff [] = refl
ends_in_ff (byte ∷ bytes) = rw (ends_in_ff bytes, or-true)

went_by : {front : List ℕ} → Closed front → (joined : ℕ) → any_ff (drop joined front) ≡ ltb joined (length front)
unfolding any_ff
went_by none joined = rw (drop-nil, le-ltb joined 0 (omega arith))
went_by (ff front) joined = grind (arith, common_steps, dec_le, drop-append-le, drop_of_length-le, ends_in_ff, le-ltb, length-append, lt-ltb, lt_of_not-le)

first_of_frame : {front : List ℕ} → Closed front → (rest bytes : List ℕ) (joined first : ℕ) → length front ≡ first → bytes ≡ front ++ rest
    → any_ff (slice joined first bytes) ≡ ltb joined first
first_of_frame closed rest bytes joined first here e = grind (arith, common_steps, went_by)

frame_closes : (sent : Sent) → Shared sent → (before : List ℕ) → Closed (before ++ on_wire sent)
unfolding on_wire
frame_closes sent shared before =
    simp append_assoc at (run_closes (before ++ (replicate sent.ahead 0xFF ++ stuffed sent.body)) sent.behind (omega (arith, shared.behind)))

-- so `heard_of` goes by places
pub by_places : (list : List Sent) → AllShared list → {before : List ℕ} → Closed before → (rest bytes : List ℕ) (joined start : ℕ) → length before ≡ start
    → bytes ≡ before ++ (wire_of list ++ rest) → heard_of bytes joined start list ≡ behind_of joined start list
unfolding wire_of heard_of behind_of
by_places [] shared closed rest bytes joined start here e = refl
by_places (sent ∷ list) (shared, others) {before} closed rest bytes joined start here e =
    ap₂ (λ (test : Bool) (later : List Heard). cond test (told sent (start + sent.ahead + size sent + 2 - joined) ∷ later) later)
    (first_of_frame (still_closed closed sent.ahead) _ bytes joined (start + sent.ahead) (simp (length-append, length-replicate) (omega arith))
    (e ∙ ap (λ (r : List ℕ). before ++ r) (append_assoc (on_wire sent) (wire_of list) rest ∙ on_wire_ahead sent (wire_of list ++ rest)) ∙ sym (append_assoc before _ _)))
    (by_places list others (frame_closes sent shared before) rest bytes joined (start + length (on_wire sent)) (simp length-append (omega arith))
    (e ∙ simp append_assoc))

-- to who joined before them, all frames are heard
pub behind_all : (list : List Sent) (joined start taken : ℕ) → joined + taken ≡ start → 1 ≤ taken → behind_of joined start list ≡ frames_of taken list
unfolding behind_of frames_of
behind_all [] joined start taken e some = refl
behind_all (sent ∷ list) joined start taken e some = grind (arith, common_steps, lt-ltb, size, told, behind_all list joined (start + length (on_wire sent)) (taken + length (on_wire sent)) (omega arith) (omega arith))
