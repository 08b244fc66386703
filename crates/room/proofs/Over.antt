-- Shown: what pieces laid one behind the other leave in a room, and its length.
-- Why: a piece laid behind what is there already makes one longer piece over the same room.
use Prim.Native.Nat.{ℕ, ◌+◌, ◌≤◌, ◌<◌}
use mathlib.Core.Path.{◌≡◌, ◌∙◌, sym, ap}
use mathlib.Core.List.{List, [], ◌++◌, append_assoc}
use native.Mathlib.Omega.{arith}
use borrow.Author.Tests.{le-leb, lt-leb}
use lib.ListN.{length, take, drop, length-append, length-drop, take-append-drop}
use Rattle.std.proofs.lemmas.List.{take_more_set}
use lib.Seq.{length-take-le, take_all, take_at, drop-append-add, drop-drop}
use native.Mathlib.Nat.{add-zero, zero-add, add_assoc}
use borrow.Rule.Slice.PartMut.{put_mid}
use Rattle.low_first.proofs.Digits.{low_steps}
use Rattle.room.specs.Laying.{over, laid, behind, Laid}

pub over_length : (bytes room : List ℕ) → length bytes ≤ length room → length (over bytes room) ≡ length room
over_length bytes room h = simp (length-append, length-drop) (omega arith)

-- a longer piece covers what a shorter one left
pub over_over : (first second room : List ℕ) → over (first ++ second) (over first room) ≡ over (first ++ second) room
over_over first second room =
    ap (λ (rest : List ℕ). (first ++ second) ++ rest)
    (ap (λ (n : ℕ). drop n (over first room)) (length-append first second)
    ∙ drop-append-add first (drop (length first) room) (length second) ∙ drop-drop (length second) (length first) room
    ∙ ap (λ (n : ℕ). drop n room) (sym (length-append first second)))

-- a piece laid where it fits
pub laid_fits : (at : ℕ) (bytes room : List ℕ) → at + length bytes ≤ length room → laid at bytes room ≡ over (take at room ++ bytes) room
unfolding laid
laid_fits at bytes room h = rw (le-leb _ _ h)

-- how far the room's front reaches with the piece behind it
front_length : (at : ℕ) (bytes room : List ℕ) → at + length bytes ≤ length room → length (take at room ++ bytes) ≡ at + length bytes
front_length at bytes room h = length-append (take at room) bytes ∙ ap (λ (n : ℕ). n + length bytes) (length-take-le at room (omega arith))

-- the same, as three pieces
pub laid_is : (at : ℕ) (bytes room : List ℕ) → at + length bytes ≤ length room → laid at bytes room ≡ take at room ++ (bytes ++ drop (at + length bytes) room)
laid_is at bytes room h =
    laid_fits at bytes room h ∙ ap (λ (n : ℕ). (take at room ++ bytes) ++ drop n room) (front_length at bytes room h)
    ∙ append_assoc (take at room) bytes (drop (at + length bytes) room)

pub behind_fits : (at : ℕ) (bytes room : List ℕ) → at + length bytes ≤ length room → behind at bytes room ≡ at + length bytes
unfolding behind
behind_fits at bytes room h = rw (le-leb _ _ h)

-- a piece that does not fit: the place and the room as they were
pub laid_not : (at : ℕ) (bytes room : List ℕ) → length room < at + length bytes → laid at bytes room ≡ room
unfolding laid
laid_not at bytes room h = rw (lt-leb _ _ h)

pub behind_not : (at : ℕ) (bytes room : List ℕ) → length room < at + length bytes → behind at bytes room ≡ at
unfolding behind
behind_not at bytes room h = rw (lt-leb _ _ h)

-- a piece copied into the part of the room where it fits
pub part_laid : (at count : ℕ) (piece room part : List ℕ) → at + length piece ≤ length room → count ≡ length piece → part ≡ piece
    → put_mid at count room part ≡ laid at piece room
part_laid at count piece room part h sized e = rw (e, sized, drop-drop) (sym (laid_is at piece room h))

pub ruleset pieces = (laid_not, behind_not, behind_fits, part_laid)

pub ruleset low_pieces = (pieces, low_steps, take_more_set, take_all)

-- no piece at all
pub laid_none : (at : ℕ) (room : List ℕ) → at ≤ length room → Laid at [] room at room
laid_none at room h =
    let fits : at + 0 ≤ length room = omega arith in
    record {
      place = sym (behind_fits at [] room fits ∙ add-zero at);
      room = sym (laid_is at [] room fits ∙ ap (λ (n : ℕ). take at room ++ drop n room) (add-zero at) ∙ take-append-drop at room);
    }

-- a laid piece keeps the room's length
pub laid_length : {at next : ℕ} {bytes room left : List ℕ} → at + length bytes ≤ length room → Laid at bytes room next left → length left ≡ length room
laid_length {at} {next} {bytes} {room} {left} h l =
    let front : length (take at room ++ bytes) ≡ at + length bytes = front_length at bytes room h in
    ap length (l.room ∙ laid_fits at bytes room h) ∙ over_length (take at room ++ bytes) room (omega arith)

-- two pieces, the second behind the first, are one piece
pub laid_then : {at next last : ℕ} {first second room middle left : List ℕ} → at + (length first + length second) ≤ length room
    → Laid at first room next middle → Laid next second middle last left → Laid at (first ++ second) room last left
laid_then {at} {next} {last} {first} {second} {room} {middle} {left} h l m =
    let fits : at + length first ≤ length room = omega arith in
    let both : at + length (first ++ second) ≤ length room = rw length-append (omega arith) in
    let same : length middle ≡ length room = laid_length fits l in
    let here : next ≡ at + length first = l.place ∙ behind_fits at first room fits in
    let there : next + length second ≤ length middle = omega arith in
    let seam : length (take at room ++ first) ≡ next = front_length at first room fits ∙ sym here in
    record {
      place =
          m.place ∙ behind_fits next second middle there ∙ ap (λ (n : ℕ). n + length second) here ∙ add_assoc at (length first) (length second)
          ∙ ap (λ (n : ℕ). at + n) (sym (length-append first second)) ∙ sym (behind_fits at (first ++ second) room both);
      room =
          m.room ∙ laid_fits next second middle there
          ∙ ap (λ (l : List ℕ). over (take next l ++ second) l) (l.room ∙ laid_fits at first room fits)
          ∙ ap (λ (front : List ℕ). over (front ++ second) (over (take at room ++ first) room))
          (take_at (take at room ++ first) (drop (length (take at room ++ first)) room) next seam)
          ∙ over_over (take at room ++ first) second room
          ∙ ap (λ (front : List ℕ). over front room) (append_assoc (take at room) first second)
          ∙ sym (laid_fits at (first ++ second) room both);
    }

-- a piece at the front of a room
pub laid_at_front : (bytes room : List ℕ) → length bytes ≤ length room → laid 0 bytes room ≡ over bytes room
laid_at_front bytes room h = laid_fits 0 bytes room (omega arith)

pub behind_at_front : (bytes room : List ℕ) → length bytes ≤ length room → behind 0 bytes room ≡ length bytes
behind_at_front bytes room h = behind_fits 0 bytes room (omega arith) ∙ zero-add (length bytes)

pub ruleset at_front = (laid_at_front, behind_at_front)

pub laid_front : {next : ℕ} {bytes room left : List ℕ} → length bytes ≤ length room → Laid 0 bytes room next left → (next ≡ length bytes) × (left ≡ over bytes room)
laid_front {next} {bytes} {room} {left} h l = (l.place ∙ behind_at_front bytes room h, l.room ∙ laid_at_front bytes room h)

-- it ends inside the room
pub laid_end : {next : ℕ} {bytes room left : List ℕ} → length bytes ≤ length room → Laid 0 bytes room next left → next ≤ length left
laid_end {next} {bytes} {room} {left} h l =
    let fits : 0 + length bytes ≤ length room = omega arith in
    omega (arith, (laid_front h l).0, laid_length fits l)
