-- Shown: from a body's first byte the first event comes within 512 bytes, so that more of the block changes nothing.
-- Why: each byte that gives no event keeps one byte more or holds an FF, and no more than 255 are kept.
use Rattle.std.specs.Prelude.{Result, Ok, Err, Option, Some, None}
use Prim.Native.Nat.{ℕ, suc, ◌+◌, ◌*◌, ◌≤◌, ◌<◌}
use mathlib.Core.Path.{◌≡◌, ◌∙◌, refl, sym, ap}
use mathlib.Core.Bool.{Bool, true, false}
use mathlib.Core.List.{List, [], ◌∷◌, ◌++◌}
use native.Mathlib.Omega.{arith}
use borrow.Author.Tests.{ltb-true, leb-true, leb-false}
use lib.Dec.{ltb, leb, eqb}
use lib.ListN.{length, take, drop, get_or, length-append, length-take, take-append-drop}
use lib.Seq.{drop-cons, take_all}
use Rattle.body.specs.Body.{longest, judged}
use Rattle.line.specs.declared.places.Event.{Event}
use Rattle.line.specs.declared.reading.Reader.{Reader}
use Rattle.line.specs.declared.reading.Fed.{Fed}
use Rattle.line.specs.Listener.{State, delimited, inside, held, Heard, nothing, frame, refused, Listener, Step, keep, ended, tick, hear_in, hear}
use Rattle.line.specs.Readers.{view, place_of, heard_as, taken, fed_from, fed, fed_lent, or_else, first_heard}
use Rattle.line.proofs.Blocks.{standing, fed_told, lent_full}
use Rattle.line.proofs.EveryStep.{either}
use Rattle.capture_walker.specs.Walking.{start_at}
use Rattle.capture_walker.specs.Scanning.{delimited_at, starts_body, longest_on_wire}
use Rattle.capture_walker.proofs.AtRest.{at_start, delimited_there, behind_delimiter}
use Rattle.refusal.specs.declared.Refusal.{Refusal}

-- ---- a silent byte of an open body

-- how far a listener with an open body has come: at least `far`, and with at most 255 kept
data Open : State → ℕ → Type 0 where
  keeping : {kept : List ℕ} {far : ℕ} → length kept ≤ longest → far ≤ 2 * length kept → Open (inside kept) far
  holding : {kept : List ℕ} {far : ℕ} → length kept ≤ longest → far ≤ 2 * length kept + 1 → Open (held kept) far

-- a step gave an event, or the body is open and one further on
Further : ℕ → Step → Type 0
Further far s = (s.event ≡ nothing → Open s.next.state (suc far))

kept_further : (kept : List ℕ) (byte wire far : ℕ) → far ≤ 2 * length kept + 1 → Further far (keep kept byte wire)
unfolding keep Further
kept_further kept byte wire far so_far = either (Further far) (ltb (length kept) longest) _ _
    (λ fits _. let room = ltb-true (length kept) longest fits in keeping (omega (arith, length-append kept (byte ∷ []))) (omega (arith, length-append kept (byte ∷ []))))
    (λ _ none. let z : ◌≡◌ {A = ℕ} 0 1 = cc in absurd (omega arith))

ended_told : (verdict : Result (Unit {0}) Refusal) (kept : List ℕ) (wire : ℕ) → ended verdict kept wire ≡ nothing → ⊥
unfolding ended
ended_told (Ok tt) kept wire none = let z : ◌≡◌ {A = ℕ} 0 1 = cc in omega arith
ended_told (Err why) kept wire none = let z : ◌≡◌ {A = ℕ} 0 1 = cc in omega arith

open_further : {state : State} (byte wire far : ℕ) → Open state far → Further far (hear_in state byte wire)
unfolding hear_in Further
open_further byte wire far (keeping {kept = kept} few so_far) =
    either (Further far) (eqb byte 0xFF) _ _ (λ _ _. holding few (omega arith)) (λ _. kept_further kept byte wire far (omega arith))
open_further byte wire far (holding {kept = kept} few so_far) =
    either (Further far) (eqb byte 0xFE) _ _ (λ _. kept_further kept 0xFF wire far so_far)
    (λ _. either (Further far) (eqb byte 0xFF) _ _ (λ _ none. absurd (ended_told (judged kept) kept wire none))
    (λ _ none. let z : ◌≡◌ {A = ℕ} 0 1 = cc in absurd (omega arith)))

-- a body's first byte
clash : true ≡ false → ⊥
clash e = let z : ◌≡◌ {A = ℕ} 0 1 = cc in omega arith

first_further : (byte wire : ℕ) → starts_body true byte ≡ true → Further 1 (hear_in delimited byte wire)
unfolding hear_in
first_further byte wire starts =
    either (Further 1) (eqb byte 0xFF) _ _ (λ ff. absurd (clash (sym (rw ff at starts))))
    (λ other. either (Further 1) (eqb byte 0xFE) _ _ (λ fe. absurd (clash (sym (rw (other, fe) at starts)))) (λ _. kept_further [] byte wire 1 (omega arith)))

-- ---- silent bytes

both_silent : (first rest : Heard) → or_else first rest ≡ nothing → (first ≡ nothing) × (rest ≡ nothing)
both_silent nothing rest e = (refl, e)
both_silent (frame wire kept body) rest e = let z : ◌≡◌ {A = ℕ} 0 1 = cc in absurd (omega arith)
both_silent (refused why wire kept) rest e = let z : ◌≡◌ {A = ℕ} 0 1 = cc in absurd (omega arith)

so_far_most : {state : State} (far : ℕ) → Open state far → far ≤ 511
so_far_most far (keeping few so_far) = omega arith
so_far_most far (holding few so_far) = omega arith

silent_most : (listener : Listener) (bytes : List ℕ) (far : ℕ) → Open listener.state far → first_heard listener bytes ≡ nothing → far + length bytes ≤ 511
unfolding first_heard hear Further
silent_most listener [] far body none = omega (arith, so_far_most far body)
silent_most listener (byte ∷ bytes) far body none =
    let (silent, rest) = both_silent (hear listener byte).event (first_heard (hear listener byte).next bytes) none in
    let later = silent_most (hear listener byte).next bytes (suc far) (open_further byte (tick listener.wire) far body silent) rest in
    omega arith

silent_first : (listener : Listener) (byte : ℕ) (bytes : List ℕ) → listener.state ≡ delimited → starts_body true byte ≡ true
    → first_heard listener (byte ∷ bytes) ≡ nothing → length bytes < 510
unfolding first_heard hear Further
silent_first listener byte bytes at_delimiter starts none =
    let (silent, rest) = both_silent (hear listener byte).event (first_heard (hear listener byte).next bytes) none in
    let further : Further 1 (hear_in listener.state byte (tick listener.wire)) = rw at_delimiter (first_further byte (tick listener.wire) starts) in
    let later = silent_most (hear listener byte).next bytes 2 (further silent) rest in
    omega arith

-- ---- more of the block changes nothing behind an event

abbrev Spoken : ℕ → Reader → List ℕ → Type 0
Spoken used reader block = (fed_from used reader block).event ≡ None → ⊥

by_first : (used : ℕ) (reader : Reader) (byte : ℕ) (block more : List ℕ) → (Spoken (used + 1) (taken reader byte).reader block
    → fed_from (used + 1) (taken reader byte).reader (block ++ more) ≡ fed_from (used + 1) (taken reader byte).reader block)
    → Spoken used reader (byte ∷ block) → (event : Option Event) → (taken reader byte).event ≡ event → fed_from used reader (byte ∷ (block ++ more)) ≡ fed_from used reader (byte ∷ block)
unfolding fed_from
by_first used reader byte block more later spoken None e =
    let same : fed_from used reader (byte ∷ block) ≡ fed_from (used + 1) (taken reader byte).reader block = rw e in
    rw e (later (λ none. spoken (ap (λ (f : Fed). f.event) same ∙ none)))
by_first used reader byte block more later spoken (Some event) e = rw e

pub no_further : (used : ℕ) (reader : Reader) (block more : List ℕ) → Spoken used reader block → fed_from used reader (block ++ more) ≡ fed_from used reader block
unfolding fed_from
no_further used reader [] more spoken = absurd (spoken refl)
no_further used reader (byte ∷ block) more spoken =
    by_first used reader byte block more (no_further (used + 1) (taken reader byte).reader block more) spoken (taken reader byte).event refl

reached : (reader : Reader) (byte : ℕ) (later : List ℕ) → (view reader).state ≡ delimited → starts_body true byte ≡ true
    → fed reader (take longest_on_wire (byte ∷ later)) ≡ fed reader (byte ∷ later)
reached reader byte later at_delimiter starts = by_count (leb (length later) 511) refl
  where
    by_count : (test : Bool) → leb (length later) 511 ≡ test → fed reader (byte ∷ take 511 later) ≡ fed reader (byte ∷ later)
    by_count true e = rw (take_all 511 later (leb-true (length later) 511 e))
    by_count false e =
        let more = leb-false (length later) 511 e in
        let spoken : Spoken 0 reader (byte ∷ take 511 later) = λ silent.
        let few = silent_first (view reader) byte (take 511 later) at_delimiter starts
        (sym (fed_told 0 reader (byte ∷ take 511 later)) ∙ ap (λ (event : Option Event). heard_as event (fed reader (byte ∷ take 511 later)).reader.body) silent) in
        omega (arith, length-take 511 later) in
        sym (no_further 0 reader (byte ∷ take 511 later) (drop 511 later) spoken) ∙ ap (λ (l : List ℕ). fed reader (byte ∷ l)) (take-append-drop 511 later)

-- ---- in a block

pub part_tells : (block : List ℕ) (start : ℕ) (lent : List ℕ) → length lent ≡ longest → start < length block → starts_body (delimited_at block start) (get_or block start 0) ≡ true
    → fed_lent (place_of (start_at block start)) (take longest_on_wire (drop start block)) lent ≡ fed_lent (place_of (start_at block start)) (drop start block) lent
part_tells block start lent full within starts =
    let here = place_of (start_at block start) in
    let reader = standing here lent in
    let ff = behind_delimiter (delimited_at block start) (get_or block start 0) starts in
    let at_delimiter : (view reader).state ≡ delimited = ap (λ (l : Listener). l.state) (at_start block start lent) ∙ delimited_there block start ff in
    let cut = drop-cons block start 0 within in
    lent_full here (take longest_on_wire (drop start block)) lent full
    ∙ ap (λ (l : List ℕ). fed reader (take longest_on_wire l)) cut
    ∙ reached reader (get_or block start 0) (drop (suc start) block) at_delimiter (rw ff at starts)
    ∙ ap (fed reader) (sym cut) ∙ sym (lent_full here (drop start block) lent full)
