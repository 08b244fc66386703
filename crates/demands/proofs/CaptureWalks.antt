-- Shown: all steps of a walk tell what the byte-fed reader hears, from the start and from any place, and then "end" for ever; demand 3 holds of it.
-- Why: a step hears the rest of the block up to its first event, and behind an event a walk starts where the reader stands.
use Rattle.std.specs.Prelude.{Option, Some, None}
use Prim.Native.Nat.{ℕ, zero, suc, ◌+◌, ◌-◌, ◌≤◌, ◌<◌}
use mathlib.Core.Path.{◌≡◌, ◌∙◌, refl, sym, ap, subst}
use mathlib.Core.Bool.{Bool, true, false}
use mathlib.Core.List.{List, [], ◌∷◌, ◌++◌, append_assoc}
use native.Mathlib.Omega.{arith}
use borrow.Author.Tests.{leb-true, leb-false}
use lib.Dec.{leb}
use lib.ListN.{length, drop, length-drop, drop_of_length-le, length-append}
use lib.Seq.{drop-append-le, drop-drop, drop_at}
use Rattle.std.proofs.lemmas.Grind.{common_steps}
use Rattle.body.specs.Body.{longest}
use Rattle.line.specs.declared.places.Event.{Event}
use Rattle.line.specs.declared.places.Event.TheVariants.{Frame, Refused}
use Rattle.line.specs.declared.reading.Reader.{Reader}
use Rattle.line.specs.declared.reading.Fed.{Fed}
use Rattle.line.specs.Listener.{Heard, nothing, Listener, fresh, hear, heard_then, events, after}
use Rattle.line.specs.Readers.{view, place_of, heard_as, taken, fed}
use Rattle.line.proofs.Blocks.{standing, lent_full}
use Rattle.line.proofs.Joined.{joined, told}
use Rattle.capture_walker.specs.Walking.{start_at, StepTaken, said_end, after_hearing, step_from}
use Rattle.capture_walker.proofs.AtRest.{at_start}
use Rattle.capture_walker.proofs.OneStep.{step_ends, step_hears}
use Rattle.capture_walker.proofs.WithinReach.{no_further}
use Rattle.demands.specs.Reading.{after_bytes}
use Rattle.demands.specs.Wire.{wire_of}
use Rattle.demands.specs.CaptureWalks.{met, Lends, Walk, ends, goes, end_from, WalkTells, WalkFromStart, WalkFromAnyPlace, EndsAtOnce, WalkerDemand3, MovedOn, EveryStep, WalksOn, GrownBlock}
use Rattle.demands.proofs.BehindAnEvent.{stands_behind, moved_on}
use Rattle.demands.proofs.Cuts.{any_cut}
use Rattle.demands.proofs.Demand3.{shared_demand3}
use Rattle.demands.proofs.LastByte.{gave, view_after}
use Rattle.demands.proofs.Reading.{every_block, hears_as_listener, heard_fresh}

-- ---- one step: no more event, or one more and the rest behind it

data OneStep (block : List ℕ) (place : ℕ) (lent : List ℕ) : Type 0 where
  no_more : (body : List ℕ) → step_from block place lent ≡ said_end (end_from block place) body → events (start_at block place) (drop place block) ≡ [] → OneStep block place lent
  one_more : (event : Event) (behind : ℕ) (body : List ℕ) → step_from block place lent ≡ met event behind body → MovedOn block place (heard_as (Some event) body) behind
      → events (start_at block place) (drop place block) ≡ heard_as (Some event) body ∷ events (start_at block behind) (drop behind block) → OneStep block place lent

-- the end of a walk from within its block, or from behind its last byte
end_within : (block : List ℕ) (place : ℕ) → place ≤ length block → end_from block place ≡ length block
end_within block place within = grind (arith, common_steps)

module _ (block : List ℕ) (place : ℕ) (lent : List ℕ) (full : length lent ≡ longest) (within : place < length block) where
  abbrev reader : Reader
  reader = standing (place_of (start_at block place)) lent

  abbrev rest : List ℕ
  rest = drop place block

  abbrev answer : Fed
  answer = fed reader rest

  step_is : step_from block place lent ≡ after_hearing place answer
  step_is = grind (arith, common_steps, lent_full, step_hears)

  tells : events (start_at block place) rest ≡ heard_then (heard_as answer.event answer.reader.body) (events (view answer.reader) (drop answer.used rest))
  tells = grind (arith, common_steps, at_start, every_block, hears_as_listener)

  silent : answer.event ≡ None → OneStep block place lent
  unfolding heard_then events
  silent none =
      let all : answer.used ≡ length rest = (every_block reader rest).to_the_end none in
      let far : place + answer.used ≡ end_from block place = omega (arith, all, length-drop place block, end_within block place (omega arith)) in
      no_more answer.reader.body
      (step_is ∙ (λ i. record { answer = record { next = none i; place = far i }; body = answer.reader.body }))
      (tells ∙ ap (λ (e : Option Event). heard_then (heard_as e answer.reader.body) (events (view answer.reader) (drop answer.used rest))) none
      ∙ ap (events (view answer.reader)) (drop_of_length-le rest {i = answer.used} (omega (arith, all))))

  -- an event: its last byte tells where the walk goes on
  module _ (event : Event) (is : answer.event ≡ Some event) (some : heard_as (Some event) answer.reader.body ≡ nothing → ⊥)
      (first : (later : List Heard) → heard_then (heard_as (Some event) answer.reader.body) later ≡ heard_as (Some event) answer.reader.body ∷ later) where
    spoken : OneStep block place lent
    spoken =
        let last = gave 0 reader rest (λ none. cc) in
        let before = last.before in
        let byte = last.byte in
        let behind = place + length before + 1 in
        let there = after (start_at block place) before in
        let stands : view (after_bytes reader before) ≡ there = view_after reader before ∙ ap (λ (l : Listener). after l before) (at_start block place lent) in
        let heard : heard_as (Some event) answer.reader.body ≡ (hear there byte).event =
        ap (λ (e : Option Event). heard_as e answer.reader.body) (sym is ∙ last.event) ∙ ap (λ (r : Reader). heard_as (taken (after_bytes reader before) byte).event r.body) last.stands
        ∙ told (after_bytes reader before) byte ∙ ap (λ (l : Listener). (hear l byte).event) stands in
        let left : view answer.reader ≡ (hear there byte).next =
        ap view last.stands ∙ joined (after_bytes reader before) byte ∙ ap (λ (l : Listener). (hear l byte).next) stands in
        let given : (hear there byte).event ≡ nothing → ⊥ = λ none. some (heard ∙ none) in
        let far : place + answer.used ≡ behind = omega (arith, last.far) in
        one_more event behind answer.reader.body
        (step_is ∙ (λ i. record { answer = record { next = is i; place = far i }; body = answer.reader.body }))
        (moved_on block place before byte last.later last.is given heard)
        (tells ∙ ap (λ (e : Option Event). heard_then (heard_as e answer.reader.body) (events (view answer.reader) (drop answer.used rest))) is
        ∙ first (events (view answer.reader) (drop answer.used rest))
        ∙ ap (λ (l : Listener). heard_as (Some event) answer.reader.body ∷ events l (drop answer.used rest)) (left ∙ sym (stands_behind block place before byte last.later last.is given))
        ∙ ap (λ (l : List ℕ). heard_as (Some event) answer.reader.body ∷ events (start_at block behind) l) (drop-drop answer.used place block ∙ ap (λ (n : ℕ). drop n block) far))

  by_event : (event : Option Event) → answer.event ≡ event → OneStep block place lent
  unfolding heard_then
  by_event None is = silent is
  by_event (Some (Frame wire kept)) is = spoken (Frame wire kept) is (λ e. cc) (λ _. refl)
  by_event (Some (Refused why wire kept)) is = spoken (Refused why wire kept) is (λ e. cc) (λ _. refl)

one_step : (block : List ℕ) (place : ℕ) (lent : List ℕ) → length lent ≡ longest → OneStep block place lent
unfolding events
one_step block place lent full = by_place (leb (length block) place) refl
  where
    by_place : (test : Bool) → leb (length block) place ≡ test → OneStep block place lent
    by_place true at_end =
        let past = leb-true (length block) place at_end in
        let stays : place ≡ end_from block place = rw at_end in
        no_more lent (step_ends block place lent past ∙ ap (λ (p : ℕ). said_end p lent) stays) (rw (drop_of_length-le block past))
    by_place false more = by_event block place lent full (leb-false (length block) place more) _ refl

-- ---- a step that is told is that one step

module _ {block : List ℕ} {place : ℕ} {lent : List ℕ} where
  ends_there : {end : ℕ} {body : List ℕ} → OneStep block place lent → step_from block place lent ≡ said_end end body → (events (start_at block place) (drop place block) ≡ []) × (end ≡ end_from block place)
  ends_there step e = grind (arith, common_steps)

  goes_on : {event : Event} {behind : ℕ} {body : List ℕ} → OneStep block place lent → step_from block place lent ≡ met event behind body
      → MovedOn block place (heard_as (Some event) body) behind × (events (start_at block place) (drop place block) ≡ heard_as (Some event) body ∷ events (start_at block behind) (drop behind block))
  goes_on step e = grind (arith, common_steps)

pub every_step : EveryStep
every_step block place lent full =
    let one = one_step block place lent full in
    record { moves = λ event behind body is. (goes_on one is).0; or_ends = λ end body is. (ends_there one is).1 }

-- ---- all steps

module _ (block : List ℕ) (lending : ℕ → List ℕ) (lends : Lends lending) where
  abbrev Whole : ℕ → Type 0
  Whole place = Walk block lending place (events (start_at block place) (drop place block)) (end_from block place)

  -- one step, where a walk from behind it comes to its end
  and_so_on : (place : ℕ) → OneStep block place (lending place) → ((behind : ℕ) → place < behind → behind ≤ length block → Whole behind) → Whole place
  and_so_on place (no_more body is none) later = rw none (ends is)
  and_so_on place (one_more event behind body is on tells) later =
      let same : end_from block behind ≡ end_from block place =
      end_within block behind on.inside ∙ sym (end_within block place (omega (arith, on.forward, on.inside))) in
      rw (tells, ← same) (goes is (later behind on.forward on.inside))

  -- a walk with at most `most` bytes ahead of it
  comes_to_end : (most place : ℕ) → length block - place ≤ most → Whole place
  comes_to_end zero place few = and_so_on place (one_step block place (lending place) (lends place)) (λ behind forward inside. absurd (omega arith))
  comes_to_end (suc most) place few =
      and_so_on place (one_step block place (lending place) (lends place)) (λ behind forward inside. comes_to_end most behind (omega arith))

  only_one : {place end : ℕ} {other : List Heard} → Walk block lending place other end → (other ≡ events (start_at block place) (drop place block)) × (end ≡ end_from block place)
  only_one {place} (ends is) =
      let (none, there) = ends_there (one_step block place (lending place) (lends place)) is in
      (sym none, there)
  only_one {place} (goes {behind = behind} {event = event} {body = body} is walk) =
      let (on, tells) = goes_on (one_step block place (lending place) (lends place)) is in
      let (later, there) = only_one walk in
      let same : end_from block behind ≡ end_from block place =
      end_within block behind on.inside ∙ sym (end_within block place (omega (arith, on.forward, on.inside))) in
      (ap (λ (h : List Heard). heard_as (Some event) body ∷ h) later ∙ sym tells, there ∙ same)

pub ends_at_once : EndsAtOnce
ends_at_once block place past lent = step_ends block place lent past

pub walk_from_any_place : WalkFromAnyPlace
walk_from_any_place block place = grind (arith, common_steps, comes_to_end, ends_at_once, only_one)

pub walk_from_start : WalkFromStart
unfolding start_at
walk_from_start block =
    let as_listener : WalkTells block 0 (events fresh block) = walk_from_any_place block 0 in
    record { as_listener = as_listener; as_reader = rw (heard_fresh _ block) as_listener }

pub walker_demand3 : WalkerDemand3
walker_demand3 list shared joined = rw (← shared_demand3 list shared joined) (walk_from_start (drop joined (wire_of list))).as_listener

-- ---- walking on behind an event

pub walks_on : WalksOn
unfolding after
walks_on block place before byte later cut some =
    let left = (any_cut (start_at block place) before (byte ∷ [])).left in
    let stands = stands_behind block place before byte later cut some ∙ sym left in
    let far : place + length before + 1 ≡ place + (length before + 1) = omega arith in
    let ahead : drop (place + length before + 1) block ≡ later =
    ap (λ (n : ℕ). drop n block) far ∙ sym (drop-drop (length before + 1) place block)
    ∙ ap (drop (length before + 1)) (cut ∙ sym (append_assoc before (byte ∷ []) later))
    ∙ drop_at (before ++ (byte ∷ [])) later (length before + 1) (length-append before (byte ∷ [])) in
    record {
      stands = stands;
      tells = subst (λ (told : List Heard). WalkTells block (place + length before + 1) told)
          (ap (λ (l : Listener). events l (drop (place + length before + 1) block)) stands ∙ ap (events (after (start_at block place) (before ++ (byte ∷ [])))) ahead)
          (walk_from_any_place block (place + length before + 1));
    }

-- ---- a block that has grown

-- the start at a place is that of the bytes before it
start_grown : (block more : List ℕ) (place : ℕ) → place ≤ length block → start_at (block ++ more) place ≡ start_at block place
unfolding start_at
start_grown block more place within = grind (arith, common_steps)

pub grown_block : GrownBlock
grown_block block more place lent full event behind body is =
    let (on, _) = goes_on (one_step block place lent full) is in
    let within : place < length block = omega (arith, on.forward, on.inside) in
    let reader = standing (place_of (start_at block place)) lent in
    let answer = fed reader (drop place block) in
    let heard = step_is block place lent full within in
    let next : answer.event ≡ Some event = ap (λ (s : StepTaken). s.answer.next) (sym heard ∙ is) in
    let spoken : answer.event ≡ None → ⊥ = λ none. cc in
    let longer : place < length (block ++ more) = omega (arith, length-append block more) in
    record {
      meets =
          step_is (block ++ more) place lent full longer
          ∙ ap (λ (l : Listener). after_hearing place (fed (standing (place_of l) lent) (drop place (block ++ more)))) (start_grown block more place (omega arith))
          ∙ ap (λ (l : List ℕ). after_hearing place (fed reader l)) (drop-append-le place block more (omega arith))
          ∙ ap (after_hearing place) (no_further 0 reader (drop place block) more spoken) ∙ sym heard ∙ is;
      stands = start_grown block more behind on.inside;
    }
