-- Shown: the promise of a step follows from its answer and the lent bytes alone.
-- Why: the rest of the block is heard as `listen` hears it, and a block that is heard gives up at least one byte.
use Rattle.std.proofs.Common.{◌≡◌, ℕ, ◌+◌, ◌≤◌, ◌<◌, Bool, true, false, List, length, drop, refl, sym, ap, ◌∙◌, subst, leb, le-leb, leb-true, leb-false, arith, length-drop, drop_of_length-le}
use Rattle.std.proofs.lemmas.Bool.{lt-leb}
use Rattle.body.specs.Body.{longest}
use Rattle.line.specs.declared.listening.Went.{Went}
use Rattle.line.specs.declared.reading.Fed.{Fed}
use Rattle.line.specs.Listener.{Listener}
use Rattle.line.specs.Readers.{place_of, fed_lent, first_heard, Listens}
use Rattle.line.proofs.Blocks.{lent_full, listens}
use Rattle.capture_walker.specs.declared.stepping.Stepped.{Stepped}
use Rattle.capture_walker.specs.Walking.{start_at, StepTaken, said_end, after_hearing, step_from, StepsFrom}
use Rattle.capture_walker.proofs.AtRest.{at_start}

-- ---- the two cases of a step

module _ (block : List ℕ) (place : ℕ) (lent : List ℕ) where
  pub step_ends : length block ≤ place → step_from block place lent ≡ said_end place lent
  unfolding step_from
  step_ends past = rw (le-leb (length block) place past)

  abbrev heard : Fed
  heard = fed_lent (place_of (start_at block place)) (drop place block) lent

  pub step_hears : place < length block → step_from block place lent ≡ after_hearing place heard
  unfolding step_from
  step_hears within = rw (lt-leb (length block) place within)

  -- what `listen` answered for a part of the rest that gives what all of the rest gives is the step
  pub step_heard : place < length block → {part : List ℕ} {went : Went} {left : List ℕ} → Listens (place_of (start_at block place)) part lent went left
      → fed_lent (place_of (start_at block place)) part lent ≡ heard
      → ◌≡◌ {A = StepTaken} (record { answer = record { next = went.event; place = place + went.used }; body = left }) (step_from block place lent)
  step_heard within listened same =
      (λ i. record { answer = record { next = (listened.answer i).event; place = place + (listened.answer i).used }; body = listened.body i })
      ∙ ap (after_hearing place) same ∙ sym (step_hears within)

-- ---- the promise

module _ (block : List ℕ) (place : ℕ) (lent : List ℕ) (full : length lent ≡ longest) where
  abbrev Promised : StepTaken → Type 0
  Promised taken = StepsFrom block place lent taken.answer taken.body

  at_the_end : length block ≤ place → Promised (said_end place lent)
  unfolding first_heard
  at_the_end past =
      let is = sym (step_ends block place lent past) in
      record {
        answer = ap (λ (s : StepTaken). s.answer) is;
        body = ap (λ (s : StepTaken). s.body) is;
        told = λ _. rw (drop_of_length-le block past);
        forward = λ more. absurd (more refl);
        full = λ full. full;
      }

  further_on : place < length block → Promised (after_hearing place (heard block place lent))
  further_on within =
      let is = sym (step_hears block place lent within) in
      let listened = listens _ _ _ _ _ _ _ full (lent_full (place_of (start_at block place)) (drop place block) lent full) in
      record {
        answer = ap (λ (s : StepTaken). s.answer) is;
        body = ap (λ (s : StepTaken). s.body) is;
        told = λ _. listened.told full ∙ ap (λ (l : Listener). first_heard l (drop place block)) (at_start block place lent);
        forward = λ _.
            let some : 0 < length (drop place block) = rw length-drop (omega arith) in
            let fits = rw length-drop at listened.inside in
            let taken = listened.forward full some in
            (omega arith, omega arith);
        full = listened.full;
      }

  pub steps_as : {answered : Stepped} {left : List ℕ} → ◌≡◌ {A = StepTaken} (record { answer = answered; body = left }) (step_from block place lent) → StepsFrom block place lent answered left
  steps_as {answered} {left} is = by_place (leb (length block) place) refl
    where
      by_place : (test : Bool) → leb (length block) place ≡ test → StepsFrom block place lent answered left
      by_place true e =
          let past = leb-true (length block) place e in
          subst Promised (sym (is ∙ step_ends block place lent past)) (at_the_end past)
      by_place false e =
          let within = leb-false (length block) place e in
          subst Promised (sym (is ∙ step_hears block place lent within)) (further_on within)
