-- Shown: the step from a body's first byte is what a listener hears from there on that has a body open already, with nothing kept.
-- Why: it keeps the first byte as one behind a delimiter does, and from there on they are one.
use Rattle.std.proofs.Common.{◌≡◌, ◌∙◌, ℕ, suc, ◌+◌, ◌^◌, ◌<◌, true, List, ◌∷◌, length, take, drop, get_or, sym, ap, drop-cons}
use Rattle.body.specs.Body.{longest}
use Rattle.line.specs.declared.places.Place.{Place}
use Rattle.line.specs.declared.places.Phase.TheVariants.{Inside}
use Rattle.line.specs.declared.listening.Went.{Went}
use Rattle.line.specs.Readers.{place_of, taken, fed_from, fed, Listens}
use Rattle.line.proofs.Blocks.{standing, listens, fed_lent_lem}
use Rattle.capture_walker.specs.Walking.{start_at, StepTaken, step_from}
use Rattle.capture_walker.specs.Scanning.{delimited_at, starts_body, longest_on_wire}
use Rattle.capture_walker.proofs.AtRest.{at_start, first_byte}
use Rattle.capture_walker.proofs.OneStep.{step_heard}
use Rattle.capture_walker.proofs.WithinReach.{part_tells}

module _ (block : List ℕ) (start : ℕ) (lent : List ℕ) (full : length lent ≡ longest) (within : start < length block) (fits : start < 2 ^ 64)
    (starts : starts_body (delimited_at block start) (get_or block start 0) ≡ true) where
  abbrev first : ℕ
  first = get_or block start 0

  abbrev at_rest : Place
  at_rest = place_of (start_at block start)

  abbrev opened : Place
  opened = record { phase = Inside; wire = record { 0 = start }; kept = record { 0 = 0 } }

  first_taken : taken (standing opened lent) first ≡ taken (standing at_rest lent) first
  unfolding taken
  first_taken = rw (first_byte block start lent fits starts, at_start block start lent)

  heard_alike : (later : List ℕ) → fed (standing opened lent) (first ∷ later) ≡ fed (standing at_rest lent) (first ∷ later)
  unfolding fed_from
  heard_alike later = rw first_taken

  abbrev part : List ℕ
  part = take longest_on_wire (drop start block)

  part_alike : fed (standing opened lent) part ≡ fed (standing at_rest lent) part
  part_alike =
      let cut = drop-cons block start 0 within in
      ap (λ (l : List ℕ). fed (standing opened lent) (take longest_on_wire l)) cut ∙ heard_alike (take 511 (drop (suc start) block))
      ∙ ap (λ (l : List ℕ). fed (standing at_rest lent) (take longest_on_wire l)) (sym cut)

  pub step_from_first : {went : Went} {left : List ℕ} → Listens opened part lent went left
      → ◌≡◌ {A = StepTaken} (record { answer = record { next = went.event; place = start + went.used }; body = left }) (step_from block start lent)
  step_from_first {went} {left} listened =
      let all = listens at_rest part lent went.place went.event went.used left full (fed_lent_lem (standing opened lent) part full listened ∙ part_alike) in
      step_heard block start lent within all (part_tells block start lent full within starts)
