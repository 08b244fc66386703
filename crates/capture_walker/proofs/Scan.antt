-- Shown: the step from a place where no body starts is the step from the next place.
-- Why: at rest such a byte is heard silently, keeps nothing and leads to the start behind it; and a block counts its bytes from wherever it began.
use Rattle.std.specs.Prelude.{Option, Some, None}
use Prim.Native.Nat.{ℕ, suc, ◌+◌, ◌<◌}
use mathlib.Core.Path.{◌≡◌, ◌∙◌, refl, sym, ap}
use mathlib.Core.Bool.{Bool, true, false}
use mathlib.Core.List.{List, [], ◌∷◌}
use native.Mathlib.Omega.{arith}
use native.Mathlib.Numerals.{add-one}
use borrow.Author.Tests.{leb-true, leb-false}
use lib.Dec.{leb}
use lib.ListN.{length, drop, get_or, drop_of_length-le}
use lib.Seq.{drop-cons}
use Rattle.body.specs.Body.{longest}
use Rattle.line.specs.declared.places.Event.{Event}
use Rattle.line.specs.declared.reading.Reader.{Reader}
use Rattle.line.specs.declared.reading.Fed.{Fed}
use Rattle.line.specs.Listener.{nothing, Listener, hear}
use Rattle.line.specs.Readers.{listening, place_of, taken, unless, fed_from, fed}
use Rattle.line.proofs.Blocks.{standing, lent_full}
use Rattle.capture_walker.specs.Walking.{start_at, said_end, after_hearing, step_from}
use Rattle.capture_walker.specs.Scanning.{delimited_at, starts_body, SameStep}
use Rattle.capture_walker.proofs.AtRest.{at_start, none_kept, at_rest_byte}
use Rattle.capture_walker.proofs.OneStep.{step_ends, step_hears}

-- ---- a block counts from wherever it began

abbrev one_more : Fed → Fed
one_more answer = record { reader = answer.reader; event = answer.event; used = suc answer.used }

unless_more : (event : Option Event) (later stopped later' stopped' : Fed) → later' ≡ one_more later → stopped' ≡ one_more stopped
    → unless event later' stopped' ≡ one_more (unless event later stopped)
unless_more None later stopped later' stopped' l s = l
unless_more (Some event) later stopped later' stopped' l s = s

counts_on : (used : ℕ) (reader : Reader) (block : List ℕ) → fed_from (suc used) reader block ≡ one_more (fed_from used reader block)
unfolding fed_from
counts_on used reader [] = refl
counts_on used reader (byte ∷ block) =
    let next = taken reader byte in
    let shift : suc used + 1 ≡ suc (used + 1) = omega arith in
    unless_more next.event _ _ _ _ (ap (λ (n : ℕ). fed_from n next.reader block) shift ∙ counts_on (used + 1) next.reader block)
    (ap (λ (n : ℕ). record { reader = next.reader; event = next.event; used = n }) shift)

-- ---- a byte that starts no body

module _ (block : List ℕ) (place : ℕ) (within : place < length block) (none : starts_body (delimited_at block place) (get_or block place 0) ≡ false)
    (lent : List ℕ) (full : length lent ≡ longest) where
  abbrev here : Reader
  here = standing (place_of (start_at block place)) lent

  abbrev next : Reader
  next = standing (place_of (start_at block (suc place))) lent

  silent : taken here (get_or block place 0) ≡ record { reader = next; event = None }
  unfolding taken
  silent =
      let byte = get_or block place 0 in
      let is : hear (listening (place_of (start_at block place)) lent) byte ≡ record { next = start_at block (suc place); event = nothing } =
      ap (λ (l : Listener). hear l byte) (at_start block place lent) ∙ at_rest_byte block place none in
      rw (is, none_kept block (suc place))

  heard_on : fed here (drop place block) ≡ one_more (fed next (drop (suc place) block))
  unfolding fed_from
  heard_on = rw (drop-cons block place 0 within, silent) (counts_on 0 next (drop (suc place) block))

  -- behind it the step goes on, or the block ends
  from_behind : (test : Bool) → leb (length block) (suc place) ≡ test → after_hearing place (one_more (fed next (drop (suc place) block))) ≡ step_from block (suc place) lent
  unfolding fed_from
  from_behind true e =
      let past = leb-true (length block) (suc place) e in
      let far : place + 1 ≡ suc place = omega arith in
      rw (drop_of_length-le block past) (ap (λ (p : ℕ). said_end p lent) far ∙ sym (step_ends block (suc place) lent past))
  from_behind false e =
      let answer = fed next (drop (suc place) block) in
      let far : place + suc answer.used ≡ suc place + answer.used = omega arith in
      (λ i. record { answer = record { next = answer.event; place = far i }; body = answer.reader.body })
      ∙ sym (step_hears block (suc place) lent (leb-false (length block) (suc place) e) ∙ ap (after_hearing (suc place)) (lent_full _ _ lent full))

  pub next_place : step_from block (suc place) lent ≡ step_from block place lent
  next_place = sym (step_hears block place lent within ∙ ap (after_hearing place) (lent_full _ _ lent full ∙ heard_on) ∙ from_behind (leb (length block) (suc place)) refl)

-- the step from where a scan began is the step from behind a byte that it passed
pub passed : (block : List ℕ) (from at : ℕ) → at < length block → starts_body (delimited_at block at) (get_or block at 0) ≡ false → SameStep block from at → SameStep block from (at + 1)
passed block from at within none so = λ lent full. rw add-one (next_place block at within none lent full ∙ so lent full)
