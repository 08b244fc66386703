-- Shown: the reader hears what the paper's listener hears, byte by byte, block by block, over any cut; demand 3 holds of it; what was written reads back.
-- Why: one byte is joined to the listener for every state, and a block is defined by its bytes.
use Rattle.std.specs.Prelude.{Result, Ok, Err, Option, Some, None}
use Prim.Native.Nat.{ℕ, suc, ◌+◌, ◌≤◌}
use mathlib.Core.Path.{◌≡◌, ◌∙◌, refl, sym, ap}
use mathlib.Core.List.{List, [], ◌∷◌, ◌++◌}
use native.Mathlib.Omega.{arith}
use native.Mathlib.Nat.{zero-add}
use lib.ListN.{length, take, drop}
use Rattle.std.proofs.lemmas.Grind.{common_steps}
use Rattle.refusal.specs.Numbers.{verdict_of}
use Rattle.room.specs.Writing.{wrote}
use Rattle.body.specs.declared.addresses.Address.{Address}
use Rattle.body.specs.Body.{body_of, judged, judged_lent}
use Rattle.frame.specs.Writing.{judged_fields, judged_write, written_frame}
use Rattle.body.proofs.Rebuilding.{made_good}
use Rattle.frame.proofs.Stuffing.{framed_length}
use Rattle.line.specs.declared.places.Event.{Event}
use Rattle.line.specs.declared.reading.Reader.{Reader}
use Rattle.line.specs.declared.reading.Fed.{Fed}
use Rattle.line.specs.Listener.{Heard, heard_then, events, fresh}
use Rattle.line.specs.Readers.{listening, taken, heard_as, fed_from, fed, fresh_place}
use Rattle.line.proofs.Joined.{joined, told}
use Rattle.demands.specs.Reading.{EveryByte, after_bytes, heard_by, HearsAsListener, EveryBlock, EveryCut, ReaderDemand3, FrameReadsBack}
use Rattle.demands.specs.Wire.{wire_of}
use Rattle.demands.proofs.Corollaries.{reads_back}
use Rattle.demands.proofs.Cuts.{and_then_append, over_blocks_lem}
use Rattle.demands.proofs.Demand3.{shared_demand3}
use Rattle.refusal.specs.declared.Refusal.{Refusal}

pub every_byte : EveryByte
every_byte reader byte = record { next = joined reader byte; event = told reader byte }

pub hears_as_listener : HearsAsListener
unfolding heard_by events
hears_as_listener reader [] = refl
hears_as_listener reader (byte ∷ bytes) = grind (arith, common_steps, joined, told, hears_as_listener (taken reader byte).reader bytes)

-- a fresh reader hears what a fresh listener hears, whatever older bytes stand in its array
pub heard_fresh : (body bytes : List ℕ) → heard_by (record { place = fresh_place; body = body }) bytes ≡ events fresh bytes
unfolding listening
heard_fresh body bytes = hears_as_listener (record { place = fresh_place; body = body }) bytes

pub reader_demand3 : ReaderDemand3
reader_demand3 list shared joined = heard_fresh _ (drop joined (wire_of list)) ∙ shared_demand3 list shared joined

-- ---- how far a block went

record Went (used : ℕ) (reader : Reader) (block : List ℕ) : Type 0 where
  pub count : ℕ
  pub used_is : (fed_from used reader block).used ≡ used + count
  pub inside : count ≤ length block
  pub to_the_end : (fed_from used reader block).event ≡ None → count ≡ length block
  pub stands : (fed_from used reader block).reader ≡ after_bytes reader (take count block)
  pub heard : heard_by reader block ≡ heard_then (heard_as (fed_from used reader block).event (fed_from used reader block).reader.body) (heard_by (fed_from used reader block).reader (drop count block))

-- what is told of an answer, whichever of two equal answers is named
tells : Fed → List ℕ → List Heard
tells answer rest = heard_then (heard_as answer.event answer.reader.body) (heard_by answer.reader rest)

module _ (used : ℕ) (reader : Reader) (byte : ℕ) (block : List ℕ) where
  -- a byte that told nothing: the rest goes on from there
  silent_byte : (taken reader byte).event ≡ None → Went (used + 1) (taken reader byte).reader block → Went used reader (byte ∷ block)
  unfolding fed_from after_bytes heard_by heard_then tells
  silent_byte silent rest =
      let same : fed_from used reader (byte ∷ block) ≡ fed_from (used + 1) (taken reader byte).reader block = rw silent in
      record {
        count = suc rest.count;
        used_is = ap (λ (f : Fed). f.used) same ∙ rest.used_is ∙ omega arith;
        inside = omega (arith, rest.inside);
        to_the_end = λ none. ap suc (rest.to_the_end (ap (λ (f : Fed). f.event) (sym same) ∙ none));
        stands = ap (λ (f : Fed). f.reader) same ∙ rest.stands;
        heard =
            ap (λ (event : Option Event). heard_then (heard_as event (taken reader byte).reader.body) (heard_by (taken reader byte).reader block)) silent
            ∙ rest.heard ∙ ap (λ (f : Fed). tells f (drop rest.count block)) (sym same);
      }

  -- a byte that told something is the last one taken
  spoken_byte : (f : Fed) → fed_from used reader (byte ∷ block) ≡ f → f ≡ record { reader = (taken reader byte).reader; event = (taken reader byte).event; used = used + 1 }
      → ((taken reader byte).event ≡ None → ⊥) → Went used reader (byte ∷ block)
  unfolding fed_from after_bytes heard_by heard_then tells
  spoken_byte f is stopped spoken = grind (arith, common_steps)

  by_event : Went (used + 1) (taken reader byte).reader block → (event : Option Event) → (taken reader byte).event ≡ event → Went used reader (byte ∷ block)
  unfolding fed_from
  by_event rest None e = silent_byte e rest
  by_event rest (Some event) e = spoken_byte _ refl (rw e) (λ none. cc)

went : (used : ℕ) (reader : Reader) (block : List ℕ) → Went used reader block
unfolding fed_from after_bytes heard_by heard_then
went used reader [] = grind (arith, common_steps)
went used reader (byte ∷ block) = grind (arith, common_steps, by_event, went (used + 1) (taken reader byte).reader block)

pub every_block : EveryBlock
every_block reader block =
    let w = went 0 reader block in
    let far : w.count ≡ (fed reader block).used = sym (w.used_is ∙ zero-add w.count) in
    record {
      inside = rw far at w.inside;
      to_the_end = rw far at w.to_the_end;
      stands = rw far at w.stands;
      heard = rw far at w.heard;
    }

-- ---- any cut

pub heard_in_two : (reader : Reader) (first second : List ℕ) → heard_by reader (first ++ second) ≡ heard_by reader first ++ heard_by (after_bytes reader first) second
unfolding heard_by after_bytes
heard_in_two reader [] second = refl
heard_in_two reader (byte ∷ first) second = grind (arith, common_steps, and_then_append, heard_in_two (taken reader byte).reader first second)

pub every_cut : EveryCut
unfolding heard_by
every_cut = over_blocks_lem heard_by after_bytes (λ (reader : Reader). refl) heard_in_two

-- ---- what the frame writer wrote

pub verdict_of_lem : (verdict : Result (Unit {0}) Refusal) (bytes room : List ℕ) → verdict_of (wrote verdict bytes room).answer ≡ verdict
verdict_of_lem (Ok tt) bytes room = refl
verdict_of_lem (Err why) bytes room = refl

-- a frame that was written has a good body
written_good : (address : Address) (code : ℕ) (data' room : List ℕ) → judged_write address code data' room ≡ Ok tt → judged_lent (body_of address code data') ≡ Ok tt
unfolding judged_write judged_fields judged_lent judged
written_good address code data' room good = grind (arith, common_steps, made_good)

pub frame_reads_back : FrameReadsBack
unfolding written_frame
frame_reads_back address code data' room count left leaves = grind (arith, common_steps, framed_length, heard_fresh, reads_back, written_good)
