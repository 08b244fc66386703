-- Shown: the loop that everybody runs over blocks, with `feed` and with `listen`, tells what the bytes tell, and demand 3 holds of it.
-- Why: each turn takes at least one byte and tells what those bytes tell, and `listen` over a full array is `feed`.
use Prim.Native.Nat.{ℕ, zero, suc, ◌≤◌, ◌<◌}
use mathlib.Core.Path.{◌≡◌, ◌∙◌, refl, sym, ap}
use mathlib.Core.List.{List, [], ◌∷◌, ◌++◌, flatten}
use native.Mathlib.Omega.{arith}
use borrow.Author.Tests.{eq-eqb}
use lib.ListN.{length, take, drop, length-drop, take-append-drop}
use Rattle.std.proofs.lemmas.Grind.{common_steps}
use Rattle.line.specs.declared.reading.Reader.{Reader}
use Rattle.line.specs.declared.reading.Fed.{Fed}
use Rattle.line.specs.Listener.{Heard, heard_then}
use Rattle.line.specs.Readers.{heard_as, taken, fed, fed_lent, fresh_place}
use Rattle.line.proofs.Blocks.{feeds, listens}
use Rattle.demands.specs.Reading.{after_bytes, heard_by}
use Rattle.demands.specs.Loops.{listened, Loop, ends, next, turn, TellsAsBytes, FeedLoop, ListenLoop, LoopDemand3, FeedDemand3, ListenDemand3}
use Rattle.demands.proofs.Cuts.{and_then_append}
use Rattle.demands.proofs.Demand3.{shared_demand3}
use Rattle.demands.proofs.Reading.{every_block, heard_in_two, heard_fresh}

-- ---- one turn, with other bytes behind the block

left_in_two : (reader : Reader) (first second : List ℕ) → after_bytes reader (first ++ second) ≡ after_bytes (after_bytes reader first) second
unfolding after_bytes
left_in_two reader [] second = refl
left_in_two reader (byte ∷ first) second = left_in_two (taken reader byte).reader first second

module _ (reader : Reader) (block rest : List ℕ) (answer : Fed) (is : answer ≡ fed reader block) where
  turn_left : after_bytes reader block ≡ after_bytes answer.reader (drop answer.used block)
  turn_left =
      rw is
      (ap (after_bytes reader) (sym (take-append-drop (fed reader block).used block))
      ∙ left_in_two reader (take (fed reader block).used block) (drop (fed reader block).used block)
      ∙ ap (λ (r : Reader). after_bytes r (drop (fed reader block).used block)) (sym (every_block reader block).stands))

  turn_leaves : after_bytes reader (block ++ rest) ≡ after_bytes answer.reader (drop answer.used block ++ rest)
  turn_leaves = grind (arith, common_steps, left_in_two, turn_left)

  turn_tells : heard_by reader (block ++ rest)
      ≡ heard_then (heard_as answer.event answer.reader.body) (heard_by answer.reader (drop answer.used block ++ rest))
  turn_tells = grind (arith, common_steps, and_then_append, every_block, heard_in_two, turn_left)

-- ---- the loop of `feed`

only_one : {reader left : Reader} {blocks : List (List ℕ)} {told : List Heard} → Loop fed reader blocks told left
    → (told ≡ heard_by reader (flatten blocks)) × (left ≡ after_bytes reader (flatten blocks))
unfolding flatten heard_by after_bytes
only_one ends = (refl, refl)
only_one (next loop) = only_one loop
only_one (turn {reader} {left} {byte} {block} {blocks} answer is loop) =
    let later = only_one loop in (
      ap (heard_then (heard_as answer.event answer.reader.body)) later.0 ∙ sym (turn_tells reader (byte ∷ block) (flatten blocks) answer is),
      later.1 ∙ sym (turn_leaves reader (byte ∷ block) (flatten blocks) answer is),
    )

-- a block of at most `most` bytes, where the blocks behind it come to their end
over_block : (blocks : List (List ℕ)) → ((reader : Reader) → Loop fed reader blocks (heard_by reader (flatten blocks)) (after_bytes reader (flatten blocks)))
    → (most : ℕ) (reader : Reader) (block : List ℕ) → length block ≤ most
    → Loop fed reader (block ∷ blocks) (heard_by reader (block ++ flatten blocks)) (after_bytes reader (block ++ flatten blocks))
over_block blocks later zero reader [] few = next (later reader)
over_block blocks later zero reader (byte ∷ block) few = absurd (omega arith)
over_block blocks later (suc most) reader [] few = next (later reader)
over_block blocks later (suc most) reader (byte ∷ block) few =
    let answer = fed reader (byte ∷ block) in
    let forward : 0 < answer.used = (feeds reader (byte ∷ block) refl).forward (omega arith) in
    let fewer : length (drop answer.used (byte ∷ block)) ≤ most = rw length-drop (omega arith) in
    rw (turn_tells reader (byte ∷ block) (flatten blocks) answer refl, turn_leaves reader (byte ∷ block) (flatten blocks) answer refl)
    (turn answer refl (over_block blocks later most answer.reader (drop answer.used (byte ∷ block)) fewer))

comes_to_end : (blocks : List (List ℕ)) (reader : Reader) → Loop fed reader blocks (heard_by reader (flatten blocks)) (after_bytes reader (flatten blocks))
unfolding flatten heard_by after_bytes
comes_to_end [] reader = ends
comes_to_end (block ∷ blocks) reader = grind (arith, common_steps, over_block, comes_to_end blocks)

pub feed_loop : FeedLoop
feed_loop reader blocks = grind (arith, common_steps, comes_to_end, only_one)

-- ---- the loop of `listen`

-- a call that is `feed` where the array is full
abbrev AsFed : (Reader → List ℕ → Fed) → Type 0
AsFed call = (reader : Reader) (block : List ℕ) → length reader.body ≡ 255 → call reader block ≡ fed reader block

-- two such calls have one loop, as the array stays full
same_loop : {call other : Reader → List ℕ → Fed} → AsFed call → AsFed other → {reader left : Reader} {blocks : List (List ℕ)} {told : List Heard}
    → length reader.body ≡ 255 → Loop call reader blocks told left → Loop other reader blocks told left
same_loop c o full ends = ends
same_loop c o full (next loop) = next (same_loop c o full loop)
same_loop c o full (turn {reader} {left} {byte} {block} answer is loop) =
    let as_fed = is ∙ c reader (byte ∷ block) full in
    let still_full = (listens reader.place (byte ∷ block) reader.body _ _ _ _ full refl).full full in
    turn answer (as_fed ∙ sym (o reader (byte ∷ block) full)) (same_loop c o (rw as_fed still_full) loop)

listened_as_fed : AsFed listened
unfolding fed_lent
listened_as_fed reader block full = rw (eq-eqb (length reader.body) 255 full)

pub listen_loop : ListenLoop
listen_loop reader full blocks =
    let fed_as_fed : AsFed fed = λ reader block full. refl in
    let by_feed = feed_loop reader blocks in
    record {
      comes = same_loop fed_as_fed listened_as_fed full by_feed.comes;
      only = λ other end loop. by_feed.only other end (same_loop listened_as_fed fed_as_fed full loop);
    }

-- ---- demand 3

by_demand3 : (call : Reader → List ℕ → Fed) (body : List ℕ) → TellsAsBytes call (record { place = fresh_place; body = body })
    → LoopDemand3 call (record { place = fresh_place; body = body })
by_demand3 call body tells list shared joined blocks cut = grind (arith, common_steps, heard_fresh, shared_demand3)

pub feed_demand3 : FeedDemand3
feed_demand3 = by_demand3 fed _ (feed_loop _)

pub listen_demand3 : ListenDemand3
listen_demand3 body full = by_demand3 listened body (listen_loop _ full)
