-- Shown: the array and the count hold what the paper's listener keeps: a byte more, as many as before, or none.
-- Why: the kept bytes stand at the array's front, so one more is a store behind them.
use Rattle.std.proofs.Common.{◌≡◌, ℕ, suc, ◌+◌, ◌<◌, ◌≤◌, List, [], ◌∷◌, ◌++◌, length, take, drop, set, sym, refl, ap, ◌∙◌, append_assoc, add-one, arith, length-append, length-take-le, le-ltb, lt-ltb, Some, None}
use lib.Seq.{set_split}
use Rattle.refusal.specs.declared.Refusal.TheVariants.{BodyLong}
use Rattle.room.specs.Laying.{over}
use Rattle.line.specs.declared.places.Phase.TheVariants.{Seeking, Inside}
use Rattle.line.specs.declared.places.Event.TheVariants.{Refused}
use Rattle.line.specs.declared.places.Place.{Place}
use Rattle.line.specs.declared.moving.Moved.{Moved}
use Rattle.line.specs.Listener.{keep}
use Rattle.line.specs.Steps.{MovesTo, Keeps, in_phase, none_kept}

module _ (place : Place) (byte : ℕ) (body : List ℕ) where
  abbrev kept : ℕ
  kept = place.kept.0

  -- with one byte more, they are the array with that byte stored
  more_length : kept ≤ length body → length (take kept body ++ (byte ∷ [])) ≡ kept + 1
  more_length h = length-append (take kept body) (byte ∷ []) ∙ ap (λ (n : ℕ). n + 1) (length-take-le kept body h)

  over_more : kept < length body → set body kept byte ≡ over (take kept body ++ (byte ∷ [])) body
  over_more h =
      set_split body kept byte h ∙ sym (append_assoc (take kept body) (byte ∷ []) (drop (suc kept) body))
      ∙ ap (λ (n : ℕ). (take kept body ++ (byte ∷ [])) ++ drop n body) (sym (more_length (omega arith) ∙ add-one kept))

  -- a byte to keep, and the 256th
  pub one_more : {answered : Moved} → kept < 255 → kept < length body → MovesTo (in_phase Inside (record place { kept = record { 0 = kept + 1 } })) None answered
      → Keeps (keep (take kept body) byte place.wire.0) body answered (set body kept byte)
  unfolding keep
  one_more h k moved =
      let count = length-take-le kept body (omega arith) in
      let room : length (take kept body) < 255 = omega arith in
      rw (lt-ltb _ _ room) (record { moved = rw (more_length (omega arith)) moved; body = over_more k })

  pub too_many : {answered : Moved} → kept ≡ 255 → kept ≤ length body → MovesTo (in_phase Seeking (none_kept place)) (Some (Refused BodyLong place.wire place.kept)) answered
      → Keeps (keep (take kept body) byte place.wire.0) body answered body
  unfolding keep
  too_many h k moved =
      let count = length-take-le kept body k in
      let full : 255 ≤ length (take kept body) = omega arith in
      rw (le-ltb _ _ full) (record { moved = rw (← h) moved; body = refl })
