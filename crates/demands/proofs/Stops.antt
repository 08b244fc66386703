-- Shown: a capture that stops inside a body gives no event for it, joined and cut off anywhere, and the frames ahead of it are heard as ever.
-- Why: up to the first FF behind a body nothing ends or breaks it and at most 255 bytes are kept; so neither is anything heard in a part of that.
use Prim.Native.Nat.{ℕ, zero, suc, ◌+◌, ◌-◌, ◌^◌, ◌≤◌}
use mathlib.Core.Path.{◌≡◌, ◌∙◌, refl, sym, ap}
use mathlib.Core.Bool.{Bool, true, false}
use mathlib.Core.List.{List, [], ◌∷◌, ◌++◌}
use native.Mathlib.Omega.{arith}
use native.Mathlib.Decide.{dec_le}
use native.Mathlib.Nat.{lt_of_not-le, mod-add-mod}
use borrow.Author.Tests.{eqb-true}
use lib.ListN.{length, take, drop, length-append, take-append-drop, drop_of_length-le}
use lib.Seq.{drop-append-le}
use lib.Dec.{eqb}
use Rattle.std.proofs.lemmas.Grind.{common_steps}
use Rattle.frame.specs.Stuffing.{stuffed}
use Rattle.line.specs.Listener.{State, seeking, delimited, Heard, Listener, tick, hear, events, after}
use Rattle.demands.specs.Stops.{AtRest, unended, SilentInside, StopsInside}
use Rattle.demands.proofs.Bytes.{at, seeking_ff, delimited_ff, delimited_fe}
use Rattle.demands.proofs.Piece.{Stuffed, none, ff, other, stuff, kept_whole, seeking_late}
use Rattle.demands.proofs.AllHeard.{Quiet}
use Rattle.demands.proofs.Demand3.{demand3_then}
use Rattle.demands.proofs.Cuts.{any_cut}

-- who seeks, or is at a delimiter, hears nothing of a body from some byte on, and of the first FF behind it
seeking_rest : {body bytes : List ℕ} → Stuffed body bytes → (late n : ℕ) → events (at seeking n) (drop late bytes ++ (0xFF ∷ [])) ≡ []
unfolding events
seeking_rest {body} {bytes} s late n = seeking_late s late (0xFF ∷ []) n (n + (length bytes - late)) refl ∙ seeking_ff (n + (length bytes - late)) []

delimited_rest : {body bytes : List ℕ} → Stuffed body bytes → length body ≤ 255 → (late n : ℕ) → events (at delimited n) (drop late bytes ++ (0xFF ∷ [])) ≡ []
unfolding events
delimited_rest none most zero n = delimited_ff n []
delimited_rest none most (suc late) n = delimited_ff n []
delimited_rest (ff {body} {bytes} s) most zero n =
    delimited_ff n (0xFE ∷ (bytes ++ (0xFF ∷ []))) ∙ delimited_fe (suc n) (bytes ++ (0xFF ∷ [])) ∙ seeking_rest s zero (suc (suc n))
delimited_rest (ff {body} {bytes} s) most (suc zero) n = delimited_fe n (bytes ++ (0xFF ∷ [])) ∙ seeking_rest s zero (suc n)
delimited_rest (ff s) most (suc (suc late)) n = delimited_rest s (omega arith) late n
delimited_rest (other {byte} {body} {bytes} not_ff s) most zero n = by_first (eqb byte 0xFE) refl
  where
    by_first : (is : Bool) → eqb byte 0xFE ≡ is → events (at delimited n) (byte ∷ (bytes ++ (0xFF ∷ []))) ≡ []
    by_first true is =
        ap (λ (b : ℕ). events (at delimited n) (b ∷ (bytes ++ (0xFF ∷ [])))) (eqb-true byte 0xFE is)
        ∙ delimited_fe n (bytes ++ (0xFF ∷ [])) ∙ seeking_rest s zero (suc n)
    by_first false not_fe = kept_whole byte not_ff not_fe s (omega arith) n _ [] refl
delimited_rest (other not_ff s) most (suc late) n = delimited_rest s (omega arith) late n

-- the same from any state at rest, and with FFs ahead
rest_silent : {body bytes : List ℕ} → Stuffed body bytes → length body ≤ 255 → (state : State) → AtRest state → (late n : ℕ)
    → events (at state n) (drop late bytes ++ (0xFF ∷ [])) ≡ []
rest_silent s most state rests late n = grind (arith, common_steps, delimited_rest, seeking_rest)

rest_ff : (state : State) → AtRest state → (n : ℕ) (rest : List ℕ) → events (at state n) (0xFF ∷ rest) ≡ events (at delimited (suc n)) rest
rest_ff state rests n rest = grind (arith, common_steps, delimited_ff, seeking_ff)

unended_silent : (ahead : ℕ) (body : List ℕ) → length body ≤ 255 → Quiet (unended ahead body)
unfolding events
unended_silent zero body most state rests n late = elim (dec_le late (length (stuffed body))) [
  | yes in_Body ↦ ap (events (at state n)) (drop-append-le late (stuffed body) (0xFF ∷ []) in_Body) ∙ rest_silent (stuff body) most state rests late n
  | no beyond ↦
      let past : length (stuffed body ++ (0xFF ∷ [])) ≤ late = simp length-append (omega (arith, lt_of_not-le beyond)) in
      rw (drop_of_length-le (stuffed body ++ (0xFF ∷ [])) past)
]
unended_silent (suc ahead) body most state rests n zero =
    rest_ff state rests n (unended ahead body) ∙ unended_silent ahead body most delimited tt (suc n) zero
unended_silent (suc ahead) body most state rests n (suc late) = unended_silent ahead body most state rests n late

-- what is silent is silent in each part
nothing_in_part : (first second : List Heard) → first ++ second ≡ [] → first ≡ []
nothing_in_part [] second silent = refl
nothing_in_part (heard ∷ first) second silent = cc

part_silent : (bytes : List ℕ) → Quiet bytes → (stop : ℕ) → Quiet (take stop bytes)
unfolding events
part_silent bytes quiet stop state rests n late = elim (dec_le late (length (take stop bytes))) [
  | yes within ↦
      let part = drop late (take stop bytes) in
      nothing_in_part (events (at state n) part) (events (after (at state n) part) (drop stop bytes))
      (sym (any_cut (at state n) part (drop stop bytes)).heard
      ∙ ap (events (at state n)) (sym (drop-append-le late (take stop bytes) (drop stop bytes) within) ∙ ap (drop late) (take-append-drop stop bytes))
      ∙ quiet state rests n late)
  | no beyond ↦
      let past : length (take stop bytes) ≤ late = omega (arith, lt_of_not-le beyond) in
      rw (drop_of_length-le (take stop bytes) past)
]

-- of a listener's wire count only its turn at 2^64 is ever asked
any_count : (listener : Listener) (bytes : List ℕ) → events listener bytes ≡ events (at listener.state listener.wire) bytes
unfolding events hear tick
any_count listener [] = refl
any_count listener (byte ∷ bytes) = rw (mod-add-mod listener.wire (2 ^ 64) 1)

pub silent_inside : SilentInside
silent_inside listener rests ahead body most joined stop = grind (arith, common_steps, any_count, part_silent, unended_silent)

pub stops_inside : StopsInside
stops_inside list shared ahead body most joined stop = grind (arith, common_steps, demand3_then, part_silent, unended_silent)
