-- Shown: what holds of each kind of step holds of every step; and what each byte's event has, all events of any bytes have.
-- Why: in each state the tests on a byte lead to one of seven kinds, and the events of some bytes are those of each byte in turn.
use Rattle.std.proofs.Common.{◌≡◌, ℕ, ◌<◌, ◌≤◌, Bool, true, false, cond, eqb, ltb, ◌⊎◌, List, [], ◌∷◌, ◌++◌, length, refl, inl, inr, ltb-false, ltb-true, Result, Ok, Err}
use mathlib.Core.List.Memᴰ
use mathlib.Core.List.{Memᴰ}
use Rattle.refusal.specs.declared.Refusal.{Refusal}
use Rattle.refusal.specs.declared.Refusal.TheVariants.{BodyLong, HeldBroken}
use Rattle.body.specs.Body.{longest, judged}
use Rattle.line.specs.Listener.{State, seeking, delimited, inside, held, Heard, nothing, frame, refused, Listener, Step, step, keep, ended, tick, hear_in, hear, heard_then, events}
use Rattle.line.specs.Readers.{kept_of}

-- the kinds of step of a byte where some bytes are kept: the body is left or none was open; an FF is held; one byte more is kept, the byte itself or
-- the FF that was held; the 256th is refused, or a byte behind a held FF; the body has ended, and is good or not
pub record EachKind (holds : Step → Type 0) (kept : List ℕ) (byte wire : ℕ) : Type 0 where
  pub empty : (next : State) → kept_of next ≡ [] → holds (step next wire nothing)
  pub as_it_was : holds (step (held kept) wire nothing)
  pub keeps : (more : ℕ) → (more ≡ byte) ⊎ (more ≡ 0xFF) → length kept < longest → holds (step (inside (kept ++ (more ∷ []))) wire nothing)
  pub full : longest ≤ length kept → holds (step seeking wire (refused BodyLong wire longest))
  pub broken : holds (step seeking wire (refused HeldBroken wire (length kept)))
  pub good : judged kept ≡ Ok tt → holds (step delimited wire (frame wire (length kept) kept))
  pub bad : (why : Refusal) → judged kept ≡ Err why → holds (step delimited wire (refused why wire (length kept)))

module _ (holds : Step → Type 0) where
  pub either : (test : Bool) (x y : Step) → (test ≡ true → holds x) → (test ≡ false → holds y) → holds (cond test x y)
  either true x y p q = p refl
  either false x y p q = q refl

  module _ (kept : List ℕ) (byte wire : ℕ) (each : EachKind holds kept byte wire) where
    to_keep : (more : ℕ) → (more ≡ byte) ⊎ (more ≡ 0xFF) → holds (keep kept more wire)
    unfolding keep
    to_keep more which =
        either (ltb (length kept) longest) _ _ (λ fits. each.keeps more which (ltb-true (length kept) longest fits))
        (λ no_room. each.full (ltb-false (length kept) longest no_room))

    at_end : (verdict : Result (Unit {0}) Refusal) → judged kept ≡ verdict → holds (step delimited wire (ended verdict kept wire))
    unfolding ended
    at_end (Ok tt) e = each.good e
    at_end (Err why) e = each.bad why e

  pub every_state : (state : State) (byte wire : ℕ) → EachKind holds (kept_of state) byte wire → holds (hear_in state byte wire)
  unfolding hear_in
  every_state seeking byte wire each = either (eqb byte 0xFF) _ _ (λ _. each.empty delimited refl) (λ _. each.empty seeking refl)
  every_state delimited byte wire each =
      either (eqb byte 0xFF) _ _ (λ _. each.empty delimited refl)
      (λ _. either (eqb byte 0xFE) _ _ (λ _. each.empty seeking refl) (λ _. to_keep [] byte wire each byte (inl refl)))
  every_state (inside kept) byte wire each = either (eqb byte 0xFF) _ _ (λ _. each.as_it_was) (λ _. to_keep kept byte wire each byte (inl refl))
  every_state (held kept) byte wire each =
      either (eqb byte 0xFE) _ _ (λ _. to_keep kept byte wire each 0xFF (inr refl))
      (λ _. either (eqb byte 0xFF) _ _ (λ _. at_end kept byte wire each (judged kept) refl) (λ _. each.broken))

  pub every_step : (listener : Listener) (byte : ℕ) → EachKind holds (kept_of listener.state) byte (tick listener.wire) → holds (hear listener byte)
  unfolding hear
  every_step listener byte each = every_state listener.state byte (tick listener.wire) each

-- the same for what is told of a step alone
pub every_told : (holds : Heard → Type 0) (listener : Listener) (byte : ℕ) → let kept = kept_of listener.state in let wire = tick listener.wire in
    holds nothing → holds (refused BodyLong wire longest) → holds (refused HeldBroken wire (length kept)) → (judged kept ≡ Ok tt → holds (frame wire (length kept) kept))
    → ((why : Refusal) → judged kept ≡ Err why → holds (refused why wire (length kept))) → holds (hear listener byte).event
every_told holds listener byte none full broken good bad =
    every_step (λ (s : Step). holds s.event) listener byte
    (record { empty = λ _ _. none; as_it_was = none; keeps = λ _ _ _. none; full = λ _. full; broken = broken; good = good; bad = bad })

-- ---- a list of bytes

-- `sound` is what is known of a listener and of the bytes ahead of it; each byte takes it one byte on
module _ (sound : Listener → List ℕ → Type 0) (holds : Heard → Type 0)
    (each : (listener : Listener) (byte : ℕ) (bytes : List ℕ) → sound listener (byte ∷ bytes) → sound (hear listener byte).next bytes × holds (hear listener byte).event) where
  Every : List Heard → Type 0
  Every heard = (one : Heard) → Memᴰ one heard → holds one

  first_or_later : (heard : Heard) (later : List Heard) → holds heard → Every later → Every (heard ∷ later)
  unfolding Every
  first_or_later heard later p q one (Memᴰ.head e) = rw e p
  first_or_later heard later p q one (Memᴰ.tail among) = q one among

  then_every : (heard : Heard) (later : List Heard) → holds heard → Every later → Every (heard_then heard later)
  unfolding heard_then
  then_every nothing later p q = q
  then_every (frame wire kept body) later p q = first_or_later (frame wire kept body) later p q
  then_every (refused why wire kept) later p q = first_or_later (refused why wire kept) later p q

  pub every_event : (listener : Listener) (bytes : List ℕ) → sound listener bytes → (heard : Heard) → Memᴰ heard (events listener bytes) → holds heard
  unfolding events Every
  every_event listener [] known = λ heard among. absurd (Memᴰ.not-nil among)
  every_event listener (byte ∷ bytes) known =
      let one = each listener byte bytes known in
      then_every (hear listener byte).event (events (hear listener byte).next bytes) one.1 (every_event (hear listener byte).next bytes one.0)
