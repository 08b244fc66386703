-- Shown: from every state handed in, an event's body count lies within 0 to 255, and both its counts are those of the bytes taken and kept.
-- Why: a state handed in keeps at most 255 bytes and the 256th is never kept; each byte counts one, and each event counts the bytes kept.
use Prim.Native.Nat.{ℕ, ◌+◌, ◌%◌, ◌^◌, ◌≤◌}
use mathlib.Core.Path.{◌≡◌, refl, ap, subst}
use mathlib.Core.List.{List, [], ◌∷◌}
use native.Mathlib.Omega.{arith}
use lib.ListN.{length, length-append}
use Rattle.refusal.specs.declared.Refusal.{Refusal}
use Rattle.refusal.specs.declared.Refusal.TheVariants.{BodyLong}
use Rattle.body.specs.Body.{longest}
use Rattle.line.specs.Listener.{Listener, Step, hear, tick, after}
use Rattle.line.specs.Readers.{view, kept_of}
use Rattle.line.proofs.EveryStep.{every_step, every_event}
use Rattle.line.proofs.Joined.{few_kept}
use Rattle.demands.specs.Counts.{Within, CountsWithin, Carries, CountsTied}
use Rattle.message.proofs.Refusals.{end_refuses}

abbrev Few : Listener → Type 0
Few listener = length (kept_of listener.state) ≤ longest

-- one byte
abbrev Counted : Listener → Step → Type 0
Counted listener s = Few s.next × (Within s.event × Carries (tick listener.wire) (length (kept_of listener.state)) s.event)

counted : (listener : Listener) (byte : ℕ) → Few listener → Counted listener (hear listener byte)
counted listener byte few =
    let kept = kept_of listener.state in
    every_step (Counted listener) listener byte
    (record {
      empty = λ next none. (omega (arith, ap length none), (tt, tt));
      as_it_was = (few, (tt, tt));
      keeps = λ more _ fits. (omega (arith, length-append kept (more ∷ [])), (tt, tt));
      full = λ over. (omega arith, ((omega arith, λ _. refl), (refl, omega arith)));
      broken = (omega arith, ((few, λ e. cc), (refl, refl)));
      good = λ _. (omega arith, ((refl, few), (refl, refl)));
      bad = λ why e.
          (omega arith, ((few, end_refuses (λ (why : Refusal). why ≡ BodyLong → length kept ≡ longest) kept (λ e. cc) (λ e. cc) (λ _ e. cc) why e), (refl, refl)));
    })

-- any bytes
few_after : (listener : Listener) (bytes : List ℕ) → Few listener → Few (after listener bytes)
unfolding after
few_after listener [] few = few
few_after listener (byte ∷ bytes) few = few_after (hear listener byte).next bytes (counted listener byte few).0

pub ticked : (listener : Listener) (byte : ℕ) → (hear listener byte).next.wire ≡ tick listener.wire
ticked listener byte =
    every_step (λ (s : Step). s.next.wire ≡ tick listener.wire) listener byte
    (record { empty = λ _ _. refl; as_it_was = refl; keeps = λ _ _ _. refl; full = λ _. refl; broken = refl; good = λ _. refl; bad = λ _ _. refl })

pub ticks : (listener : Listener) (before : List ℕ) → tick (after listener before).wire ≡ (listener.wire + length before + 1) % 2 ^ 64
unfolding after tick
ticks listener [] = omega arith
ticks listener (byte ∷ before) = omega (arith, ticks (hear listener byte).next before, ticked listener byte)

pub counts_within : CountsWithin
counts_within reader bytes =
    every_event (λ (listener : Listener) (bytes : List ℕ). Few listener) Within
    (λ listener byte bytes few. ((counted listener byte few).0, (counted listener byte few).1.0)) (view reader) bytes (few_kept reader.place reader.body)

pub counts_tied : CountsTied
counts_tied reader before byte =
    let listener = after (view reader) before in
    subst (λ (taken : ℕ). Carries taken (length (kept_of listener.state)) (hear listener byte).event) (ticks (view reader) before)
    (counted listener byte (few_after (view reader) before (few_kept reader.place reader.body))).1.1
