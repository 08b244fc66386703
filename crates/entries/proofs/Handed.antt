-- Shown: of what a line hands out, an event lists the same whether the check of its body is made again or not.
-- Why: a listener hands out a frame only where the body was judged good at its end, and a good body has a right check.
use Rattle.std.specs.Prelude.{Option, Some}
use Prim.Native.Nat.{ℕ}
use mathlib.Core.Path.{◌≡◌, refl, ap, ap₂}
use mathlib.Core.Bool.{true}
use mathlib.Core.List.{List, [], ◌∷◌, map, Memᴰ}
use Rattle.line.specs.Listener.{Heard, Listener, hear, events}
use Rattle.line.proofs.EveryStep.{every_told, every_event}
use Rattle.weight.specs.declared.families.Family.{Family}
use Rattle.codes.specs.declared.table.Role.TheVariants.{Reply}
use Rattle.message.proofs.Checked.{handed_out as read_same}
use Rattle.entries.specs.declared.entries.Entry.{Entry}
use Rattle.entries.specs.Entries.{entry_of, entry_heard, entry_if}

module _ (family : Family) where
  abbrev Same : Heard → Type 0
  Same heard = entry_if true family heard ≡ entry_heard family heard

  byte_same : (listener : Listener) (byte : ℕ) → Same (hear listener byte).event
  unfolding entry_if entry_heard
  byte_same listener byte = every_told Same listener byte refl refl refl (λ good. ap (λ received. Some (entry_of received)) (read_same Reply family _ good)) (λ why bad. refl)

  list_alike : (heard : List Heard) → ((one : Heard) → Memᴰ one heard → Same one) → map (entry_if true family) heard ≡ map (entry_heard family) heard
  list_alike [] same = refl
  list_alike (heard ∷ later) same =
      ap₂ (λ (x : Option Entry) (xs : List (Option Entry)). x ∷ xs) (same heard (Memᴰ.head refl)) (list_alike later (λ one among. same one (Memᴰ.tail among)))

  pub handed_out : (listener : Listener) (bytes : List ℕ) → map (entry_if true family) (events listener bytes) ≡ map (entry_heard family) (events listener bytes)
  handed_out listener bytes =
      list_alike (events listener bytes) (every_event (λ _ _. Unit {0}) Same (λ listener byte bytes _. (tt, byte_same listener byte)) listener bytes tt)
