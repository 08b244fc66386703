-- Shown: the lines of what the code makes of a line's events are the paper's listing of them.
-- Why: of what a line hands out, an event lists the same whether the check of its body is made again or not.
use Prim.Native.Nat.{ℕ}
use mathlib.Core.Path.{◌≡◌, ap}
use mathlib.Core.Bool.{true}
use mathlib.Core.List.{List, map}
use Rattle.line.specs.Listener.{Listener, events}
use Rattle.weight.specs.declared.families.Family.{Family}
use Rattle.entries.specs.Entries.{entry_if}
use Rattle.entries.proofs.Handed.{handed_out}
use Rattle.listing.specs.Whole.{listed, listing}

pub lists_the_same : (family : Family) (listener : Listener) (bytes : List ℕ) → listed (map (entry_if true family) (events listener bytes)) ≡ listing family (events listener bytes)
unfolding listing
lists_the_same family listener bytes = ap listed (handed_out family listener bytes)
