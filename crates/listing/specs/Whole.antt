-- 01, "Judged examples": a whole listing. The events are numbered from 1, and "The total counts all events."
use Rattle.std.specs.Prelude.{ℕ, ◌+◌, List, [], ◌∷◌, ◌++◌, map, length, Option, Some, None}
use Rattle.line.specs.Listener.{Heard}
use Rattle.weight.specs.declared.families.Family.{Family}
use Rattle.entries.specs.declared.entries.Entry.{Entry}
use Rattle.entries.specs.declared.entries.Entry.TheVariants.{Weight, Message, Refused}
use Rattle.entries.specs.Entries.{entry_heard}
use Rattle.listing.specs.Lines.{line_of, total_of}

-- 1 for a weight
abbrev pub weight_in : Option Entry → ℕ
weight_in None = 0
weight_in (Some (Weight load address reading)) = 1
weight_in (Some (Message address code)) = 0
weight_in (Some (Refused why)) = 0

-- 1 for a refusal
abbrev pub refused_in : Option Entry → ℕ
refused_in None = 0
refused_in (Some (Weight load address reading)) = 0
refused_in (Some (Message address code)) = 0
refused_in (Some (Refused why)) = 1

abbrev pub count : (Option Entry → ℕ) → List (Option Entry) → ℕ
count counted [] = 0
count counted (entry ∷ more) = counted entry + count counted more

abbrev pub lines_from : ℕ → List (Option Entry) → List ℕ
lines_from number [] = []
lines_from number (entry ∷ more) = line_of number entry ++ lines_from (number + 1) more

abbrev pub listed : List (Option Entry) → List ℕ
listed entries = lines_from 1 entries ++ total_of (length entries) (count weight_in entries) (count refused_in entries)

-- the listing of what was heard on a line of a family; no event of a line is `nothing`
unfoldable pub listing : Family → List Heard → List ℕ
listing family heard = listed (map (entry_heard family) heard)
