-- 01, "Messages", refusal 7: how many data bytes each row has.
use Rattle.std.specs.Prelude.{ℕ, ◌+◌, Bool, ◌&&◌, List, length, get_or, eqb, leb, Option, Some, None}
use Rattle.codes.specs.declared.table.Row.{Row}
use Rattle.codes.specs.declared.table.Row.TheVariants.{Empty, Serial, Number, Status, Weight, Inputs, Outputs, Text, Event, Converter, Error}
use Rattle.codes.specs.declared.table.Length.{Length}
use Rattle.codes.specs.declared.table.Length.TheVariants.{Exactly, Counted}

-- an unknown row is refused by 6 before its length is asked
abbrev pub length_of : Option Row → Length
length_of None = Exactly 0
length_of (Some Empty) = Exactly 0
length_of (Some Serial) = Exactly 3
length_of (Some (Number numbers)) = Exactly 1
length_of (Some Status) = Exactly 1
length_of (Some (Weight load)) = Exactly 4
length_of (Some Inputs) = Exactly 4
length_of (Some Outputs) = Exactly 4
length_of (Some (Text numbers)) = Counted
length_of (Some Event) = Exactly 7
length_of (Some Converter) = Exactly 5
length_of (Some Error) = Exactly 1

-- "the length is wrong (7) if it is under 2 or isn't 2 plus the count byte"
abbrev pub length_right : Length → List ℕ → Bool
length_right (Exactly count) data' = eqb (length data') count
length_right Counted data' = leb 2 (length data') && eqb (length data') (2 + get_or data' 1 0)
