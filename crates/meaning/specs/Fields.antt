-- 01, "Messages", refusal 8: the values of the fields of each row. "Characters, C7 bytes and NER are any byte." A weight is read by the family of
-- its line.
use Rattle.std.specs.Prelude.{ℕ, Bool, true, not, List, get_or, eqb, ltb, Result, Option, Some, None}
use Rattle.weight.specs.declared.families.Family.{Family}
use Rattle.weight.specs.Bytes.{four_in, read_of, readable}
use Rattle.codes.specs.declared.table.Row.{Row}
use Rattle.codes.specs.declared.table.Row.TheVariants.{Empty, Serial, Number, Status, Weight, Inputs, Outputs, Text, Event, Converter, Error}
use Rattle.codes.specs.Table.{among}
use Rattle.weight.specs.declared.Reading.{Reading}
use Rattle.refusal.specs.declared.Refusal.{Refusal}

-- W0 W1 W2 CON
abbrev pub read_in : Family → List ℕ → Result Reading Refusal
read_in family data' = read_of (four_in family data')

abbrev pub fields_right : Family → Option Row → List ℕ → Bool
fields_right family None data' = true
fields_right family (Some Empty) data' = true
fields_right family (Some Serial) data' = true
fields_right family (Some (Number numbers)) data' = among numbers (get_or data' 0 0)
fields_right family (Some Status) data' = ltb (get_or data' 0 0) 0x80
fields_right family (Some (Weight load)) data' = readable (read_in family data')
fields_right family (Some Inputs) data' = true
fields_right family (Some Outputs) data' = true
fields_right family (Some (Text numbers)) data' = among numbers (get_or data' 0 0)
fields_right family (Some Event) data' = not (eqb (get_or data' 0 0) 0x70)
fields_right family (Some Converter) data' = true
fields_right family (Some Error) data' = true
