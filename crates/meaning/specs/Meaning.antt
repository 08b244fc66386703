-- 01, "Messages": what the data of each row say, as numbers, a reading, or the place of a text in the body.
use Rattle.std.specs.Prelude.{ℕ, ◌+◌, List, length, get_or, Result, Ok, Err, Option, Some, None}
use Rattle.body.specs.declared.addresses.Address.{Address}
use Rattle.body.specs.Addresses.{address_length}
use Rattle.weight.specs.declared.families.Family.{Family}
use Rattle.weight.specs.declared.FourBytes.{FourBytes}
use Rattle.weight.specs.Bytes.{four_in}
use Rattle.low_first.specs.LowFirst.{low_first}
use Rattle.inputs.specs.On.{inputs_on}
use Rattle.codes.specs.declared.table.Load.{Load}
use Rattle.codes.specs.declared.table.Row.{Row}
use Rattle.codes.specs.declared.table.Row.TheVariants.{Empty, Serial, Number, Status, Weight, Inputs, Outputs, Text, Event, Converter, Error}
use Rattle.meaning.specs.declared.meaning.What.{What}
use Rattle.meaning.specs.declared.meaning.What.TheVariants as says
use Rattle.meaning.specs.Fields.{read_in}
use Rattle.weight.specs.declared.Reading.{Reading}
use Rattle.refusal.specs.declared.Refusal.{Refusal}

-- "For C4 the library also tells how many of the 32 inputs are on."
unfoldable pub on_in : List ℕ → ℕ
on_in data' = inputs_on (get_or data' 0 0) (get_or data' 1 0) (get_or data' 2 0) (get_or data' 3 0)

-- a weight that could be read, with its four bytes; one that could not is refused by 8 and says nothing
abbrev pub weighed : Load → FourBytes → Result Reading Refusal → What
weighed load bytes (Ok reading) = says.Weight (record { load = load; bytes = bytes; reading = reading })
weighed load bytes (Err why) = says.Nothing

-- where in a body the data begin: behind the address and the code
abbrev pub data_from : Address → ℕ
data_from address = address_length address + 1

-- the data begin at place `from` of the body; a weight is read by the family of its line
abbrev pub meaning : Family → Option Row → ℕ → List ℕ → What
meaning family None from data' = says.Nothing
meaning family (Some Empty) from data' = says.Nothing
meaning family (Some Serial) from data' = says.Serial (low_first data')
meaning family (Some (Number numbers)) from data' = says.Number (get_or data' 0 0)
meaning family (Some Status) from data' = says.Status (get_or data' 0 0)
meaning family (Some (Weight load)) from data' = weighed load (four_in family data') (read_in family data')
meaning family (Some Inputs) from data' = says.Inputs (low_first data') (on_in data')
meaning family (Some Outputs) from data' = says.Outputs (low_first data')
meaning family (Some (Text numbers)) from data' = says.Text (get_or data' 0 0) (from + 2) (from + length data')
meaning family (Some Event) from data' = says.Event (get_or data' 0 0) (from + 1) (from + length data')
meaning family (Some Converter) from data' = says.Converter (low_first data')
meaning family (Some Error) from data' = says.Error (get_or data' 0 0)
