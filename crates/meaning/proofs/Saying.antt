-- Shown: only the constructor of a weight says one; a message that says a weight carries its data's four bytes and their reading.
-- Why: case by case; only the row of a weight says one, and it says what was read.
use Rattle.std.specs.Prelude.{Result, Ok, Err, Option, Some, None}
use Prim.Native.Nat.{ℕ}
use mathlib.Core.Path.{◌≡◌, refl, ap}
use mathlib.Core.List.{List}
use Rattle.weight.specs.declared.families.Family.{Family}
use Rattle.weight.specs.Bytes.{four_in, read_of}
use Rattle.codes.specs.declared.table.Load.{Load}
use Rattle.codes.specs.declared.table.Row.{Row}
use Rattle.codes.specs.declared.table.Row.TheVariants.{Empty, Serial, Number, Status, Weight, Inputs, Outputs, Text, Event, Converter, Error}
use Rattle.meaning.specs.declared.meaning.SaidWeight.{SaidWeight}
use Rattle.meaning.specs.declared.meaning.What.{What}
use Rattle.meaning.specs.declared.meaning.What.TheVariants as says
use Rattle.meaning.specs.Meaning.{weighed, meaning}
use Rattle.meaning.specs.Weights.{weight_said}
use Rattle.weight.specs.declared.Reading.{Reading}
use Rattle.refusal.specs.declared.Refusal.{Refusal}

-- the view of a weight is of a weight alone
pub says_that : (what : What) (said : SaidWeight) → weight_said what ≡ Some said → what ≡ says.Weight said
says_that (says.Weight mine) said e = cc
says_that says.Nothing said e = cc
says_that (says.Serial serial) said e = cc
says_that (says.Number number) said e = cc
says_that (says.Status status) said e = cc
says_that (says.Inputs bits on) said e = cc
says_that (says.Outputs bits) said e = cc
says_that (says.Text number from to) said e = cc
says_that (says.Event event from to) said e = cc
says_that (says.Converter number) said e = cc
says_that (says.Error error) said e = cc

-- ---- a row whose data say a weight is that weight's; the bytes are the data's, and the reading is that of the bytes

pub record Carried (family : Family) (row : Option Row) (data' : List ℕ) (said : SaidWeight) : Type 0 where
  pub row_is : row ≡ Some (Weight said.load)
  pub bytes_are : four_in family data' ≡ said.bytes
  pub reads : read_of said.bytes ≡ Ok said.reading

carried_read : (family : Family) (load : Load) (data' : List ℕ) (read : Result Reading Refusal) (said : SaidWeight) → read_of (four_in family data') ≡ read
    → weight_said (weighed load (four_in family data') read) ≡ Some said → Carried family (Some (Weight load)) data' said
carried_read family load data' (Ok reading) said was e =
    let same : record { load = load; bytes = four_in family data'; reading = reading } ≡ said = cc in
    record {
      row_is = ap (λ (one : SaidWeight). Some (Weight one.load)) same;
      bytes_are = ap (λ (one : SaidWeight). one.bytes) same;
      reads = rw (← same) was;
    }
carried_read family load data' (Err why) said was e = record { row_is = cc; bytes_are = cc; reads = cc }

pub carried : (family : Family) (row : Option Row) (from : ℕ) (data' : List ℕ) (said : SaidWeight) → weight_said (meaning family row from data') ≡ Some said → Carried family row data' said
carried family (Some (Weight load)) from data' said e = carried_read family load data' (read_of (four_in family data')) said refl e
carried family None from data' said e = record { row_is = cc; bytes_are = cc; reads = cc }
carried family (Some Empty) from data' said e = record { row_is = cc; bytes_are = cc; reads = cc }
carried family (Some Serial) from data' said e = record { row_is = cc; bytes_are = cc; reads = cc }
carried family (Some (Number numbers)) from data' said e = record { row_is = cc; bytes_are = cc; reads = cc }
carried family (Some Status) from data' said e = record { row_is = cc; bytes_are = cc; reads = cc }
carried family (Some Inputs) from data' said e = record { row_is = cc; bytes_are = cc; reads = cc }
carried family (Some Outputs) from data' said e = record { row_is = cc; bytes_are = cc; reads = cc }
carried family (Some (Text numbers)) from data' said e = record { row_is = cc; bytes_are = cc; reads = cc }
carried family (Some Event) from data' said e = record { row_is = cc; bytes_are = cc; reads = cc }
carried family (Some Converter) from data' said e = record { row_is = cc; bytes_are = cc; reads = cc }
carried family (Some Error) from data' said e = record { row_is = cc; bytes_are = cc; reads = cc }
