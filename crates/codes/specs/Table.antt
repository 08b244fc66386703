-- 01, "Messages": the table. It says for each code what its data are in a request and in a reply. Reading, writing and the laws use `row_of`
-- and name no code. So a code is added, changed or retired in its line here.
use Rattle.std.specs.Prelude.{ℕ, Bool, cond, ◌||◌, List, [], ◌∷◌, eqb, leb, Option, Some, None, is_some}
use Rattle.codes.specs.declared.table.Role.{Role}
use Rattle.codes.specs.declared.table.Role.TheVariants.{Request, Reply}
use Rattle.codes.specs.declared.table.Load.TheVariants.{Net, Gross}
use Rattle.codes.specs.declared.table.Num.{Num}
use Rattle.codes.specs.declared.table.Num.TheVariants.{Printers, Indicators, Devices}
use Rattle.codes.specs.declared.table.Row.{Row}
use Rattle.codes.specs.declared.table.Row.TheVariants.{Empty, Serial, Number, Status, Weight, Inputs, Outputs, Text, Event, Converter, Error}
use Rattle.codes.specs.declared.table.Line.{Line}

-- a code, and its line: request data, reply data
pub record Coded : Type 0 where
  pub code : ℕ
  pub line : Line

-- a code that has data in both roles
abbrev pub row : ℕ → Row → Row → Coded
row code request reply = record { code = code; line = record { 0 = Some request; 1 = Some reply } }

-- a code that stands in replies alone
abbrev pub reply_row : ℕ → Row → Coded
reply_row code reply = record { code = code; line = record { 0 = None; 1 = Some reply } }

abbrev pub table : List Coded
table =
    row 0xA1 Empty Serial
    ∷ row 0xBF (Number Printers) Status
    ∷ row 0xC0 Empty Empty
    ∷ row 0xCD Empty Empty
    ∷ row 0xCE Empty Empty
    ∷ row 0xC2 Empty (Weight Net)
    ∷ row 0xC3 Empty (Weight Gross)
    ∷ row 0xC4 Empty Inputs
    ∷ row 0xC5 Empty Outputs
    ∷ row 0xC6 (Number Indicators) (Text Indicators)
    ∷ row 0xC7 Empty Event
    ∷ row 0xCC Empty Converter
    ∷ row 0xD0 Outputs Empty
    ∷ row 0xD2 (Text Devices) Empty
    ∷ reply_row 0xEE Error
    ∷ []

-- the line of a code, in some table
unfoldable pub line_in : List Coded → ℕ → Line
line_in [] code = record { 0 = None; 1 = None }
line_in (entry ∷ rest) code = cond (eqb code entry.code) entry.line (line_in rest code)

unfoldable pub line_of : ℕ → Line
line_of code = line_in table code

-- the column of a role
abbrev pub column : Role → Line → Option Row
column Request line = line.0
column Reply line = line.1

unfoldable pub row_of : Role → ℕ → Option Row
row_of role code = column role (line_of code)

-- refusal 6: "code not in the table for that role"
abbrev pub in_table : Option Row → Bool
in_table row = is_some row

-- the values of NUM, by what it names. BF: "03 or 13"; "C6 follows 001: NUM is 1F, 20 or 21. D2 follows 000 and 001: NUM is 01, 02, 03, 13,
-- 20, or E0 to FF."
abbrev pub among : Num → ℕ → Bool
among Printers number = eqb number 0x03 || eqb number 0x13
among Indicators number = eqb number 0x1F || eqb number 0x20 || eqb number 0x21
among Devices number = eqb number 0x01 || eqb number 0x02 || eqb number 0x03 || eqb number 0x13 || eqb number 0x20 || leb 0xE0 number
