-- 01, "What the answers mean": "A message is then judged 6, 7, 8." The reader and the writer both judge in this way, in a role and
-- by the family of the line.
use Rattle.std.specs.Prelude.{ℕ, Bool, not, List, Result, Ok, Err, Option}
use Rattle.refusal.specs.declared.Refusal.TheVariants.{CodeUnknown, LengthWrong, FieldOutside}
use Rattle.refusal.specs.Numbers.{refuse_if, by_verdict}
use Rattle.body.specs.declared.addresses.Address.{Address}
use Rattle.weight.specs.declared.families.Family.{Family}
use Rattle.codes.specs.declared.table.Role.{Role}
use Rattle.codes.specs.declared.table.Row.{Row}
use Rattle.meaning.specs.declared.meaning.What.{What}
use Rattle.codes.specs.Table.{row_of, in_table}
use Rattle.codes.specs.Lengths.{length_of, length_right}
use Rattle.meaning.specs.Fields.{fields_right}
use Rattle.meaning.specs.Meaning.{data_from, meaning}
use Rattle.refusal.specs.declared.Refusal.{Refusal}

-- 7, then 8
unfoldable pub judged_data : Family → Option Row → List ℕ → Result (Unit {0}) Refusal
judged_data family row data' = refuse_if (not (length_right (length_of row) data')) LengthWrong (refuse_if (not (fields_right family row data')) FieldOutside (Ok tt))

-- one judge after another: what the first refuses stays refused
abbrev pub judged_then : Result (Unit {0}) Refusal → Result (Unit {0}) Refusal → Result (Unit {0}) Refusal
judged_then (Ok tt) after = after
judged_then (Err why) after = Err why

-- 6
unfoldable pub judged_code : Role → ℕ → Result (Unit {0}) Refusal
judged_code role code = refuse_if (not (in_table (row_of role code))) CodeUnknown (Ok tt)

-- 6 ahead of 7, 8
unfoldable pub judged_message : Role → Family → ℕ → List ℕ → Result (Unit {0}) Refusal
judged_message role family code data' = judged_then (judged_code role code) (judged_data family (row_of role code) data')

-- what is said under a verdict
abbrev pub telling : Result (Unit {0}) Refusal → What → Result What Refusal
telling verdict what = by_verdict Ok Err verdict what

-- what code and data say, or the refusal they earn
unfoldable pub told : Role → Family → Address → ℕ → List ℕ → Result What Refusal
told role family address code data' = telling (judged_message role family code data') (meaning family (row_of role code) (data_from address) data')

-- its last step, after 6 and 7 are passed
abbrev pub within : Bool → What → Result What Refusal
within right what = telling (refuse_if (not right) FieldOutside (Ok tt)) what

unfoldable pub said : Family → Option Row → ℕ → List ℕ → Result What Refusal
said family row from data' = within (fields_right family row data') (meaning family row from data')
