-- 02, request 4: "The loadmaster asks whether a weight was net mode or the second platform." Which bit answers a question, and whether the family has
-- such a bit, is read off the table of families (`terminal`).
use Rattle.std.specs.Prelude.{ℕ, Bool, true, false, cond, eqb, Result, Ok, Err, Option, Some, None}
use Rattle.refusal.specs.declared.Refusal.TheVariants.{FieldOutside}
use Rattle.weight.specs.declared.Reading.{Reading}
use Rattle.weight.specs.Families.{Called, plain_bit, key_code, net_mode, event, scale_number, reserved, terminal}
use Rattle.weight.specs.Bytes.{in_range}
use Rattle.terminal_mode.specs.declared.Mode.{Mode}
use Rattle.refusal.specs.declared.Refusal.{Refusal}

-- a number for each name, so that two names can be compared
abbrev pub rank : Called → ℕ
rank plain_bit = 0
rank key_code = 1
rank net_mode = 2
rank event = 3
rank scale_number = 4
rank reserved = 5

-- whether two bits are called the same
abbrev pub same : Called → Called → Bool
same a b = eqb (rank a) (rank b)

-- "current scale number": 0 or 1
abbrev pub scale : Bool → Option ℕ
scale true = Some 1
scale false = Some 0

-- what the bit that is called so tells: bit 6, bit 5, or that the family has no such bit
abbrev pub asked : {A : Type 0} → Called → (Bool → A) → A → Reading → A
asked called tells none reading =
    cond (same called (terminal reading.family).sixth) (tells reading.bit6)
    (cond (same called (terminal reading.family).fifth) (tells reading.bit5) none)

-- was it in net mode, which platform, was a key code or an event there
abbrev pub mode_by_family : Reading → Mode
mode_by_family reading = record {
  net = asked net_mode Some None reading;
  platform = asked scale_number scale None reading;
  key = asked key_code Some None reading;
  event = asked event Some None reading;
}

-- 8 first, as wherever a reading is used
unfoldable pub mode_of : Reading → Result Mode Refusal
mode_of reading = cond (in_range reading) (Ok (mode_by_family reading)) (Err FieldOutside)
