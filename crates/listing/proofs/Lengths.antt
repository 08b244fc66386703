-- Shown: how long a line can be, so that a caller knows the room that is always enough: 85 bytes.
-- Why: a number has at most 20 digits, and every other piece a length of its own.
use Rattle.std.specs.Prelude.{Option, Some, None}
use Prim.Native.Nat.{ℕ, ◌≤◌}
use mathlib.Core.Path.{◌≡◌, refl}
use mathlib.Core.Bool.{Bool, true, false, cond}
use native.Mathlib.Omega.{arith}
use lib.ListN.{length, length-append}
use Rattle.refusal.specs.Numbers.{number_of}
use Rattle.body.specs.declared.addresses.Address.{Address}
use Rattle.body.specs.declared.addresses.Address.TheVariants.{Short, Serial}
use Rattle.codes.specs.declared.table.Load.{Load}
use Rattle.codes.specs.declared.table.Load.TheVariants.{Net, Gross}
use Rattle.weight.specs.declared.Reading.{Reading}
use Rattle.weight.specs.Families.{Called, plain_bit, key_code, net_mode, event, scale_number, reserved, terminal}
use Rattle.entries.specs.declared.entries.Entry.{Entry}
use Rattle.entries.specs.declared.entries.Entry.TheVariants.{Weight, Message, Refused}
use Rattle.listing.specs.Texts.{spelt, decimal, six_digits, address_text}
use Rattle.listing.specs.Lines.{rest, load_text, fifth_fields, mode_fields, reading_fields, line_of, total_of}
use Rattle.listing.proofs.Decimals.{decimal_size}

pub load_length : (load : Load) → length (load_text load) ≤ 5
load_length Net = omega arith
load_length Gross = omega arith

pub decimal_length : (number : ℕ) → length (decimal number) ≤ 20
decimal_length number = (decimal_size number).1

pub address_length_lem : (address : Address) → length (address_text address) ≤ 22
address_length_lem (Short address) = omega (arith, (decimal_size address).1)
address_length_lem (Serial serial) = omega (arith, (decimal_size serial).1)

-- hyphens stand for as many digits
shown_length : (over : Bool) (number : ℕ) → length (cond over (spelt "------") (six_digits number)) ≡ 6
shown_length true number = refl
shown_length false number = refl

-- the last field and the end of the line
mode_length : (called : Called) (set : Bool) → length (rest (fifth_fields called set)) ≤ 8
mode_length net_mode true = omega arith
mode_length net_mode false = omega arith
mode_length scale_number true = omega arith
mode_length scale_number false = omega arith
mode_length plain_bit set = omega arith
mode_length key_code set = omega arith
mode_length event set = omega arith
mode_length reserved set = omega arith

pub reading_mode_length : (reading : Reading) → length (rest (mode_fields reading)) ≤ 8
reading_mode_length reading = mode_length (terminal reading.family).fifth reading.bit5

pub reading_length : (reading : Reading) → length (rest (reading_fields reading)) ≤ 23
reading_length reading = simp length-append (omega (arith, shown_length reading.overload reading.number, reading_mode_length reading))

pub line_length : (number : ℕ) (entry : Option Entry) → length (line_of number entry) ≤ 79
line_length number None = omega arith
line_length number (Some (Weight load address reading)) =
    simp length-append
    (omega (arith, (decimal_size number).1, load_length load, address_length_lem address, shown_length reading.overload reading.number, mode_length (terminal reading.family).fifth reading.bit5))
line_length number (Some (Message address code)) = simp length-append (omega (arith, (decimal_size number).1, address_length_lem address))
line_length number (Some (Refused why)) = simp length-append (omega (arith, (decimal_size number).1, (decimal_size (number_of why)).1))

pub total_length : (total weights refused : ℕ) → length (total_of total weights refused) ≤ 85
total_length total weights refused =
    simp length-append (omega (arith, (decimal_size total).1, (decimal_size weights).1, (decimal_size refused).1))

-- how many bytes each piece adds to a line
pub ruleset sizes = (length-append, decimal_length, address_length_lem, load_length, reading_mode_length, reading_length)
