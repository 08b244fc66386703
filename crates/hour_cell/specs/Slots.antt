-- 02, request 6: "for each of seven weekdays and 24 hours"; "Time 0 of the log is a Monday midnight."
use Rattle.std.specs.Prelude.{ℕ, ◌/◌, ◌%◌}
use Rattle.hour_cell.specs.declared.slots.Slot.{Slot}

-- the weekday of a time in seconds, 0 for Monday, and its hour
unfoldable pub slot_of : ℕ → Slot
slot_of time = record { weekday = time / 86400 % 7; hour = time / 3600 % 24 }
