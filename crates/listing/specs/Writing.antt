-- Writing a line into lent room: 8 if an entry holds a reading out of its ranges or a refusal that no line can meet, then 9, "lent room
-- shorter than needed".
use Rattle.std.specs.Prelude.{ℕ, ◌+◌, ◌≤◌, not, List, length, Option}
use Rattle.refusal.specs.declared.Refusal.TheVariants.{FieldOutside}
use Rattle.refusal.specs.Numbers.{refuse_if}
use Rattle.room.specs.Writing.{Left, judged_room, wrote, written}
use Rattle.entries.specs.declared.entries.Entry.{Entry}
use Rattle.entries.specs.Entries.{sound}
use Rattle.listing.specs.Lines.{line_of, total_of}

-- 8, 9
unfoldable pub written_line : ℕ → Option Entry → List ℕ → Left
written_line number entry room = wrote (refuse_if (not (sound entry)) FieldOutside (judged_room (length (line_of number entry)) room)) (line_of number entry) room

unfoldable pub written_total : ℕ → ℕ → ℕ → List ℕ → Left
written_total total weights refused room = written (total_of total weights refused) room

-- a line is put together from its end in an array of 85 bytes, as long as the longest line: so many bytes fit ahead of what stands
abbrev pub HasRoom : ℕ → List ℕ → Type 0
HasRoom count stands = length stands + count ≤ 85
