-- 01, "Weight": "CON: bit 7 minus, 6 and 5 carried as two plain bits (the documents disagree on them), 4 settled, 3 overload, 2 to 0 the
-- digits after the point, 0 to 7." What bits 6 and 5 mean, the family says (Families). The layout is `bit_of` and the three bits below it. Reading
-- and writing both use it, for every family.
use Rattle.std.specs.Prelude.{ℕ, ◌+◌, ◌/◌, ◌%◌, ◌^◌, Bool, true, false, eqb}
use Rattle.weight.specs.declared.families.Family.{Family}
use Rattle.weight.specs.declared.Reading.{Reading}

-- the marks of the status byte
pub data Mark : Type 0 where
  minus sixth fifth settled overload : Mark

-- the bit at which a mark stands
abbrev pub bit_of : Mark → ℕ
bit_of minus = 7
bit_of sixth = 6
bit_of fifth = 5
bit_of settled = 4
bit_of overload = 3

-- whether a mark is set in a status byte
abbrev pub marked : Mark → ℕ → Bool
marked mark con = eqb (con / 2 ^ bit_of mark % 2) 1

-- a place's weight, where its mark is set
abbrev pub on_at : Bool → ℕ → ℕ
on_at true place = place
on_at false place = 0

-- the reading of a number and a status byte, by a family
abbrev pub reading_of : Family → ℕ → ℕ → Reading
reading_of family number con = record {
  minus = marked minus con;
  number = number;
  point = con % 2 ^ 3;
  bit6 = marked sixth con;
  bit5 = marked fifth con;
  settled = marked settled con;
  overload = marked overload con;
  family = family;
}

-- the status byte of a reading
abbrev pub status_of : Reading → ℕ
status_of reading =
    on_at reading.minus (2 ^ bit_of minus) + on_at reading.bit6 (2 ^ bit_of sixth) + on_at reading.bit5 (2 ^ bit_of fifth)
    + on_at reading.settled (2 ^ bit_of settled) + on_at reading.overload (2 ^ bit_of overload) + reading.point
