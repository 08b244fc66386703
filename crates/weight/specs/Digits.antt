-- 01, "Weight": "W0 is the low byte; each byte holds two decimal digits, high half first; a half above 9 is refusal 8."
use Rattle.std.specs.Prelude.{ℕ, ◌+◌, ◌*◌, ◌/◌, ◌%◌, Bool, ◌&&◌, leb}

-- both halves of a byte are digits
abbrev pub decimal : ℕ → Bool
decimal byte = leb (byte / 16) 9 && leb (byte % 16) 9

abbrev pub all_decimal : ℕ → ℕ → ℕ → Bool
all_decimal w0 w1 w2 = decimal w0 && decimal w1 && decimal w2

-- the two digits of a byte, high half first
abbrev pub two_digits : ℕ → ℕ
two_digits byte = byte / 16 * 10 + byte % 16

-- the six digits of three bytes as one number, W0 the low byte
abbrev pub digits_of : ℕ → ℕ → ℕ → ℕ
digits_of w0 w1 w2 = two_digits w2 * 10000 + two_digits w1 * 100 + two_digits w0

-- the byte of a number's last two digits
abbrev pub pair_of : ℕ → ℕ
pair_of number = number / 10 % 10 * 16 + number % 10
