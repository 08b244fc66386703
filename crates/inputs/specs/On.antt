-- 01, "Messages": "For C4 the library also tells how many of the 32 inputs are on." Each bit of the four bytes is one input.
use Rattle.std.specs.Prelude.{ℕ, zero, suc, ◌+◌, ◌/◌, ◌%◌, ◌^◌}

-- the sum of the k lowest bits of n, each 0 or 1
unfoldable pub sum_of_bits : ℕ → ℕ → ℕ
sum_of_bits zero n = 0
sum_of_bits (suc k) n = sum_of_bits k n + n / 2 ^ k % 2

-- the sum over the eight bits of each of the four bytes
unfoldable pub inputs_on : ℕ → ℕ → ℕ → ℕ → ℕ
inputs_on first second third fourth = sum_of_bits 8 first + sum_of_bits 8 second + sum_of_bits 8 third + sum_of_bits 8 fourth
