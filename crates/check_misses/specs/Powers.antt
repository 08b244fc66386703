-- 02, request 9, of the polynomial that the check goes by: "the 255 powers of x under the polynomial, each the previous one doubled and folded". If a
-- body has a single 1, the register ends as the power of x of its place. So the powers tell what a bit that is turned over does to the check.
use Rattle.std.specs.Prelude.{ℕ, zero, suc}
use Rattle.check_byte.specs.Register.{shift_in}

unfoldable pub power : ℕ → ℕ
power zero = 1
power (suc place) = shift_in (power place) 0
