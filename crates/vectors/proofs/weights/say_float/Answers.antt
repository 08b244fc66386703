-- `vectors::say_float` is safe: only a float that equals itself is asked for its bits, and a NaN does not.
use Rattle.std.proofs.Common.{◌≡◌, true, not, T, sym, true≢false}
use lib.Ieee.{Float, nan, inf, fin, eq, is_nan}
use Rattle.vectors.proofs.weights.say_float.Goals as goal

no_nan : (x : Float) → eq x x ≡ true → T (not (is_nan x))
unfolding is_nan eq
no_nan nan e = absurd (true≢false (sym e))
no_nan (inf s) e = tt
no_nan (fin s m n) e = tt

pub float_to_bits-float : goal.float_to_bits-float
float_to_bits-float c = no_nan c.args.float c.if-float.true
