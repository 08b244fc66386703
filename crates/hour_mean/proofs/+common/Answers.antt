-- `hour_mean::common` meets its contract: it answers the greatest number that divides both.
-- Why: dividing keeps the common divisors, and the remainder is where Euclid goes on.
use mathlib.Core.Path.{◌∙◌, sym}
use native.Mathlib.Nat.{pos_of_ne-zero}
use Rattle.hour_mean.proofs.Greatest.{euclid_ends, euclid_goes_on}
use Rattle.hour_mean.proofs.+common.Goals as goal

pub returns-then-left-eq0 : goal.returns-then-left-eq0
returns-then-left-eq0 t c = sym (euclid_ends _ _ c.requires c.if-left-eq0.true)

pub returns : goal.returns
returns t c = c.common.ensures ∙ sym (euclid_goes_on _ _ c.requires (pos_of_ne-zero c.if-left-eq0.false))
