-- `hour_mean::lowest_terms` meets its contract: the sum over the count in lowest terms.
-- Why: both are divided by what is common to them.
use Rattle.std.proofs.Common.{◌≡◌, ◌^◌, ◌<◌, ◌∙◌, arith, rules}
use mir.Syntax.{w64}
use mir.Val.{SFits}
use mir.ValLaws.{to_z-of_z}
use lib.IntN.{nat_abs}
use Rattle.hour_mean.specs.Means.{greatest_common, lowest}
use Rattle.hour_mean.proofs.Parts.{small, fits, told, quotient_is}
use Rattle.hour_mean.proofs.lowest_terms.Goals as goal
use Rattle.hour_mean.proofs.lowest_terms.Goals.{After-common-shared}

sum_fits : (c : After-common-shared) → SFits w64 c.args.sum
sum_fits c = search rules

some : (c : After-common-shared) → c.args.count ≡ 0 → ⊥
some c none = omega arith

shared_is : (c : After-common-shared) → c.common-shared.result ≡ greatest_common (nat_abs c.args.sum) c.args.count
shared_is c = c.common-shared.ensures ∙ rw (c.size_of.ensures, c.from.ensures, to_z-of_z w64 c.args.sum (sum_fits c))

shared_small : (c : After-common-shared) → c.common-shared.result < 2 ^ 63
shared_small c = small c.args.count _ _ (search rules) (some c) (shared_is c)

pub overflow_cast-shared : goal.overflow_cast-shared
overflow_cast-shared c = record { sfits = shared_small c }

pub nonzero_div-result : goal.nonzero_div-result
nonzero_div-result c =
    let at = (goal.at.nonzero_div-result c).After-common-shared in
    fits c.args.count _ _ (search rules) (some at) (shared_is at) _ (sum_fits at)

pub nonzero_div-result-2 : goal.nonzero_div-result-2
nonzero_div-result-2 c =
    let at = (goal.at.nonzero_div-result-2 c).After-common-shared in
    fits c.args.count _ _ (search rules) (some at) (shared_is at) c.from-2.result (search rules)

pub returns : goal.returns
unfolding lowest
returns c =
    let at = (goal.at.returns c).After-common-shared in
    let over = told c.args.count _ _ (search rules) (some at) (shared_is at) in
    rw (
      over c.args.sum (sum_fits at),
      over c.from-2.result (search rules),
      c.from-2.ensures,
      quotient_is c.args.sum c.common-shared.result,
      shared_is at,
    )
