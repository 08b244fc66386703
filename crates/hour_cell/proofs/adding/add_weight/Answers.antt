-- `hour_cell::add_weight` meets its contract: 31, 8 for a value that no weight has, 23 where the count is 65,535, and otherwise one weight more.
-- Why: the tests are the definition's; the sum of a sound cell and such a value fits 64 bits.
use Rattle.std.proofs.Common.{◌≡◌, ◌∙◌, ap, ap₂, ◌≤◌, true, rules, arith}
use Rattle.std.proofs.lemmas.Grind.{common_steps}
use lib.IntN.{nat_abs, ◌+ℤ◌}
use mir.Syntax.{w64}
use mir.Val.{SFits, to_z, of_z}
use mir.ValLaws.{to_z-of_z}
use Rattle.hour_cell.specs.Cells.{sound, with_weight}
use Rattle.hour_cell.proofs.Sums.{grown_fits}
use Rattle.hour_cell.proofs.adding.add_weight.Goals as goal
use Rattle.hour_cell.proofs.adding.add_weight.Goals.{After-struct_told-1}

-- both numbers are read back from their bits as themselves
sum_told : (c : After-struct_told-1) → to_z w64 (of_z w64 c.args.cell.sum) +ℤ to_z w64 (of_z w64 c.args.tenths) ≡ c.args.cell.sum +ℤ c.args.tenths
sum_told c = ap₂ ◌+ℤ◌ (to_z-of_z w64 c.args.cell.sum (search rules)) (to_z-of_z w64 c.args.tenths c.ranges.tenths)

within : (c : After-struct_told-1) → nat_abs c.args.tenths ≤ 9999990000000
within c =
    let size_is = c.size_of.ensures ∙ ap nat_abs (to_z-of_z w64 _ c.ranges.tenths) in
    omega (arith, size_is, c.if-size_of-gt-LARGEST.false)

sum_fits : (c : After-struct_told-1) → SFits w64 (c.args.cell.sum +ℤ c.args.tenths)
sum_fits c =
    let is_sound_cell : sound c.args.cell ≡ true = search rules in
    grown_fits c.args.cell c.args.tenths is_sound_cell (within c) (search rules)

pub overflow_add-sum : goal.overflow_add-sum
overflow_add-sum c = rw (sum_told c) (sum_fits c)

pub returns : goal.returns
unfolding with_weight
returns c =
    let small = within c in
    rw (sum_told c, to_z-of_z w64 _ (sum_fits c)) (grind (arith, common_steps))
