-- Shown: the table of steps has 10^(7 - point) at each point from 0 to 7.
-- Why: a test that is computed at every number below a bound holds at each of them.
use Prim.Native.Nat.{ℕ, ◌-◌, ◌^◌, ◌<◌}
use mathlib.Core.Path.{◌≡◌}
use mathlib.Core.Bool.{Bool}
use mathlib.Core.List.{List, [], ◌∷◌}
use lib.Dec.{eqb, eqb→eq}
use lib.ListN.{get_or}
use Rattle.laws.proofs.Computed.{below}

abbrev steps : List ℕ
steps = 10000000 ∷ 1000000 ∷ 100000 ∷ 10000 ∷ 1000 ∷ 100 ∷ 10 ∷ 1 ∷ []

abbrev right : ℕ → Bool
right point = eqb (get_or steps point 0) (10 ^ (7 - point))

pub step_at : (point : ℕ) → point < 8 → get_or steps point 0 ≡ 10 ^ (7 - point)
step_at point h = eqb→eq _ _ (below right 8 tt point h)
