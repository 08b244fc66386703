-- Shown: the words of the capture walker say on small blocks what they are meant to say.
-- Why: each is computed from the definitions.
use mathlib.Core.Path.{refl}
use native.Mathlib.Omega.{arith}
use Rattle.std.proofs.lemmas.Grind.{common_steps}
use Rattle.check_byte.specs.Register.{shift_in, feed_bits, feed_byte, feed_all, received}
use Rattle.body.specs.Addresses.{legal, address_in}
use Rattle.body.specs.Body.{short, judged}
use Rattle.line.specs.Listener.{tick, keep, ended, hear_in, hear, after}
use Rattle.line.specs.Readers.{listening, taken, fed_from, fed_lent}
use Rattle.capture_walker.specs.Walking.{start_at, step_from}
use Rattle.demands.specs.CaptureWalks.{ends, goes}
use Rattle.demands.specs.WalksShown.{Starts, Answers, FromInside, WholeWalks, GoneOn, Grown, WalkEnds, Leavings, WalksShown}
use Rattle.demands.proofs.WalkersWalk.{by_walker}

starts : Starts
unfolding start_at
starts = grind (arith, common_steps)

answers : Answers
unfolding shift_in feed_bits feed_byte feed_all received legal address_in short judged tick keep ended hear_in hear listening taken fed_from fed_lent start_at step_from
answers = grind (arith, common_steps)

from_inside : FromInside
unfolding shift_in feed_bits feed_byte feed_all received legal address_in short judged tick keep ended hear_in hear listening taken fed_from fed_lent start_at step_from
from_inside = grind (arith, common_steps)

whole_walks : WholeWalks
unfolding shift_in feed_bits feed_byte feed_all received legal address_in short judged tick keep ended hear_in hear listening taken fed_from fed_lent start_at step_from
whole_walks = record {
  lends = λ _. refl;
  told = goes refl (goes refl (ends refl));
  lent_at_second = goes refl (ends refl);
  lent_at_last = goes refl (goes refl (ends refl));
  by_walker = λ block is. by_walker block (rw is (goes refl (ends refl)));
  to_its_end = λ block is. by_walker block (rw is (goes refl (goes refl (ends refl))));
}

gone_on : GoneOn
unfolding shift_in feed_bits feed_byte feed_all received legal address_in short judged tick keep ended hear_in hear after start_at
gone_on = grind (arith, common_steps)

of_grown : Grown
unfolding shift_in feed_bits feed_byte feed_all received legal address_in short judged tick keep ended hear_in hear listening taken fed_from fed_lent start_at step_from
of_grown = record { not_yet = refl; broken = refl; behind_end = refl }

walk_ends : WalkEnds
walk_ends = record { from_start = refl; from_end = refl; from_past = refl; of_empty = refl }

leavings : Leavings
leavings = grind (arith, common_steps)

pub walks_shown : WalksShown
walks_shown = grind (arith, common_steps, answers, from_inside, gone_on, of_grown, starts, whole_walks)
