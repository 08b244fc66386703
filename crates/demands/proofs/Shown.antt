-- Shown: the words of demand 3 say on small wires what they are meant to say.
-- Why: each is computed from the definitions.
use mathlib.Core.Path.{refl}
use native.Mathlib.Omega.{arith}
use lib.Dec.{lit≤}
use Rattle.std.proofs.lemmas.Grind.{common_steps}
use Rattle.check_byte.specs.Register.{shift_in, feed_bits, feed_byte, feed_all, received}
use Rattle.low_first.specs.LowFirst.{low_first}
use Rattle.body.specs.Addresses.{legal, address_in}
use Rattle.body.specs.Body.{short, judged}
use Rattle.frame.specs.Stuffing.{stuffed_byte, stuffed}
use Rattle.line.specs.Listener.{tick, keep, ended, hear_in, hear, heard_then, events, after}
use Rattle.line.specs.Readers.{listening, taken}
use Rattle.demands.specs.Wire.{on_wire, wire_of, any_ff, heard_of, any_refused, frames_of, over_blocks}
use Rattle.demands.specs.Reading.{after_bytes, heard_by}
use Rattle.demands.specs.Shown.{Frames, HeardFrom, Tests, Told, Sharing, Longest, Resting, Shown}

frames : Frames
unfolding shift_in feed_bits feed_byte feed_all received legal address_in short judged stuffed_byte stuffed on_wire wire_of
frames = record {
  enough = (
    record { shared = record { good = refl; most = lit≤ tt; behind = lit≤ tt }; ahead = lit≤ tt },
    (record { shared = record { good = refl; most = lit≤ tt; behind = lit≤ tt }; ahead = lit≤ tt }, tt),
  );
  first = lit≤ tt;
  no_first = tt;
  none_ahead = λ p. omega (arith, p.ahead);
  laid = refl;
  cut_off = refl;
}

heard_from : HeardFrom
unfolding stuffed_byte stuffed on_wire any_ff heard_of frames_of
heard_from = record { start = refl; first_byte = refl; last_ff = refl; second_byte = refl; all = refl }

tests : Tests
unfolding any_ff any_refused
tests = record { ff = refl; no_ff = refl; refusal = refl; no_refusal = refl }

told : Told
unfolding shift_in feed_bits feed_byte feed_all received legal address_in short judged tick keep ended hear_in hear heard_then events after listening taken over_blocks after_bytes heard_by
told = record { blocks = refl; by_reader = refl; reader = refl }

shared : Sharing
unfolding shift_in feed_bits feed_byte feed_all received low_first legal address_in short judged stuffed_byte stuffed on_wire wire_of any_ff heard_of tick keep ended hear_in hear heard_then events
shared = grind (arith, common_steps)

of_longest : Longest
unfolding shift_in feed_bits feed_byte feed_all received legal address_in short judged
of_longest = grind (arith, common_steps)

resting : Resting
resting = record { seeks = tt; at_delimiter = tt; keeps = λ p. p; holds = λ p. p }

pub shown : Shown
shown = grind (arith, common_steps, frames, heard_from, of_longest, shared, tests, told)
