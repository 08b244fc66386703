-- Shown: what is heard where one bad bit on the wire makes a false FF, and what one bad bit in a short body earns.
-- Why: by computing.
use mathlib.Core.Path.{refl}
use Rattle.check_byte.specs.Register.{shift_in, feed_bits, feed_byte, feed_all, received}
use Rattle.body.specs.Addresses.{legal, address_in}
use Rattle.body.specs.Body.{short, judged, judged_lent}
use Rattle.line.specs.Listener.{tick, keep, ended, hear_in, hear, heard_then, events}
use Rattle.check_misses.specs.Places.{byte_around, bit_at, turned_over, differing_below}
use Rattle.check_misses.specs.JudgedShown.{FalseFF, FalseFrame, AddedZero, TurnedShown}

pub false_ff : FalseFF
unfolding differing_below bit_at byte_around events heard_then hear hear_in ended keep tick judged short legal address_in received feed_all feed_byte feed_bits shift_in
false_ff = record { one_bit = refl; heard = refl; then_heard = refl }

pub false_frame : FalseFrame
unfolding differing_below bit_at byte_around events heard_then hear hear_in ended keep tick judged short legal address_in received feed_all feed_byte feed_bits shift_in
false_frame = record { one_bit = refl; heard = refl; then_heard = refl }

pub added_zero : AddedZero
unfolding events heard_then hear hear_in ended keep tick judged short legal address_in received feed_all feed_byte feed_bits shift_in
added_zero = record { heard = refl }

pub turned_shown : TurnedShown
unfolding turned_over byte_around judged_lent short legal address_in received feed_all feed_byte feed_bits shift_in
turned_shown =
    record { good = refl; check = refl; address = refl; no_address = refl; five_good = refl; five = refl; six_good = refl; six = refl }
