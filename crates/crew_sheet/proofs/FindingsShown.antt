-- Shown: findings of the paper's bodies, at the edges of both refusals, of two bad bits, and of a body that was heard and refused.
-- Why: by computing; at the edges by the laws themselves.
use Prim.Native.Nat.{ℕ, ◌≤◌, ◌<◌}
use mathlib.Core.Path.{◌≡◌, refl}
use mathlib.Core.List.{List, [], ◌∷◌, ◌++◌}
use native.Mathlib.Omega.{arith}
use lib.Dec.{lit<, lit≤}
use lib.ListN.{length, replicate}
use Rattle.check_byte.specs.Register.{shift_in, feed_bits, feed_byte, feed_all, received}
use Rattle.body.specs.Addresses.{address_in, legal}
use Rattle.body.specs.Body.{short, judged}
use Rattle.line.specs.Listener.{tick, keep, ended, hear_in, hear, after}
use Rattle.line.specs.Readers.{listening, taken, fed_from}
use Rattle.check_misses.specs.Places.{bits_of, byte_around, bit_at, turned_over, differing_below}
use Rattle.check_misses.specs.Powers.{power}
use Rattle.bad_bit.specs.WhichBit.{passes_with, highest_below, bit_that_would, judged_for, finding}
use Rattle.crew_sheet.specs.Findings.{AskedAndFails}
use Rattle.crew_sheet.specs.FindingsShown.{PaperShown, OneByteShown, LengthsShown, TwoWouldShown, AnyAddressShown, TwoBadShown, HandedOnShown, WireHitShown, AtTheEdges}
use Rattle.bad_bit.proofs.Table.{table_has_powers}
use Rattle.crew_sheet.proofs.HandedOn.{handed_on_lem}
use Rattle.crew_sheet.proofs.Findings.{by_place, at_most_one, one_bad_told, two_bad_not_told, the_register_tells}

pub paper_shown : PaperShown
unfolding finding judged_for bit_that_would highest_below passes_with turned_over byte_around received feed_all feed_byte feed_bits shift_in
paper_shown = record { last_bit = refl; as_sent_lem = refl; code = refl }

pub one_byte_shown : OneByteShown
unfolding finding judged_for bit_that_would highest_below passes_with turned_over byte_around received feed_all feed_byte feed_bits shift_in
one_byte_shown = record { last = refl; first = refl; two = refl; ninth = refl; two_bytes = refl; right = refl }

-- a body of 31 bytes that fails by a power
ends_with : ℕ → List ℕ
ends_with last = replicate 30 0x00 ++ (last ∷ [])

first_past : AskedAndFails (ends_with 0x4E)
unfolding ends_with received feed_all feed_byte feed_bits shift_in
first_past = record { some = lit≤ tt; few = lit≤ tt; fails = λ (none : ◌≡◌ {A = ℕ} 0x4E 0). omega (arith, none) }

last_past : AskedAndFails (ends_with 0xB4)
unfolding ends_with received feed_all feed_byte feed_bits shift_in
last_past = record { some = lit≤ tt; few = lit≤ tt; fails = λ (none : ◌≡◌ {A = ℕ} 0xB4 0). omega (arith, none) }

pub lengths_shown : LengthsShown
unfolding ends_with power finding judged_for bit_that_would highest_below passes_with turned_over byte_around received feed_all feed_byte feed_bits shift_in
lengths_shown = record {
  none = refl;
  right = refl;
  first = refl;
  past = by_place (ends_with 0x4E) first_past 248 (lit< tt) refl;
  last_past = by_place (ends_with 0xB4) last_past 254 (lit< tt) refl;
  over_right = refl;
  over = refl;
  number = refl;
  number_too = refl;
}

pub two_would_shown : TwoWouldShown
unfolding turned_over byte_around received feed_all feed_byte feed_bits shift_in
two_would_shown = record { first = refl; last = refl }

pub any_address_shown : AnyAddressShown
unfolding finding judged_for bit_that_would highest_below passes_with turned_over byte_around received feed_all feed_byte feed_bits shift_in
any_address_shown = record { serial = refl; illegal = refl; delimiter = refl }

pub two_bad_shown : TwoBadShown
unfolding finding judged_for bit_that_would highest_below passes_with turned_over byte_around received feed_all feed_byte feed_bits shift_in
two_bad_shown = record { third = refl; none = refl }

pub handed_on_shown : HandedOnShown
unfolding finding judged_for bit_that_would highest_below passes_with turned_over byte_around received feed_all feed_byte feed_bits shift_in fed_from taken listening hear hear_in tick keep ended judged short address_in legal
handed_on_shown = record { event = refl; body = refl; told = refl; place = refl }

pub wire_hit_shown : WireHitShown
unfolding finding judged_for bit_that_would highest_below passes_with turned_over byte_around bit_at differing_below received feed_all feed_byte feed_bits shift_in fed_from taken listening hear hear_in tick keep ended judged short address_in legal
wire_hit_shown = record { one_bit = refl; heard = refl; told = refl }

-- ---- the laws at their edges

edge : (body : List ℕ) → length body ≡ 31 → (place : ℕ) → place < 248 → place < bits_of body
edge body long place h = omega (arith, long, h)

pub at_the_edges : AtTheEdges
unfolding ends_with after
at_the_edges = record {
  table = table_has_powers.each 254 (lit< tt);
  at_most_one = λ body long first last.
      let few : length body ≤ 31 = omega (arith, long) in
      let same = at_most_one body few 247 0 (edge body long 247 (lit< tt)) (edge body long 0 (lit< tt)) first last in
      omega (arith, same);
  one_bad = λ sent long passes. one_bad_told sent (omega (arith, long)) passes 247 (edge sent long 247 (lit< tt));
  two_bad = λ sent long passes is. (two_bad_not_told sent passes 0 247 (edge sent long 0 (lit< tt)) (edge sent long 247 (lit< tt)) 247 is).1 refl;
  nor_the_other = λ sent long passes is. (two_bad_not_told sent passes 0 247 (edge sent long 0 (lit< tt)) (edge sent long 247 (lit< tt)) 0 is).0 refl;
  register = the_register_tells (ends_with 0xB4) last_past;
  not_ended = λ failed. omega (arith, failed.by_delimiter);
  no_byte = λ listener block kept array failed. let some = failed.some in omega (arith, some);
  served = λ listener block used array failed. (handed_on_lem listener block used 31 array failed).served (lit≤ tt);
  long = λ listener block used array failed. (handed_on_lem listener block used 32 array failed).long (lit< tt);
}
