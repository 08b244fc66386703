-- Shown: what a finding is worth: each answer is given exactly where the request says.
-- Why: the answer of the search says of each place whether it passes, and the register can be the power of one place alone.
use Rattle.std.specs.Prelude.{Result, Ok, Err, Option, Some, None}
use Prim.Native.Nat.{ℕ, ◌≤◌, ◌<◌}
use mathlib.Core.Path.{◌≡◌, ◌∙◌, refl, sym, ap, subst}
use mathlib.Core.Bool.{not, cond}
use mathlib.Core.List.{List}
use mathlib.Core.Logic.{◌⊎◌, ⊎_elim, inl, inr}
use native.Mathlib.Decide.{dec_le, ℕ_discrete}
use native.Mathlib.Nat.{lt_of_not-le}
use native.Mathlib.Omega.{arith}
use borrow.Author.Tests.{eqb-true, eqb-false, lt-ltb, le-ltb, ne_eqb}
use lib.Dec.{ltb}
use lib.ListN.{length}
use lib.Bits.{bit_xor, xor_comm, xor_zero_l, xor_self}
use Rattle.refusal.specs.declared.Refusal.{Refusal}
use Rattle.refusal.specs.declared.Refusal.TheVariants.{AddressIllegal, LengthOutside, CheckRight}
use Rattle.refusal.specs.Numbers.{number_of, refuse_if}
use Rattle.check_byte.specs.Register.{received}
use Rattle.body.specs.Addresses.{legal, address_in}
use Rattle.body.specs.Body.{short, judged}
use Rattle.body.proofs.Rebuilding.{lent_is}
use Rattle.check_misses.specs.Places.{bits_of, turned_over}
use Rattle.check_misses.specs.Powers.{power}
use Rattle.check_misses.specs.Misses.{Passes}
use Rattle.check_misses.proofs.Numbers.{folded_back, received_below}
use Rattle.check_misses.proofs.Zeros.{power_some}
use Rattle.check_misses.proofs.Judged.{short_or_four}
use Rattle.check_misses.proofs.TurnedOver.{length_turned, check_turned}
use Rattle.bad_bit.specs.WhichBit.{passes_with, bit_that_would, finding}
use Rattle.crew_sheet.specs.Findings.{AskedAndFails, BitTold, NoBitTold, AtMostOne, EachToldExactly, StaysRefused, OneBadTold, TwoBadNotTold, TheRegisterTells}
use Rattle.crew_sheet.proofs.Searched.{Searched, searched}
use Rattle.bad_bit.proofs.Asked.{is_outside, is_inside, said_outside, said_right, said_bit}
use Rattle.crew_sheet.proofs.OnePlace.{passes_power, power_passes, place_inside, powers_differ}
use Rattle.crew_sheet.proofs.OfRegister.{of_power}
use Rattle.bad_bit.specs.declared.BitPlace.{BitPlace}

-- ---- one place alone

pub at_most_one : AtMostOne
at_most_one body few place other h k passes passes_too =
    powers_differ place other (omega (arith, h, few)) (omega (arith, k, few)) (sym (passes_power body place h passes) ∙ passes_power body other k passes_too)

-- ---- what is said of a body

-- why a body is refused
pub data WhyRefused (body : List ℕ) (why : Refusal) : Type 0 where
  by_length : why ≡ LengthOutside → (length body ≡ 0) ⊎ (31 < length body) → WhyRefused body why
  by_check : why ≡ CheckRight → 1 ≤ length body → length body ≤ 31 → Passes body → WhyRefused body why

abbrev Said : List ℕ → Result (Option BitPlace) Refusal → Type 0
Said body (Ok (Some place)) = AskedAndFails body × ((place.0 < bits_of body) × Passes (turned_over place.0 body))
Said body (Ok None) = AskedAndFails body × ((place : ℕ) → Passes (turned_over place body) → ⊥)
Said body (Err why) = WhyRefused body why

-- of a body that fails, by what the search says
of_search : (body : List ℕ) → AskedAndFails body → (found : Option BitPlace) → Searched (bits_of body) (passes_with body) found → Said body (Ok found)
unfolding passes_with
of_search body fails (Some place) search = (fails, (search.0, eqb-true (received (turned_over place.0 body)) 0 search.1))
of_search body fails None search =
    (fails, λ place passes. eqb-false (received (turned_over place body)) 0 (search place (place_inside body fails.fails place passes)) passes)

of_fails : (body : List ℕ) → AskedAndFails body → Said body (finding body)
unfolding bit_that_would
of_fails body fails =
    subst (Said body) (sym (said_bit body (is_inside (length body) fails.some fails.few) fails.fails))
    (of_search body fails (bit_that_would body) (searched (bits_of body) (passes_with body)))

of_outside : (body : List ℕ) → (length body ≡ 0) ⊎ (31 < length body) → Said body (finding body)
of_outside body out = subst (Said body) (sym (said_outside body (is_outside (length body) out))) (by_length refl out)

of_right : (body : List ℕ) → 1 ≤ length body → length body ≤ 31 → Passes body → Said body (finding body)
of_right body some few passes =
    subst (Said body) (sym (said_right body (is_inside (length body) some few) passes)) (by_check refl some few passes)

said : (body : List ℕ) → Said body (finding body)
said body =
    elim (dec_le 1 (length body)) [
      | no none ↦ let l = lt_of_not-le none in of_outside body (inl (omega (arith, l)))
      | yes some ↦ elim (dec_le (length body) 31) [
        | no many ↦ of_outside body (inr (lt_of_not-le many))
        | yes few ↦ elim (ℕ_discrete (received body) 0) [
          | yes passes ↦ of_right body some few passes
          | no fails ↦ of_fails body (record { some = some; few = few; fails = fails })
        ]
      ]
    ]

as_said : (body : List ℕ) (answer : Result (Option BitPlace) Refusal) → finding body ≡ answer → Said body answer
as_said body answer is = subst (Said body) is (said body)

-- ---- the statements

pub bit_told : BitTold
bit_told body place is =
    let told = as_said body (Ok (Some (record { 0 = place }))) is in
    let in_body = told.1.0 in
    record {
      in_body = in_body;
      passes = told.1.1;
      no_other = λ other passes.
          at_most_one body told.0.few other place (place_inside body told.0.fails other passes) in_body passes told.1.1;
    }

pub no_bit_told : NoBitTold
no_bit_told body is = (as_said body (Ok None) is).1

not_outside : (body : List ℕ) → AskedAndFails body → (length body ≡ 0) ⊎ (31 < length body) → ⊥
not_outside body fails =
    ⊎_elim (λ (none : length body ≡ 0). omega (arith, none, fails.some)) (λ (over : 31 < length body). omega (arith, over, fails.few))

-- a body that fails and has such a bit: nothing else is said
only_bit : (body : List ℕ) (place : ℕ) → AskedAndFails body → Passes (turned_over place body) → (answer : Result (Option BitPlace) Refusal) → Said body answer → answer ≡ Ok (Some (record { 0 = place }))
only_bit body place fails passes (Ok (Some other)) told =
    let same : other.0 ≡ place =
    at_most_one body fails.few other.0 place told.1.0 (place_inside body fails.fails place passes) told.1.1 passes in
    λ i. Ok (Some (record { 0 = same i }))
only_bit body place fails passes (Ok None) told = absurd (told.1 place passes)
only_bit body place fails passes (Err why) (by_length is out) = absurd (not_outside body fails out)
only_bit body place fails passes (Err why) (by_check is some few right) = absurd (fails.fails right)

only_none : (body : List ℕ) → AskedAndFails body → ((place : ℕ) → Passes (turned_over place body) → ⊥) → (answer : Result (Option BitPlace) Refusal) → Said body answer → answer ≡ Ok None
only_none body fails none (Ok (Some place)) told = absurd (none place.0 told.1.1)
only_none body fails none (Ok None) told = refl
only_none body fails none (Err why) (by_length is out) = absurd (not_outside body fails out)
only_none body fails none (Err why) (by_check is some few right) = absurd (fails.fails right)

-- a refusal tells which of the two it is
of_length : (body : List ℕ) {why : Refusal} → why ≡ LengthOutside → WhyRefused body why → (length body ≡ 0) ⊎ (31 < length body)
of_length body is (by_length _ out) = out
of_length body is (by_check other some few right) = absurd (omega (arith, ap number_of (sym is ∙ other)))

of_check : (body : List ℕ) {why : Refusal} → why ≡ CheckRight → WhyRefused body why → (1 ≤ length body) × ((length body ≤ 31) × Passes body)
of_check body is (by_length other out) = absurd (omega (arith, ap number_of (sym is ∙ other)))
of_check body is (by_check _ some few right) = (some, (few, right))

one_of_two : (body : List ℕ) {why : Refusal} → WhyRefused body why → (why ≡ LengthOutside) ⊎ (why ≡ CheckRight)
one_of_two body (by_length is out) = inl is
one_of_two body (by_check is some few right) = inr is

pub each_told_exactly : EachToldExactly
each_told_exactly body = record {
  bit = λ place. (
    (λ is. let told = as_said body (Ok (Some (record { 0 = place }))) is in (told.0, told.1.1)),
    (λ both. only_bit body place both.0 both.1 (finding body) (said body)),
  );
  none = ((λ is. as_said body (Ok None) is), (λ both. only_none body both.0 both.1 (finding body) (said body)));
  outside = (
    (λ is. of_length body refl (as_said body (Err LengthOutside) is)),
    (λ out. said_outside body (is_outside (length body) out)),
  );
  right = (
    (λ is. of_check body refl (as_said body (Err CheckRight) is)),
    (λ all. said_right body (is_inside (length body) all.0 all.1.0) all.1.1),
  );
  no_other = λ why is. one_of_two body (as_said body (Err why) is);
}

-- ---- what the crew may conclude

-- a body that passes, with one bit turned over, fails by the power of its place
one_turned : (sent : List ℕ) → Passes sent → (place : ℕ) → place < bits_of sent → received (turned_over place sent) ≡ power place
one_turned sent passes place h = check_turned place sent h ∙ ap (λ (n : ℕ). bit_xor n (power place)) passes ∙ xor_zero_l (power place)

pub one_bad_told : OneBadTold
one_bad_told sent few passes place h =
    let hit = turned_over place sent in
    let long : length hit ≡ length sent = length_turned place sent in
    let ends = one_turned sent passes place h in
    let inside : place < bits_of hit = rw long h in
    let fails : AskedAndFails hit = record { some = rw long (omega (arith, h)); few = rw long few; fails = λ none. power_some place (sym ends ∙ none) } in
    only_bit hit place fails (power_passes hit place inside ends) (finding hit) (said hit)

-- a number with another folded in is the other only if it is 0
xor_same : (a b : ℕ) → bit_xor a b ≡ b → a ≡ 0
xor_same a b same = sym (folded_back b a) ∙ ap (bit_xor b) (xor_comm b a ∙ same) ∙ xor_self b

pub two_bad_not_told : TwoBadNotTold
two_bad_not_told sent passes one two h k place is =
    let hit = turned_over two sent in
    let long : length hit ≡ length sent = length_turned two sent in
    let inside : one < bits_of hit = rw long h in
    let ends : received (turned_over one hit) ≡ bit_xor (power two) (power one) =
    check_turned one hit inside ∙ ap (λ (n : ℕ). bit_xor n (power one)) (one_turned sent passes two k) in
    let told = bit_told (turned_over one hit) place is in
    let register = passes_power (turned_over one hit) place told.in_body told.passes in (
      (λ (e : place ≡ one). power_some two (xor_same (power two) (power one) (sym ends ∙ register ∙ ap power e))),
      (λ (e : place ≡ two). power_some one (xor_same (power one) (power two) (xor_comm (power one) (power two) ∙ sym ends ∙ register ∙ ap power e))),
    )

-- the place that is told, by the power that the register is
pub by_place : (body : List ℕ) → AskedAndFails body → (place : ℕ) → place < 255 → received body ≡ power place
    → finding body ≡ cond (ltb place (bits_of body)) (Ok (Some (record { 0 = place }))) (Ok None)
by_place body fails place h ends =
    elim (dec_le (bits_of body) place) [
      | yes past ↦ rw (le-ltb place (bits_of body) past) (only_none body fails (none past) (finding body) (said body))
      | no inside ↦
          let l = lt_of_not-le inside in
          rw (lt-ltb place (bits_of body) l) (only_bit body place fails (power_passes body place l ends) (finding body) (said body))
    ]
  where
    none : bits_of body ≤ place → (other : ℕ) → Passes (turned_over other body) → ⊥
    none past other passes =
        let k = place_inside body fails.fails other passes in
        let few = fails.few in
        let same = powers_differ other place (omega (arith, k, few)) h (sym (passes_power body other k passes) ∙ ends) in
        omega (arith, past, k, same)

pub the_register_tells : TheRegisterTells
the_register_tells body fails =
    let power_of = of_power (received body) (received_below body) fails.fails in
    let place = power_of.place in
    record {
      place = place;
      below = power_of.below;
      ends = power_of.is;
      no_other = λ other h ends. powers_differ other place h power_of.below (sym ends ∙ power_of.is);
      told = by_place body fails place power_of.below power_of.is;
    }

-- ---- what the frame stays

pub stays_refused : StaysRefused
unfolding judged
stays_refused body fails =
    let few = fails.few in
    lent_is body (omega (arith, few)) ∙ rw (ne_eqb (received body) 0 fails.fails) (short_or_four (short body) (refuse_if (not (legal (address_in body))) AddressIllegal (Ok tt)))
