-- Shown: every log that was good stays good with the same records, and no other was; what was added is a weighing from a higher address or with a
-- family. Why: of the rule only the limit moved, and it moved up; and byte 17, which was 0, may be a family's number.
use Rattle.std.specs.Prelude.{Result, Ok, Err}
use Prim.Native.Nat.{ℕ, zero, suc, ◌/◌, ◌^◌, ◌≤◌, ◌<◌}
use mathlib.Core.Path.{◌≡◌, ◌∙◌, refl, sym, subst}
use mathlib.Core.Bool.{Bool, true, false, cond, ◌&&◌, ◌||◌, and-eq-true_iff}
use mathlib.Core.List.{List, [], ◌∷◌, ◌++◌, append-nil}
use mathlib.Core.Logic.{◌⊎◌, inl, inr, ⊎_elim}
use native.Mathlib.Omega.{arith}
use borrow.Author.Tests.{leb-true, leb-false, le-leb, eqb-true, eqb-false, eq-eqb}
use lib.Dec.{leb, eqb, lit≤}
use lib.ListN.{length, take, drop, length-drop, take-append-drop}
use Rattle.std.proofs.lemmas.Grind.{common_steps}
use Rattle.weight.specs.Digits.{all_decimal}
use Rattle.weight.specs.Families.{named_in, family_named}
use Rattle.weight.specs.Bytes.{readable, read_as, read_of}
use Rattle.body.specs.declared.addresses.Address.TheVariants.{Short, Serial}
use Rattle.body.specs.Addresses.{highest_short, legal}
use Rattle.records.specs.declared.records.Record.{Record}
use Rattle.records.specs.Records.{weighs, was_met, address_of, good_address, weight_bytes, reading_in, good_weighing, good_met, good}
use Rattle.records.specs.Layout.{bytes_of_record, record_in, rest_zero}
use Rattle.records.specs.Reading.{make_record, read_record}
use Rattle.low_first.specs.LowFirst.{low_bytes}
use Rattle.records.specs.Stepping.{Log, ahead, records_of, whole_log}
use Rattle.records.proofs.Joining.{one_more, apart, empty as no_bytes}
use Rattle.records.proofs.RoundTrip.{record_length, record_back}
use Rattle.records.proofs.Rules.{met_bare, met_family, read_is, read_length, rest as last_zero}
use Rattle.records.proofs.Unweighed.{else_met}
use Rattle.weighing_log.specs.Hearing.{met_on_line}
use Rattle.demands.proofs.ByFamily.{plain_readable, free_readable, readable_family}
use Rattle.demands.specs.LogsFromBefore.{highest_before, highest_since, good_address_up_to, good_weighing_up_to, good_met_before, good_up_to, WasGood, empty, first, StaysGood, EachBefore, WereGood, FiveStaysGood, FromHigher, WithFamily, OnlyThese, OnlyFamilies, HigherAdded, FamilyAdded, Moved}
use Rattle.refusal.specs.declared.Refusal.{Refusal}

-- ---- an address

module _ (highest : ℕ) (item : Record) where
  -- what stands beside an address byte
  abbrev serial_right : Bool → Bool
  serial_right zero_first = cond zero_first (leb item.serial 16_777_215) (eqb item.serial 0)

  -- the address rule as it is now
  abbrev right_now : Bool → Bool
  right_now zero_first = legal (cond zero_first (Serial item.serial) (Short item.address)) && (zero_first || eqb item.serial 0)

  stays_address : highest ≤ highest_short → good_address_up_to highest item ≡ true → good_address item ≡ true
  unfolding good_address address_of legal
  stays_address most = by_first (eqb item.address 0) refl
    where
      by_first : (zero_first : Bool) → eqb item.address 0 ≡ zero_first → (leb item.address highest && serial_right zero_first) ≡ true → right_now zero_first ≡ true
      by_first true is was = rw ((and-eq-true_iff (leb item.address highest) (leb item.serial 16_777_215)).0 was).1
      by_first false is was =
          let parts = (and-eq-true_iff (leb item.address highest) (eqb item.serial 0)).0 was in
          let some : 0 < item.address = omega (arith, eqb-false item.address 0 is) in
          rw (le-leb 1 item.address (omega arith), le-leb item.address highest_short (omega (arith, leb-true item.address highest parts.0)), parts.1)

  -- the address rule as it is now, at or below the old limit and above it
  same_below : good_address item ≡ true → leb item.address highest ≡ true → good_address_up_to highest item ≡ true
  unfolding good_address address_of legal
  same_below = by_first (eqb item.address 0)
    where
      by_first : (zero_first : Bool) → right_now zero_first ≡ true → leb item.address highest ≡ true → (leb item.address highest && serial_right zero_first) ≡ true
      by_first true right low = rw (low, ((and-eq-true_iff (leb item.serial 16_777_215) true).0 right).0)
      by_first false right low = rw (low, ((and-eq-true_iff (legal (Short item.address)) (eqb item.serial 0)).0 right).1)

  -- ---- a record

  abbrev digits : Bool
  digits = all_decimal item.w0 item.w1 item.w2

  pub stays_record : highest ≤ highest_short → good_up_to highest item ≡ true → good item ≡ true
  unfolding good good_weighing good_met
  stays_record most was = grind (arith, common_steps, plain_readable, stays_address)

  -- a record without a family was good under the limit where its address was
  plain_was : item.family ≡ 0 → good item ≡ true → (weighs item ≡ true → good_address_up_to highest item ≡ true) → good_up_to highest item ≡ true
  unfolding good good_weighing
  plain_was plain right address = rw (eq-eqb item.family 0 plain) (by_kind (weighs item) (was_met item) address right)
    where
      by_kind : (weighed met : Bool) → (weighed ≡ true → good_address_up_to highest item ≡ true) → cond weighed (good_weighing item) (cond met (good_met item) false) ≡ true
          → cond weighed (good_weighing_up_to highest item) (cond met (good_met_before item) false) ≡ true
      by_kind true met low right =
          let parts = (and-eq-true_iff (good_address item) (readable (reading_in item))).0 right in
          rw (low refl) (sym (plain_readable (weight_bytes item) plain) ∙ parts.1)
      by_kind false true low right = met_bare item right
      by_kind false false low right = right

module _ (item : Record) where
  only_above : weighs item ≡ true → good_address item ≡ true → leb item.address highest_before ≡ false → FromHigher item
  unfolding good_address address_of legal
  only_above weighed = by_first (eqb item.address 0) refl
    where
      by_first : (zero_first : Bool) → eqb item.address 0 ≡ zero_first → right_now highest_before item zero_first ≡ true → leb item.address highest_before ≡ false → FromHigher item
      by_first true is right high = absurd (omega (arith, eqb-true item.address 0 is, leb-false item.address highest_before high))
      by_first false is right high =
          let parts = (and-eq-true_iff (legal (Short item.address)) (eqb item.serial 0)).0 right in
          record {
            weighed = weighed;
            above = omega (arith, leb-false item.address highest_before high);
            most = leb-true item.address highest_short ((and-eq-true_iff (leb 1 item.address) _).0 parts.0).1;
            serial = eqb-true item.serial 0 parts.1;
          }

  -- the address of a good weighing
  good_address_lem : good item ≡ true → weighs item ≡ true → good_address item ≡ true
  unfolding good good_weighing
  good_address_lem right weighed = grind (arith, common_steps)

  good_reading_lem : good item ≡ true → weighs item ≡ true → readable (reading_in item) ≡ true
  unfolding good good_weighing
  good_reading_lem right weighed = grind (arith, common_steps)

  -- a short address is at most the highest
  below_highest : good_address item ≡ true → leb item.address highest_short ≡ true
  unfolding good_address address_of legal
  below_highest = by_first (eqb item.address 0) refl
    where
      by_first : (zero_first : Bool) → eqb item.address 0 ≡ zero_first → right_now highest_short item zero_first ≡ true → leb item.address highest_short ≡ true
      by_first true is right = le-leb item.address highest_short (omega (arith, eqb-true item.address 0 is))
      by_first false is right =
          ((and-eq-true_iff (leb 1 item.address) _).0 ((and-eq-true_iff (legal (Short item.address)) (eqb item.serial 0)).0 right).0).1

  -- a good record has no family, or is a weighing with one
  with_family : good item ≡ true → (item.family ≡ 0) ⊎ WithFamily item
  with_family right = by_kind (weighs item) refl (eqb item.family 0) refl
    where
      by_kind : (weighed : Bool) → weighs item ≡ weighed → (none : Bool) → eqb item.family 0 ≡ none → (item.family ≡ 0) ⊎ WithFamily item
      by_kind weighed is true plain = inl (eqb-true item.family 0 plain)
      by_kind true is false some =
          inr (record {
            weighed = is;
            least = omega (arith, eqb-false item.family 0 some);
            most = readable_family (weight_bytes item) (good_reading_lem right is);
          })
      by_kind false is false some = inl (met_family item (else_met item right is).1)

pub only_families : OnlyFamilies
only_families item right = ⊎_elim (λ plain. inl (plain_was highest_short item plain right (λ weighed. low weighed))) inr (with_family item right)
  where
    low : weighs item ≡ true → good_address_up_to highest_short item ≡ true
    low weighed = let address = good_address_lem item right weighed in same_below highest_short item address (below_highest item address)

pub only_these : OnlyThese
only_these item right = ⊎_elim (λ plain. by_limit plain (weighs item) refl (leb item.address highest_before) refl) (λ some. inr (inr some)) (with_family item right)
  where
    by_limit : item.family ≡ 0 → (weighed : Bool) → weighs item ≡ weighed → (low : Bool) → leb item.address highest_before ≡ low
        → (good_up_to highest_before item ≡ true) ⊎ (FromHigher item ⊎ WithFamily item)
    by_limit plain true is true low =
        inl (plain_was highest_before item plain right (λ weighed. same_below highest_before item (good_address_lem item right weighed) low))
    by_limit plain true is false high = inr (inl (only_above item is (good_address_lem item right is) high))
    by_limit plain false is low e = inl (plain_was highest_before item plain right (λ weighed. cc))

pub higher_added : HigherAdded
unfolding good good_weighing good_address address_of legal
higher_added item higher digits = grind (arith, common_steps)

pub family_added : FamilyAdded
unfolding good good_weighing
family_added item some address decimal free = grind (arith, common_steps, free_readable)

-- ---- a log

stays_read : (highest : ℕ) → highest ≤ highest_short → (bytes : List ℕ) → length bytes ≡ 20 → rest_zero bytes ≡ true → good_up_to highest (record_in bytes) ≡ true → read_record bytes ≡ Ok (record_in bytes)
unfolding read_record make_record
stays_read highest most bytes size rest was = grind (arith, common_steps, stays_record)

stays : (highest : ℕ) → highest ≤ highest_short → {log : List ℕ} {items : List Record} → WasGood highest log items → whole_log log ≡ record { records = items; ending = Ok tt }
unfolding whole_log records_of
stays highest most empty = refl
stays highest most (first bytes {log} size rest was later) = one_more bytes log size ∙ rw (stays_read highest most bytes size rest was, stays highest most later)

pub stays_good : StaysGood
stays_good = (λ log items was. stays highest_before (lit≤ tt) was, λ log items was. stays highest_since (lit≤ tt) was)

-- the first record of a log, and the rest of it
first_were : (highest : ℕ) (log : List ℕ) (rest : Log) (entry : Result Record Refusal) → read_record (take 20 log) ≡ entry → (ahead entry rest).ending ≡ Ok tt
    → EachBefore highest (ahead entry rest).records → (rest.ending ≡ Ok tt → EachBefore highest rest.records → WasGood highest (drop 20 log) rest.records)
    → WasGood highest log (ahead entry rest).records
first_were highest log rest (Ok item) was whole (one, later) behind =
    let bytes = take 20 log in
    let is = read_is bytes item was in
    subst (λ (l : List ℕ). WasGood highest l (item ∷ rest.records)) (take-append-drop 20 log)
    (subst (λ (record' : Record). WasGood highest (bytes ++ drop 20 log) (record' ∷ rest.records)) (sym is)
    (first bytes (read_length bytes item was) (last_zero bytes item was) (subst (λ (record' : Record). good_up_to highest record' ≡ true) is one) (behind whole later)))
first_were highest log rest (Err why) was whole all behind = cc

were_count : (highest count : ℕ) (log : List ℕ) → length log / 20 ≡ count → (whole_log log).ending ≡ Ok tt → EachBefore highest (whole_log log).records
    → WasGood highest log (whole_log log).records
unfolding whole_log records_of
were_count highest zero log e whole all = rw (no_bytes log e whole) empty
were_count highest (suc count) log e whole all = grind (arith, common_steps, apart, first_were, length-drop, were_count highest count (drop 20 log) (omega (arith, length-drop 20 log)))

pub were_good : WereGood
were_good highest log = were_count highest (length log / 20) log refl

module _ (time : ℕ) (small : time < 2 ^ 64) where
  abbrev met : Record
  met = met_on_line time 5

  right : good met ≡ true
  unfolding good good_met
  right = refl

  was_right : good_up_to highest_before met ≡ true
  was_right = refl

  rest : rest_zero (bytes_of_record met) ≡ true
  unfolding bytes_of_record low_bytes
  rest = refl

  is : met ≡ record_in (bytes_of_record met)
  is = read_is (bytes_of_record met) met (record_back met small right)

  was : WasGood highest_before (bytes_of_record met) (met ∷ [])
  was =
      subst (λ (log : List ℕ). WasGood highest_before log (met ∷ [])) (append-nil (bytes_of_record met))
      (subst (λ (one : Record). WasGood highest_before (bytes_of_record met ++ []) (one ∷ [])) (sym is)
      (first (bytes_of_record met) (record_length met) rest (subst (λ (one : Record). good_up_to highest_before one ≡ true) is was_right) empty))

pub five_stays_good : FiveStaysGood
five_stays_good time small = record { before = was time small; now = stays highest_before (lit≤ tt) (was time small) }

-- ---- what was added, on one reply

pub moved : Moved
unfolding good good_weighing good_address address_of legal read_of read_as family_named named_in
moved = record { before = refl; since = refl; now = refl }
