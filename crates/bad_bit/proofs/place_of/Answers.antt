-- `bad_bit::place_of` meets its contract: the highest place whose power of x is the register, or none.
-- Why: the table has the powers, and the search from the back ended at the first of them that is the register.
use Rattle.std.proofs.Common.{rules, tests, ◌≡◌, ◌∙◌, sym, ap, ℕ, ◌+◌, ◌-◌, ◌<◌, length, Bool, true, false, List, get_or, take, eqb, arith, Option, Some, None, MatchOption, IfSome, IsSomeAnd, IsTrue, option_map, Bor}
use Rattle.std.proofs.lemmas.List.{get_or-take}
use Rattle.std.specs.Fn.{Called}
use Rattle.std.specs.Iterator.Runs.{Run, ItemsMapToReversed, AllItemsGive, IsFirstToGive}
use denote.Param.Members.{Mut}
use Rattle.check_misses.specs.Powers.{power}
use Rattle.bad_bit.specs.WhichBit.{highest_below}
use Rattle.bad_bit.specs.Table.{is_power}
use Rattle.bad_bit.specs.declared.BitPlace.{BitPlace}
use Rattle.bad_bit.proofs.Search.{none_passes, highest_is}
use Rattle.bad_bit.proofs.Table.{table_has_powers}
use Rattle.bad_bit.proofs.place_of.Goals as goal

-- a search from the back of a list for an element that passes
module _ {S F : Type 0} {steps : S → Option (Bor ℕ) → S → Type 0} (g : Mut F (Bor ℕ × Unit {0}) Bool) (f : F) (test : ℕ → Bool)
    (acts : (x : Bor ℕ) (b : Bool) (q : F) → Called g f (x, tt) b q → (q ≡ f) × (b ≡ test x.now))
    (p : Run steps) (xs : List ℕ) (items : ItemsMapToReversed p (λ y. y.now) xs) where
  answered : (o : Option (Bor ℕ)) (n : ℕ) (b : Bool) → option_map (λ y. y.now) o ≡ Some n → IfSome o (λ x. Called g f (x, tt) b f) → test n ≡ b
  answered None n b is called = grind arith
  answered (Some x) n b is called = let there : x.now ≡ n = grind arith in ap test (sym there) ∙ sym (acts x b f called).1

  if_some : (o : Option (Bor ℕ)) (b : Bool) → IsSomeAnd o (λ x. Called g f (x, tt) b f) → IfSome o (λ x. Called g f (x, tt) b f)
  if_some None b called = absurd called
  if_some (Some x) b called = called

  keeps : (a : Bor ℕ × Unit {0}) (b : Bool) (q : F) → Called g f a b q → q ≡ f
  keeps a b q called = (acts a.0 b q called).0

  ended : (r : Option ℕ) → IfSome r (λ i. i < length xs)
      → MatchOption r (IsTrue p.whole × AllItemsGive p g f false) (λ i. (i + p.len ≡ length xs) × IsFirstToGive p g f true false (length xs - 1 - i))
      → MatchOption r ((k : ℕ) → k < length xs → test (get_or xs k 0) ≡ false)
      (λ i. (test (get_or xs i 0) ≡ true) × ((k : ℕ) → i < k → k < length xs → test (get_or xs k 0) ≡ false))
  ended None few got = λ k h.
      let long : p.len ≡ length xs = items.1 got.0 in
      answered (p.at (length xs - 1 - k)) (get_or xs k 0) false (items.2 k 0 h (omega (arith, h, long))) (got.1 keeps (length xs - 1 - k))
  ended (Some i) few got =
      let long = got.0 in
      let first = got.1 keeps in (
        answered (p.at (length xs - 1 - i)) (get_or xs i 0) true (items.2 i 0 few (omega (arith, few, long))) (if_some _ true first.0),
        λ k over h. answered (p.at (length xs - 1 - k)) (get_or xs k 0) false (items.2 k 0 h (omega (arith, h, over, long))) (if_some _ false (first.1 (length xs - 1 - k) (omega (arith, h, over)))),
      )

-- what that search tells, where the list holds the powers
module _ (bits register : ℕ) (entries : List ℕ) (same : (k : ℕ) → k < bits → get_or entries k 0 ≡ power k) where
  asked : (k : ℕ) (b : Bool) → k < bits → eqb (get_or entries k 0) register ≡ b → is_power register k ≡ b
  unfolding is_power
  asked k b h is = ap (λ (entry : ℕ). eqb entry register) (sym (same k h)) ∙ is

  highest : (r : Option ℕ) (told : Option BitPlace) → MatchOption r (told ≡ None) (λ i. told ≡ Some (record { 0 = i })) → IfSome r (λ i. i < bits)
      → MatchOption r ((k : ℕ) → k < bits → eqb (get_or entries k 0) register ≡ false)
      (λ i. (eqb (get_or entries i 0) register ≡ true) × ((k : ℕ) → i < k → k < bits → eqb (get_or entries k 0) register ≡ false))
      → told ≡ highest_below bits (is_power register)
  highest None told is few got = is ∙ sym (none_passes bits (is_power register) (λ k h. asked k false h (got k h)))
  highest (Some i) told is few got =
      is ∙ sym (highest_is bits i (is_power register) few (asked i true few got.0) (λ k over h. asked k false h (got.1 k over h)))

pub returns : goal.returns
returns c =
    let bits = c.args.bits in
    let left = c.iter.result.rest.now in
    let rest : left ≡ take bits c.args.powers.now = search rules in
    let many : length left ≡ bits = search rules in
    let told : MatchOption c.rposition.result (c.map.result ≡ None) (λ i. c.map.result ≡ Some (record { 0 = i })) = search rules in
    let run = c.rposition.ensures.runs in
    let back = c.iter.ensures.runs_back run.0 run.0.seen in
    let from = run.1 in
    let items : ItemsMapToReversed run.0 (λ y. y.now) left = rw from at back in
    let got = ended _ _ (λ (entry : ℕ). eqb entry c.args.register) (λ x b q k. search (rules, tests)) run.0 left items c.rposition.result c.rposition.ensures.bound run.2 in
    let same : (k : ℕ) → k < length left → get_or left k 0 ≡ power k = λ k h.
    let below : k < bits = omega (arith, h, many) in
    ap (λ (entries : List ℕ). get_or entries k 0) rest ∙ get_or-take bits c.args.powers.now k 0 below
    ∙ ap (λ (entries : List ℕ). get_or entries k 0) c.requires.1 ∙ table_has_powers.each k (omega (arith, below, c.requires.0)) in
    highest (length left) c.args.register left same c.rposition.result c.map.result told c.rposition.ensures.bound got
    ∙ ap (λ (n : ℕ). highest_below n (is_power c.args.register)) many
