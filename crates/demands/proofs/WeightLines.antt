-- Shown: a weight line that was written tells by its digits the value of its reading, or shows hyphens where the reading is overloaded.
-- Why: no field has a blank or an end of line in it, so its blanks part it into its fields; six digits of a number below a million spell that number.
use Rattle.std.specs.Prelude.{Ok, Some, None}
use Prim.Native.Nat.{ℕ, zero, suc, ◌+◌, ◌*◌, ◌-◌, ◌/◌, ◌%◌, ◌^◌, ◌≤◌, ◌<◌}
use Prim.Native.Char.{code}
use mathlib.Core.Path.{◌≡◌, ◌∙◌, refl, sym, ap, subst}
use mathlib.Core.Bool.{Bool, true, false, cond, not, or-true, true≢false, and-eq-true_iff}
use mathlib.Core.List.{List, [], ◌∷◌, ◌++◌}
use native.Mathlib.Omega.{arith}
use lib.Dec.{ltb, eqb}
use lib.ListN.{length, drop, get_or}
use lib.Seq.{take-append_seam}
use borrow.Author.Tests.{ne_eqb, lt-ltb, ltb-true, not-false}
use Rattle.std.proofs.lemmas.Grind.{common_steps}
use Rattle.refusal.specs.Numbers.{number_of}
use Rattle.refusal.proofs.Verdicts.{test_passed}
use Rattle.body.specs.declared.addresses.Address.{Address}
use Rattle.line.specs.Listener.{Heard}
use Rattle.weight.specs.declared.families.Family.{Family}
use Rattle.weight.specs.declared.Reading.{Reading}
use Rattle.weight.specs.Bytes.{in_range}
use Rattle.weight.specs.Tenths.{tenths_shown}
use Rattle.weight.proofs.Sizes.{legal_number, legal_point}
use Rattle.codes.specs.declared.table.Load.{Load}
use Rattle.entries.specs.declared.entries.Entry.TheVariants as entry_as
use Rattle.entries.specs.Entries.{entry_heard}
use Rattle.listing.specs.Texts.{spelt, digit, digits, six_digits, decimal_in, decimal, hex_byte, address_text, sign_byte, mark_byte}
use Rattle.listing.specs.Lines.{line, load_text, digits_field, reading_fields, line_of}
use Rattle.listing.specs.Writing.{written_line}
use Rattle.demands.specs.WeightLines.{parts, word, after_word, field, is_digit, any_digit, all_digits, shows_digits, spelling, number_shown, value_shown, Tells, WeightLine, WeightLinesTell, HeardLinesTell, OnlyWeightsSayWeight, TotalSaysNoWeight}
use Rattle.demands.proofs.Overload.{overload_refused}
use Rattle.demands.proofs.Reading.{verdict_of_lem}
use Rattle.demands.proofs.WrittenDown.{body_sound}

-- ---- a line parted by its blanks is its fields

-- no blank and no end of line
abbrev Whole : List ℕ → Type 0
Whole [] = Unit {0}
Whole (byte ∷ more) = (parts byte ≡ false) × Whole more

abbrev AllWhole : List (List ℕ) → Type 0
AllWhole [] = Unit {0}
AllWhole (one ∷ more) = Whole one × AllWhole more

word_of_lem : (one : List ℕ) (part : ℕ) (more : List ℕ) → Whole one → parts part ≡ true → word (one ++ (part ∷ more)) ≡ one
unfolding word
word_of_lem [] part more whole is = rw is
word_of_lem (byte ∷ one) part more whole is = rw (whole.0, word_of_lem one part more whole.1 is)

after_of : (one : List ℕ) (part : ℕ) (more : List ℕ) → Whole one → parts part ≡ true → after_word (one ++ (part ∷ more)) ≡ more
unfolding after_word
after_of [] part more whole is = rw is
after_of (byte ∷ one) part more whole is = rw (whole.0, after_of one part more whole.1 is)

none_behind : (place : ℕ) → field place [] ≡ []
unfolding field word after_word
none_behind zero = refl
none_behind (suc place) = none_behind place

field_of : (place : ℕ) (first : List ℕ) (more : List (List ℕ)) → AllWhole (first ∷ more) → field place (line first more) ≡ get_or (first ∷ more) place []
unfolding field
field_of zero first [] whole = word_of_lem first (code "\n") [] whole.0 refl
field_of zero first (next ∷ more) whole = word_of_lem first (code " ") (line next more) whole.0 refl
field_of (suc place) first [] whole = grind (arith, common_steps, after_of, none_behind)
field_of (suc place) first (next ∷ more) whole = grind (arith, common_steps, after_of, field_of place next more whole.1)

-- ---- each field of a weight line is whole

whole_then : (one other : List ℕ) → Whole one → Whole other → Whole (one ++ other)
whole_then [] other w v = v
whole_then (byte ∷ one) other w v = (w.0, whole_then one other w.1 v)

-- 48 and above
digit_high : (value : ℕ) → 48 ≤ digit value
digit_high value = grind (arith, common_steps)

high_whole : (byte : ℕ) → 48 ≤ byte → parts byte ≡ false
high_whole byte high = rw (ne_eqb byte 32 (λ e. omega arith), ne_eqb byte 10 (λ e. omega arith))

digit_whole : (value : ℕ) → Whole (digit value ∷ [])
digit_whole value = (high_whole (digit value) (digit_high value), tt)

digits_whole : (base width number : ℕ) → Whole (digits base width number)
digits_whole base zero number = tt
digits_whole base (suc width) number = grind (arith, common_steps, digit_whole, whole_then, digits_whole base width (number / base))

decimal_in_whole : (more number : ℕ) → Whole (decimal_in more number)
unfolding decimal_in
decimal_in_whole zero number = digit_whole number
decimal_in_whole (suc more) number = by_test (ltb number 10) (decimal_in_whole more (number / 10))
  where
    by_test : (test : Bool) → Whole (decimal_in more (number / 10)) → Whole (cond test (digit number ∷ []) (decimal_in more (number / 10) ++ (digit (number % 10) ∷ [])))
    by_test true tens = digit_whole number
    by_test false tens = whole_then (decimal_in more (number / 10)) (digit (number % 10) ∷ []) tens (digit_whole (number % 10))

decimal_whole : (number : ℕ) → Whole (decimal number)
unfolding decimal
decimal_whole number = decimal_in_whole 19 number

hyphens_whole : Whole (spelt "------")
hyphens_whole = (refl, (refl, (refl, (refl, (refl, (refl, tt))))))

shown_whole : (over : Bool) (number : ℕ) → Whole (cond over (spelt "------") (six_digits number))
shown_whole true number = hyphens_whole
shown_whole false number = digits_whole 10 6 number

-- the line's fields
module _ (number : ℕ) (load : Load) (address : Address) (reading : Reading) where
  abbrev text : List ℕ
  text = line_of number (Some (entry_as.Weight load address reading))

  abbrev behind : List (List ℕ)
  behind = spelt "weight" ∷ load_text load ∷ address_text address ∷ reading_fields reading

  fields_whole : AllWhole (decimal number ∷ behind)
  fields_whole = grind (arith, common_steps, decimal_whole, shown_whole)

  field_is : (place : ℕ) → field place text ≡ get_or (decimal number ∷ behind) place []
  field_is place = field_of place (decimal number) behind fields_whole

-- ---- digits spell their number

spelling_then : (said : ℕ) (digits : List ℕ) (last : ℕ) → spelling said (digits ++ (last ∷ [])) ≡ spelling said digits * 10 + (last - 48)
unfolding spelling
spelling_then said [] last = refl
spelling_then said (byte ∷ more) last = spelling_then (said * 10 + (byte - 48)) more last

digit_says : (value : ℕ) → value < 10 → digit value - 48 ≡ value
digit_says value low = rw (lt-ltb value 10 low) (omega arith)

number_back : (width number : ℕ) → number < 10 ^ width → number_shown (digits 10 width number) ≡ number
unfolding spelling
number_back zero number low = omega arith
number_back (suc width) number low = grind (arith, common_steps, digit_says, spelling_then, number_back width (number / 10) (omega arith))

-- the last of some digits is one
digit_is : (value : ℕ) → value < 10 → is_digit (digit value) ≡ true
digit_is value low = grind (arith, common_steps)

any_then : (ahead : List ℕ) (last : ℕ) → is_digit last ≡ true → any_digit (ahead ++ (last ∷ [])) ≡ true
unfolding any_digit
any_then [] last is = rw is
any_then (byte ∷ more) last is = rw (any_then more last is, or-true)

all_then : (ahead : List ℕ) (last : ℕ) → all_digits ahead ≡ true → is_digit last ≡ true → all_digits (ahead ++ (last ∷ [])) ≡ true
unfolding all_digits
all_then [] last all is = rw is
all_then (byte ∷ more) last all is =
    let (first, others) = (and-eq-true_iff (is_digit byte) (all_digits more)).0 all in
    (and-eq-true_iff (is_digit byte) (all_digits (more ++ (last ∷ [])))).1 (first, all_then more last others is)

all_shown : (width number : ℕ) → all_digits (digits 10 width number) ≡ true
unfolding all_digits
all_shown zero number = refl
all_shown (suc width) number = grind (arith, common_steps, all_then, digit_is, all_shown width (number / 10))

six_shown : (number : ℕ) → any_digit (six_digits number) ≡ true
six_shown number = any_then (digits 10 5 (number / 10)) (digit (number % 10)) (digit_is (number % 10) (omega arith))

no_digit : any_digit (spelt "------") ≡ false
unfolding any_digit
no_digit = refl

sign_back : (minus : Bool) → eqb (sign_byte minus) (code "-") ≡ minus
sign_back true = refl
sign_back false = refl

-- ---- what the line tells

module _ (number : ℕ) (load : Load) (address : Address) (reading : Reading) (within : in_range reading ≡ true) where
  abbrev shown : List ℕ
  shown = text number load address reading

  digits_are : {field_text : List ℕ} → digits_field reading ≡ field_text → field 5 shown ≡ field_text
  digits_are is = field_is number load address reading 5 ∙ is

  light_is : {over : Bool} → reading.overload ≡ over → field 8 shown ≡ mark_byte over ∷ []
  light_is is = field_is number load address reading 8 ∙ ap (λ (over : Bool). mark_byte over ∷ []) is

  value_is : reading.overload ≡ false → value_shown shown ≡ tenths_shown reading
  value_is off =
      let sign = ap (λ (one : List ℕ). eqb (get_or one 0 0) (code "-")) (field_is number load address reading 4) ∙ sign_back reading.minus in
      let six : number_shown (field 5 shown) ≡ reading.number =
      ap number_shown (digits_are (rw off)) ∙ number_back 6 reading.number (omega (arith, legal_number reading within)) in
      let point : number_shown (field 6 shown) ≡ reading.point =
      ap number_shown (field_is number load address reading 6) ∙ number_back 1 reading.point (omega (arith, legal_point reading within)) in
      rw (sign, six, point)

  off_tells : reading.overload ≡ false → Tells shown reading
  off_tells off =
      let is = (overload_refused.value reading).neither within off in
      let digits : field 5 shown ≡ six_digits reading.number = digits_are (rw off) in
      let any : shows_digits shown ≡ true = ap any_digit digits ∙ six_shown reading.number in
      record {
        digits = λ _. is ∙ ap Ok (sym (value_is off));
        six = λ _. (ap length digits, ap all_digits digits ∙ all_shown 6 reading.number);
        no_digits_lem = λ why e. cc;
        hyphens = λ none. cc;
        light_off = λ _. light_is off;
        light_on = λ none. cc;
      }

  over_tells : reading.overload ≡ true → Tells shown reading
  over_tells over = grind (arith, common_steps, digits_are, light_is, no_digit, overload_refused)

  weight_line : WeightLine shown reading
  weight_line = grind (arith, common_steps, field_is, off_tells, over_tells)

pub weight_lines_tell : WeightLinesTell
unfolding written_line
weight_lines_tell number load address reading room good =
    let made = line_of number (Some (entry_as.Weight load address reading)) in
    let verdict = sym (verdict_of_lem _ made room) ∙ good in
    let within = not-false _ (test_passed (not (in_range reading)) _ _ verdict) in
    subst (λ (one : List ℕ). WeightLine one reading) (sym (rw verdict (take-append_seam made (drop (length made) room)))) (weight_line number load address reading within)

-- a weight that is heard lies within its ranges
heard_within : (family : Family) (heard : Heard) (load : Load) (address : Address) (reading : Reading) → entry_heard family heard ≡ Some (entry_as.Weight load address reading)
    → in_range reading ≡ true
unfolding entry_heard
heard_within family heard load address reading e = grind (arith, common_steps, body_sound)

pub heard_lines_tell : HeardLinesTell
heard_lines_tell family heard load address reading e number =
    rw e (weight_line number load address reading (heard_within family heard load address reading e))

-- ---- no other line says `weight`: its second word is longer, or it has none

not_weight : (word : List ℕ) → 7 ≤ length word → word ≡ spelt "weight" → ⊥
not_weight word long is = omega (arith, ap length is)

-- the fields of the other lines
abbrev message_fields : Address → ℕ → List (List ℕ)
message_fields address code = spelt "message" ∷ address_text address ∷ hex_byte code ∷ []

abbrev refused_fields : ℕ → List (List ℕ)
refused_fields why = spelt "refused" ∷ decimal why ∷ []

abbrev total_fields : ℕ → ℕ → ℕ → List (List ℕ)
total_fields total weights refused = decimal total ∷ spelt "weights" ∷ decimal weights ∷ spelt "refused" ∷ decimal refused ∷ []

message_whole : (number : ℕ) (address : Address) (code : ℕ) → AllWhole (decimal number ∷ message_fields address code)
message_whole number address code = grind (arith, common_steps, decimal_whole)

refused_whole : (number why : ℕ) → AllWhole (decimal number ∷ refused_fields why)
refused_whole number why = grind (arith, common_steps, decimal_whole)

total_whole : (total weights refused : ℕ) → AllWhole (spelt "total" ∷ total_fields total weights refused)
total_whole total weights refused = grind (arith, common_steps, decimal_whole)

pub only_weights_say_weight : OnlyWeightsSayWeight
only_weights_say_weight number None says = absurd (omega (arith, ap length (sym (none_behind 1) ∙ says)))
only_weights_say_weight number (Some (entry_as.Weight load address reading)) says = grind (arith, common_steps)
only_weights_say_weight number (Some (entry_as.Message address code)) says =
    absurd (not_weight (spelt "message") (omega arith) (sym (field_of 1 (decimal number) (message_fields address code) (message_whole number address code)) ∙ says))
only_weights_say_weight number (Some (entry_as.Refused why)) says =
    absurd (not_weight (spelt "refused") (omega arith) (sym (field_of 1 (decimal number) (refused_fields (number_of why)) (refused_whole number (number_of why))) ∙ says))

-- a number has a digit, and `weight` has none
number_shown_lem : (number : ℕ) → any_digit (decimal number) ≡ true
unfolding decimal decimal_in any_digit
number_shown_lem number = by_test (ltb number 10) refl
  where
    by_test : (test : Bool) → ltb number 10 ≡ test → any_digit (cond test (digit number ∷ []) (decimal_in 18 (number / 10) ++ (digit (number % 10) ∷ []))) ≡ true
    by_test true low = rw (digit_is number (ltb-true number 10 low))
    by_test false high = any_then (decimal_in 18 (number / 10)) (digit (number % 10)) (digit_is (number % 10) (omega arith))

pub total_says_no_weight : TotalSaysNoWeight
unfolding any_digit
total_says_no_weight total weights refusals says =
    let counted = field_of 1 (spelt "total") (total_fields total weights refusals) (total_whole total weights refusals) in
    absurd (true≢false (sym (number_shown_lem total) ∙ ap any_digit (sym counted ∙ says)))
