-- Shown: what holds of 1, 4 and 5 holds of every refusal at a body's end, and so with 2 for a lent body, and with 6, 7, 8 for a message. Of 5 it has to
-- hold only where the address is not legal.
-- Why: each test refuses with its own number, and the first that holds decides.
use Rattle.std.specs.Prelude.{Result, Ok, Err}
use Prim.Native.Nat.{ℕ}
use mathlib.Core.Path.{◌≡◌, ◌∙◌, refl, sym, subst}
use mathlib.Core.Bool.{Bool, true, false, not}
use mathlib.Core.List.{List}
use borrow.Author.Tests.{not-true}
use lib.Dec.{ltb, eqb}
use lib.ListN.{length}
use Rattle.refusal.specs.declared.Refusal.{Refusal}
use Rattle.refusal.specs.declared.Refusal.TheVariants.{BodyShort, BodyLong, CheckWrong, AddressIllegal, CodeUnknown, LengthWrong, FieldOutside}
use Rattle.refusal.specs.Numbers.{number_of, line_status, refuse_if}
use Rattle.refusal.proofs.Verdicts.{verdict_refused}
use Rattle.check_byte.specs.Register.{received}
use Rattle.body.specs.Addresses.{legal, address_in}
use Rattle.body.specs.Body.{longest, short, judged, judged_lent, code_in, data_in}
use Rattle.weight.specs.declared.families.Family.{Family}
use Rattle.codes.specs.declared.table.Role.{Role}
use Rattle.codes.specs.Table.{row_of, in_table}
use Rattle.codes.specs.Lengths.{length_of, length_right}
use Rattle.meaning.specs.Fields.{fields_right}
use Rattle.meaning.specs.Judging.{judged_code, judged_then, judged_data, judged_message}
use Rattle.message.specs.Reading.{judged_body, read_message}
use Rattle.message.proofs.Checked.{in_order, read_so, received_tells}

module _ (holds : Refusal → Type 0) where
  -- what a verdict refuses with
  OfRefusal : Result (Unit {0}) Refusal → Type 0
  OfRefusal (Ok tt) = Unit {0}
  OfRefusal (Err why) = holds why

  refusing : (test : Bool) (why : Refusal) (after : Result (Unit {0}) Refusal) → (test ≡ true → holds why) → OfRefusal after → OfRefusal (refuse_if test why after)
  unfolding OfRefusal
  refusing true why after first rest = first refl
  refusing false why after first rest = rest

  one_then : (first second : Result (Unit {0}) Refusal) → OfRefusal first → OfRefusal second → OfRefusal (judged_then first second)
  unfolding OfRefusal
  one_then (Ok tt) second p q = q
  one_then (Err why) second p q = p

  module _ (body : List ℕ) (one : holds BodyShort) (four : holds CheckWrong) (five : legal (address_in body) ≡ false → holds AddressIllegal) where
    at_end : OfRefusal (judged body)
    unfolding judged OfRefusal
    at_end =
        let legal_address = legal (address_in body) in
        refusing (short body) _ _ (λ _. one)
        (refusing (not (eqb (received body) 0)) _ _ (λ _. four) (refusing (not legal_address) _ _ (λ illegal. five (not-true legal_address illegal)) tt))

    pub end_refuses : (why : Refusal) → judged body ≡ Err why → holds why
    unfolding OfRefusal
    end_refuses why e = subst OfRefusal e at_end

    module _ (two : holds BodyLong) (six : holds CodeUnknown) (seven : holds LengthWrong) (eight : holds FieldOutside) where
      of_message : (role : Role) (family : Family) (code : ℕ) (data' : List ℕ) → OfRefusal (judged_message role family code data')
      unfolding judged_message judged_code judged_data OfRefusal
      of_message role family code data' =
          one_then (judged_code role code) _ (refusing (not (in_table (row_of role code))) _ _ (λ _. six) tt)
          (refusing (not (length_right (length_of (row_of role code)) data')) _ _ (λ _. seven)
          (refusing (not (fields_right family (row_of role code) data')) _ _ (λ _. eight) tt))

      of_body_lem : (role : Role) (family : Family) → OfRefusal (judged_body role family body)
      unfolding judged_lent judged
      of_body_lem role family =
          rw (in_order role family body)
          (one_then (judged_lent body) _ (refusing (ltb longest (length body)) _ _ (λ _. two) at_end) (of_message role family (code_in body) (data_in body)))

      pub message_refuses : (role : Role) (family : Family) (why : Refusal) → read_message role family body ≡ Err why → holds why
      unfolding OfRefusal
      message_refuses role family why e = subst OfRefusal (verdict_refused received_tells (judged_body role family body) _ why (sym (read_so role family body) ∙ e)) (of_body_lem role family)

-- so each of them is a refusal that a line can meet
pub message_met : (role : Role) (family : Family) (body : List ℕ) (why : Refusal) → read_message role family body ≡ Err why → line_status (number_of why) ≡ true
message_met role family body = message_refuses (λ (why : Refusal). line_status (number_of why) ≡ true) body refl refl (λ _. refl) refl refl refl refl role family
