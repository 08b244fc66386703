-- Shown: each promise of this crate admits one answer.
-- Why: each is an equation with a definition.
use Rattle.std.specs.Prelude.{Result}
use Prim.Native.Nat.{ℕ, ◌≤◌}
use mathlib.Core.Path.{◌≡◌}
use mathlib.Core.Bool.{Bool}
use mathlib.Core.List.{List}
use Rattle.laws.proofs.OneAnswer.{one}
use Rattle.body.specs.declared.addresses.Address.{Address}
use Rattle.body.specs.Addresses.{legal, address_length, first_byte, serial_of}
use Rattle.body.specs.Body.{check_right, judged_lent, opened_if, opened_body}
use Rattle.refusal.specs.declared.Refusal.{Refusal}
use Rattle.body.specs.declared.bodies.Parts.{Parts}

pub legal_one : (address : Address) (a b : Bool) → a ≡ legal address → b ≡ legal address → a ≡ b
legal_one address a b = one

pub check_right_one : (body : List ℕ) (a b : Bool) → a ≡ check_right body → b ≡ check_right body → a ≡ b
check_right_one body a b = one

pub judge_one : (body : List ℕ) (a b : Result (Unit {0}) Refusal) → a ≡ judged_lent body → b ≡ judged_lent body → a ≡ b
judge_one body a b = one

pub open_without_check_one : (right : Bool) (body : List ℕ) (a b : Result Parts Refusal) → a ≡ opened_if right body → b ≡ opened_if right body → a ≡ b
open_without_check_one right body a b = one

pub open_one : (body : List ℕ) (a b : Result Parts Refusal) → a ≡ opened_body body → b ≡ opened_body body → a ≡ b
open_one body a b = one

pub address_length_one : (address : Address) (a b : ℕ) → (a ≡ address_length address) × (a ≤ 4) → (b ≡ address_length address) × (b ≤ 4) → a ≡ b
address_length_one address a b p q = one p.0 q.0

pub first_byte_one : (address : Address) (a b : ℕ) → a ≡ first_byte address → b ≡ first_byte address → a ≡ b
first_byte_one address a b = one

pub serial_of_one : (address : Address) (a b : ℕ) → a ≡ serial_of address → b ≡ serial_of address → a ≡ b
serial_of_one address a b = one
