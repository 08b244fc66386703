-- Shown: a body is address, code, data and check: how long it is, that taking one apart and putting it together are each other's inverse.
-- Why: the address tells its own length by its first byte, and the check is the only last byte that feeds to 0.
use Prim.Native.Nat.{ℕ, ◌+◌}
use mathlib.Core.Path.{◌≡◌, ◌∙◌, refl}
use mathlib.Core.List.{List, ◌∷◌}
use native.Mathlib.Omega.{arith}
use lib.ListN.{length, length-append}
use Rattle.low_first.specs.LowFirst.{low_bytes}
use Rattle.body.specs.declared.addresses.Address.{Address}
use Rattle.body.specs.declared.addresses.Address.TheVariants.{Short, Serial}
use Rattle.body.specs.Addresses.{address_bytes, address_length}
use Rattle.body.specs.Body.{unchecked, body_of}

pub address_length_lem : (address : Address) → length (address_bytes address) ≡ address_length address
unfolding address_bytes low_bytes address_length
address_length_lem (Short byte) = refl
address_length_lem (Serial serial) = refl

pub unchecked_length : (address : Address) (code : ℕ) (data' : List ℕ) → length (unchecked address code data') ≡ address_length address + length data' + 1
unfolding unchecked
unchecked_length address code data' = length-append (address_bytes address) (code ∷ data') ∙ omega (arith, address_length_lem address)

pub body_length : (address : Address) (code : ℕ) (data' : List ℕ) → length (body_of address code data') ≡ address_length address + length data' + 2
unfolding body_of
body_length address code data' = length-append (unchecked address code data') _ ∙ omega (arith, unchecked_length address code data')
