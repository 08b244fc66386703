-- Shown: a legal address that crosses comes back as itself, and the bytes that stand for no weight read as none.
-- Why: a legal short address is not 0; no family has the number 255.
use Rattle.std.specs.Prelude.{Err}
use mathlib.Core.Path.{◌≡◌, refl}
use mathlib.Core.Bool.{true, and-eq-true_iff}
use borrow.Author.Tests.{ne_eqb, leb-true}
use native.Mathlib.Omega.{arith}
use lib.Dec.{leb}
use Rattle.refusal.specs.declared.Refusal.TheVariants.{FieldOutside}
use Rattle.body.specs.declared.addresses.Address.{Address}
use Rattle.body.specs.declared.addresses.Address.TheVariants.{Short, Serial}
use Rattle.body.specs.Addresses.{legal, first_byte, serial_of}
use Rattle.weight.specs.Families.{named_in, family_named}
use Rattle.weight.specs.Bytes.{read_of}
use Rattle.quay_message.specs.Addresses.{address_from}
use Rattle.quay_message.specs.Messages.{without_digits}

pub address_back : (address : Address) → legal address ≡ true → address_from (first_byte address) (serial_of address) ≡ address
unfolding address_from legal
address_back (Serial serial) is_legal = refl
address_back (Short short) is_legal =
    let low = leb-true 1 short ((and-eq-true_iff (leb 1 short) _).0 is_legal).0 in
    rw (ne_eqb short 0 (λ (e : short ≡ 0). omega arith))

pub no_weight : read_of without_digits ≡ Err FieldOutside
unfolding read_of family_named named_in
no_weight = refl
