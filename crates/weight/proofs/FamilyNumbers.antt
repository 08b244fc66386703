-- Shown: a family's number names the family, and a number that names a family is that family's.
-- Why: the table's numbers are 0 to 3, each of one family.
use Rattle.std.specs.Prelude.{Option, Some}
use Prim.Native.Nat.{ℕ}
use mathlib.Core.Path.{◌≡◌, refl, sym}
use mathlib.Core.Bool.{Bool, true, false, cond}
use mathlib.Core.List.{List, [], ◌∷◌}
use borrow.Author.Tests.{eqb-true}
use lib.Dec.{eqb}
use Rattle.weight.specs.declared.families.Family.{Family}
use Rattle.weight.specs.declared.families.Family.TheVariants.{Plain, Of000, Of001, Of002}
use Rattle.weight.specs.Families.{family_number, families, named_in, family_named}

pub number_named : (family : Family) → family_named (family_number family) ≡ Some family
unfolding family_named named_in
number_named Plain = refl
number_named Of000 = refl
number_named Of001 = refl
number_named Of002 = refl

-- the first of a list that has the number
by_test : (one : Family) (number : ℕ) (family : Family) (later : Option Family) (found : Bool) → eqb number (family_number one) ≡ found
    → (later ≡ Some family → family_number family ≡ number) → cond found (Some one) later ≡ Some family
    → family_number family ≡ number
by_test one number family later true is rest e = let same : family ≡ one = cc in rw same (sym (eqb-true number (family_number one) is))
by_test one number family later false is rest e = rest e

named_in_lem : (list : List Family) (number : ℕ) (family : Family) → named_in list number ≡ Some family → family_number family ≡ number
unfolding named_in
named_in_lem [] number family e = cc
named_in_lem (one ∷ more) number family e =
    by_test one number family (named_in more number) (eqb number (family_number one)) refl (λ later. named_in_lem more number family later) e

pub named_number : (number : ℕ) (family : Family) → family_named number ≡ Some family → family_number family ≡ number
unfolding family_named
named_number number family e = named_in_lem families number family e
