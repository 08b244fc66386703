-- Shown: what a table owns as a parameter or a result is what it owns as a field of a struct: the two formulas are equal.
-- Why: at one cell the two are the same, and so they are, element by element, at the hours of a day and at the days.
use Prim.Native.Nat.{ℕ}
use mathlib.Core.Path.{◌≡◌, refl, sym}
use mathlib.Core.List.{List, [], ◌∷◌, map}
use lib.ListN.{length-map}
use mir.Val.{Val}
use base.Fml.{Fml, feq, fsep, fex}
use denote.RattleType.{RattleType}
use denote.Array.{Array, array_val, each, in_array}
use denote.Struct.Field.{Field, array_field}
use Rattle.hour_cell.specs.contracts.cells.Cell as Cell

-- an array of n of the field F, where f of an element is what F owns at it
module _ (F : Field) (f : F.Value → List Val → Fml) (one : (x : F.Value) (vs : List Val) → f x vs ≡ F.row.own_val (F.into x) vs) where
  each_same : (xs : List F.Value) (us : List Val) → each F.Value f xs us ≡ each F.row.Denot F.row.own_val (map F.into xs) us
  each_same [] [] = refl
  each_same [] (u ∷ us) = refl
  each_same (x ∷ xs) [] = refl
  each_same (x ∷ xs) (u ∷ us) = λ i. fsep (one x (u ∷ []) i) (each_same xs us i)

  array_same : (n : ℕ) (xs : List F.Value) (vs : List Val) → in_array F.Value f n xs vs ≡ (array_field F n).row.own_val ((array_field F n).into xs) vs
  array_same n xs vs = λ i. fex (List Val) (λ us. fsep (fsep (feq (List Val) vs (array_val us ∷ [])) (feq ℕ (sym (length-map xs F.into) i) n)) (each_same xs us i))

abbrev pub Table : RattleType
Table = Array (Array Cell.the_row 24) 7

abbrev pub TableField : Field
TableField = array_field (array_field Cell.the_field 24) 7

pub table_same : (t : Table.Denot) (vs : List Val) → Table.own_val t vs ≡ TableField.row.own_val (TableField.into t) vs
table_same = array_same (array_field Cell.the_field 24) _ (array_same Cell.the_field _ (λ c vs. refl) 24) 7
