-- 02, request 6: what a cell holds, and what its sum must keep: "31 first, a lent cell whose sum, sign aside, is beyond its count times
-- 9,999,990,000,000"; one weight or one refused record more: "23 when a count would pass 65,535".
use Rattle.std.specs.Prelude.{ℕ, ◌+◌, ◌*◌, Bool, not, cond, leb, ltb, ℤ, pos, nat_abs, ◌+ℤ◌, Result, Ok, Err}
use Rattle.refusal.specs.declared.Refusal.TheVariants.{FieldOutside, CountFull, SumBeyond}
use Rattle.hour_cell.specs.declared.cells.Cell.{Cell}
use Rattle.refusal.specs.declared.Refusal.{Refusal}

-- nothing was noted
abbrev pub empty_cell : Cell
empty_cell = record { weights = 0; refused = 0; sum = pos 0 }

-- the largest value of a weight, sign aside
abbrev pub largest : ℕ
largest = 9999990000000

-- "beyond its count times 9,999,990,000,000" is 31; at it is sound
unfoldable pub sound : Cell → Bool
sound cell = leb (nat_abs cell.sum) (cell.weights * largest)

-- "23 when a count would pass 65,535"
abbrev pub would_pass : ℕ → Bool
would_pass count = ltb 65535 (count + 1)

-- one weight more, and its value in the sum: 31, then 8 for a value that no weight has, then 23
unfoldable pub with_weight : ℤ → Cell → Result Cell Refusal
with_weight tenths cell =
    cond (not (sound cell)) (Err SumBeyond)
    (cond (ltb largest (nat_abs tenths)) (Err FieldOutside)
    (cond (would_pass cell.weights) (Err CountFull)
    (Ok (record { weights = cell.weights + 1; refused = cell.refused; sum = cell.sum +ℤ tenths }))))

-- one refused record more: 31, then 23
unfoldable pub with_refused : Cell → Result Cell Refusal
with_refused cell =
    cond (not (sound cell)) (Err SumBeyond)
    (cond (would_pass cell.refused) (Err CountFull)
    (Ok (record { weights = cell.weights; refused = cell.refused + 1; sum = cell.sum })))
