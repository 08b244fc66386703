-- 01, "The frame": "Writing: one FF, the body, two FFs. After each FF inside the body one FE is inserted."
-- "The room needed is body length + 3 + the number of FF bytes in the body."
use Rattle.std.specs.Prelude.{ℕ, ◌+◌, cond, List, [], ◌∷◌, ◌++◌, length, eqb}

-- one byte of a body as it goes onto the wire
unfoldable pub stuffed_byte : ℕ → List ℕ
stuffed_byte byte = cond (eqb byte 0xFF) (0xFF ∷ 0xFE ∷ []) (byte ∷ [])

-- a body as it goes onto the wire
unfoldable pub stuffed : List ℕ → List ℕ
stuffed [] = []
stuffed (byte ∷ body) = stuffed_byte byte ++ stuffed body

-- one FF, the body, two FFs
unfoldable pub framed : List ℕ → List ℕ
framed body = 0xFF ∷ (stuffed body ++ (0xFF ∷ 0xFF ∷ []))

-- the number of FF bytes in a body
unfoldable pub count_ff : List ℕ → ℕ
count_ff [] = 0
count_ff (byte ∷ body) = cond (eqb byte 0xFF) 1 0 + count_ff body

-- the room rule
unfoldable pub needed : List ℕ → ℕ
needed body = length body + 3 + count_ff body

-- the way back: the byte after each FF is dropped
unfoldable pub unstuffed : List ℕ → List ℕ
unstuffed [] = []
unstuffed (byte ∷ []) = byte ∷ []
unstuffed (byte ∷ after ∷ rest) = cond (eqb byte 0xFF) (0xFF ∷ unstuffed rest) (byte ∷ unstuffed (after ∷ rest))
