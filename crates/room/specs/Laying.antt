-- Bytes laid into a lent room from some place on, one piece after the other. A write is made of such pieces.
use Rattle.std.specs.Prelude.{ℕ, ◌+◌, ◌≡◌, cond, List, ◌++◌, length, take, drop, leb}

-- bytes laid over the front of a room; every other byte is as it stood
abbrev pub over : List ℕ → List ℕ → List ℕ
over bytes room = bytes ++ drop (length bytes) room

-- bytes laid into a room from place `at` on; if they would pass its end, every byte stays as it stood
unfoldable pub laid : ℕ → List ℕ → List ℕ → List ℕ
laid at bytes room = cond (leb (at + length bytes) (length room)) (over (take at room ++ bytes) room) room

-- the place after them, or the same place if they did not fit
unfoldable pub behind : ℕ → List ℕ → List ℕ → ℕ
behind at bytes room = cond (leb (at + length bytes) (length room)) (at + length bytes) at

-- a promise: the place and the room after a piece was laid, and no others
pub record Laid (at : ℕ) (bytes before : List ℕ) (answered : ℕ) (left : List ℕ) : Type 0 where
  pub place : answered ≡ behind at bytes before
  pub room : left ≡ laid at bytes before
