-- Shown: unstuffing gives a body back, so two bodies never stuff alike; a frame's length is the room rule's.
-- Why: after each FF exactly one FE is inserted, and the way back takes exactly one byte after each FF.
use Prim.Native.Nat.{ℕ, suc, ◌+◌, ◌≤◌}
use mathlib.Core.Path.{◌≡◌, ◌∙◌, refl, sym, ap}
use mathlib.Core.Bool.{Bool, true, false, cond}
use mathlib.Core.List.{List, [], ◌∷◌, ◌++◌, append-nil, append_assoc}
use native.Mathlib.Omega.{arith}
use borrow.Author.Tests.{eqb-true}
use lib.Dec.{eqb}
use lib.ListN.{length, length-append}
use Rattle.std.specs.Prelude.{count_by, ◌==◌}
use Rattle.std.proofs.lemmas.Grind.{common_steps}
use Rattle.std.proofs.lemmas.Bool.Decides.{nat_tests}
use Rattle.frame.specs.Stuffing.{stuffed_byte, stuffed, framed, count_ff, needed, unstuffed}

-- a body in two parts stuffs part by part
pub stuffed_append : (first second : List ℕ) → stuffed (first ++ second) ≡ stuffed first ++ stuffed second
unfolding stuffed
stuffed_append [] second = refl
stuffed_append (byte ∷ first) second =
    ap (λ (rest : List ℕ). stuffed_byte byte ++ rest) (stuffed_append first second) ∙ sym (append_assoc (stuffed_byte byte) (stuffed first) (stuffed second))

pub stuffed_one : (byte : ℕ) → stuffed (byte ∷ []) ≡ stuffed_byte byte
unfolding stuffed
stuffed_one byte = append-nil (stuffed_byte byte)

-- one byte takes one place on the wire, an FF two
pub byte_length : (byte : ℕ) → length (stuffed_byte byte) ≡ 1 + cond (eqb byte 0xFF) 1 0
unfolding stuffed_byte
byte_length byte = by_test (eqb byte 0xFF)
  where
    by_test : (test : Bool) → length (cond test (0xFF ∷ 0xFE ∷ []) (byte ∷ [])) ≡ 1 + cond test 1 0
    by_test true = refl
    by_test false = refl

pub stuffed_length : (body : List ℕ) → length (stuffed body) ≡ length body + count_ff body
unfolding stuffed count_ff
stuffed_length [] = refl
stuffed_length (byte ∷ body) =
    length-append (stuffed_byte byte) (stuffed body)
    ∙ omega (arith, byte_length byte, stuffed_length body)

pub count_most : (body : List ℕ) → count_ff body ≤ length body
unfolding count_ff
count_most [] = omega arith
count_most (byte ∷ body) = omega (arith, byte_most (eqb byte 0xFF), count_most body)
  where
    byte_most : (test : Bool) → cond test 1 0 ≤ 1
    byte_most true = omega arith
    byte_most false = omega arith

-- the length is the room rule's
pub framed_length : (body : List ℕ) → length (framed body) ≡ needed body
unfolding framed needed
framed_length body = ap (λ (n : ℕ). suc n) (length-append (stuffed body) (0xFF ∷ 0xFF ∷ [])) ∙ omega (arith, stuffed_length body)

-- a byte that is no FF stays, whatever follows
unstuffed_plain : (byte : ℕ) (rest : List ℕ) → eqb byte 0xFF ≡ false → unstuffed (byte ∷ rest) ≡ byte ∷ unstuffed rest
unfolding unstuffed
unstuffed_plain byte [] plain = refl
unstuffed_plain byte (after ∷ rest) plain = rw plain

unstuffed_byte : (byte : ℕ) (rest : List ℕ) (test : Bool) → eqb byte 0xFF ≡ test → unstuffed (stuffed_byte byte ++ rest) ≡ byte ∷ unstuffed rest
unfolding stuffed_byte unstuffed
unstuffed_byte byte rest true e = rw (eqb-true byte 0xFF e)
unstuffed_byte byte rest false e = rw e (unstuffed_plain byte rest e)

-- unstuffing gives the body back
pub unstuffed_stuffed : (body : List ℕ) → unstuffed (stuffed body) ≡ body
unfolding stuffed unstuffed
unstuffed_stuffed [] = refl
unstuffed_stuffed (byte ∷ body) =
    unstuffed_byte byte (stuffed body) (eqb byte 0xFF) refl ∙ ap (λ (rest : List ℕ). byte ∷ rest) (unstuffed_stuffed body)

-- two bodies never stuff alike
pub stuffed_apart : (body other : List ℕ) → stuffed body ≡ stuffed other → body ≡ other
stuffed_apart body other same = sym (unstuffed_stuffed body) ∙ ap unstuffed same ∙ unstuffed_stuffed other

-- the FF bytes are counted by the library's word, and there are no more of them than bytes
pub counted_ff : (body : List ℕ) → count_by (λ byte. byte == 0xFF) body ≡ count_ff body
unfolding count_ff
counted_ff [] = refl
counted_ff (byte ∷ body) = grind (arith, common_steps, counted_ff body)

pub few_ff : (body : List ℕ) → count_ff body ≤ length body
unfolding count_ff
few_ff [] = omega arith
few_ff (byte ∷ body) = grind (arith, nat_tests, few_ff body)
