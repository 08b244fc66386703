-- Shown: what a listener makes of one stuffed body: heard from a delimiter on, it is kept whole and its second FF gives the frame; joined inside
-- it, the rest is silent. Why: after each FF of a body stands an FE, so nothing in it ends or breaks it, and its first byte starts it.
use Rattle.std.specs.Prelude.{Ok}
use Prim.Native.Nat.{ℕ, zero, suc, ◌+◌, ◌-◌, ◌≤◌, ◌<◌}
use mathlib.Core.Path.{◌≡◌, ◌∙◌, refl, ap}
use mathlib.Core.Bool.{Bool, true, false}
use mathlib.Core.List.{List, [], ◌∷◌, ◌++◌, append-nil}
use native.Mathlib.Omega.{arith}
use borrow.Author.Tests.{eqb-true, ne_eqb}
use lib.ListN.{length, drop, replicate, length-append}
use lib.Dec.{eqb}
use Rattle.std.proofs.lemmas.Grind.{common_steps}
use Rattle.body.specs.Body.{judged}
use Rattle.frame.specs.Stuffing.{stuffed, stuffed_byte}
use Rattle.line.specs.Listener.{Heard, frame, seeking, delimited, inside, held, events}
use Rattle.demands.proofs.Bytes.{clock, at, seeking_ff, seeking_other, delimited_fe, delimited_other, delimited_run, inside_ff, inside_other, held_fe, held_ff}
use Rattle.body.proofs.Rebuilding.{good_not_empty, first_low}

-- a body beside its stuffed form, byte by byte
pub data Stuffed : (body bytes : List ℕ) → Type 0 where
  none : Stuffed [] []
  ff : {body bytes : List ℕ} → Stuffed body bytes → Stuffed (0xFF ∷ body) (0xFF ∷ 0xFE ∷ bytes)
  other : {byte : ℕ} {body bytes : List ℕ} → eqb byte 0xFF ≡ false → Stuffed body bytes → Stuffed (byte ∷ body) (byte ∷ bytes)

stuff_byte : (byte : ℕ) {body bytes : List ℕ} → Stuffed body bytes → (is : Bool) → eqb byte 0xFF ≡ is → Stuffed (byte ∷ body) (stuffed_byte byte ++ bytes)
unfolding stuffed_byte
stuff_byte byte s true is = rw (eqb-true byte 0xFF is) (ff s)
stuff_byte byte s false not_ff = rw not_ff (other not_ff s)

pub stuff : (body : List ℕ) → Stuffed body (stuffed body)
unfolding stuffed
stuff [] = none
stuff (byte ∷ body) = stuff_byte byte (stuff body) (eqb byte 0xFF) refl

-- inside, a stuffed body is kept whole
inside_body : {body bytes : List ℕ} → Stuffed body bytes → (kept rest : List ℕ) (n m : ℕ) → length kept + length body ≤ 255 → n + length bytes ≡ m
    → events (at (inside kept) n) (bytes ++ rest) ≡ events (at (inside (kept ++ body)) m) rest
inside_body none kept rest n m room e =
    let same : n ≡ m = omega arith in
    rw (append-nil, same)
inside_body (ff {body} {bytes} s) kept rest n m room e = grind (arith, common_steps, held_fe, inside_ff, length-append, inside_body s (kept ++ (0xFF ∷ [])) rest (suc (suc n)) m (simp length-append (omega arith)) (omega arith))
inside_body (other {byte} {body} {bytes} not_ff s) kept rest n m room e = grind (arith, common_steps, inside_other, length-append, inside_body s (kept ++ (byte ∷ [])) rest (suc n) m (simp length-append (omega arith)) (omega arith))

-- who joined inside a body hears nothing of the rest of it: a stuffed FF leads to Delimited, its FE back to Seeking
pub seeking_late : {body bytes : List ℕ} → Stuffed body bytes → (late : ℕ) (rest : List ℕ) (n m : ℕ) → n + (length bytes - late) ≡ m
    → events (at seeking n) (drop late bytes ++ rest) ≡ events (at seeking m) rest
seeking_late none zero rest n m e =
    let same : n ≡ m = omega arith in
    rw same
seeking_late none (suc late) rest n m e =
    let same : n ≡ m = omega arith in
    rw same
seeking_late (ff {body} {bytes} s) zero rest n m e = grind (arith, common_steps, delimited_fe, seeking_ff, seeking_late s zero rest (suc (suc n)) m (omega arith))
seeking_late (ff {body} {bytes} s) (suc zero) rest n m e =
    seeking_other n (bytes ++ rest) 0xFE refl ∙ seeking_late s zero rest (suc n) m (omega arith)
seeking_late (ff {body} {bytes} s) (suc (suc late)) rest n m e = seeking_late s late rest n m (omega arith)
seeking_late (other {byte} {body} {bytes} not_ff s) zero rest n m e =
    seeking_other n (bytes ++ rest) byte not_ff ∙ seeking_late s zero rest (suc n) m (omega arith)
seeking_late (other {byte} {body} {bytes} not_ff s) (suc late) rest n m e = seeking_late s late rest n m (omega arith)

-- from a delimiter on, a byte that starts a body, the rest of it and one FF lead to Held with the whole body kept
pub kept_whole : (byte : ℕ) {body bytes : List ℕ} → eqb byte 0xFF ≡ false → eqb byte 0xFE ≡ false → Stuffed body bytes → 1 + length body ≤ 255 → (n m : ℕ) (rest : List ℕ)
    → n + length (byte ∷ bytes) + 1 ≡ m
    → events (at delimited n) (byte ∷ (bytes ++ (0xFF ∷ rest))) ≡ events (at (held (byte ∷ body)) m) rest
kept_whole byte {body} {bytes} not_ff not_fe s most n m rest e =
    let clocks : suc (suc n + length bytes) ≡ m = omega arith in
    delimited_other n (bytes ++ (0xFF ∷ rest)) byte not_ff not_fe
    ∙ inside_body s (byte ∷ []) (0xFF ∷ rest) (suc n) (suc n + length bytes) most refl
    ∙ inside_ff (suc n + length bytes) rest (byte ∷ body)
    ∙ ap (λ (k : ℕ). events (at (held (byte ∷ body)) k) rest) clocks

-- a good body starts with such a byte
body_held : {body bytes : List ℕ} → Stuffed body bytes → judged body ≡ Ok tt → length body ≤ 255 → (n m : ℕ) (rest : List ℕ)
    → n + length bytes + 1 ≡ m
    → events (at delimited n) (bytes ++ (0xFF ∷ rest)) ≡ events (at (held body) m) rest
body_held none good most n m rest e = absurd (good_not_empty good)
body_held (ff {body} s) good most n m rest e = let low : 0xFF < 0xFE = first_low (0xFF ∷ body) good in absurd (omega arith)
body_held (other {byte} {body} {bytes} not_ff s) good most n m rest e =
    let low : byte < 0xFE = first_low (byte ∷ body) good in
    kept_whole byte not_ff (ne_eqb byte 0xFE (λ (e : byte ≡ 0xFE). omega arith)) s (omega arith) n m rest e

-- the second FF gives the frame
pub whole : {body bytes : List ℕ} → Stuffed body bytes → judged body ≡ Ok tt → length body ≤ 255 → (behind n : ℕ) (rest : List ℕ) → 2 ≤ behind
    → events (at delimited n) (bytes ++ (replicate behind 0xFF ++ rest))
    ≡ frame (clock (n + length bytes + 2)) (length body) body ∷ events (at delimited (n + length bytes + behind)) rest
whole s good most zero n rest two = absurd (omega arith)
whole s good most (suc zero) n rest two = absurd (omega arith)
whole {body} {bytes} s good most (suc (suc behind)) n rest two =
    let clocks : suc (n + length bytes + 1) ≡ n + length bytes + 2 = omega arith in
    body_held s good most n (n + length bytes + 1) (0xFF ∷ (replicate behind 0xFF ++ rest)) refl
    ∙ held_ff (n + length bytes + 1) (replicate behind 0xFF ++ rest) body good
    ∙ ap (λ (k : ℕ). frame (clock k) (length body) body ∷ events (at delimited k) (replicate behind 0xFF ++ rest)) clocks
    ∙ ap (λ (later : List Heard). frame (clock (n + length bytes + 2)) (length body) body ∷ later)
    (delimited_run behind (n + length bytes + 2) (n + length bytes + suc (suc behind)) rest (omega arith))
