-- Shown: the pieces that frame writing lays one behind the other are the body, and the frame around it.
-- Why: pieces laid one behind the other are one piece, and each piece is what the definition names next.
use Prim.Native.Nat.{ℕ, ◌+◌, ◌≤◌, ◌<◌}
use mathlib.Core.Path.{◌≡◌, ◌∙◌, sym, ap}
use mathlib.Core.Bool.{false}
use mathlib.Core.List.{List, [], ◌∷◌, ◌++◌, append_assoc}
use native.Mathlib.Omega.{arith}
use native.Mathlib.Numerals.{add-one}
use borrow.Author.Tests.{eq-eqb}
use lib.Dec.{eqb}
use lib.ListN.{length, take, drop, get_or, length-append, take-append-drop}
use lib.Seq.{take_at, take-suc}
use Rattle.room.specs.Laying.{Laid}
use Rattle.room.proofs.Over.{laid_then, laid_front, laid_length, behind_fits}
use Rattle.check_byte.specs.Register.{check_of}
use Rattle.body.specs.declared.addresses.Address.{Address}
use Rattle.body.specs.Addresses.{address_bytes}
use Rattle.body.specs.Body.{unchecked, body_of}
use Rattle.frame.specs.Stuffing.{stuffed_byte, stuffed, framed, needed}
use Rattle.frame.proofs.Stuffing.{stuffed_append, stuffed_one, stuffed_length}

-- address, code, data
pub unchecked_laid : (address : Address) {code a b c : ℕ} {data' room l m n : List ℕ} → length (unchecked address code data') ≤ length room
    → Laid 0 (address_bytes address) room a l → Laid a (code ∷ []) l b m → Laid b data' m c n → Laid 0 (unchecked address code data') room c n
unfolding unchecked
unchecked_laid address {code} {a} {b} {c} {data'} {room} {l} {m} {n} h at_front behind_address behind_code =
    let size : length (address_bytes address ++ (code ∷ data')) ≡ length (address_bytes address) + length (code ∷ data') =
    length-append (address_bytes address) (code ∷ data') in
    let half : length (address_bytes address ++ (code ∷ [])) ≡ length (address_bytes address) + 1 = length-append (address_bytes address) (code ∷ []) in
    rw (append_assoc (address_bytes address) (code ∷ []) data')
    at (laid_then (omega arith) (laid_then (omega arith) at_front behind_address) behind_code)

pub unchecked_fits : (address : Address) (code : ℕ) (data' : List ℕ) {room : ℕ} → length (body_of address code data') ≤ room → length (unchecked address code data') ≤ room
unfolding body_of
unchecked_fits address code data' h = omega (arith, length-append (unchecked address code data') (check_of (unchecked address code data') ∷ []))

-- what was laid at the front is there to be read
pub read_back : {at : ℕ} {bytes room left : List ℕ} → length bytes ≤ length room → Laid 0 bytes room at left → take at left ≡ bytes
read_back {at} {bytes} {room} {left} h l =
    ap (λ (l : List ℕ). take at l) (laid_front h l).1 ∙ take_at bytes _ at (sym (laid_front h l).0)

-- and the check over all of it
pub body_laid : (address : Address) (code : ℕ) (data' : List ℕ) {check a b : ℕ} {room l m : List ℕ} → length (body_of address code data') ≤ length room
    → Laid 0 (unchecked address code data') room a l → check ≡ check_of (take a l) → Laid a (check ∷ []) l b m → Laid 0 (body_of address code data') room b m
unfolding body_of
body_laid address code data' {check} {a} {b} {room} {l} {m} h at_front is_check behind =
    let bytes = unchecked address code data' in
    let size = length-append bytes (check_of bytes ∷ []) in
    let fits = unchecked_fits address code data' h in
    rw (is_check ∙ ap check_of (read_back fits at_front)) at (laid_then {first = bytes} (omega arith) at_front behind)

-- one byte of a body that is no FF, and one that is
pub plain_laid : {byte at next : ℕ} {room left : List ℕ} → eqb byte 0xFF ≡ false → Laid at (byte ∷ []) room next left → Laid at (stuffed_byte byte) room next left
unfolding stuffed_byte
plain_laid plain l = rw plain l

pub ff_laid : {byte at next last : ℕ} {room middle left : List ℕ} → byte ≡ 0xFF → at + length (stuffed_byte byte) ≤ length room
    → Laid at (byte ∷ []) room next middle → Laid next (0xFE ∷ []) middle last left → Laid at (stuffed_byte byte) room last left
unfolding stuffed_byte
ff_laid {byte} {at} {next} {last} {room} {middle} {left} is_ff h l m =
    let test = eq-eqb byte 0xFF is_ff in
    rw test (laid_then {first = 0xFF ∷ []} (rw test at h) (rw is_ff at l) m)

-- a body's bytes one after the other: the next one fits, and is laid behind those before it
module _ (body : List ℕ) (i : ℕ) (more : i < length body) where
  stuffed_next : stuffed (take (i + 1) body) ≡ stuffed (take i body) ++ stuffed_byte (get_or body i 0)
  stuffed_next =
      ap (λ (n : ℕ). stuffed (take n body)) (add-one i) ∙ ap stuffed (take-suc body i 0 more)
      ∙ stuffed_append (take i body) (get_or body i 0 ∷ []) ∙ ap (λ (l : List ℕ). stuffed (take i body) ++ l) (stuffed_one (get_or body i 0))

  stuffed_so_far : length (stuffed (take i body)) + length (stuffed_byte (get_or body i 0)) ≤ length (stuffed body)
  stuffed_so_far =
      let part = stuffed_append (take (i + 1) body) (drop (i + 1) body) in
      let whole : stuffed body ≡ stuffed (take (i + 1) body) ++ stuffed (drop (i + 1) body) = ap stuffed (sym (take-append-drop (i + 1) body)) ∙ part in
      omega (
        arith,
        ap length stuffed_next,
        ap length whole,
        length-append (stuffed (take i body)) (stuffed_byte (get_or body i 0)),
        length-append (stuffed (take (i + 1) body)) (stuffed (drop (i + 1) body)),
      )

  pub next_fits : {at next : ℕ} {room middle : List ℕ} → at + length (stuffed body) ≤ length room → Laid at (stuffed (take i body)) room next middle
      → next + length (stuffed_byte (get_or body i 0)) ≤ length middle
  next_fits {at} {next} {room} {middle} h l =
      let so_far = stuffed_so_far in
      let fits : at + length (stuffed (take i body)) ≤ length room = omega arith in
      omega (arith, laid_length fits l, l.place ∙ behind_fits at (stuffed (take i body)) room fits)

  pub next_laid : {at next last : ℕ} {room middle left : List ℕ} → at + length (stuffed body) ≤ length room → Laid at (stuffed (take i body)) room next middle
      → Laid next (stuffed_byte (get_or body i 0)) middle last left → Laid at (stuffed (take (i + 1) body)) room last left
  next_laid h l m =
      let so_far = stuffed_so_far in
      rw stuffed_next (laid_then (omega arith) l m)

-- behind the opening FF the body fits
pub body_fits : (body : List ℕ) {next : ℕ} {room middle : List ℕ} → needed body ≤ length room → Laid 0 (0xFF ∷ []) room next middle
    → next + length (stuffed body) ≤ length middle
unfolding needed
body_fits body {next} {room} {middle} h l =
    let opening : List ℕ = 0xFF ∷ [] in
    let fits : length opening ≤ length room = omega arith in
    omega (arith, stuffed_length body, (laid_front fits l).0, laid_length (omega arith) l)

-- one FF, the body, two FFs
pub frame_laid : (body : List ℕ) {a b c d : ℕ} {room k l m n : List ℕ} → needed body ≤ length room
    → Laid 0 (0xFF ∷ []) room a k → Laid a (stuffed body) k b l → Laid b (0xFF ∷ []) l c m → Laid c (0xFF ∷ []) m d n → Laid 0 (framed body) room d n
unfolding framed needed
frame_laid body h opening inner first second =
    let size = stuffed_length body in
    let one = length-append (stuffed body) (0xFF ∷ []) in
    rw (append_assoc (stuffed body) (0xFF ∷ []) (0xFF ∷ []))
    at (laid_then (omega arith) (laid_then (omega arith) (laid_then (omega arith) opening inner) first) second)
