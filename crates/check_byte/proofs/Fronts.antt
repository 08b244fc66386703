-- Shown: behind the bytes ahead of the first whole four stands what the whole slice makes of the register, once the fours are in.
-- Why: those bytes and the fours are the slice.
use Rattle.std.proofs.Common.{ℕ, ◌≡◌, ◌∙◌, sym, ap, ◌%◌, List, length, take, drop}
use Rattle.std.proofs.lemmas.List.{take-append-drop}
use Rattle.check_byte.specs.Register.{feed_bits, feed_all}
use Rattle.check_byte.proofs.Laws.{feed_append}

pub front_in : (register wide : ℕ) (few bytes : List ℕ) → few ≡ take (length bytes % 4) bytes → feed_bits 64 0 wide ≡ feed_all register few
    → feed_all (feed_bits 64 0 wide) (drop (length bytes % 4) bytes) ≡ feed_all register bytes
front_in register wide few bytes front fed =
    let odd = length bytes % 4 in
    ap (λ (n : ℕ). feed_all n (drop odd bytes)) (fed ∙ ap (feed_all register) front)
    ∙ sym (feed_append register (take odd bytes) (drop odd bytes))
    ∙ ap (feed_all register) (take-append-drop odd bytes)
