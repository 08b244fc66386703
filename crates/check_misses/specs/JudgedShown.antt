-- 02, request 8: "not of wires, where a hit can make a false FF". Wires that one bad bit changes, computed: what is heard then. And what one bad bit in
-- a body earns: 4, or 1 where its address becomes 00 and it has under 6 bytes.
use Rattle.std.specs.Prelude.{ℕ, ◌≡◌, List, [], ◌∷◌, Ok, Err}
use Rattle.refusal.specs.declared.Refusal.TheVariants.{BodyShort, HeldBroken, CheckWrong}
use Rattle.body.specs.Body.{judged_lent}
use Rattle.line.specs.Listener.{frame, refused, fresh, events}
use Rattle.check_misses.specs.Places.{turned_over, differing}
use Rattle.check_misses.specs.MissesShown.{asks_gross}

-- a body with 7F in it, on the wire. One bad bit makes an FF of the 7F, and what follows is neither FE nor FF: refusal 3 where a frame was sent, not 4
abbrev pub sent : List ℕ
sent = 0xFF ∷ 0x01 ∷ 0xC3 ∷ 0x7F ∷ 0x05 ∷ 0x69 ∷ 0xFF ∷ 0xFF ∷ []

abbrev pub hit : List ℕ
hit = 0xFF ∷ 0x01 ∷ 0xC3 ∷ 0xFF ∷ 0x05 ∷ 0x69 ∷ 0xFF ∷ 0xFF ∷ []

pub record FalseFF : Type 0 where
  pub one_bit : differing sent hit ≡ 39 ∷ []
  pub heard : events fresh sent ≡ frame 8 5 (0x01 ∷ 0xC3 ∷ 0x7F ∷ 0x05 ∷ 0x69 ∷ []) ∷ []
  pub then_heard : events fresh hit ≡ refused HeldBroken 5 2 ∷ []

-- a body that has E1's body at its front, and behind it 7F FF. One bad bit, and E1's frame is heard, which nobody sent. Nothing is refused
abbrev pub longer : List ℕ
longer = 0xFF ∷ 0x01 ∷ 0xC3 ∷ 0xE3 ∷ 0x7F ∷ 0xFF ∷ 0xFE ∷ 0xA7 ∷ 0xFF ∷ 0xFF ∷ []

abbrev pub cut_short : List ℕ
cut_short = 0xFF ∷ 0x01 ∷ 0xC3 ∷ 0xE3 ∷ 0xFF ∷ 0xFF ∷ 0xFE ∷ 0xA7 ∷ 0xFF ∷ 0xFF ∷ []

pub record FalseFrame : Type 0 where
  pub one_bit : differing longer cut_short ≡ 47 ∷ []
  pub heard : events fresh longer ≡ frame 10 6 (0x01 ∷ 0xC3 ∷ 0xE3 ∷ 0x7F ∷ 0xFF ∷ 0xA7 ∷ []) ∷ []
  pub then_heard : events fresh cut_short ≡ frame 6 3 asks_gross ∷ []

-- a 00 that came in behind E1's check: the check is right, and a frame of four bytes is heard. (As a message it is refused by its length.)
pub record AddedZero : Type 0 where
  pub heard : events fresh (0xFF ∷ 0x01 ∷ 0xC3 ∷ 0xE3 ∷ 0x00 ∷ 0xFF ∷ 0xFF ∷ []) ≡ frame 7 4 (0x01 ∷ 0xC3 ∷ 0xE3 ∷ 0x00 ∷ []) ∷ []

-- bodies of five and of six bytes, both good
abbrev pub of_five : List ℕ
of_five = 0x01 ∷ 0xC3 ∷ 0x00 ∷ 0x00 ∷ 0x4C ∷ []

abbrev pub of_six : List ℕ
of_six = 0x01 ∷ 0xC3 ∷ 0x00 ∷ 0x00 ∷ 0x00 ∷ 0xD0 ∷ []

-- E1's body with one bit turned over: the last of its check, one of its address, and the one with which its address becomes 00. Then it is too short, and
-- so are five bytes; six are enough for a serial, and it is the check that refuses them
pub record TurnedShown : Type 0 where
  pub good : judged_lent asks_gross ≡ Ok tt
  pub check : judged_lent (turned_over 0 asks_gross) ≡ Err CheckWrong
  pub address : judged_lent (turned_over 17 asks_gross) ≡ Err CheckWrong
  pub no_address : judged_lent (turned_over 16 asks_gross) ≡ Err BodyShort
  pub five_good : judged_lent of_five ≡ Ok tt
  pub five : judged_lent (turned_over 32 of_five) ≡ Err BodyShort
  pub six_good : judged_lent of_six ≡ Ok tt
  pub six : judged_lent (turned_over 40 of_six) ≡ Err CheckWrong
