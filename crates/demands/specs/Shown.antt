-- The words of demand 3, at work on small wires. This shows that definitions which only statements use say what they are meant to say.
use Rattle.std.specs.Prelude.{ℕ, ◌≡◌, true, false, List, [], ◌∷◌, ◌++◌, length}
use Rattle.refusal.specs.declared.Refusal.TheVariants.{CheckWrong}
use Rattle.body.specs.declared.addresses.Address.TheVariants.{Serial}
use Rattle.body.specs.Addresses.{address_in}
use Rattle.line.specs.declared.places.Phase.TheVariants.{Inside}
use Rattle.line.specs.Listener.{seeking, delimited, inside, held, nothing, frame, refused, fresh, events, after}
use Rattle.line.specs.Readers.{fresh_reader}
use Rattle.demands.specs.Wire.{Sent, Proper, AllProper, AllShared, FirstAhead, wire_of, any_ff, heard_of, any_refused, frames_of, over_blocks}
use Rattle.demands.specs.Stops.{AtRest, unended}
use Rattle.demands.specs.Examples.{zeros, one_zero_more}
use Rattle.demands.specs.Reading.{after_bytes, heard_by}

-- E1's body, and E5's with an FF in it
abbrev pub plain : List ℕ
plain = 0x01 ∷ 0xC3 ∷ 0xE3 ∷ []

abbrev pub with_ff : List ℕ
with_ff = 0x01 ∷ 0xA1 ∷ 0xFF ∷ 0x00 ∷ 0x00 ∷ 0x39 ∷ []

-- with one FF ahead and two behind, and with two ahead and three behind
abbrev pub pair : List Sent
pair = record { ahead = 1; body = plain; behind = 2 } ∷ record { ahead = 2; body = with_ff; behind = 3 } ∷ []

abbrev pub first_bytes : List ℕ
first_bytes = 0xFF ∷ 0x01 ∷ 0xC3 ∷ 0xE3 ∷ 0xFF ∷ 0xFF ∷ []

abbrev pub second_bytes : List ℕ
second_bytes = 0xFF ∷ 0xFF ∷ 0x01 ∷ 0xA1 ∷ 0xFF ∷ 0xFE ∷ 0x00 ∷ 0x00 ∷ 0x39 ∷ 0xFF ∷ 0xFF ∷ 0xFF ∷ []

abbrev pub bytes : List ℕ
bytes = first_bytes ++ second_bytes

-- the user's frames: one FF ahead is enough, none is not enough; so too for a wire's first frame, if it has one
pub record Frames : Type 0 where
  pub enough : AllProper pair
  pub first : FirstAhead pair
  pub no_first : FirstAhead []
  pub none_ahead : Proper (record { ahead = 0; body = plain; behind = 2 }) → ⊥
  pub laid : wire_of pair ≡ bytes
  pub cut_off : unended 2 with_ff ≡ 0xFF ∷ 0xFF ∷ 0x01 ∷ 0xA1 ∷ 0xFF ∷ 0xFE ∷ 0x00 ∷ 0x00 ∷ 0x39 ∷ 0xFF ∷ []

-- a listener who joins at the start hears both frames; from the first frame's address byte on he hears only the second, from the second's on none
pub record HeardFrom : Type 0 where
  pub start : heard_of bytes 0 0 pair ≡ frame 6 3 plain ∷ frame 17 6 with_ff ∷ []
  pub first_byte : heard_of bytes 1 0 pair ≡ frame 16 6 with_ff ∷ []
  pub last_ff : heard_of bytes 7 0 pair ≡ frame 10 6 with_ff ∷ []
  pub second_byte : heard_of bytes 8 0 pair ≡ []
  pub all : frames_of 4 pair ≡ frame 10 3 plain ∷ frame 21 6 with_ff ∷ []

pub record Tests : Type 0 where
  pub ff : any_ff (0x01 ∷ 0xFE ∷ 0xFF ∷ 0x02 ∷ []) ≡ true
  pub no_ff : any_ff (0x01 ∷ 0xFE ∷ 0x02 ∷ []) ≡ false
  pub refusal : any_refused (nothing ∷ frame 6 3 plain ∷ refused CheckWrong 12 3 ∷ []) ≡ true
  pub no_refusal : any_refused (nothing ∷ frame 6 3 plain ∷ nothing ∷ []) ≡ false

-- both frames, cut into three blocks inside the first and inside the second, by the listener; and by the reader, byte by byte
pub record Told : Type 0 where
  pub blocks : over_blocks events after fresh ((0xFF ∷ 0x01 ∷ []) ∷ (0xC3 ∷ 0xE3 ∷ 0xFF ∷ []) ∷ (0xFF ∷ []) ∷ second_bytes ∷ []) ≡ frame 6 3 plain ∷ frame 17 6 with_ff ∷ []
  pub by_reader : heard_by fresh_reader bytes ≡ frame 6 3 plain ∷ frame 17 6 with_ff ∷ []
  pub reader : (after_bytes fresh_reader (0xFF ∷ 0x01 ∷ [])).place ≡ record { phase = Inside; wire = record { 0 = 2 }; kept = record { 0 = 1 } }

-- two frames that share what stands between them: the second has no FF of its own. It has an extended address, whose serial has an FF in it
abbrev pub extended : List ℕ
extended = 0x00 ∷ 0xFF ∷ 0x02 ∷ 0x00 ∷ 0xC3 ∷ 0x47 ∷ []

abbrev pub sharing : List Sent
sharing = record { ahead = 1; body = plain; behind = 2 } ∷ record { ahead = 0; body = extended; behind = 2 } ∷ []

abbrev pub shared_bytes : List ℕ
shared_bytes = first_bytes ++ (0x00 ∷ 0xFF ∷ 0xFE ∷ 0x02 ∷ 0x00 ∷ 0xC3 ∷ 0x47 ∷ 0xFF ∷ 0xFF ∷ [])

-- both are heard from the start; from the first address byte on, and from the last FF between them, the second; from that one's first byte on none
pub record Sharing : Type 0 where
  pub all : AllShared sharing
  pub not_proper : AllProper sharing → ⊥
  pub address : address_in extended ≡ Serial 767
  pub laid : wire_of sharing ≡ shared_bytes
  pub start : heard_of shared_bytes 0 0 sharing ≡ frame 6 3 plain ∷ frame 15 6 extended ∷ []
  pub first_byte : heard_of shared_bytes 1 0 sharing ≡ frame 14 6 extended ∷ []
  pub last_ff : heard_of shared_bytes 5 0 sharing ≡ frame 10 6 extended ∷ []
  pub second_byte : heard_of shared_bytes 6 0 sharing ≡ []
  pub told : events fresh shared_bytes ≡ frame 6 3 plain ∷ frame 15 6 extended ∷ []

-- "in at most 255 bytes": E8's body, and with one zero more
pub record Longest : Type 0 where
  pub size : length (zeros 253 0x27) ≡ 255
  pub enough : Proper (record { ahead = 1; body = zeros 253 0x27; behind = 2 })
  pub too_long : Proper (record { ahead = 1; body = one_zero_more; behind = 2 }) → ⊥

-- who seeks or is at a delimiter is between two bodies; who keeps one, or holds an FF in one, is not
pub record Resting : Type 0 where
  pub seeks : AtRest seeking
  pub at_delimiter : AtRest delimited
  pub keeps : AtRest (inside plain) → ⊥
  pub holds : AtRest (held plain) → ⊥

pub record Shown : Type 0 where
  pub frames : Frames
  pub heard_from : HeardFrom
  pub tests : Tests
  pub told : Told
  pub shared : Sharing
  pub longest : Longest
  pub resting : Resting
