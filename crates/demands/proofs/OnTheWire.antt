-- Shown: a frame that a listener gives from fresh stood on the wire as it is written, at the place that its wire count says.
-- Why: what is kept, with its inserted bytes and an FF ahead, is the end of the bytes taken; while an FF is held, that FF stands behind it.
use Rattle.std.specs.Prelude.{Result}
use Prim.Native.Nat.{ℕ, ◌%◌, ◌^◌}
use mathlib.Core.Path.{◌≡◌, ◌∙◌, refl, sym, ap, subst}
use mathlib.Core.Bool.{Bool, true, false, cond}
use mathlib.Core.List.{List, [], ◌∷◌, ◌++◌, append_assoc, append-nil, Memᴰ}
use native.Mathlib.Nat.{mod-add-mod}
use lib.Dec.{eqb}
use lib.ListN.{length, length-append}
use native.Mathlib.Omega.{arith}
use Rattle.std.proofs.lemmas.Grind.{common_steps}
use Rattle.refusal.specs.declared.Refusal.TheVariants.{HeldBroken}
use Rattle.body.specs.declared.addresses.Address.{Address}
use Rattle.body.specs.Body.{judged}
use Rattle.frame.specs.Stuffing.{stuffed_byte, stuffed, framed}
use Rattle.frame.proofs.Stuffing.{stuffed_append}
use Rattle.line.specs.Listener.{State, seeking, delimited, inside, held, Heard, nothing, frame, refused, Listener, Step, fresh, step, keep, ended, tick, hear_in, hear, events, after}
use Rattle.line.specs.Readers.{listening, fresh_reader}
use Rattle.line.proofs.EveryStep.{every_event}
use Rattle.weight.specs.declared.FourBytes.{FourBytes}
use Rattle.codes.specs.declared.table.Load.{Load}
use Rattle.records.specs.Records.{address_of}
use Rattle.demands.specs.Weighings.{ReplyHeard}
use Rattle.demands.proofs.Weighings.{log_as_heard, listing_as_heard}
use Rattle.demands.specs.OnTheWire.{EndsWith, FrameJustTaken, StandsIn, FramesOnTheWire, ReplyIn, LogOnTheWire, ListingOnTheWire}
use Rattle.refusal.specs.declared.Refusal.{Refusal}

-- ---- one byte

-- what a state says of the bytes taken
abbrev Known : List ℕ → State → Type 0
Known taken seeking = Unit {0}
Known taken delimited = EndsWith taken (0xFF ∷ [])
Known taken (inside kept) = EndsWith taken (0xFF ∷ stuffed kept)
Known taken (held kept) = EndsWith taken (0xFF ∷ (stuffed kept ++ (0xFF ∷ [])))

-- and what an event says of them
abbrev Stood : List ℕ → ℕ → Heard → Type 0
Stood taken count nothing = Unit {0}
Stood taken count (frame wire kept body) = EndsWith taken (framed body) × (wire ≡ count)
Stood taken count (refused why wire kept) = Unit {0}

abbrev Both : List ℕ → ℕ → Step → Type 0
Both taken count s = Known taken s.next.state × (Stood taken count s.event × (s.next.wire ≡ count))

-- one byte more is kept: itself, or an FF with the FE behind it
stuffed_one : (kept : List ℕ) (byte : ℕ) → eqb byte 0xFF ≡ false → stuffed (kept ++ (byte ∷ [])) ≡ stuffed kept ++ (byte ∷ [])
unfolding stuffed stuffed_byte
stuffed_one kept byte not_ff = stuffed_append kept (byte ∷ []) ∙ rw not_ff

stuffed_ff : (kept : List ℕ) → stuffed (kept ++ (0xFF ∷ [])) ≡ stuffed kept ++ (0xFF ∷ 0xFE ∷ [])
unfolding stuffed stuffed_byte
stuffed_ff kept = stuffed_append kept (0xFF ∷ [])

-- behind a delimiter a body of no bytes yet
no_bytes : (taken : List ℕ) → EndsWith taken (0xFF ∷ []) → EndsWith taken (0xFF ∷ stuffed [])
unfolding stuffed
no_bytes taken ends = ends

-- and behind two FFs a frame
as_framed : (taken body : List ℕ) → EndsWith taken (0xFF ∷ (stuffed body ++ (0xFF ∷ 0xFF ∷ []))) → EndsWith taken (framed body)
unfolding framed
as_framed taken body ends = ends

module _ (taken : List ℕ) (byte wire : ℕ) where
  now : List ℕ
  now = taken ++ (byte ∷ [])

  keeps : (kept : List ℕ) (more : ℕ) → EndsWith now (0xFF ∷ stuffed (kept ++ (more ∷ []))) → Both now wire (keep kept more wire)
  unfolding keep
  keeps kept more ends = grind (arith, common_steps)

  at_end : (verdict : Result (Unit {0}) Refusal) (kept : List ℕ) → EndsWith now (0xFF ∷ []) → EndsWith now (framed kept) → Both now wire (step delimited wire (ended verdict kept wire))
  unfolding ended
  at_end verdict kept delimits ends = grind (arith, common_steps)

  delimits : eqb byte 0xFF ≡ true → EndsWith now (0xFF ∷ [])
  unfolding now
  delimits is = grind (arith, common_steps)

  ends_other : (kept : List ℕ) → EndsWith taken (0xFF ∷ stuffed kept) → eqb byte 0xFF ≡ false → EndsWith now (0xFF ∷ stuffed (kept ++ (byte ∷ [])))
  unfolding now
  ends_other kept ends not_ff = grind (arith, common_steps, stuffed_one)

  ends_held : (kept : List ℕ) → EndsWith taken (0xFF ∷ stuffed kept) → eqb byte 0xFF ≡ true → EndsWith now (0xFF ∷ (stuffed kept ++ (0xFF ∷ [])))
  unfolding now
  ends_held kept ends is = grind (arith, common_steps)

  -- behind a held FF
  ends_behind : (kept : List ℕ) (last : ℕ) → EndsWith taken (0xFF ∷ (stuffed kept ++ (0xFF ∷ []))) → eqb byte last ≡ true
      → EndsWith now (0xFF ∷ (stuffed kept ++ (0xFF ∷ last ∷ [])))
  unfolding now
  ends_behind kept last ends is = grind (arith, common_steps)

  one_byte : (state : State) → Known taken state → Both now wire (hear_in state byte wire)
  unfolding hear_in
  one_byte seeking known = by_ff (eqb byte 0xFF) refl
    where
      by_ff : (is : Bool) → eqb byte 0xFF ≡ is → Both now wire (cond is (step delimited wire nothing) (step seeking wire nothing))
      by_ff true is = (delimits is, (tt, refl))
      by_ff false is = (tt, (tt, refl))
  one_byte delimited known = by_ff (eqb byte 0xFF) (eqb byte 0xFE) refl
    where
      by_ff : (is_ff is_fe : Bool) → eqb byte 0xFF ≡ is_ff
          → Both now wire (cond is_ff (step delimited wire nothing) (cond is_fe (step seeking wire nothing) (keep [] byte wire)))
      by_ff true is_fe is = (delimits is, (tt, refl))
      by_ff false true is = (tt, (tt, refl))
      by_ff false false is = keeps [] byte (ends_other [] (no_bytes taken known) is)
  one_byte (inside kept) known = by_ff (eqb byte 0xFF) refl
    where
      by_ff : (is : Bool) → eqb byte 0xFF ≡ is → Both now wire (cond is (step (held kept) wire nothing) (keep kept byte wire))
      by_ff true is = (ends_held kept known is, (tt, refl))
      by_ff false is = keeps kept byte (ends_other kept known is)
  one_byte (held kept) known = by_both (eqb byte 0xFE) (eqb byte 0xFF) refl refl
    where
      by_both : (is_fe is_ff : Bool) → eqb byte 0xFE ≡ is_fe → eqb byte 0xFF ≡ is_ff
          → Both now wire
          (cond is_fe (keep kept 0xFF wire) (cond is_ff (step delimited wire (ended (judged kept) kept wire)) (step seeking wire (refused HeldBroken wire (length kept)))))
      by_both true is_ff fe ff = keeps kept 0xFF (rw (stuffed_ff kept) (ends_behind kept 0xFE known fe))
      by_both false true fe ff = at_end (judged kept) kept (delimits ff) (as_framed now kept (ends_behind kept 0xFF known ff))
      by_both false false fe ff = (tt, (tt, refl))

-- ---- any bytes

known_after : (listener : Listener) (taken bytes : List ℕ) → Known taken listener.state → Known (taken ++ bytes) (after listener bytes).state
unfolding after hear now
known_after listener taken [] known = rw append-nil known
known_after listener taken (byte ∷ bytes) known = grind (arith, common_steps, one_byte, known_after (hear listener byte).next (taken ++ (byte ∷ [])) bytes (one_byte taken byte (tick listener.wire) listener.state known).0)

pub frame_just_taken : FrameJustTaken
unfolding hear now
frame_just_taken bytes byte wire kept body e =
    let listener = after fresh bytes in
    (subst (Stood (bytes ++ (byte ∷ [])) (tick listener.wire)) e
    (one_byte bytes byte (tick listener.wire) listener.state (known_after fresh [] bytes tt)).1.0).0

module _ (bytes : List ℕ) where
  -- a listener with some of the bytes taken, and the rest ahead
  record Midway (listener : Listener) (rest : List ℕ) : Type 0 where
    taken : List ℕ
    is : bytes ≡ taken ++ rest
    known : Known taken listener.state
    count : listener.wire ≡ length taken % 2 ^ 64

  Stands : Heard → Type 0
  Stands nothing = Unit {0}
  Stands (frame wire kept body) = StandsIn bytes wire body
  Stands (refused why wire kept) = Unit {0}

  stands : (taken rest : List ℕ) → bytes ≡ taken ++ rest → (heard : Heard) → Stood taken (length taken % 2 ^ 64) heard → Stands heard
  unfolding Stands
  stands taken rest split heard stood = grind (arith, common_steps)

  one_on : (listener : Listener) (byte : ℕ) (rest : List ℕ) → Midway listener (byte ∷ rest) → Midway (hear listener byte).next rest × Stands (hear listener byte).event
  unfolding hear tick now
  one_on listener byte rest mid =
      let so_far = mid.taken ++ (byte ∷ []) in
      let split : bytes ≡ so_far ++ rest = mid.is ∙ sym (append_assoc mid.taken (byte ∷ []) rest) in
      let counted : tick listener.wire ≡ length so_far % 2 ^ 64 =
      ap tick mid.count ∙ mod-add-mod (length mid.taken) (2 ^ 64) 1 ∙ ap (λ (n : ℕ). n % 2 ^ 64) (sym (length-append mid.taken (byte ∷ []))) in
      let step = one_byte mid.taken byte (tick listener.wire) listener.state mid.known in (
        record { taken = so_far; is = split; known = step.0; count = step.1.1 ∙ counted },
        stands so_far rest split (hear listener byte).event (subst (λ (n : ℕ). Stood so_far n (hear listener byte).event) counted step.1.0),
      )

pub frames_on_the_wire : FramesOnTheWire
unfolding Stands
frames_on_the_wire bytes wire kept body among =
    every_event (Midway bytes) (Stands bytes) (one_on bytes) fresh bytes (record { taken = []; is = refl; known = tt; count = refl }) (frame wire kept body) among

-- ---- a weighing and a weight

reply_in : (bytes : List ℕ) (heard : Heard) (load : Load) (address : Address) (four : FourBytes) → Memᴰ heard (events fresh bytes)
    → ReplyHeard heard load address four → ReplyIn bytes load address four
reply_in bytes heard load address four among reply = grind (arith, common_steps, frames_on_the_wire)

pub log_on_the_wire : LogOnTheWire
unfolding listening
log_on_the_wire bytes small time role family item among weighing =
    let found = log_as_heard fresh_reader tt bytes small time role family item among weighing in
    record {
      load = found.such.load;
      kind = found.such.kind;
      as_reply = found.such.as_reply;
      of_line = found.such.of_line;
      reply = reply_in bytes found.event found.such.load (address_of item) _ found.among found.such.reply;
    }

pub listing_on_the_wire : ListingOnTheWire
unfolding listening
listing_on_the_wire bytes small family load address reading among =
    let found = listing_as_heard fresh_reader tt bytes small family load address reading among in
    record {
      four = found.such.four;
      packed = found.such.packed;
      of_line = found.such.of_line;
      reply = reply_in bytes found.event load address _ found.among found.such.reply;
    }
