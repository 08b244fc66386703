-- 01, "The frame": "Each event carries two counts that must never stand in for each other: the place on the wire and the place in the body."
-- This holds for every state handed in, whatever it counts and keeps, and for every byte and every list of bytes taken from there.
use Rattle.std.specs.Prelude.{ℕ, ◌+◌, ◌%◌, ◌^◌, ◌≤◌, ◌≡◌, length}
use mathlib.Core.List.{List, Memᴰ}
use Rattle.refusal.specs.declared.Refusal.TheVariants.{BodyLong}
use Rattle.body.specs.Body.{longest}
use Rattle.line.specs.declared.reading.Reader.{Reader}
use Rattle.line.specs.Listener.{Heard, nothing, frame, refused, hear, events, after}
use Rattle.line.specs.Readers.{view, kept_of}

-- "The second counts body bytes kept at that moment, 0 to 255; for refusal 2 it is 255."
abbrev pub Within : Heard → Type 0
Within nothing = Unit {0}
Within (frame wire kept body) = (kept ≡ length body) × (kept ≤ longest)
Within (refused why wire kept) = (kept ≤ longest) × (why ≡ BodyLong → kept ≡ longest)

-- every event of any bytes
abbrev pub CountsWithin : Type 0
CountsWithin = (reader : Reader) (bytes : List ℕ) (heard : Heard) → Memᴰ heard (events (view reader) bytes) → Within heard

-- the two counts that an event carries, a refusal too
abbrev pub Carries : ℕ → ℕ → Heard → Type 0
Carries taken size nothing = Unit {0}
Carries taken size (frame wire kept body) = (wire ≡ taken) × (kept ≡ size)
Carries taken size (refused why wire kept) = (wire ≡ taken) × (kept ≡ size)

-- "The first counts bytes since the reader started, modulo 2^64, up to and including the byte that gave the event. The second counts body bytes
-- kept at that moment": some bytes are taken, and the byte behind them gives the event
abbrev pub CountsTied : Type 0
CountsTied =
    (reader : Reader) (before : List ℕ) (byte : ℕ)
    → Carries (((view reader).wire + length before + 1) % 2 ^ 64) (length (kept_of (after (view reader) before).state))
    (hear (after (view reader) before) byte).event
