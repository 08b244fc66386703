-- 02, request 1: "a short address is 01 to FD .. Refusals: 5 now means a short address outside 01 to FD or a serial too large; on a wire heard from
-- fresh it can no longer occur." (The terminals at A4 and F0: OlderBridges. The logs: LogsFromBefore.)
use Rattle.std.specs.Prelude.{ℕ, ◌≡◌, T, length, drop, replicate, Result, Ok, Err, Some}
use mathlib.Core.List.{List, [], ◌∷◌, ◌++◌, map, flatten, Memᴰ}
use Rattle.std.proofs.Math.Pow.{are_bytes}
use Rattle.refusal.specs.declared.Refusal.{Refusal}
use Rattle.refusal.specs.declared.Refusal.TheVariants.{AddressIllegal}
use Rattle.refusal.specs.Numbers.{number_of, verdict_of}
use Rattle.body.specs.declared.addresses.Address.{Address}
use Rattle.body.specs.declared.addresses.Address.TheVariants.{Short, Serial}
use Rattle.body.specs.Body.{longest, judged_lent}
use Rattle.frame.specs.Stuffing.{stuffed, framed}
use Rattle.frame.specs.Writing.{written_frame}
use Rattle.line.specs.declared.places.Phase.TheVariants.{Inside}
use Rattle.line.specs.declared.reading.Reader.{Reader}
use Rattle.line.specs.declared.reading.Fed.{Fed}
use Rattle.line.specs.Listener.{Heard, refused, fresh, events, after}
use Rattle.line.specs.Readers.{view, fed}
use Rattle.weight.specs.declared.families.Family.{Family}
use Rattle.codes.specs.declared.table.Role.{Role}
use Rattle.codes.specs.declared.table.Role.TheVariants.{Reply}
use Rattle.message.specs.Reading.{read_message}
use Rattle.records.specs.declared.records.Record.{Record}
use Rattle.records.specs.Records.{met_kind}
use Rattle.entries.specs.declared.entries.Entry.TheVariants as entry_as
use Rattle.entries.specs.Entries.{entry_heard}
use Rattle.demands.specs.Wire.{over_blocks}
use Rattle.demands.specs.Reading.{after_bytes, heard_by}
use Rattle.demands.specs.Loops.{listened, Loop}
use Rattle.demands.specs.Weighings.{records_heard}

-- ---- "on a wire heard from fresh it can no longer occur"

-- no event is refusal 5
abbrev pub NoFive : List Heard → Type 0
NoFive heard = (why : Refusal) (wire kept : ℕ) → Memᴰ (refused why wire kept) heard → number_of why ≡ 5 → ⊥

-- whatever the loop over some blocks tells, with one call or the other
abbrev pub LoopWithoutFive : (Reader → List ℕ → Fed) → Reader → List (List ℕ) → Type 0
LoopWithoutFive call reader blocks = (told : List Heard) (left : Reader) → Loop call reader blocks told left → NoFive told

-- some blocks heard from fresh: by the paper's listener, by the reader byte by byte, and by the loops of `feed` and `listen`. A reader is fresh where
-- it stands for the fresh listener, whatever its array holds: also one with more than 255 kept bytes, which "is treated as fresh".
pub record HeardWithoutFive (blocks : List (List ℕ)) : Type 0 where
  pub by_listener : NoFive (over_blocks events after fresh blocks)
  pub by_reader : (reader : Reader) → view reader ≡ fresh → NoFive (over_blocks heard_by after_bytes reader blocks)
  pub by_feed : (reader : Reader) → view reader ≡ fresh → LoopWithoutFive fed reader blocks
  pub by_listen : (reader : Reader) → length reader.body ≡ longest → view reader ≡ fresh → LoopWithoutFive listened reader blocks

-- nor does a frame among the events earn a 5 when its body is read as a message: the log that they make, in either role and by each family, has no record of a
-- refusal 5, and their listing no line `N refused 5`
pub record WrittenWithoutFive (heard : List Heard) : Type 0 where
  pub noted : (time : ℕ → ℕ) (role : Role) (family : Family) (item : Record) → Memᴰ item (records_heard time role family heard) → item.kind ≡ met_kind → item.status ≡ 5 → ⊥
  pub listed : (family : Family) (why : Refusal) → Memᴰ (Some (entry_as.Refused why)) (map (entry_heard family) heard) → number_of why ≡ 5 → ⊥

pub record WithoutFive (blocks : List (List ℕ)) : Type 0 where
  pub heard : HeardWithoutFive blocks
  pub written : WrittenWithoutFive (over_blocks events after fresh blocks)

-- on a wire of bytes heard from fresh, however it is cut and wherever the listener joined, no event is refusal 5. (This is any list of bytes; the
-- words are the request's.)
abbrev pub NeverFive : Type 0
NeverFive = (wire : List ℕ) → T (are_bytes wire) → (joined : ℕ) (blocks : List (List ℕ)) → flatten blocks ≡ drop joined wire → WithoutFive blocks

-- ---- "5 now means a short address outside 01 to FD or a serial too large": it is not dead

-- bodies from FE and from FF; their checks are right
abbrev pub from_fe : List ℕ
from_fe = 0xFE ∷ 0xC3 ∷ 0x8B ∷ []

abbrev pub from_ff : List ℕ
from_ff = 0xFF ∷ 0xC3 ∷ 0x88 ∷ []

-- a state handed in: Inside, with nothing kept
abbrev pub inside_empty : Reader
inside_empty = record { place = record { phase = Inside; wire = record { 0 = 0 }; kept = record { 0 = 0 } }; body = replicate longest 0 }

-- the verdict of writing a frame from an address, with room enough
abbrev pub verdict_from : Address → Result (Unit {0}) Refusal
verdict_from address = verdict_of (written_frame address 0xC3 [] (replicate 20 0)).answer

-- a state handed in, a lent body and a writer's address can still earn it; the ends of the range do not. The frame rule's bytes of such a body give
-- a fresh listener no event.
pub record FiveEarned : Type 0 where
  pub number : number_of AddressIllegal ≡ 5
  pub handed_in : heard_by inside_empty (stuffed from_fe ++ (0xFF ∷ 0xFF ∷ [])) ≡ refused AddressIllegal 5 3 ∷ []
  pub handed_in_ff : heard_by inside_empty (stuffed from_ff ++ (0xFF ∷ 0xFF ∷ [])) ≡ refused AddressIllegal 6 3 ∷ []
  pub lent : map judged_lent (from_fe ∷ from_ff ∷ []) ≡ Err AddressIllegal ∷ Err AddressIllegal ∷ []
  pub message : (family : Family) → map (read_message Reply family) (from_fe ∷ from_ff ∷ []) ≡ Err AddressIllegal ∷ Err AddressIllegal ∷ []
  pub writing : map verdict_from (Short 0 ∷ Short 0xFE ∷ Short 0xFF ∷ Serial 16_777_216 ∷ []) ≡ replicate 4 (Err AddressIllegal)
  pub accepted : map verdict_from (Short 0x01 ∷ Short 0xFD ∷ Serial 16_777_215 ∷ []) ≡ replicate 3 (Ok tt)
  pub no_event : map (events fresh) (framed from_fe ∷ framed from_ff ∷ []) ≡ [] ∷ [] ∷ []
