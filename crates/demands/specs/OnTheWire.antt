-- 01, "The frame": "Writing: one FF, the body, two FFs. After each FF inside the body one FE is inserted." What was heard stood so on the wire: a
-- listener who started fresh gives a frame only where its bytes were just taken. So whatever the statements call heard is there in the bytes.
use Rattle.std.specs.Prelude.{ℕ, ◌%◌, ◌^◌, ◌≡◌, length, T, Ok, Some}
use mathlib.Core.List.{List, [], ◌∷◌, ◌++◌, map, Memᴰ}
use Rattle.std.proofs.Math.Pow.{are_bytes}
use Rattle.body.specs.declared.addresses.Address.{Address}
use Rattle.body.specs.Body.{body_of}
use Rattle.frame.specs.Stuffing.{framed}
use Rattle.line.specs.Listener.{frame, fresh, hear, events, after}
use Rattle.weight.specs.declared.families.Family.{Family}
use Rattle.weight.specs.declared.FourBytes.{FourBytes}
use Rattle.weight.specs.declared.Reading.{Reading}
use Rattle.weight.specs.Families.{family_number}
use Rattle.weight.specs.Bytes.{in_order, packed_of}
use Rattle.codes.specs.declared.table.Role.{Role}
use Rattle.codes.specs.declared.table.Role.TheVariants.{Reply}
use Rattle.codes.specs.declared.table.Load.{Load}
use Rattle.records.specs.declared.records.Record.{Record}
use Rattle.records.specs.Records.{kind_of, met_kind, address_of, weight_bytes}
use Rattle.weighing_log.specs.Heard.{code_of}
use Rattle.entries.specs.declared.entries.Entry.TheVariants.{Weight}
use Rattle.entries.specs.Entries.{entry_heard}
use Rattle.demands.specs.Weighings.{records_heard}

pub record EndsWith (taken piece : List ℕ) : Type 0 where
  pub before : List ℕ
  pub is : taken ≡ before ++ piece

-- some bytes are taken, and the byte behind them gives a frame: with it, they end with FF, the stuffed body, FF FF
abbrev pub FrameJustTaken : Type 0
FrameJustTaken =
    (bytes : List ℕ) (byte wire kept : ℕ) (body : List ℕ) → (hear (after fresh bytes) byte).event ≡ frame wire kept body
    → EndsWith (bytes ++ (byte ∷ [])) (framed body)

-- among some bytes, where the place on the wire says: up to and with its last FF
pub record StandsIn (bytes : List ℕ) (wire : ℕ) (body : List ℕ) : Type 0 where
  pub before : List ℕ
  pub behind : List ℕ
  pub is : bytes ≡ before ++ framed body ++ behind
  pub place : wire ≡ length (before ++ framed body) % 2 ^ 64

-- each frame of any bytes
abbrev pub FramesOnTheWire : Type 0
FramesOnTheWire = (bytes : List ℕ) (wire kept : ℕ) (body : List ℕ) → Memᴰ (frame wire kept body) (events fresh bytes) → StandsIn bytes wire body

-- ---- "A weight that wasn't heard must never look like a weight of nothing", down to the bytes

-- a reply C2 or C3 with these four bytes stands in some bytes
pub record ReplyIn (bytes : List ℕ) (load : Load) (address : Address) (four : FourBytes) : Type 0 where
  pub wire : ℕ
  pub stands : StandsIn bytes wire (body_of address (code_of load) (in_order four))

-- no weighing in the log that a line makes, unless its reply stands in the bytes taken
pub record WeighedIn (bytes : List ℕ) (role : Role) (family : Family) (item : Record) : Type 0 where
  pub load : Load
  pub kind : item.kind ≡ kind_of load
  pub as_reply : role ≡ Reply
  pub of_line : item.family ≡ family_number family
  pub reply : ReplyIn bytes load (address_of item) (weight_bytes item)

abbrev pub LogOnTheWire : Type 0
LogOnTheWire =
    (bytes : List ℕ) → T (are_bytes bytes) → (time : ℕ → ℕ) (role : Role) (family : Family) (item : Record)
    → Memᴰ item (records_heard time role family (events fresh bytes)) → (item.kind ≡ met_kind → ⊥) → WeighedIn bytes role family item

-- and no weight in its listing
pub record ListedIn (bytes : List ℕ) (family : Family) (load : Load) (address : Address) (reading : Reading) : Type 0 where
  pub four : FourBytes
  pub packed : packed_of reading ≡ Ok four
  pub of_line : reading.family ≡ family
  pub reply : ReplyIn bytes load address four

abbrev pub ListingOnTheWire : Type 0
ListingOnTheWire =
    (bytes : List ℕ) → T (are_bytes bytes) → (family : Family) (load : Load) (address : Address) (reading : Reading)
    → Memᴰ (Some (Weight load address reading)) (map (entry_heard family) (events fresh bytes)) → ListedIn bytes family load address reading
