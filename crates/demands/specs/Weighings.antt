-- "A weight that wasn't heard must never look like a weight of nothing." A weighing stands in the log, and a weight in the listing, only if a
-- reply C2 or C3 with exactly its four bytes was heard from its address. (Noted says that what was refused stands as refused.) This holds from
-- every state handed in. The array and the wire hold bytes.
use Rattle.std.specs.Prelude.{ℕ, ◌+◌, ◌≡◌, true, T, Result, Ok, Err, Option, Some, None}
use mathlib.Core.List.{List, [], ◌∷◌, map, Memᴰ}
use Rattle.std.proofs.Math.Pow.{are_bytes}
use Rattle.body.specs.declared.addresses.Address.{Address}
use Rattle.body.specs.Body.{body_of}
use Rattle.line.specs.declared.reading.Reader.{Reader}
use Rattle.line.specs.Listener.{Heard, Listener, frame, hear, events}
use Rattle.line.specs.Readers.{view}
use Rattle.weight.specs.declared.families.Family.{Family}
use Rattle.weight.specs.declared.FourBytes.{FourBytes}
use Rattle.weight.specs.declared.Reading.{Reading}
use Rattle.weight.specs.Families.{family_number}
use Rattle.weight.specs.Bytes.{in_order, packed_of}
use Rattle.codes.specs.declared.table.Role.{Role}
use Rattle.codes.specs.declared.table.Role.TheVariants.{Reply}
use Rattle.codes.specs.declared.table.Load.{Load}
use Rattle.records.specs.declared.records.Record.{Record}
use Rattle.records.specs.Records.{kind_of, met_kind, address_of, weight_bytes}
use Rattle.weighing_log.specs.Hearing.{noted_heard}
use Rattle.weighing_log.specs.Heard.{code_of}
use Rattle.entries.specs.declared.entries.Entry.TheVariants.{Weight}
use Rattle.entries.specs.Entries.{entry_heard, entry_if}
use Rattle.listing.specs.Whole.{listed, listing}
use Rattle.refusal.specs.declared.Refusal.{Refusal}

-- "C2 net, C3 gross", "W0 W1 W2 CON": a frame was heard whose body is an address, the code, exactly these bytes, and their check
pub record ReplyHeard (heard : Heard) (load : Load) (address : Address) (four : FourBytes) : Type 0 where
  pub wire : ℕ
  pub kept : ℕ
  pub body : heard ≡ frame wire kept (body_of address (code_of load) (in_order four))

-- there is such an event among those heard
pub record Among (heard : List Heard) (Such : Heard → Type 0) : Type 0 where
  pub event : Heard
  pub among : Memᴰ event heard
  pub such : Such event

-- ---- the log

-- the event that a weighing in the log was heard in: "Kind 1 is a gross reply, 2 a net reply: address as on the wire", "status is CON",
-- and the family is the line's
pub record WeighingHeard (role : Role) (family : Family) (item : Record) (heard : Heard) : Type 0 where
  pub load : Load
  pub kind : item.kind ≡ kind_of load
  pub as_reply : role ≡ Reply
  pub of_line : item.family ≡ family_number family
  pub reply : ReplyHeard heard load (address_of item) (weight_bytes item)

-- each event: any record that it makes and that is no refusal's, at the time that was given
abbrev pub NotedAsHeard : Type 0
NotedAsHeard =
    (reader : Reader) → T (are_bytes reader.body) → (byte time : ℕ) (role : Role) (family : Family) (item : Record)
    → noted_heard time role family (hear (view reader) byte).event ≡ Ok (Some item) → (item.kind ≡ met_kind → ⊥)
    → (item.time ≡ time) × WeighingHeard role family item (hear (view reader) byte).event

-- a record, where there is one, ahead of those behind it
abbrev pub note_then : Result (Option Record) Refusal → List Record → List Record
note_then (Ok None) later = later
note_then (Ok (Some item)) later = item ∷ later
note_then (Err why) later = later

-- the records that a line's events make, in order; the caller gives a time for the number of each event, from 1
unfoldable pub records_from : (ℕ → ℕ) → Role → Family → ℕ → List Heard → List Record
records_from time role family number [] = []
records_from time role family number (heard ∷ later) = note_then (noted_heard (time number) role family heard) (records_from time role family (number + 1) later)

abbrev pub records_heard : (ℕ → ℕ) → Role → Family → List Heard → List Record
records_heard time role family heard = records_from time role family 1 heard

-- the whole log that a line makes
abbrev pub LogAsHeard : Type 0
LogAsHeard =
    (reader : Reader) → T (are_bytes reader.body) → (bytes : List ℕ) → T (are_bytes bytes) → (time : ℕ → ℕ) (role : Role) (family : Family) (item : Record)
    → Memᴰ item (records_heard time role family (events (view reader) bytes)) → (item.kind ≡ met_kind → ⊥)
    → Among (events (view reader) bytes) (WeighingHeard role family item)

-- ---- the listing

-- the event that a weight in the listing was heard in: the reading's four bytes, and the family of the line
pub record ListedHeard (family : Family) (load : Load) (address : Address) (reading : Reading) (heard : Heard) : Type 0 where
  pub four : FourBytes
  pub packed : packed_of reading ≡ Ok four
  pub of_line : reading.family ≡ family
  pub reply : ReplyHeard heard load address four

-- each event
abbrev pub ListedAsHeard : Type 0
ListedAsHeard =
    (reader : Reader) → T (are_bytes reader.body) → (byte : ℕ) (family : Family) (load : Load) (address : Address) (reading : Reading)
    → entry_heard family (hear (view reader) byte).event ≡ Some (Weight load address reading) → ListedHeard family load address reading (hear (view reader) byte).event

-- the whole listing of what a line hears: the entries that have a line in it
abbrev pub ListingAsHeard : Type 0
ListingAsHeard =
    (reader : Reader) → T (are_bytes reader.body) → (bytes : List ℕ) → T (are_bytes bytes) → (family : Family) (load : Load) (address : Address) (reading : Reading)
    → Memᴰ (Some (Weight load address reading)) (map (entry_heard family) (events (view reader) bytes))
    → Among (events (view reader) bytes) (ListedHeard family load address reading)

-- the program makes each body's check once, at its end, and lists without making it again: its entries, and their lines, are the paper's
pub record ListsTheSame (family : Family) (heard : List Heard) : Type 0 where
  pub entries : map (entry_if true family) heard ≡ map (entry_heard family) heard
  pub lines : listed (map (entry_if true family) heard) ≡ listing family heard

abbrev pub CheckedOnce : Type 0
CheckedOnce = (family : Family) (listener : Listener) (bytes : List ℕ) → ListsTheSame family (events listener bytes)
