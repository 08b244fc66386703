-- Shown: no weighing in the log and no weight in the listing, of any bytes from any state handed in, unless a reply C2 or C3 with its four bytes was heard.
-- Why: a line hands out a body only where it is good, a record or an entry of a weight is made of such a body alone, and such a body is its parts again.
use Rattle.std.specs.Prelude.{Result, Ok, Err, Option, Some, None}
use mir.Facts.{and_yes}
use Prim.Native.Nat.{ℕ, ◌+◌}
use mathlib.Core.Path.{◌≡◌, ◌∙◌, refl, sym, ap, subst}
use mathlib.Core.List.Memᴰ
use mathlib.Core.List.{List, [], ◌∷◌, map, Memᴰ}
use mathlib.Core.Logic.{◌⊎◌, inl, inr}
use lib.Dec.{T, ltb}
use lib.Pow.{are_bytes}
use lib.ListN.{length}
use native.Mathlib.Omega.{arith}
use Rattle.std.proofs.lemmas.Grind.{common_steps}
use Rattle.laws.proofs.ByteLists.{bytes_take, bytes_one_more}
use Rattle.body.specs.declared.addresses.Address.{Address}
use Rattle.body.specs.Body.{judged, code_in, data_in}
use Rattle.body.specs.Addresses.{address_in}
use Rattle.body.proofs.Rebuilding.{rebuilt}
use Rattle.line.specs.declared.reading.Reader.{Reader}
use Rattle.line.specs.Listener.{Heard, nothing, frame, refused, Listener, Step, hear, events}
use Rattle.line.specs.Readers.{view, kept_of}
use Rattle.line.proofs.EveryStep.{every_step, every_told, every_event}
use Rattle.line.proofs.Joined.{kept_front}
use Rattle.weight.specs.declared.families.Family.{Family}
use Rattle.weight.specs.declared.FourBytes.{FourBytes}
use Rattle.weight.specs.declared.Reading.{Reading}
use Rattle.weight.specs.Bytes.{in_order, packed_of}
use Rattle.codes.specs.declared.table.Role.{Role}
use Rattle.codes.specs.declared.table.Role.TheVariants.{Reply}
use Rattle.codes.specs.declared.table.Load.{Load}
use Rattle.meaning.specs.declared.meaning.SaidWeight.{SaidWeight}
use Rattle.meaning.specs.Weights.{weight_said}
use Rattle.message.specs.Reading.{read_message}
use Rattle.records.specs.declared.records.Record.{Record}
use Rattle.weighing_log.specs.Hearing.{noted_heard}
use Rattle.weighing_log.specs.Heard.{code_of}
use Rattle.weighing_log.proofs.Heard.{refusal_kind}
use Rattle.weighing_log.proofs.Weighings.{heard as weighing_heard, address_is, said_code, spelled, packed_back, carries, said_family}
use Rattle.entries.specs.declared.entries.Entry.{Entry}
use Rattle.entries.specs.declared.entries.Entry.TheVariants.{Weight}
use Rattle.entries.specs.Entries.{message_entry, entry_of, entry_heard}
use Rattle.entries.proofs.Handed.{handed_out}
use Rattle.listing.proofs.Handed.{lists_the_same}
use Rattle.demands.proofs.ByFamily.{same_family, read_family}
use Rattle.demands.specs.Weighings.{ReplyHeard, Among, WeighingHeard, NotedAsHeard, note_then, records_from, LogAsHeard, ListedHeard, ListedAsHeard, ListingAsHeard, CheckedOnce}
use Rattle.refusal.specs.declared.Refusal.{Refusal}
use Rattle.message.specs.declared.reading.Message.{Message}

-- ---- what a line hands out

-- a frame's body is good, and its numbers are bytes
abbrev Whole : Heard → Type 0
Whole nothing = Unit {0}
Whole (frame wire kept body) = T (are_bytes body) × (judged body ≡ Ok tt)
Whole (refused why wire kept) = Unit {0}

abbrev Bytes : Listener → Type 0
Bytes listener = T (are_bytes (kept_of listener.state))

whole : (listener : Listener) (byte : ℕ) → Bytes listener → Whole (hear listener byte).event
whole listener byte all = every_told Whole listener byte tt tt tt (λ good. (all, good)) (λ why bad. tt)

stays : (listener : Listener) (byte : ℕ) → T (ltb byte 256) → Bytes listener → Bytes (hear listener byte).next
stays listener byte small all =
    every_step (λ (s : Step). Bytes s.next) listener byte
    (record {
      empty = λ next none. rw none tt;
      as_it_was = all;
      keeps = λ more which fits. bytes_one_more (kept_of listener.state) more all (by_which more which);
      full = λ _. tt;
      broken = tt;
      good = λ _. tt;
      bad = λ _ _. tt;
    })
  where
    by_which : (more : ℕ) → (more ≡ byte) ⊎ (more ≡ 0xFF) → T (ltb more 256)
    by_which more (inl e) = rw e small
    by_which more (inr e) = rw e tt

handed : (reader : Reader) → T (are_bytes reader.body) → Bytes (view reader)
handed reader all = subst (λ (kept : List ℕ). T (are_bytes kept)) (kept_front reader.place reader.body) (bytes_take (length (kept_of (view reader).state)) reader.body all)

all_whole : (reader : Reader) → T (are_bytes reader.body) → (bytes : List ℕ) → T (are_bytes bytes) → (heard : Heard) → Memᴰ heard (events (view reader) bytes)
    → Whole heard
all_whole reader all bytes small =
    every_event (λ (listener : Listener) (bytes : List ℕ). Bytes listener × T (are_bytes bytes)) Whole
    (λ listener byte bytes known. (
      (stays listener byte (and_yes (ltb byte 256) (are_bytes bytes) known.1).0 known.0, (and_yes (ltb byte 256) (are_bytes bytes) known.1).1),
      whole listener byte known.0,
    ))
    (view reader) bytes (handed reader all, small)

-- ---- one event

-- a good body is its parts again
reply : (wire kept : ℕ) (body : List ℕ) → Whole (frame wire kept body) → {load : Load} {address : Address} {four : FourBytes} → address_in body ≡ address
    → code_in body ≡ code_of load → in_order four ≡ data_in body → ReplyHeard (frame wire kept body) load address four
reply wire kept body is_whole is_Address is_code is_data = grind (arith, common_steps, rebuilt)

noted : (heard : Heard) → Whole heard → (time : ℕ) (role : Role) (family : Family) (item : Record) → noted_heard time role family heard ≡ Ok (Some item) → (item.kind ≡ 3 → ⊥)
    → (item.time ≡ time) × WeighingHeard role family item heard
noted nothing is_whole time role family item e weighing = cc
noted (frame wire kept body) is_whole time role family item e weighing =
    let was = weighing_heard role family time body item e weighing in (
      was.at_time,
      record {
        load = was.load;
        kind = was.kind;
        as_reply = was.reply;
        of_line = was.of_line;
        reply = reply wire kept body is_whole (sym was.address) was.code was.weight;
      },
    )
noted (refused why wire kept) is_whole time role family item e weighing = absurd (weighing (refusal_kind time why item e))

-- an entry is a weight only where a message says one
module _ (family : Family) (load : Load) (address : Address) (reading : Reading) where
  record SaysIt (weight : Option SaidWeight) (from : Address) : Type 0 where
    said : SaidWeight
    says : weight ≡ Some said
    same_load : said.load ≡ load
    same_reading : said.reading ≡ reading
    same_address : from ≡ address

  says_weight_lem : (from : Address) (code : ℕ) (weight : Option SaidWeight) → message_entry from code weight ≡ Weight load address reading → SaysIt weight from
  says_weight_lem from code weight e = grind (arith, common_steps)

  read_listed : (wire kept : ℕ) (body : List ℕ) → Whole (frame wire kept body) → (received : Result Message Refusal) → read_message Reply family body ≡ received
      → entry_of received ≡ Weight load address reading → ListedHeard family load address reading (frame wire kept body)
  read_listed wire kept body is_whole (Ok message) was e =
      let it = says_weight_lem message.address message.code (weight_said message.what) e in
      record {
        four = it.said.bytes;
        of_line =
            ap (λ (one : Reading). one.family) (sym it.same_reading)
            ∙ same_family it.said.reading.family family
            (read_family it.said.bytes it.said.reading (carries Reply family body message was it.said it.says).reads ∙ said_family Reply family body message was it.said it.says);
        packed = ap packed_of (sym it.same_reading) ∙ packed_back Reply family body message was it.said it.says is_whole.0;
        reply =
            reply wire kept body is_whole (sym (address_is Reply family body message was) ∙ it.same_address)
            ((said_code Reply family body message was it.said it.says).1 ∙ ap code_of it.same_load) (spelled Reply family body message was it.said it.says);
      }
  read_listed wire kept body is_whole (Err why) was e = cc

  listed : (heard : Heard) → Whole heard → entry_heard family heard ≡ Some (Weight load address reading) → ListedHeard family load address reading heard
  unfolding entry_heard
  listed heard is_whole e = grind (arith, common_steps, read_listed)

pub noted_as_heard : NotedAsHeard
noted_as_heard reader all byte = noted (hear (view reader) byte).event (whole (view reader) byte (handed reader all))

pub listed_as_heard : ListedAsHeard
listed_as_heard reader all byte family load address reading = grind (arith, common_steps, handed, listed, whole)

-- ---- all events

abbrev Of : (Heard → Type 0) → List Heard → Type 0
Of Known heard = (one : Heard) → Memᴰ one heard → Known one

one_on : {Such : Heard → Type 0} {heard : Heard} {later : List Heard} → Among later Such → Among (heard ∷ later) Such
one_on found = record { event = found.event; among = Memᴰ.tail found.among; such = found.such }

-- a record of the log was made of one of the events: such an event as each is that it is made of
module _ (Known Such : Heard → Type 0) (time : ℕ → ℕ) (role : Role) (family : Family) (item : Record)
    (each : (heard : Heard) (number : ℕ) → Known heard → noted_heard (time number) role family heard ≡ Ok (Some item) → Such heard) where
  by_note : (heard : Heard) (later : List Heard) (number : ℕ) → Known heard → (records : List Record) → (Memᴰ item records → Among later Such) → (made : Result (Option Record) Refusal)
      → noted_heard (time number) role family heard ≡ made → Memᴰ item (note_then made records) → Among (heard ∷ later) Such
  by_note heard later number known records behind (Ok None) e among = one_on (behind among)
  by_note heard later number known records behind (Ok (Some other)) e (Memᴰ.head same) =
      record { event = heard; among = Memᴰ.head refl; such = each heard number known (cc) }
  by_note heard later number known records behind (Ok (Some other)) e (Memᴰ.tail among) = one_on (behind among)
  by_note heard later number known records behind (Err why) e among = one_on (behind among)

  pub in_log : (heard : List Heard) (number : ℕ) → Of Known heard → Memᴰ item (records_from time role family number heard) → Among heard Such
  unfolding records_from
  in_log [] number all among = absurd (Memᴰ.not-nil among)
  in_log (heard ∷ later) number all among =
      by_note heard later number (all heard (Memᴰ.head refl)) (records_from time role family (number + 1) later)
      (in_log later (number + 1) (λ one behind. all one (Memᴰ.tail behind))) (noted_heard (time number) role family heard) refl among

pub log_as_heard : LogAsHeard
log_as_heard reader all bytes small time role family item among weighing =
    in_log Whole (WeighingHeard role family item) time role family item (λ heard number is_whole e. (noted heard is_whole (time number) role family item e weighing).1)
    (events (view reader) bytes) 1 (all_whole reader all bytes small) among

-- the same of an entry of the listing
module _ (Known Such : Heard → Type 0) (family : Family) (entry : Option Entry) (each : (heard : Heard) → Known heard → entry_heard family heard ≡ entry → Such heard) where
  pub in_listing : (heard : List Heard) → Of Known heard → Memᴰ entry (map (entry_heard family) heard) → Among heard Such
  in_listing [] all among = absurd (Memᴰ.not-nil among)
  in_listing (heard ∷ later) all (Memᴰ.head same) =
      record { event = heard; among = Memᴰ.head refl; such = each heard (all heard (Memᴰ.head refl)) (sym same) }
  in_listing (heard ∷ later) all (Memᴰ.tail among) = one_on (in_listing later (λ one behind. all one (Memᴰ.tail behind)) among)

pub listing_as_heard : ListingAsHeard
listing_as_heard reader all bytes small family load address reading =
    in_listing Whole (ListedHeard family load address reading) family (Some (Weight load address reading)) (listed family load address reading) (events (view reader) bytes)
    (all_whole reader all bytes small)

pub checked_once : CheckedOnce
checked_once family listener bytes = grind (arith, common_steps, handed_out, lists_the_same)
