-- Shown: on a wire of bytes heard from fresh no event is refusal 5, nor any record or line made of them.
-- Why: a body is begun by a byte that is neither FE nor FF. Any other first byte is a legal short address, or 00 ahead of three bytes of serial.
use Rattle.std.specs.Prelude.{Result, Ok, Err, Some}
use mir.Facts.{and_yes}
use Prim.Native.Nat.{ℕ, ◌<◌}
use mathlib.Core.Path.{◌≡◌, ◌∙◌, sym, ap, subst}
use mathlib.Core.Bool.{true, false}
use mathlib.Core.List.{List, [], ◌∷◌, ◌++◌, flatten, Memᴰ}
use native.Mathlib.Omega.{arith}
use lib.Dec.{T, ltb}
use lib.ListN.{length, get_or}
use lib.Pow.{are_bytes}
use Rattle.std.proofs.lemmas.Grind.{common_steps}
use Rattle.refusal.specs.declared.Refusal.{Refusal}
use Rattle.refusal.specs.declared.Refusal.TheVariants.{AddressIllegal}
use Rattle.refusal.specs.Numbers.{number_of}
use Rattle.laws.proofs.ByteLists.{bytes_one_more, bytes_drop}
use Rattle.low_first.specs.LowFirst.{low_first}
use Rattle.body.specs.Addresses.{legal, address_in}
use Rattle.body.specs.Body.{judged}
use Rattle.body.proofs.Rebuilding.{good_address_lem}
use Rattle.line.specs.Listener.{State, seeking, delimited, inside, held, Heard, nothing, frame, refused, Listener, Step, fresh, step, keep, ended, tick, hear_in, hear, events, after}
use Rattle.line.specs.declared.reading.Reader.{Reader}
use Rattle.line.specs.Readers.{view}
use Rattle.line.proofs.EveryStep.{every_event}
use Rattle.weight.specs.declared.families.Family.{Family}
use Rattle.codes.specs.declared.table.Role.{Role}
use Rattle.codes.specs.declared.table.Role.TheVariants.{Reply}
use Rattle.codes.specs.declared.table.Load.{Load}
use Rattle.codes.specs.declared.table.Load.TheVariants.{Net, Gross}
use Rattle.meaning.specs.Weights.{weight_said}
use Rattle.message.specs.Reading.{read_message}
use Rattle.message.proofs.Refusals.{end_refuses, message_refuses}
use Rattle.records.specs.declared.records.Record.{Record}
use Rattle.records.specs.Records.{kind_of, met_kind}
use Rattle.weighing_log.specs.Hearing.{record_of, noted_heard}
use Rattle.weighing_log.proofs.Heard.{refusal_made, said_made}
use Rattle.entries.specs.declared.entries.Entry.TheVariants as entry_as
use Rattle.entries.specs.Entries.{entry_of, entry_heard}
use Rattle.demands.specs.Wire.{over_blocks}
use Rattle.demands.specs.Reading.{heard_by}
use Rattle.demands.specs.HighAddresses.{NoFive, HeardWithoutFive, WrittenWithoutFive, NeverFive}
use Rattle.demands.proofs.Cuts.{any_blocks}
use Rattle.demands.proofs.Reading.{hears_as_listener, every_cut}
use Rattle.demands.proofs.Loops.{feed_loop, listen_loop}
use Rattle.demands.proofs.Weighings.{in_log, in_listing}
use Rattle.message.specs.declared.reading.Message.{Message}

-- ---- a first byte below FE

abbrev NotFive : Refusal → Type 0
NotFive why = number_of why ≡ 5 → ⊥

-- every body of bytes that begins so has a legal address
low_legal : (body : List ℕ) → T (are_bytes body) → get_or body 0 0 < 0xFE → legal (address_in body) ≡ true
unfolding address_in legal low_first
low_legal body all low = grind (arith, common_steps)

-- so 5 is not what it is refused by, at its end or as a message
not_illegal : (body : List ℕ) → legal (address_in body) ≡ true → legal (address_in body) ≡ false → NotFive AddressIllegal
not_illegal body right wrong five = cc

end_not_five : (body : List ℕ) → legal (address_in body) ≡ true → (why : Refusal) → judged body ≡ Err why → NotFive why
end_not_five body right = end_refuses NotFive body (λ five. omega arith) (λ five. omega arith) (not_illegal body right)

message_not_five : (body : List ℕ) → judged body ≡ Ok tt → (role : Role) (family : Family) (why : Refusal) → read_message role family body ≡ Err why → NotFive why
message_not_five body good =
    message_refuses NotFive body (λ five. omega arith) (λ five. omega arith) (not_illegal body (good_address_lem body good)) (λ five. omega arith)
    (λ five. omega arith) (λ five. omega arith) (λ five. omega arith)

-- ---- one byte

-- an event that is not refusal 5; a frame's body is good
abbrev Fine : Heard → Type 0
Fine nothing = Unit {0}
Fine (frame wire kept body) = judged body ≡ Ok tt
Fine (refused why wire kept) = NotFive why

-- a body that a line began
record Begun (kept : List ℕ) : Type 0 where
  bytes : T (are_bytes kept)
  some : 0 < length kept
  low : get_or kept 0 0 < 0xFE

abbrev Known : State → Type 0
Known seeking = Unit {0}
Known delimited = Unit {0}
Known (inside kept) = Begun kept
Known (held kept) = Begun kept

abbrev Both : Step → Type 0
Both s = Known s.next.state × Fine s.event

longer : (kept : List ℕ) (more : ℕ) → T (ltb more 256) → Begun kept → Begun (kept ++ (more ∷ []))
longer kept more small begun = grind (arith, common_steps, bytes_one_more)

keeps : (kept : List ℕ) (more wire : ℕ) → Begun (kept ++ (more ∷ [])) → Both (keep kept more wire)
unfolding keep
keeps kept more wire begun = grind (arith, common_steps)

at_end : (kept : List ℕ) → Begun kept → (wire : ℕ) (verdict : Result (Unit {0}) Refusal) → judged kept ≡ verdict → Both (step delimited wire (ended verdict kept wire))
unfolding ended
at_end kept begun wire verdict is = grind (arith, common_steps, end_not_five, low_legal)

one_byte : (state : State) (byte wire : ℕ) → T (ltb byte 256) → Known state → Both (hear_in state byte wire)
unfolding hear_in
one_byte state byte wire small known = grind (arith, common_steps, at_end, keeps, longer)

-- ---- any bytes

all_fine : (bytes : List ℕ) → T (are_bytes bytes) → (one : Heard) → Memᴰ one (events fresh bytes) → Fine one
unfolding hear
all_fine bytes small =
    every_event (λ (listener : Listener) (bytes : List ℕ). Known listener.state × T (are_bytes bytes)) Fine
    (λ listener byte bytes known.
    let (now, later) = and_yes (ltb byte 256) (are_bytes bytes) known.1 in
    let both = one_byte listener.state byte (tick listener.wire) now known.0 in ((both.0, later), both.1))
    fresh bytes (tt, small)

-- ---- what is written of them

read_listed : (family : Family) (body : List ℕ) → judged body ≡ Ok tt → (why : Refusal) (received : Result Message Refusal) → read_message Reply family body ≡ received → entry_of received ≡ entry_as.Refused why
    → NotFive why
read_listed family body good why received was e = grind (arith, common_steps, message_not_five)

listed : (family : Family) (why : Refusal) (heard : Heard) → Fine heard → entry_heard family heard ≡ Some (entry_as.Refused why) → NotFive why
unfolding entry_heard
listed family why heard fine e = grind (arith, common_steps, read_listed)

module _ (time : ℕ) (item : Record) (met : item.kind ≡ met_kind) (five : item.status ≡ 5) where
  weighed : (load : Load) → item.kind ≡ kind_of load → ⊥
  weighed Gross e = omega arith
  weighed Net e = omega arith

  of_refusal : (why : Refusal) → NotFive why → record_of time (Err why) ≡ Ok (Some item) → ⊥
  of_refusal why not_five e = grind (arith, common_steps, refusal_made)

  of_body_lem : (body : List ℕ) → judged body ≡ Ok tt → (role : Role) (family : Family) (received : Result Message Refusal) → read_message role family body ≡ received → record_of time received ≡ Ok (Some item) → ⊥
  unfolding record_of
  of_body_lem body good role family (Ok message) was e =
      let made = said_made time message.address (weight_said message.what) item e in
      weighed made.said.load (ap (λ (one : Record). one.kind) made.is)
  of_body_lem body good role family (Err why) was e = of_refusal why (message_not_five body good role family why was) e

  noted : (role : Role) (family : Family) (heard : Heard) → Fine heard → noted_heard time role family heard ≡ Ok (Some item) → ⊥
  noted role family heard fine e = grind (arith, common_steps, of_body_lem, of_refusal)

-- ---- the law

module _ (blocks : List (List ℕ)) (small : T (are_bytes (flatten blocks))) where
  fine : (heard : List Heard) → heard ≡ events fresh (flatten blocks) → (one : Heard) → Memᴰ one heard → Fine one
  fine heard is one among = all_fine (flatten blocks) small one (subst (Memᴰ one) is among)

  none : (heard : List Heard) → heard ≡ events fresh (flatten blocks) → NoFive heard
  none heard is why wire kept among = fine heard is (refused why wire kept) among

  from_fresh : (reader : Reader) → view reader ≡ fresh → heard_by reader (flatten blocks) ≡ events fresh (flatten blocks)
  from_fresh reader is_fresh = grind (arith, common_steps, hears_as_listener)

  of_heard : HeardWithoutFive blocks
  of_heard = record {
    by_listener = none _ (any_blocks fresh blocks);
    by_reader = λ reader is_fresh. none _ (every_cut reader blocks ∙ from_fresh reader is_fresh);
    by_feed = λ reader is_fresh told left loop. none told (((feed_loop reader blocks).only told left loop).0 ∙ from_fresh reader is_fresh);
    by_listen = λ reader full is_fresh told left loop. none told (((listen_loop reader full blocks).only told left loop).0 ∙ from_fresh reader is_fresh);
  }

  of_written : WrittenWithoutFive (over_blocks events after fresh blocks)
  of_written = record {
    noted = λ time role family item among met five.
        (in_log Fine (λ _. ⊥) time role family item (λ heard number. noted (time number) item met five role family heard) _ 1 (fine _ (any_blocks fresh blocks)) among).such;
    listed = λ family why among.
        (in_listing Fine (λ _. NotFive why) family (Some (entry_as.Refused why)) (listed family why) _ (fine _ (any_blocks fresh blocks)) among).such;
  }

pub never_five : NeverFive
never_five wire small joined blocks cut =
    let all : T (are_bytes (flatten blocks)) = subst (λ (bytes : List ℕ). T (are_bytes bytes)) (sym cut) (bytes_drop joined wire small) in
    record { heard = of_heard blocks all; written = of_written blocks all }
