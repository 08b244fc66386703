-- Shown: each notion that the statements are made of tells right from wrong: what differs in one thing does not pass for it.
-- Why: in each the two sides compute to different numbers.
use Rattle.std.specs.Prelude.{Result, Ok, Err, Some, None}
use Prim.Native.Nat.{ℕ}
use mathlib.Core.Path.{◌≡◌, refl, ap}
use mathlib.Core.Bool.{Bool, true, false}
use mathlib.Core.List.Memᴰ
use mathlib.Core.List.{List, [], ◌∷◌}
use mathlib.Core.Logic.{inl, inr}
use native.Mathlib.Omega.{arith}
use lib.ListN.{get_or, replicate}
use denote.Ref.{Bor}
use Rattle.std.proofs.lemmas.Grind.{common_steps}
use Rattle.refusal.specs.declared.Refusal.TheVariants.{BodyShort, BodyLong, HeldBroken, CheckWrong, AddressIllegal, CodeUnknown, LengthWrong, FieldOutside, RoomShort}
use Rattle.body.specs.declared.addresses.Address.TheVariants.{Short, Serial}
use Rattle.check_byte.specs.Register.{shift_in, feed_bits, feed_byte, feed_all, received}
use Rattle.body.specs.Addresses.{legal, address_bytes, address_in}
use Rattle.body.specs.Body.{unchecked, body_of, short, judged, judged_lent}
use Rattle.line.specs.Listener.{Heard, nothing, frame, refused, seeking, delimited, tick, keep, hear_in, hear}
use Rattle.line.specs.Readers.{listening, taken, fed_from, fed_lent}
use Rattle.weight.specs.declared.families.Family.TheVariants.{Of000, Of001, Of002}
use Rattle.weight.specs.declared.FourBytes.{FourBytes}
use Rattle.weight.specs.declared.Reading.{Reading}
use Rattle.weight.specs.Families.{named_in, family_named}
use Rattle.weight.specs.Bytes.{in_range, read_as, read_of, bytes_of, packed_of}
use Rattle.codes.specs.declared.table.Role.TheVariants.{Request, Reply}
use Rattle.codes.specs.declared.table.Load.{Load}
use Rattle.codes.specs.declared.table.Load.TheVariants.{Net, Gross}
use Rattle.records.specs.Records.{kind_of, address_of, good_address, good_weighing, good}
use Rattle.records.specs.Stepping.{whole_log, bytes_of_log}
use Rattle.weighing_log.specs.Hearing.{weighing, met_on_line, met_record, record_of}
use Rattle.entries.specs.declared.entries.Entry.TheVariants.{Weight, Message}
use Rattle.entries.specs.declared.entries.Entry.TheVariants as entry_as
use Rattle.entries.specs.Entries.{entry_heard}
use Rattle.meaning.specs.Judging.{judged_message}
use Rattle.message.specs.Reading.{read_if, read_message}
use Rattle.capture_walker.specs.declared.walking.Walker.{Walker}
use Rattle.capture_walker.specs.declared.walking.Walked.{Walked}
use Rattle.capture_walker.specs.Walking.{start_at, StepTaken, said_end, step_from}
use Rattle.capture_walker.specs.Walkers.{walker_at, WalkerSteps}
use Rattle.demands.specs.CaptureWalks.{Lends, Walk, EndsForEver, end_from, WalkTells, LeavesLine, CountsWire, MovedOn}
use Rattle.demands.specs.Counts.{Within, Carries}
use Rattle.demands.specs.HighAddresses.{NoFive, WrittenWithoutFive, from_fe}
use Rattle.demands.specs.Kept.{WeightReply}
use Rattle.laws.specs.Exactly.{ExactlyWhere}
use Rattle.demands.specs.Messages.{FirstToFail}
use Rattle.demands.specs.Shown.{plain}
use Rattle.demands.specs.Unheard.{NotesItsWeight}
use Rattle.demands.specs.WalkersWalk.{WalkersWalk, WalkerTells}
use Rattle.demands.specs.WalksShown.{morning, sevens}
use Rattle.demands.specs.Weighings.{ReplyHeard, Among, WeighingHeard, records_from, records_heard, ListedHeard}
use Rattle.demands.specs.WrittenDown.{Sound}
use Rattle.demands.proofs.Logs.{line_log_whole}
use Rattle.demands.proofs.Unheard.{always_its_weight}
use Rattle.demands.proofs.WalkersWalk.{by_walker}
use Rattle.demands.proofs.WalksShown.{walks_shown}
use Rattle.refusal.specs.declared.Refusal.{Refusal}

-- ---- counts

within_size : Within (frame 9 2 (1 ∷ [])) → ⊥
within_size h = omega (arith, h.0)

within_255 : Within (frame 9 256 (replicate 256 0)) → ⊥
within_255 h = omega (arith, h.1)

within_refused : Within (refused CheckWrong 9 256) → ⊥
within_refused h = omega (arith, h.0)

within_two : Within (refused BodyLong 9 254) → ⊥
within_two h = omega (arith, h.1 refl)

carries_wire : Carries 5 3 (frame 6 3 []) → ⊥
carries_wire h = omega (arith, h.0)

carries_size : Carries 6 2 (frame 6 3 []) → ⊥
carries_size h = omega (arith, h.1)

carries_refused_wire : Carries 5 3 (refused CheckWrong 6 3) → ⊥
carries_refused_wire h = omega (arith, h.0)

carries_refused_size : Carries 6 2 (refused CheckWrong 6 3) → ⊥
carries_refused_size h = omega (arith, h.1)

-- ---- replies heard: E3 is a gross reply of address 1 with four bytes of its own

body_in : Heard → List ℕ
body_in nothing = []
body_in (frame wire kept body) = body
body_in (refused why wire kept) = []

abbrev e3 : Heard
e3 = frame 10 7 (0x01 ∷ 0xC3 ∷ 0x51 ∷ 0x02 ∷ 0x00 ∷ 0x01 ∷ 0xDE ∷ [])

abbrev at : ℕ → Heard → ℕ
at place heard = get_or (body_in heard) place 0

reply_load : {four : FourBytes} → ReplyHeard e3 Net (Short 1) four → ⊥
unfolding body_in body_of unchecked address_bytes
reply_load h = omega (arith, ap (at 1) h.body)

reply_address : {four : FourBytes} → ReplyHeard e3 Gross (Short 2) four → ⊥
unfolding body_in body_of unchecked address_bytes
reply_address h = omega (arith, ap (at 0) h.body)

reply_first : {four : FourBytes} → ReplyHeard e3 Gross (Short 1) four → four.w0 ≡ 0x51
unfolding body_in body_of unchecked address_bytes
reply_first h = omega (arith, ap (at 2) h.body)

reply_status : {four : FourBytes} → ReplyHeard e3 Gross (Short 1) four → four.con ≡ 0x01
unfolding body_in body_of unchecked address_bytes
reply_status h = omega (arith, ap (at 5) h.body)

nothing_among : Among [] (λ (heard : Heard). Unit {0}) → ⊥
nothing_among found = Memᴰ.not-nil found.among

none_such : {heard : List Heard} → Among heard (λ (one : Heard). ⊥) → ⊥
none_such found = found.such

-- in the log: the kind, the role, the four bytes in their order
weighing_of : (load : Load) (four : FourBytes) → WeighingHeard Reply Of002 (weighing 3 (Short 1) load four) e3 → (load ≡ Gross) × ((four.w0 ≡ 0x51) × (four.con ≡ 0x01))
unfolding address_of
weighing_of load four h = by_load load h.load h.kind h.reply
  where
    by_load : (load mine : Load) → (weighing 3 (Short 1) load four).kind ≡ kind_of mine → ReplyHeard e3 mine (Short 1) four
        → (load ≡ Gross) × ((four.w0 ≡ 0x51) × (four.con ≡ 0x01))
    by_load Gross Gross kind reply = (refl, (reply_first reply, reply_status reply))
    by_load Net Gross kind reply = absurd (omega arith)
    by_load load Net kind reply = absurd (reply_load reply)

weighing_role : (load : Load) (four : FourBytes) → WeighingHeard Request Of002 (weighing 3 (Short 1) load four) e3 → ⊥
weighing_role load four h = let was = h.as_reply in cc

-- and the family of the line
weighing_family : (load : Load) (four : FourBytes) → WeighingHeard Reply Of000 (weighing 3 (Short 1) load four) e3 → four.family ≡ 1
weighing_family load four h = h.of_line

-- in the listing: a reading of 25.0 kg is not E3's
abbrev other : Reading
other = record { minus = false; number = 250; point = 1; bit6 = false; bit5 = false; settled = false; overload = false; family = Of002 }

listed_other : ListedHeard Of002 Gross (Short 1) other e3 → ⊥
unfolding packed_of in_range
listed_other h =
    let packed = h.packed in
    let same : bytes_of other ≡ h.four = cc in
    omega (arith, ap (λ (four : FourBytes). four.w0) same, reply_first h.reply)

-- nor is one of 002 a reading of a line of 000
listed_family : ListedHeard Of000 Gross (Short 1) other e3 → ⊥
listed_family h = let was = h.of_line in cc

-- ---- premises reach to the end of their range

-- the highest digits and every bit of the status, of a family that reserves none
abbrev highest : FourBytes
highest = record { w0 = 0x99; w1 = 0x99; w2 = 0x99; con = 0xFF; family = 2 }

reply_highest : WeightReply Of001 (Serial 16_777_215) highest
unfolding legal
reply_highest = record { from = refl; digits = refl; status = omega arith; bit6 = λ e. cc; line = refl }

weighed_highest : NotesItsWeight (weighing 0 (Serial 16_777_215) Net highest)
unfolding good good_weighing read_of read_as family_named named_in good_address address_of legal
weighed_highest = grind (arith, common_steps, always_its_weight)

-- the last time of 64 bits
abbrev last : ℕ → ℕ
last number = 18_446_744_073_709_551_615

last_time : (heard : List Heard) → whole_log (bytes_of_log (records_heard last Reply Of002 heard)) ≡ record { records = records_heard last Reply Of002 heard; ending = Ok tt }
last_time heard = line_log_whole last (λ (number : ℕ). omega arith) Reply Of002 heard

-- ---- what may be written

sound_address : Sound (Some (Weight Gross (Short 0) other)) → ⊥
unfolding legal
sound_address h = let was = h.0 in cc

sound_reading : Sound (Some (Weight Gross (Short 1) (record { minus = false; number = 1_000_000; point = 1; bit6 = false; bit5 = false; settled = false; overload = false; family = Of002 }))) → ⊥
unfolding in_range
sound_reading h = let was = h.1 in cc

sound_reserved : Sound (Some (Weight Gross (Short 1) (record { minus = false; number = 250; point = 1; bit6 = true; bit5 = false; settled = false; overload = false; family = Of002 }))) → ⊥
unfolding in_range
sound_reserved h = let was = h.1 in cc

sound_message : Sound (Some (Message (Short 0) 0xA1)) → ⊥
unfolding legal
sound_message h = cc

sound_refused : Sound (Some (entry_as.Refused RoomShort)) → ⊥
sound_refused h = cc

-- ---- refusal 5: among the events, in the log, in the listing, and earned by a frame's body

five_told : NoFive (refused AddressIllegal 5 3 ∷ []) → ⊥
five_told h = h AddressIllegal 5 3 (Memᴰ.head refl) refl

five_noted : WrittenWithoutFive (refused AddressIllegal 5 3 ∷ []) → ⊥
unfolding records_from record_of met_record
five_noted h = h.noted (λ (number : ℕ). number) Reply Of002 (met_on_line 1 5) (Memᴰ.head refl) refl refl

five_listed : WrittenWithoutFive (refused AddressIllegal 5 3 ∷ []) → ⊥
unfolding entry_heard
five_listed h = h.listed Of002 AddressIllegal (Memᴰ.head refl) refl

five_read : WrittenWithoutFive (frame 6 3 from_fe ∷ []) → ⊥
unfolding entry_heard shift_in feed_bits feed_byte feed_all received address_in short judged judged_lent judged_message read_if read_message legal
five_read h = h.listed Of002 AddressIllegal (Memᴰ.head refl) refl

-- ---- 6, 7, 8

where_holds : ExactlyWhere (Unit {0}) ⊥ → ⊥
where_holds h = h.0 tt

where_fails : ExactlyWhere ⊥ (Unit {0}) → ⊥
where_fails h = h.1 tt

-- whatever the three tests say, one verdict is right
unknown_first : (sized right : Bool) → FirstToFail false sized right (Ok tt) (Ok tt) → ⊥
unknown_first sized right h = let was = h.unknown.1 refl in cc

length_next : (right : Bool) → FirstToFail true false right (Ok tt) (Ok tt) → ⊥
length_next right h = let was = h.wrong_length.1 (refl, refl) in cc

field_next : FirstToFail true true false (Ok tt) (Ok tt) → ⊥
field_next h = let was = h.outside.1 (refl, (refl, refl)) in cc

then_after : (verdict : Result (Unit {0}) Refusal) → FirstToFail true true true (Err RoomShort) verdict → verdict ≡ Err RoomShort
then_after verdict h = h.passed (refl, (refl, refl))

not_unknown : (sized right : Bool) → FirstToFail true sized right (Ok tt) (Err CodeUnknown) → ⊥
not_unknown sized right h = let was = h.unknown.0 refl in cc

not_length : (right : Bool) → FirstToFail true true right (Ok tt) (Err LengthWrong) → ⊥
not_length right h = let was = (h.wrong_length.0 refl).1 in cc

not_field : FirstToFail true true true (Ok tt) (Err FieldOutside) → ⊥
not_field h = let was = (h.outside.0 refl).1.1 in cc

-- ---- walks

-- a step from inside the block does not stay
ends_early : EndsForEver morning 12 → ⊥
unfolding tick keep hear_in hear listening taken fed_from fed_lent start_at step_from
ends_early h = omega (arith, ap (λ (s : StepTaken). s.answer.place) (h sevens))

-- an event given twice: the walk did not move on
given_twice : MovedOn morning 6 (frame 6 3 plain) 6 → ⊥
given_twice m = omega (arith, m.forward)

past_the_end : MovedOn morning 6 (frame 14 3 plain) 14 → ⊥
past_the_end m = omega (arith, m.inside)

-- a frame is left behind an FF, 2 and 3 behind another byte; 6 is no refusal of the line, and nothing is no event
leaves_other : LeavesLine (frame 6 3 plain) 0x02 delimited → ⊥
leaves_other (ff, _) = omega (arith, ff)

leaves_seeking : LeavesLine (frame 6 3 plain) 0xFF seeking → ⊥
leaves_seeking (_, is) = cc

long_behind_ff : LeavesLine (refused BodyLong 257 255) 0xFF seeking → ⊥
long_behind_ff h = grind (arith, common_steps)

broken_delimited : LeavesLine (refused HeldBroken 10 1) 0xFF delimited → ⊥
broken_delimited h = grind (arith, common_steps)

short_seeking : LeavesLine (refused BodyShort 4 1) 0x02 seeking → ⊥
short_seeking h = grind (arith, common_steps)

short_at_rest : LeavesLine (refused BodyShort 4 1) 0xFF seeking → ⊥
short_at_rest h = grind (arith, common_steps)

short_behind_other : LeavesLine (refused BodyShort 4 1) 0x02 delimited → ⊥
short_behind_other h = grind (arith, common_steps)

broken_at_delimiter : LeavesLine (refused HeldBroken 10 1) 0x02 delimited → ⊥
broken_at_delimiter (inl (_, (ff, _))) = omega (arith, ff)
broken_at_delimiter (inr (_, (_, is))) = cc

unknown_code : LeavesLine (refused CodeUnknown 6 3) 0xFF delimited → ⊥
unknown_code h = grind (arith, common_steps)

leaves_nothing : LeavesLine nothing 0xFF delimited → ⊥
leaves_nothing none = none

counts_frame : CountsWire 5 (frame 6 3 plain) → ⊥
counts_frame e = omega (arith, e)

counts_refused : CountsWire 5 (refused HeldBroken 10 1) → ⊥
counts_refused e = omega (arith, e)

counts_nothing : CountsWire 0 nothing → ⊥
counts_nothing none = none

-- what a walk tells is that and nothing else, and where it ends is there and nowhere else
walk_only : {block : List ℕ} {place end : ℕ} {told other : List Heard} {lending : ℕ → List ℕ} → WalkTells block place told → Lends lending → Walk block lending place other end
    → (other ≡ told) × (end ≡ end_from block place)
walk_only walk lends steps = walk.only _ lends _ _ steps

walk_for_ever : {block : List ℕ} {place : ℕ} {told : List Heard} → WalkTells block place told → (lent : List ℕ) → step_from block (end_from block place) lent ≡ said_end (end_from block place) lent
walk_for_ever walk lent = walk.for_ever lent

walker_only : {walker end last : Walker} {told other : List Heard} {lending : ℕ → List ℕ} → WalkerTells walker told end → Lends lending → WalkersWalk lending walker other last
    → (other ≡ told) × (last ≡ end)
walker_only walk lends steps = walk.only _ lends _ _ steps

walker_for_ever : {walker end : Walker} {told : List Heard} → WalkerTells walker told end → (lent left : List ℕ) (answered : Walked) → WalkerSteps end lent answered left
    → (answered.next ≡ None) × ((answered.walker ≡ end) × (left ≡ lent))
walker_for_ever walk lent left answered steps =
    let (said, same) = walk.for_ever lent left answered steps in
    (ap (λ (a : Walked). a.next) said, (ap (λ (a : Walked). a.walker) said, same))

no_silence : WalkTells morning 0 [] → ⊥
no_silence walk = grind (arith, common_steps, walks_shown)

no_other_end : (block : Bor (List ℕ)) (end : ℕ) {told : List Heard} → block.now ≡ morning → WalkerTells (walker_at block 0) told (walker_at block end) → 13 ≡ end
no_other_end block end is walk = grind (arith, common_steps, by_walker, walks_shown)
