-- 02, request 4: "A reading now carries its terminal family .. The caller says the family per line; the four bytes still come back exactly." Set beside
-- the promises as they were (BeforeFamilies): what stays, what is refused now, and that a family comes back from the log. (Logs from before:
-- LogsFromBefore.)
use Rattle.std.specs.Prelude.{ℕ, ◌^◌, ◌<◌, ◌≡◌, Bool, true, false, ◌⊎◌, get_or, replicate, Result, Ok, Err, Option, Some, None}
use mathlib.Core.List.{List, [], ◌∷◌, ◌++◌, map, Memᴰ}
use Rattle.refusal.specs.declared.Refusal.{Refusal}
use Rattle.refusal.specs.declared.Refusal.TheVariants.{FieldOutside, RecordBroken}
use Rattle.refusal.specs.Numbers.{verdict_of}
use Rattle.room.specs.Writing.{wrote}
use Rattle.body.specs.declared.addresses.Address.{Address}
use Rattle.body.specs.declared.addresses.Address.TheVariants.{Short}
use Rattle.body.specs.Body.{code_in}
use Rattle.line.specs.Listener.{Heard, fresh, events}
use Rattle.weight.specs.declared.families.Family.{Family}
use Rattle.weight.specs.declared.families.Family.TheVariants.{Plain, Of002}
use Rattle.weight.specs.declared.FourBytes.{FourBytes}
use Rattle.weight.specs.declared.Reading.{Reading}
use Rattle.weight.specs.Families.{families, family_number}
use Rattle.weight.specs.Status.{sixth, marked}
use Rattle.weight.specs.Bytes.{in_range, in_order, read_of, packed_of}
use Rattle.weight.specs.Tenths.{value_of, difference_of}
use Rattle.kilograms.specs.Rounded.{in_kilograms, kilograms_of}
use Rattle.terminal_mode.specs.Modes.{mode_of}
use Rattle.codes.specs.declared.table.Role.{Role}
use Rattle.codes.specs.declared.table.Role.TheVariants.{Reply}
use Rattle.codes.specs.declared.table.Load.{Load}
use Rattle.codes.specs.declared.table.Load.TheVariants.{Net, Gross}
use Rattle.codes.specs.declared.table.Row.TheVariants as row_as
use Rattle.codes.specs.Table.{row_of}
use Rattle.message.specs.Reading.{read_message}
use Rattle.message.specs.Writing.{written_message}
use Rattle.records.specs.declared.records.Record.{Record}
use Rattle.records.specs.Records.{met_kind, weighs, good}
use Rattle.records.specs.Layout.{bytes_of_record}
use Rattle.records.specs.Reading.{read_record}
use Rattle.records.specs.Writing.{written_record}
use Rattle.records.specs.Weighings.{weight_noted}
use Rattle.weighing_log.specs.Hearing.{weighing, met_on_line, noted_heard}
use Rattle.entries.specs.declared.entries.Entry.TheVariants as entry_as
use Rattle.listing.specs.Texts.{spelt, decimal}
use Rattle.listing.specs.Lines.{line, mode_fields, line_of}
use Rattle.listing.specs.Writing.{written_line}
use Rattle.listing.specs.Whole.{listing}
use Rattle.demands.specs.BeforeFamilies.{ReadingBefore, without, in_range_before, good as good_before, refused as refused_before, read_before, bytes as bytes_before, packed_before, value_before, difference_before, fields_before, ahead, line_before}
use Rattle.demands.specs.LogsFromBefore.{highest_before, highest_since, WasGood}
use Rattle.demands.specs.Weighings.{records_heard}
use Rattle.terminal_mode.specs.declared.Mode.{Mode}

-- ---- for a legal reading the promises of today and those of before agree, except in the family, in the line's last field, and for an overloaded one
-- in the value, the difference, the float and the digits of the line (Overload)

pub record AsBefore (reading : Reading) : Type 0 where
  pub in_range_lem : in_range_before (without reading) ≡ true
  pub four : FourBytes
  pub packed : packed_of reading ≡ Ok four
  pub same : packed_before (without reading) ≡ bytes_before (in_order four)
  pub number : four.family ≡ family_number reading.family
  pub value : reading.overload ≡ false → value_of reading ≡ value_before (without reading)
  pub difference : reading.overload ≡ false → (net : Reading) → in_range net ≡ true → net.overload ≡ false
      → difference_of reading net ≡ difference_before (without reading) (without net)
  pub kilograms : reading.overload ≡ false → kilograms_of reading ≡ in_kilograms (value_before (without reading))
  pub line : reading.overload ≡ false → (number : ℕ) (load : Load) (address : Address)
      → line_of number (Some (entry_as.Weight load address reading)) ≡ line (decimal number) (ahead load address (fields_before (without reading) ++ mode_fields reading))

abbrev pub LegalAsBefore : Type 0
LegalAsBefore = (reading : Reading) → in_range reading ≡ true → AsBefore reading

-- and a reading is legal exactly where it was, but for bit 6 in 002
abbrev pub LegalWhereBefore : Type 0
LegalWhereBefore = (reading : Reading) → ((reading.family ≡ Of002) × (reading.bit6 ≡ true) → ⊥) → in_range reading ≡ in_range_before (without reading)

-- the line of a plain reading is the line that it had, if it is not overloaded
abbrev pub PlainLine : Type 0
PlainLine =
    (reading : Reading) → reading.family ≡ Plain → reading.overload ≡ false → (number : ℕ) (load : Load) (address : Address)
    → line_of number (Some (entry_as.Weight load address reading)) ≡ line_before number load address (without reading)

-- and the family touches only weights: what is no reply C2 or C3 reads the same by each, and is written the same
abbrev pub NoWeight : Role → ℕ → Type 0
NoWeight role code = (load : Load) → row_of role code ≡ Some (row_as.Weight load) → ⊥

pub record OnlyWeightsMove : Type 0 where
  pub read : (role : Role) (one other : Family) (body : List ℕ) → NoWeight role (code_in body) → read_message role one body ≡ read_message role other body
  pub written : (role : Role) (one other : Family) (address : Address) (code : ℕ) (data' room : List ℕ) → NoWeight role code
      → written_message role one address code data' room ≡ written_message role other address code data' room

-- bit 6 set in 002, and a number that names no family
abbrev pub Reserved : FourBytes → Type 0
Reserved four = (four.family ≡ family_number Of002) × (marked sixth four.con ≡ true)

abbrev pub UnknownFamily : FourBytes → Type 0
UnknownFamily four = 3 < four.family

-- four bytes read as they did; refused are those that were, those of 002 with bit 6 set (ReservedUnread), and those whose family does not exist
pub record ReadsAsBefore (four : FourBytes) : Type 0 where
  pub read : (reading : Reading) → read_of four ≡ Ok reading → read_before four.w0 four.w1 four.w2 four.con ≡ good_before (without reading)
  pub refused : (why : Refusal) → read_of four ≡ Err why
      → (read_before four.w0 four.w1 four.w2 four.con ≡ refused_before why) ⊎ (Reserved four ⊎ UnknownFamily four)
  pub unknown : UnknownFamily four → read_of four ≡ Err FieldOutside

abbrev pub EachReadsAsBefore : Type 0
EachReadsAsBefore = (four : FourBytes) → ReadsAsBefore four

-- ---- "the four bytes still come back exactly", for every family, and the family with them: both ways

pub record ComeBack : Type 0 where
  pub bytes : (four : FourBytes) → four.con < 256 → (reading : Reading) → read_of four ≡ Ok reading → packed_of reading ≡ Ok four
  pub reading : (reading : Reading) (four : FourBytes) → packed_of reading ≡ Ok four → read_of four ≡ Ok reading
  pub family : (four : FourBytes) (reading : Reading) → read_of four ≡ Ok reading → family_number reading.family ≡ four.family

-- ---- "8 also for family 002 with bit 6 set", wherever a reading is used

pub record RefusedEverywhere (reading : Reading) : Type 0 where
  pub bytes : packed_of reading ≡ Err FieldOutside
  pub value : value_of reading ≡ Err FieldOutside
  pub as_gross : (net : Reading) → difference_of reading net ≡ Err FieldOutside
  pub as_net : (gross : Reading) → difference_of gross reading ≡ Err FieldOutside
  pub kilograms : kilograms_of reading ≡ Err FieldOutside
  pub mode : mode_of reading ≡ Err FieldOutside
  pub line : (number : ℕ) (load : Load) (address : Address) (room : List ℕ)
      → written_line number (Some (entry_as.Weight load address reading)) room ≡ wrote (Err FieldOutside) [] room

abbrev pub ReservedRefused : Type 0
ReservedRefused = (reading : Reading) → reading.family ≡ Of002 → reading.bit6 ≡ true → RefusedEverywhere reading

abbrev pub ReservedUnread : Type 0
ReservedUnread = (four : FourBytes) → Reserved four → read_of four ≡ Err FieldOutside

-- ---- "11 also for byte 17 above 3, not 0 in kind 3, or 3 with status bit 6 set": a record handed in, and bytes

abbrev pub Breaks : ℕ → ℕ → ℕ → Type 0
Breaks family kind status = (3 < family) ⊎ (((kind ≡ met_kind) × (0 < family)) ⊎ ((family ≡ family_number Of002) × (marked sixth status ≡ true)))

-- of 20 bytes: byte 17 is the family, 8 the kind, 13 the status
abbrev pub BreaksIn : List ℕ → Type 0
BreaksIn bytes = Breaks (get_or bytes 17 0) (get_or bytes 8 0) (get_or bytes 13 0)

pub record ElevenAlso : Type 0 where
  pub written : (item : Record) (room : List ℕ) → Breaks item.family item.kind item.status
      → written_record item room ≡ wrote (Err RecordBroken) [] room
  pub read : (bytes : List ℕ) → BreaksIn bytes → read_record bytes ≡ Err RecordBroken

-- byte 17 from 0 to 4: 25.1 kg, gross or net, with a status; and a refusal 4
abbrev pub weighed : ℕ → Load → ℕ → ℕ → Record
weighed time load con byte = weighing time (Short 1) load (record { w0 = 0x51; w1 = 0x02; w2 = 0x00; con = con; family = byte })

abbrev pub met : ℕ → Record
met byte = record { time = 0; kind = met_kind; address = 0; serial = 0; status = 4; w0 = 0; w1 = 0; w2 = 0; family = byte }

-- 20 bytes with a kind, a status and byte 17
abbrev pub twenty_of : ℕ → ℕ → ℕ → List ℕ
twenty_of kind status byte = replicate 8 0 ++ (kind ∷ replicate 4 0 ++ (status ∷ replicate 3 0 ++ (byte ∷ 0 ∷ 0 ∷ [])))

abbrev pub good_with : (ℕ → Record) → List Bool
good_with item = map (λ (byte : ℕ). good (item byte)) (0 ∷ 1 ∷ 2 ∷ 3 ∷ 4 ∷ [])

pub record Byte17Shown : Type 0 where
  pub gross : good_with (weighed 0 Gross 0x01) ≡ true ∷ true ∷ true ∷ true ∷ false ∷ []
  pub gross_sixth : good_with (weighed 0 Gross 0x41) ≡ true ∷ true ∷ true ∷ false ∷ false ∷ []
  pub net : good_with (weighed 0 Net 0x91) ≡ true ∷ true ∷ true ∷ true ∷ false ∷ []
  pub net_sixth : good_with (weighed 0 Net 0xD1) ≡ true ∷ true ∷ true ∷ false ∷ false ∷ []
  pub refusal : good_with met ≡ true ∷ false ∷ false ∷ false ∷ false ∷ []
  -- what breaks the rule, each once, as bytes of a log
  pub breaks : BreaksIn (twenty_of 1 0x01 4) × (BreaksIn (twenty_of 3 4 1) × BreaksIn (twenty_of 2 0x41 3))

-- ---- the log: a weighing from a line of a family reads back with it, and an old record is plain

pub record ReadsBackWith (family : Family) (item : Record) : Type 0 where
  pub again : read_record (bytes_of_record item) ≡ Ok item
  pub number : item.family ≡ family_number family
  pub reading : Reading
  pub noted : weight_noted item ≡ Ok reading
  pub of_line : reading.family ≡ family

abbrev pub FamilyReadsBack : Type 0
FamilyReadsBack =
    (time : ℕ) → time < 2 ^ 64 → (role : Role) (family : Family) (heard : Heard) (item : Record) → noted_heard time role family heard ≡ Ok (Some item)
    → weighs item ≡ true → ReadsBackWith family item

-- an old weighing notes the reading that its bytes were read as, and this is plain
pub record NotesAsBefore (item : Record) : Type 0 where
  pub reading : Reading
  pub noted : weight_noted item ≡ Ok reading
  pub was : read_before item.w0 item.w1 item.w2 item.status ≡ good_before (without reading)
  pub plain : reading.family ≡ Plain

pub record IsPlain (item : Record) : Type 0 where
  pub number : item.family ≡ family_number Plain
  pub weighing : weighs item ≡ true → NotesAsBefore item

abbrev pub PlainUnder : ℕ → Type 0
PlainUnder highest = (log : List ℕ) (items : List Record) → WasGood highest log items → (item : Record) → Memᴰ item items → IsPlain item

abbrev pub OldArePlain : Type 0
OldArePlain = PlainUnder highest_before × PlainUnder highest_since

-- ---- shown: the families, what each answers the loadmaster, and the paper's listing

-- a reading of before with a family
abbrev pub of : Family → ReadingBefore → Reading
of family bits = record {
  minus = bits.minus;
  number = bits.number;
  point = bits.point;
  bit6 = bits.bit6;
  bit5 = bits.bit5;
  settled = bits.settled;
  overload = bits.overload;
  family = family;
}

-- 25.1 kg with bits 6 and 5 as given
abbrev pub with_bits : Bool → Bool → ReadingBefore
with_bits bit6 bit5 = record { minus = false; number = 251; point = 1; bit6 = bit6; bit5 = bit5; settled = false; overload = false }

-- net mode, platform, key code, event
abbrev pub answers : Option Bool → Option ℕ → Option Bool → Option Bool → Result Mode Refusal
answers net platform key event = Ok (record { net = net; platform = platform; key = key; event = event })

-- what all four families answer, and how they list it, for bits 6 and 5 as given
abbrev pub modes_of : Bool → Bool → List (Result Mode Refusal)
modes_of bit6 bit5 = map (λ (family : Family). mode_of (of family (with_bits bit6 bit5))) families

abbrev pub lines_of : Bool → Bool → List (List ℕ)
lines_of bit6 bit5 = map (λ (family : Family). line_of 1 (Some (entry_as.Weight Gross (Short 1) (of family (with_bits bit6 bit5))))) families

-- E3 with bit 6 of its status set, on a line; and with bit 5
abbrev pub sixth_on_line : List ℕ
sixth_on_line = 0xFF ∷ 0x01 ∷ 0xC3 ∷ 0x51 ∷ 0x02 ∷ 0x00 ∷ 0x41 ∷ 0x30 ∷ 0xFF ∷ 0xFF ∷ []

abbrev pub fifth_on_line : List ℕ
fifth_on_line = 0xFF ∷ 0x01 ∷ 0xC3 ∷ 0x51 ∷ 0x02 ∷ 0x00 ∷ 0x21 ∷ 0xA9 ∷ 0xFF ∷ 0xFF ∷ []

-- the listing of a wire by all four families
abbrev pub listed_by_each : List ℕ → List (List ℕ)
listed_by_each wire = map (λ (family : Family). listing family (events fresh wire)) families

-- the verdict of writing it, with room enough
abbrev pub written_by : Family → Result (Unit {0}) Refusal
written_by family = verdict_of (written_message Reply family (Short 1) 0xC3 (0x51 ∷ 0x02 ∷ 0x00 ∷ 0x41 ∷ []) (replicate 20 0)).answer

-- E3, E4 and the first of E6, one after another
abbrev pub paper_capture : List ℕ
paper_capture =
    0xFF ∷ 0x01 ∷ 0xC3 ∷ 0x51 ∷ 0x02 ∷ 0x00 ∷ 0x01 ∷ 0xDE ∷ 0xFF ∷ 0xFF
    ∷ 0xFF ∷ 0x01 ∷ 0xC2 ∷ 0x05 ∷ 0x00 ∷ 0x00 ∷ 0x91 ∷ 0x32 ∷ 0xFF ∷ 0xFF
    ∷ 0xFF ∷ 0x01 ∷ 0xC3 ∷ 0xE2 ∷ 0xFF ∷ 0xFF ∷ []

pub record FamiliesShown : Type 0 where
  pub numbers : map family_number families ≡ 0 ∷ 1 ∷ 2 ∷ 3 ∷ []
  pub none_set :
      modes_of false false
      ≡ answers None None None None ∷ answers (Some false) None (Some false) None
      ∷ answers None (Some 0) None (Some false) ∷ answers (Some false) None None None ∷ []
  pub fifth_set :
      modes_of false true
      ≡ answers None None None None ∷ answers (Some true) None (Some false) None
      ∷ answers None (Some 1) None (Some false) ∷ answers (Some true) None None None ∷ []
  pub sixth_set :
      modes_of true false
      ≡ answers None None None None ∷ answers (Some false) None (Some true) None
      ∷ answers None (Some 0) None (Some true) ∷ Err FieldOutside ∷ []
  pub both_set :
      modes_of true true
      ≡ answers None None None None ∷ answers (Some true) None (Some true) None
      ∷ answers None (Some 1) None (Some true) ∷ Err FieldOutside ∷ []
  pub fifth_lists :
      lines_of false true
      ≡ spelt "1 weight gross 1 + 000251 1 0 0\n" ∷ spelt "1 weight gross 1 + 000251 1 0 0 net\n"
      ∷ spelt "1 weight gross 1 + 000251 1 0 0 scale1\n" ∷ spelt "1 weight gross 1 + 000251 1 0 0 net\n" ∷ []
  pub none_lists :
      lines_of false false
      ≡ spelt "1 weight gross 1 + 000251 1 0 0\n" ∷ spelt "1 weight gross 1 + 000251 1 0 0 gross\n"
      ∷ spelt "1 weight gross 1 + 000251 1 0 0 scale0\n" ∷ spelt "1 weight gross 1 + 000251 1 0 0 gross\n" ∷ []
  -- and from the wire
  pub fifth_heard :
      listed_by_each fifth_on_line
      ≡ spelt "1 weight gross 1 + 000251 1 0 0\ntotal 1 weights 1 refused 0\n"
      ∷ spelt "1 weight gross 1 + 000251 1 0 0 net\ntotal 1 weights 1 refused 0\n"
      ∷ spelt "1 weight gross 1 + 000251 1 0 0 scale1\ntotal 1 weights 1 refused 0\n"
      ∷ spelt "1 weight gross 1 + 000251 1 0 0 net\ntotal 1 weights 1 refused 0\n" ∷ []
  -- the paper's listing: bit 5 is 0 in both weights
  pub listed :
      listing Of002 (events fresh paper_capture)
      ≡ spelt "1 weight gross 1 + 000251 1 0 0 gross\n2 weight net 1 - 000005 1 1 0 gross\n3 refused 4\ntotal 3 weights 2 refused 1\n"

-- E3 with bit 6 set, on a line: 002 refuses it by 8 wherever it is met, the others take it
pub record SixthShown : Type 0 where
  pub noted :
      map (λ (family : Family). records_heard (λ (number : ℕ). number) Reply family (events fresh sixth_on_line)) families
      ≡ (weighed 1 Gross 0x41 0 ∷ []) ∷ (weighed 1 Gross 0x41 1 ∷ []) ∷ (weighed 1 Gross 0x41 2 ∷ []) ∷ (met_on_line 1 8 ∷ []) ∷ []
  pub written : map written_by families ≡ Ok tt ∷ Ok tt ∷ Ok tt ∷ Err FieldOutside ∷ []
  pub listed :
      listed_by_each sixth_on_line
      ≡ spelt "1 weight gross 1 + 000251 1 0 0\ntotal 1 weights 1 refused 0\n"
      ∷ spelt "1 weight gross 1 + 000251 1 0 0 gross\ntotal 1 weights 1 refused 0\n"
      ∷ spelt "1 weight gross 1 + 000251 1 0 0 scale0\ntotal 1 weights 1 refused 0\n"
      ∷ spelt "1 refused 8\ntotal 1 weights 0 refused 1\n" ∷ []
