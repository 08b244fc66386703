-- 01, "Log records": "Kind 1 is a gross reply, 2 a net reply". Nothing that was heard is lost: each reply C2 or C3 with good digits stands in the
-- log as its weighing and in the listing as its weight. (That no other does: Weighings. That refusals do: Noted.)
use Rattle.std.specs.Prelude.{ℕ, ◌+◌, ◌<◌, ◌≡◌, true, false, List, ◌∷◌, ◌++◌, length, Ok, Some}
use Rattle.body.specs.declared.addresses.Address.{Address}
use Rattle.body.specs.Addresses.{legal}
use Rattle.body.specs.Body.{body_of}
use Rattle.line.specs.Listener.{Heard, frame}
use Rattle.weight.specs.declared.families.Family.{Family}
use Rattle.weight.specs.declared.families.Family.TheVariants.{Of002}
use Rattle.weight.specs.declared.FourBytes.{FourBytes}
use Rattle.weight.specs.declared.Reading.{Reading}
use Rattle.weight.specs.Digits.{all_decimal}
use Rattle.weight.specs.Families.{family_number}
use Rattle.weight.specs.Status.{sixth, marked}
use Rattle.weight.specs.Bytes.{in_order, packed_of}
use Rattle.codes.specs.declared.table.Role.{Role}
use Rattle.codes.specs.declared.table.Role.TheVariants.{Reply}
use Rattle.codes.specs.declared.table.Load.{Load}
use Rattle.weighing_log.specs.Hearing.{weighing, noted_heard}
use Rattle.weighing_log.specs.Heard.{code_of}
use Rattle.entries.specs.declared.entries.Entry.TheVariants as entry_as
use Rattle.entries.specs.Entries.{entry_heard}
use Rattle.demands.specs.Weighings.{note_then, records_from, records_heard}

-- "C2 net, C3 gross", "W0 W1 W2 CON": a frame with a legal address, "good decimal" weight bytes, and a status byte, which is any byte
-- but for bit 6 on a line of 002; the four bytes are the line's
pub record WeightReply (family : Family) (address : Address) (four : FourBytes) : Type 0 where
  pub from : legal address ≡ true
  pub digits : all_decimal four.w0 four.w1 four.w2 ≡ true
  pub status : four.con < 256
  pub bit6 : family ≡ Of002 → marked sixth four.con ≡ false
  pub line : four.family ≡ family_number family

abbrev pub reply_frame : ℕ → ℕ → Address → Load → FourBytes → Heard
reply_frame wire kept address load four = frame wire kept (body_of address (code_of load) (in_order four))

-- in the listing it is a weight from its address, of the reading that packs to its four bytes
pub record ListedWeight (family : Family) (heard : Heard) (address : Address) (load : Load) (four : FourBytes) : Type 0 where
  pub reading : Reading
  pub packed : packed_of reading ≡ Ok four
  pub listed : entry_heard family heard ≡ Some (entry_as.Weight load address reading)

pub record KeptWeight (family : Family) (heard : Heard) (address : Address) (load : Load) (four : FourBytes) : Type 0 where
  pub noted : (time : ℕ) → noted_heard time Reply family heard ≡ Ok (Some (weighing time address load four))
  pub listed : ListedWeight family heard address load four

abbrev pub WeightsKept : Type 0
WeightsKept =
    (family : Family) (wire kept : ℕ) (address : Address) (load : Load) (four : FourBytes) → WeightReply family address four
    → KeptWeight family (reply_frame wire kept address load four) address load four

-- ---- all that a line gives

-- the log is what each event makes, in the order of the events, each at the time of its own number: none is left out, none is noted twice
abbrev pub LogInOrder : Type 0
LogInOrder =
    (time : ℕ → ℕ) (role : Role) (family : Family) (before : List Heard) (one : Heard) (later : List Heard)
    → records_heard time role family (before ++ (one ∷ later))
    ≡ records_heard time role family before ++ note_then (noted_heard (time (length before + 1)) role family one) (records_from time role family (length before + 2) later)
