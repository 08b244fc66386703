-- 02, request 4: "A reading now carries its terminal family: 000 (bit 6 key code entered, bit 5 net mode), 001 (bit 6 event, bit 5 current scale
-- number), 002 (bit 6 reserved and must be 0, bit 5 net mode)." "Log records use byte 17 for the family, 1 to 3 for 000 to 002; 0 is an old record
-- whose bits stay plain."
use Rattle.std.specs.Prelude.{ℕ, Bool, true, cond, not, List, [], ◌∷◌, eqb, Option, Some, None}
use Rattle.weight.specs.declared.families.Family.{Family}
use Rattle.weight.specs.declared.families.Family.TheVariants.{Plain, Of000, Of001, Of002}

-- what a bit of the status byte is called
pub data Called : Type 0 where
  plain_bit key_code net_mode event scale_number reserved : Called

-- the terminals of a family: the number of the family, and what bits 6 and 5 are called
pub record Terminal : Type 0 where
  pub number : ℕ
  pub sixth : Called
  pub fifth : Called

-- the one table of families
abbrev pub terminal : Family → Terminal
terminal Plain = record { number = 0; sixth = plain_bit; fifth = plain_bit }
terminal Of000 = record { number = 1; sixth = key_code; fifth = net_mode }
terminal Of001 = record { number = 2; sixth = event; fifth = scale_number }
terminal Of002 = record { number = 3; sixth = reserved; fifth = net_mode }

abbrev pub family_number : Family → ℕ
family_number family = (terminal family).number

-- the families in the order of their numbers, from 0
abbrev pub families : List Family
families = Plain ∷ Of000 ∷ Of001 ∷ Of002 ∷ []

-- the family with a number
unfoldable pub named_in : List Family → ℕ → Option Family
named_in [] number = None
named_in (family ∷ more) number = cond (eqb number (family_number family)) (Some family) (named_in more number)

unfoldable pub family_named : ℕ → Option Family
family_named number = named_in families number

-- "reserved and must be 0"; any other bit may be set
abbrev pub allowed : Called → Bool → Bool
allowed plain_bit set = true
allowed key_code set = true
allowed net_mode set = true
allowed event set = true
allowed scale_number set = true
allowed reserved set = not set
