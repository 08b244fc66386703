-- Shown: a refusal's number names that refusal, so two refusals with one number are the same: the number alone tells which it was.
-- Why: the row with the number of a refusal is its own, case by case.
use Rattle.std.specs.Prelude.{Some}
use mathlib.Core.Path.{◌≡◌, ◌∙◌, refl, sym, ap}
use Rattle.refusal.specs.declared.Refusal.{Refusal}
use Rattle.refusal.specs.declared.Refusal.TheVariants.{BodyShort, BodyLong, HeldBroken, CheckWrong, AddressIllegal, CodeUnknown, LengthWrong, FieldOutside, RoomShort, LogLeftOver, RecordBroken, HeaderWrong, BytesMissing, ParcelCheckWrong, CountFull, Overloaded, LengthOutside, CheckRight, SumBeyond}
use Rattle.refusal.specs.Numbers.{number_of, named_in, named_of}

pub named_back : (refusal : Refusal) → named_of (number_of refusal) ≡ Some refusal
unfolding named_of named_in
named_back BodyShort = refl
named_back BodyLong = refl
named_back HeldBroken = refl
named_back CheckWrong = refl
named_back AddressIllegal = refl
named_back CodeUnknown = refl
named_back LengthWrong = refl
named_back FieldOutside = refl
named_back RoomShort = refl
named_back LogLeftOver = refl
named_back RecordBroken = refl
named_back HeaderWrong = refl
named_back BytesMissing = refl
named_back ParcelCheckWrong = refl
named_back CountFull = refl
named_back Overloaded = refl
named_back LengthOutside = refl
named_back CheckRight = refl
named_back SumBeyond = refl

pub distinct : (a b : Refusal) → number_of a ≡ number_of b → a ≡ b
distinct a b same = let named : Some a ≡ Some b = sym (named_back a) ∙ ap named_of same ∙ named_back b in cc
