-- Shown: each promise of this crate admits one answer, and one body in the lent bytes.
-- Why: each is an equation with a definition, the answer and the lent bytes.
use Rattle.std.specs.Prelude.{Result}
use mathlib.Core.Path.{◌≡◌}
use Prim.Native.Nat.{ℕ}
use mathlib.Core.List.{List}
use Rattle.laws.proofs.OneAnswer.{one}
use Rattle.refusal.specs.declared.Refusal.{Refusal}
use Rattle.line.specs.declared.listening.Went.{Went}
use Rattle.line.specs.declared.places.Place.{Place}
use Rattle.quay_line.specs.declared.places.QuayPlace.{QuayPlace}
use Rattle.quay_line.specs.declared.listening.QuayWent.{QuayWent}
use Rattle.quay_line.specs.Listening.{went_out, Listened}
use Rattle.quay_line.specs.Places.{place_out, place_given}

pub quay_listen_one : (place : QuayPlace) (block before : List ℕ) (a b : QuayWent) (l m : List ℕ)
    → Listened place block before a l → Listened place block before b m → (a ≡ b) × (l ≡ m)
quay_listen_one place block before a b l m p q = (one p.answer q.answer, one p.body q.body)

-- of the conversions

pub went_out_one : (went : Went) (a b : QuayWent) → a ≡ went_out went → b ≡ went_out went → a ≡ b
went_out_one went a b = one

pub place_out_one : (place : Place) (a b : QuayPlace) → a ≡ place_out place → b ≡ place_out place → a ≡ b
place_out_one place a b = one

pub place_given_one : (place : QuayPlace) (a b : Result Place Refusal) → a ≡ place_given place → b ≡ place_given place → a ≡ b
place_given_one place a b = one
