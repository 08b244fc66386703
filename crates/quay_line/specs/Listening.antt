-- A block fed from another language: what `line` gives a place and a lent room of 255 bytes. 8 if the phase does not exist; then nothing is taken.
use Rattle.std.specs.Prelude.{ℕ, ◌≡◌, cond, List, ltb, None}
use Rattle.refusal.specs.declared.Refusal.TheVariants.{FieldOutside}
use Rattle.refusal.specs.Numbers.{number_of}
use Rattle.line.specs.declared.listening.Went.{Went}
use Rattle.line.specs.Readers.{fed_lent, went_of}
use Rattle.quay_line.specs.declared.places.QuayPlace.{QuayPlace}
use Rattle.quay_line.specs.declared.listening.QuayWent.{QuayWent}
use Rattle.quay_line.specs.Places.{place_out, place_from, event_out}

abbrev pub went_out : Went → QuayWent
went_out went = record { place = place_out went.place; event = event_out went.event; used = went.used; refusal = 0 }

abbrev pub refused_place : QuayPlace → QuayWent
refused_place place = record { place = place; event = event_out None; used = 0; refusal = number_of FieldOutside }

-- a promise: the whole answer, and every lent byte
pub record Listened (place : QuayPlace) (block before : List ℕ) (answered : QuayWent) (left : List ℕ) : Type 0 where
  pub answer : answered ≡ cond (ltb 3 place.phase) (refused_place place) (went_out (went_of (fed_lent (place_from place) block before)))
  pub body : left ≡ cond (ltb 3 place.phase) before (fed_lent (place_from place) block before).reader.body
