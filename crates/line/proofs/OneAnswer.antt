-- Shown: each promise of this crate admits one answer, kept bytes that are no longer current included.
-- Why: each has an equation of the whole answer with a definition.
use Rattle.std.proofs.Common.{◌≡◌, ℕ, List}
use Rattle.laws.proofs.OneAnswer.{one}
use Rattle.line.specs.declared.places.Place.{Place}
use Rattle.line.specs.declared.listening.Went.{Went}
use Rattle.line.specs.declared.reading.Reader.{Reader}
use Rattle.line.specs.declared.reading.Taken.{Taken}
use Rattle.line.specs.declared.reading.Fed.{Fed}
use Rattle.line.specs.Readers.{Takes, Feeds, Listens, fresh_reader}

pub new_one : (a b : Reader) → a ≡ fresh_reader → b ≡ fresh_reader → a ≡ b
new_one a b = one

pub take_one : (reader : Reader) (byte : ℕ) (a b : Taken) → Takes reader byte a → Takes reader byte b → a ≡ b
take_one reader byte a b p q = one p.answer q.answer

pub feed_one : (reader : Reader) (block : List ℕ) (a b : Fed) → Feeds reader block a → Feeds reader block b → a ≡ b
feed_one reader block a b p q = one p.answer q.answer

pub listen_one : (place : Place) (block before : List ℕ) (a b : Went) (l m : List ℕ) → Listens place block before a l → Listens place block before b m → (a ≡ b) × (l ≡ m)
listen_one place block before a b l m p q = (one p.answer q.answer, one p.body q.body)
