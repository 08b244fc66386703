-- For the frame writer's own steps; no public promise rests on this page.
use Rattle.std.specs.Prelude.{ℕ, ◌≡◌, List, Result, Ok}
use Rattle.room.specs.Laying.{over}
use Rattle.body.specs.declared.addresses.Address.{Address}
use Rattle.body.specs.Body.{body_of}
use Rattle.frame.specs.Writing.{judged_fields, needed_for}
use Rattle.refusal.specs.declared.Refusal.{Refusal}

-- a body made ready in some room of our own, together with the room its frame will need
pub record Prepared (address : Address) (code : ℕ) (data' empty : List ℕ) (answered : Result ℕ Refusal) (left : List ℕ) : Type 0 where
  pub answer : answered ≡ needed_for address code data'
  pub body : judged_fields address code data' (Ok tt) ≡ Ok tt → left ≡ over (body_of address code data') empty
