-- Shown: a walk starts at rest: its start stands for itself whatever is lent, a byte that starts no body leads to the start behind it, and one that
-- starts a body is kept as in a body that is open.
-- Why: no body is open, so that no kept byte is looked at, and at rest only the byte before tells the state.
use Prim.Native.Nat.{ℕ, zero, suc, ◌+◌, ◌-◌, ◌%◌, ◌^◌, ◌<◌}
use mathlib.Core.Path.{◌≡◌, ◌∙◌, refl, sym, ap}
use mathlib.Core.Bool.{Bool, true, false, cond}
use mathlib.Core.List.{List, [], ◌∷◌}
use native.Mathlib.Omega.{arith}
use lib.Dec.{eqb}
use lib.ListN.{get_or}
use Rattle.line.specs.declared.places.Place.{Place}
use Rattle.line.specs.declared.places.Phase.TheVariants.{Delimited, Inside}
use Rattle.line.specs.Listener.{nothing, State, seeking, delimited, inside, Listener, step, keep, tick, hear_in, hear}
use Rattle.line.specs.Readers.{listening, kept_of, place_of}
use Rattle.capture_walker.specs.Walking.{state_behind, start_at}
use Rattle.capture_walker.specs.Scanning.{delimited_at, starts_body}

-- ---- the start at a place

-- what a walk starts as: one account of place 0 and of any other
abbrev starting : List ℕ → ℕ → Listener
starting block place = record { state = cond (delimited_at block place) delimited seeking; wire = place % 2 ^ 64 }

start_is : (block : List ℕ) (place : ℕ) → start_at block place ≡ starting block place
unfolding start_at
start_is block zero = refl
start_is block (suc before) = refl

-- behind some bytes, by the byte before
pub start_behind : (block : List ℕ) (place : ℕ) → 0 < place
    → start_at block place ≡ record { state = state_behind (get_or block (place - 1) 0); wire = place % 2 ^ 64 }
unfolding start_at
start_behind block zero some = absurd (omega arith)
start_behind block (suc before) some =
    let one_less : suc before - 1 ≡ before = omega arith in
    rw one_less

-- a listener with no body open is read back from its place, whatever stands in the array
rests : (test : Bool) (wire : ℕ) (lent : List ℕ)
    → ◌≡◌ {A = Listener} (listening (place_of (record { state = cond test delimited seeking; wire = wire })) lent) (record { state = cond test delimited seeking; wire = wire })
unfolding listening
rests true wire lent = refl
rests false wire lent = refl

pub at_start : (block : List ℕ) (place : ℕ) (lent : List ℕ) → listening (place_of (start_at block place)) lent ≡ start_at block place
at_start block place lent = rw (start_is block place) (rests (delimited_at block place) (place % 2 ^ 64) lent)

-- and keeps nothing
rests_empty : (test : Bool) → kept_of (cond test delimited seeking) ≡ []
rests_empty true = refl
rests_empty false = refl

pub none_kept : (block : List ℕ) (place : ℕ) → kept_of (start_at block place).state ≡ []
none_kept block place = rw (start_is block place) (rests_empty (delimited_at block place))

-- behind a delimiter: the state, and the place
pub delimited_there : (block : List ℕ) (place : ℕ) → delimited_at block place ≡ true → (start_at block place).state ≡ delimited
delimited_there block place ff = rw (start_is block place, ff)

pub place_behind_ff : (block : List ℕ) (place : ℕ) → place < 2 ^ 64 → delimited_at block place ≡ true
    → ◌≡◌ {A = Place} (record { phase = Delimited; wire = record { 0 = place }; kept = record { 0 = 0 } }) (place_of (start_at block place))
place_behind_ff block place fits ff =
    let counted : place % 2 ^ 64 ≡ place = omega arith in
    rw (start_is block place, ff, counted)

-- ---- one byte at rest

-- where a body starts, a delimiter stands ahead
pub behind_delimiter : (test : Bool) (byte : ℕ) → starts_body test byte ≡ true → test ≡ true
behind_delimiter true byte starts = refl
behind_delimiter false byte starts = starts

-- it starts no body: the state is then what the byte says, and nothing is heard
abbrev Moves : Bool → ℕ → ℕ → Type 0
Moves test byte wire = hear_in (cond test delimited seeking) byte wire ≡ step (state_behind byte) wire nothing

from_seeking : (byte wire : ℕ) (ff : Bool) → eqb byte 0xFF ≡ ff → Moves false byte wire
unfolding hear_in
from_seeking byte wire true e = rw e
from_seeking byte wire false e = rw e

from_delimited : (byte wire : ℕ) (ff fe : Bool) → eqb byte 0xFF ≡ ff → eqb byte 0xFE ≡ fe → starts_body true byte ≡ false → Moves true byte wire
unfolding hear_in
from_delimited byte wire true fe e f none = rw e
from_delimited byte wire false true e f none = rw (e, f)
from_delimited byte wire false false e f none =
    let starts : true ≡ false = rw (e, f) at none in
    let z : ◌≡◌ {A = ℕ} 0 1 = cc in absurd (omega arith)

moves : (test : Bool) (byte wire : ℕ) → starts_body test byte ≡ false → Moves test byte wire
moves false byte wire none = from_seeking byte wire (eqb byte 0xFF) refl
moves true byte wire none = from_delimited byte wire (eqb byte 0xFF) (eqb byte 0xFE) refl refl none

started_byte : (block : List ℕ) (place : ℕ) → starts_body (delimited_at block place) (get_or block place 0) ≡ false
    → hear (starting block place) (get_or block place 0) ≡ record { next = start_at block (suc place); event = nothing }
unfolding hear tick start_at
started_byte block place none =
    let byte = get_or block place 0 in
    let counted : (place % 2 ^ 64 + 1) % 2 ^ 64 ≡ suc place % 2 ^ 64 = omega arith in
    moves (delimited_at block place) byte ((place % 2 ^ 64 + 1) % 2 ^ 64) none ∙ ap (λ (wire : ℕ). step (state_behind byte) wire nothing) counted

pub at_rest_byte : (block : List ℕ) (place : ℕ) → starts_body (delimited_at block place) (get_or block place 0) ≡ false
    → hear (start_at block place) (get_or block place 0) ≡ record { next = start_at block (suc place); event = nothing }
at_rest_byte block place none = ap (λ (l : Listener). hear l (get_or block place 0)) (start_is block place) ∙ started_byte block place none

-- ---- a body's first byte

-- behind a delimiter and in an open body of which nothing is kept, it is kept alike
FirstKept : State → ℕ → ℕ → Type 0
FirstKept state byte wire = hear_in state byte wire ≡ step (inside (byte ∷ [])) wire nothing

first_in : (byte wire : ℕ) (ff fe : Bool) → eqb byte 0xFF ≡ ff → eqb byte 0xFE ≡ fe → starts_body true byte ≡ true → FirstKept delimited byte wire × FirstKept (inside []) byte wire
unfolding hear_in keep FirstKept
first_in byte wire true fe e f starts =
    let no : false ≡ true = rw e at starts in
    let z : ◌≡◌ {A = ℕ} 0 1 = cc in absurd (omega arith)
first_in byte wire false true e f starts =
    let no : false ≡ true = rw (e, f) at starts in
    let z : ◌≡◌ {A = ℕ} 0 1 = cc in absurd (omega arith)
first_in byte wire false false e f starts = (rw (e, f), rw e)

-- so a walk may begin there
pub first_byte : (block : List ℕ) (start : ℕ) (lent : List ℕ) → start < 2 ^ 64 → starts_body (delimited_at block start) (get_or block start 0) ≡ true
    → hear (listening (record { phase = Inside; wire = record { 0 = start }; kept = record { 0 = 0 } }) lent) (get_or block start 0) ≡ hear (start_at block start) (get_or block start 0)
unfolding listening hear tick FirstKept
first_byte block start lent fits starts =
    let byte = get_or block start 0 in
    let ff = behind_delimiter (delimited_at block start) byte starts in
    let counted : start % 2 ^ 64 ≡ start = omega arith in
    let alike = first_in byte ((start + 1) % 2 ^ 64) (eqb byte 0xFF) (eqb byte 0xFE) refl refl (rw ff at starts) in
    rw (start_is block start, ff, counted) (alike.1 ∙ sym alike.0)
