-- What the bytes of a request are read as: what it asks, or the first of its faults.
use Rattle.std.specs.Prelude.{ℕ, ◌≡◌, ◌==◌, ◌||◌, ◌⊎◌, Bool, true, false, if◌then◌else◌, List, length, Option, Some, None, Result, Ok, Err, option_and_then, unwrap_or, ok_or}
use Rattle.httparse.specs.Grammar.{RequestHead}
use Rattle.serde_json.specs.Data.{Data}
use Rattle.wb_base.specs.declared.callers.Presented.{Presented}
use Rattle.wb_model.specs.declared.command.Asked.{Asked}
use Rattle.wb_model.specs.declared.command.Command.{Command}
use Rattle.wb_model.specs.declared.route.Route.{Route}
use Rattle.wb_model.specs.declared.wire.WireFault.{WireFault}
use Rattle.wb_model.specs.declared.wire.WireFault.TheVariants as faults
use Rattle.wb_model.specs.Heads.{Fields, fields_of, path, declared_length, session, closes_by, closes, BeginsWithHead, HasNoHead}
use Rattle.wb_model.specs.Routes.{Method, Path, number_of_path, path_at, segments, are_numbers, number_under, route}
use Rattle.wb_model.specs.Bodies.{json}
use Rattle.wb_model.specs.RouteBodies.{Numbers, bare, shaped}

-- what is asked, or the fault, with whether the connection closes after it
pub data Reading : Type 0 where
  Asks : Asked → Reading
  Refuses : WireFault → Bool → Reading

-- what comes next, where there is no fault
abbrev pub and_then : {X Y : Type 0} → (X → Result Y WireFault) → Result X WireFault → Result Y WireFault
and_then next (Ok x) = next x
and_then next (Err fault) = Err fault

-- ---- the length (RFC 9112, section 6)

-- the length that is said, which is that of what follows the head; where none is said, nothing follows
abbrev pub sized_by : List ℕ → Option ℕ → Result (Option ℕ) WireFault
sized_by rest said = if length rest == unwrap_or said 0 then Ok said else Err faults.BadLength

abbrev pub sized : Fields → List ℕ → Result (Option ℕ) WireFault
sized fields rest = and_then (sized_by rest) (declared_length fields)

-- ---- the path and the method

-- a path of the table: its number, its methods, and the numbers that stand in it
pub record Located : Type 0 where
  pub number : ℕ
  pub methods : List Method
  pub at : Numbers

-- the path is this row's, where each of its numbers is one
abbrev pub located_by : List ℕ → ℕ → Path → Option Located
located_by text number p = if are_numbers (segments p.pattern) (segments text) then Some (record { number = number; methods = p.methods; at = number_under (segments p.pattern) (segments text) }) else None

abbrev pub located : List ℕ → Option Located
located text = option_and_then (λ number. option_and_then (located_by text number) (path_at number)) (number_of_path text)

abbrev pub located_or_fault : List ℕ → Result Located WireFault
located_or_fault text = ok_or (located text) faults.NoRoute

abbrev pub routed : List ℕ → Located → Result Route WireFault
routed method place = ok_or (route method place.methods) (faults.NoMethod place.number)

-- ---- the body

-- the value of a body, which needs a length
abbrev pub body_by : List ℕ → Option ℕ → Result Data WireFault
body_by rest None = Err faults.NoLength
body_by rest (Some said) = ok_or (json rest) faults.BadJson

-- a route without a body needs none
abbrev pub command_by : Route → Numbers → List ℕ → Option ℕ → Option Command → Result Command WireFault
command_by route at rest said (Some command) = Ok command
command_by route at rest said None = and_then (λ d. ok_or (shaped route at d) faults.BadShape) (body_by rest said)

abbrev pub command : Numbers → List ℕ → Option ℕ → Route → Result Command WireFault
command at rest said route = command_by route at rest said (bare route at)

-- ---- the reading

-- what a method on a path asks with these fields and what follows the head, or the first fault
abbrev pub asks : List ℕ → List ℕ → Fields → List ℕ → Result Command WireFault
asks method text fields rest =
    and_then (λ said. and_then (λ place. and_then (command place.at rest said) (routed method place)) (located_or_fault text)) (sized fields rest)

-- the connection closes after these faults whatever the head asks for
abbrev pub closes_always : WireFault → Bool
closes_always faults.BadHead = true
closes_always faults.BadLength = true
closes_always faults.NoLength = true
closes_always faults.TooLarge = true
closes_always faults.NoRoute = false
closes_always (faults.NoMethod path) = false
closes_always faults.BadJson = false
closes_always faults.BadShape = false
closes_always faults.Memory = false

abbrev pub reading_by : Presented → Bool → Result Command WireFault → Reading
reading_by session close (Ok command) = Asks (record { command = command; session = session; close = close })
reading_by session close (Err fault) = Refuses fault (close || closes_always fault)

-- of a method, a path, a version, fields and what follows the head
abbrev pub reading_by_parts : List ℕ → List ℕ → ℕ → Fields → List ℕ → Reading
reading_by_parts method text minor fields rest = reading_by (session fields) (closes_by minor fields) (asks method text fields rest)

-- of a head and what follows it
abbrev pub reading_of : RequestHead → List ℕ → Reading
reading_of h rest = reading_by_parts h.method (path h) h.minor (fields_of h) rest

-- the bytes are read as this
abbrev pub Reads : List ℕ → Reading → Type 0
Reads bytes reading =
    ((h : RequestHead) × (rest : List ℕ) × BeginsWithHead bytes h rest × (reading ≡ reading_of h rest))
    ⊎ (HasNoHead bytes × (reading ≡ Refuses faults.BadHead true))

-- the connection's closing that the bytes' head asks for
abbrev pub Closes : List ℕ → Bool → Type 0
Closes bytes close = (h : RequestHead) × (rest : List ℕ) × BeginsWithHead bytes h rest × (close ≡ closes h)
