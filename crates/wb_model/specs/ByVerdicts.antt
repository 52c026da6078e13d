-- Pasts that verdicts make: each accepted command of them was in its ranges, and was accepted there.
use Rattle.std.specs.Prelude.{◌≡◌, ℕ, true, List, [], ◌∷◌}
use Rattle.wb_model.specs.declared.event.Event.{Event}
use Rattle.wb_model.specs.declared.event.What.{What}
use Rattle.wb_model.specs.declared.event.What.TheVariants.{Did}
use Rattle.wb_model.specs.Commands.{fits_command}
use Rattle.wb_model.specs.Readings.{Reading, Asks, Refuses}
use Rattle.wb_model.specs.Past.{Past, Opening, Turn}
use Rattle.wb_model.specs.PastTurns.{what_at}
use Rattle.wb_model.specs.Opened.{Opened}
use Rattle.wb_model.specs.Scripts.{Place}

-- after this past of tenant t the event was that: a command was accepted, and the rest stands anywhere
abbrev pub IsByVerdict : ℕ → Past Opened → Event → What → Type 0
IsByVerdict t past e (Did asked by) = (fits_command asked.command ≡ true) × (what_at t past (record { moment = e.moment; words = e.words; asked = asked }) ≡ Did asked by)
IsByVerdict t past e _ = Unit {0}

-- all events were
abbrev pub AreByVerdicts : ℕ → Past Opened → Type 0
AreByVerdicts t (Opening o) = Unit {0}
AreByVerdicts t (Turn e past) = IsByVerdict t past e e.what × AreByVerdicts t past

-- what a place asks is in its ranges
abbrev pub AsksInRange : Reading → Type 0
AsksInRange (Asks asked) = fits_command asked.command ≡ true
AsksInRange (Refuses fault close) = Unit {0}

abbrev pub AskInRange : List Place → Type 0
AskInRange [] = Unit {0}
AskInRange (p ∷ ps) = AsksInRange p.reading × AskInRange ps
