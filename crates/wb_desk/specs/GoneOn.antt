-- How a host has gone on since it was opened.
use Rattle.std.specs.Prelude.{◌≡◌, ℕ, List, length}
use Rattle.wb_model.specs.ByVerdicts.{AskInRange}
use Rattle.wb_model.specs.Past.{Past}
use Rattle.wb_model.specs.Pasts.{AllOpened}
use Rattle.wb_model.specs.Scripts.{Place, ArePossible, past_after}
use Rattle.wb_model.specs.Tenants.{Hosts}
use Rattle.wb_tables.specs.Standing.{Standing, hosts_of}
use Rattle.wb_desk.specs.Turns.{StandsFor}

-- hosts stand for a past after so many places of a script: what each asks is in its ranges, and where a turn was lost it may have been
pub record HasGoneOn (start : Past AllOpened) (turns : ℕ) (h : Hosts) : Type 0 where
  pub places : List Place
  pub as_many : length places ≡ turns
  pub in_range : AskInRange places
  pub possible : ArePossible start places
  pub stands : StandsFor h (past_after start places)

-- a desk has gone on by so many turns from each past for which the desk that was opened stood
abbrev pub IsLater : Standing → ℕ → Standing → Type 0
IsLater opened turns d = (start : Past AllOpened) → StandsFor (hosts_of opened) start → HasGoneOn start turns (hosts_of d)
