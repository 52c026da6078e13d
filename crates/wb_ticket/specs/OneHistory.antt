-- One history of a host.
use Rattle.std.specs.Prelude.{◌≡◌, ℕ, List}
use Rattle.wb_model.specs.Past.{Past}
use Rattle.wb_model.specs.Pasts.{AllOpened}
use Rattle.wb_tables.specs.Standing.{Standing, hosts_of}
use Rattle.wb_desk.specs.Turns.{StandsFor}
use Rattle.wb_desk.specs.Hosted.{Hosted}
use Rattle.wb_ticket_lock.specs.Histories.{IsSplitInto, Leads}
use Rattle.wb_ticket.specs.Owned.{TurnEntry, IsTurnOf}
use Rattle.wb_ticket.specs.Scripts.{IsScript}

-- a host went from one state to another through these turns: each is of the state that the one before it left, each is in one of these
-- lists, and they are one script over each past for which the host stood at first
pub record WentThrough (first : Hosted) (entries : List TurnEntry) (lists : List (List TurnEntry)) (last : Hosted) : Type 0 where
  pub leads : Leads IsTurnOf 0 first entries last
  pub split : IsSplitInto entries lists
  pub script : (start : Past AllOpened) → StandsFor (hosts_of first.desk) start → IsScript start first entries last

-- a host that is taken apart, with its desk, its books and what its keeper counts then, is the last state of one history, which began at the first
-- and is split into these lists
pub record IsLastOf (first : Hosted) (lists : List (List TurnEntry)) (desk : Standing) (turns numbers faults : ℕ) : Type 0 where
  pub entries : List TurnEntry
  pub last : Hosted
  pub went : WentThrough first entries lists last
  pub desk_is : desk ≡ last.desk
  pub turns_are : turns ≡ last.turns
  pub numbers_are : numbers ≡ last.numbers
  pub faults_are : faults ≡ last.faults
