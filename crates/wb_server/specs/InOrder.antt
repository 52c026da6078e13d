-- Stations of a host that goes through one history.
use Rattle.std.specs.Prelude.{◌≡◌, List, [], length, slice_index_or}
use Rattle.wb_transport.specs.Lines.{Clock, ListenerEnd}
use Rattle.wb_base.specs.Ends.{KeeperEnd}
use Rattle.wb_tables.specs.Standing.{Standing}
use Rattle.wb_desk.specs.Hosted.{begun}
use Rattle.wb_desk.specs.declared.closing.Closed.{Closed}
use Rattle.wb_front.specs.declared.worker.Station.{Station}
use Rattle.wb_ticket.specs.OneHistory.{IsLastOf}
use Rattle.wb_ticket.specs.Owned.{Owned, TurnEntry, IsNextEntry}
use Rattle.wb_server.specs.Workers.{AtEach, IsServed}

-- the requests that came over the links of a station were attended at one seat: each that was a turn is the next entry of the seat's list, with
-- the reply that was told
pub record WasServedInOrder (mine : List TurnEntry) (listener listener' : ListenerEnd) (clock clock' : Clock) : Type 0 where
  pub seat : Owned
  pub seat' : Owned
  pub begins : seat.mine ≡ []
  pub ends : seat'.mine ≡ mine
  pub served : IsServed IsNextEntry listener listener' seat seat' clock clock'

-- so it was at each of the stations, by as many lists
abbrev pub AreServedInOrder : {Li T E : Type 0} → (Li → ListenerEnd) → (T → Clock) → List (Station Li T E) → List (Station Li T E) → List (List TurnEntry) → Type 0
AreServedInOrder end clock before now lists = (length lists ≡ length before) × AtEach end clock before now (λ i. WasServedInOrder (slice_index_or lists i []))

-- what is left of a host is the last of the one history of these lists, from the host that was given, by what the keeper has
abbrev pub IsLastClosed : {K : Type 0} → (K → KeeperEnd) → Standing → K → List (List TurnEntry) → Closed K → Type 0
IsLastClosed end desk keeper lists closed = IsLastOf (begun desk (end keeper).count) lists closed.desk closed.turns closed.numbers (end closed.keeper).count
