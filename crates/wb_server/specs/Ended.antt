-- What is left of a host whose stations ended.
use Rattle.std.specs.Prelude.{◌≡◌, ◌+◌, List, true, false}
use Rattle.wb_base.specs.Ends.{KeeperEnd}
use Rattle.wb_model.specs.Drawn.{numbers_of}
use Rattle.wb_model.specs.Rows.{rows_of}
use Rattle.wb_tables.specs.Standing.{Standing, hosts_of}
use Rattle.wb_desk.specs.GoneOn.{IsLater}
use Rattle.wb_desk.specs.Hosted.{Hand, turns_of, numbers_drawn}
use Rattle.wb_desk.specs.declared.closing.Closed.{Closed}
use Rattle.wb_transport.specs.Lines.{Clock, ListenerEnd}
use Rattle.wb_front.specs.declared.worker.Station.{Station}
use Rattle.wb_cli.specs.declared.plans.Lock.{Lock}
use Rattle.wb_cli.specs.declared.plans.Lock.TheVariants.{Mutex, Ticket}
use Rattle.wb_ticket.specs.Owned.{TurnEntry}
use Rattle.wb_server.specs.InOrder.{AreServedInOrder, IsLastClosed}
use Rattle.wb_server.specs.Workers.{AllHaveNone, OneFailed, AreServed}
use Rattle.wb_server.specs.declared.stations.ServeEnd.{ServeEnd}

-- by the one lock, or by the other
abbrev pub ByLock : Lock → Type 0 → Type 0 → Type 0
ByLock Mutex mutex ticket = mutex
ByLock Ticket mutex ticket = ticket

-- by what a keeper, a listener and a ticker have: of stations before and now, and of a host that was given with this desk and this keeper
module _ {K Li T E : Type 0} (keeping : K → KeeperEnd) (end : Li → ListenerEnd) (clock : T → Clock) (before now : List (Station Li T E)) (desk : Standing) (keeper : K) where
  -- the passes, one a station, took part in all turns of the host
  abbrev pub ServedByPasses : Closed K → Type 0
  ServedByPasses closed = (passes : List Hand) × (turns_of passes ≡ closed.turns) × (numbers_drawn passes ≡ closed.numbers) × AreServed end clock before now desk passes

  -- from the host there is one history, and what is left is its last state. It is split into lists, one a station: what came over the links of
  -- the station and was a turn is an entry of its list, in order
  abbrev pub ServedByLists : Closed K → Type 0
  ServedByLists closed = (lists : List (List TurnEntry)) × IsLastClosed keeping desk keeper lists closed × AreServedInOrder end clock before now lists

  -- so it was by this lock
  abbrev pub ServedBy : Lock → Closed K → Type 0
  ServedBy lock closed = ByLock lock (ServedByPasses closed) (ServedByLists closed)

  -- and by either lock
  pub record HasServed (ended : ServeEnd K) : Type 0 where
    -- the host has gone on by the turns and the numbers of its books
    pub later : IsLater desk ended.closed.turns ended.closed.desk
    pub turns : ended.closed.desk.turns ≡ desk.turns + ended.closed.turns
    pub numbers : numbers_of (hosts_of ended.closed.desk) ≡ numbers_of (hosts_of desk) + ended.closed.numbers
    -- all stations ended since no link came any more, or a listener failed often
    pub left : ended.all ≡ true → AllHaveNone end now
    pub failed : ended.all ≡ false → OneFailed end before now
    -- an honest keeper was honest before, and holds the host's rows
    pub kept : (keeping ended.closed.keeper).honest → (keeping ended.closed.keeper).holds (rows_of (hosts_of ended.closed.desk).list)
    pub honest : (keeping ended.closed.keeper).honest → (keeping keeper).honest
