-- How a host that was to serve began and ended, by the status of the call.
use Rattle.std.specs.Prelude.{ℕ, ◌≡◌, ◌≤◌, ◌<◌, ◌⊎◌, List, Option, IfSome, Ok, length, Some}
use Rattle.std.specs.Io.KnownBytes.{Consumes, IsAtEnd, Keeps}
use Rattle.wb_base.specs.declared.rows.Row.{Row}
use Rattle.wb_base.specs.Outside.{Rose, NoFault}
use Rattle.wb_model.specs.Past.{Past}
use Rattle.wb_model.specs.Pasts.{AllOpened}
use Rattle.wb_model.specs.Rows.{rows}
use Rattle.wb_model.specs.Scripts.{past_after}
use Rattle.wb_model.specs.Tenants.{Hosts}
use Rattle.wb_tables.specs.Standing.{Standing, hosts_of}
use Rattle.wb_rows.specs.Loaded.{AreLoaded}
use Rattle.wb_desk.specs.Turns.{StandsFor}
use Rattle.wb_desk.specs.GoneOn.{HasGoneOn}
use Rattle.wb_desk.specs.Hosted.{Hand, Hosted, turns_of, begun}
use Rattle.wb_front.specs.declared.worker.Station.{Station}
use Rattle.wb_cli.specs.declared.plans.Lock.{Lock}
use Rattle.wb_cli.specs.declared.plans.Plan.TheVariants.{Serve}
use Rattle.wb_cli.specs.CommandLine.{Asks}
use Rattle.wb_rows.specs.Judged.{judged}
use Rattle.wb_rows.specs.Left.{left as left_by}
use Rattle.wb_ticket_lock.specs.Histories.{IsSplitInto}
use Rattle.wb_ticket.specs.Owned.{TurnEntry}
use Rattle.wb_ticket.specs.Scripts.{IsScript}
use Rattle.wb_promise.specs.Promises.{IsAsPromised}
use Rattle.wb_cli.specs.declared.status.Status.{Status}
use Rattle.wb_cli.specs.declared.status.Status.TheVariants.{Done, ReadFault, NoMemory, BadFrame, ListenFault, OpenFault}
use Rattle.wb_desk.specs.Openings.{IsOpenedBy}
use Rattle.wb_server.specs.Opens.{Refuses}
use Rattle.wb_rows.specs.Loaded.{KeepsRows}
use Rattle.wb_base.specs.Ends.{SourceEnd, KeeperEnd}
use Rattle.wb_model.specs.declared.registry.Lists.{Lists}
use Rattle.wb_setup.specs.Setups.{setup as lists_in}
use Rattle.wb_rows.specs.Held.{Held}
use Rattle.wb_transport.specs.Lines.{Clock, ListenerEnd}
use Rattle.wb_server.specs.Ended.{ByLock}
use Rattle.wb_server.specs.InOrder.{AreServedInOrder}
use Rattle.wb_server.specs.Workers.{AreServed}

-- the words ask for a host that serves by this lock
abbrev pub AsksLock : List (List ℕ) → Lock → Type 0
AsksLock words lock = (setup : List ℕ) × (listen : List ℕ) × (workers : ℕ) × (store : Option (List ℕ)) × Asks words (Serve setup listen workers lock store)

-- the words ask for a host that serves
abbrev pub IsServeForm : List (List ℕ) → Type 0
IsServeForm words = (lock : Lock) × AsksLock words lock

-- the greatest size of a setup's text, in bytes
abbrev pub setup_limit : ℕ
setup_limit = 1_048_576

-- all that the source had left is this text, and it is within the limit
pub record IsText (source source' : SourceEnd) (text : List ℕ) : Type 0 where
  pub taken : Consumes source.left source'.left text
  pub ends : IsAtEnd source'.left
  pub short : length text ≤ setup_limit

-- a text over the limit
abbrev pub IsTooLong : List ℕ → Type 0
IsTooLong text = setup_limit < length text

-- the host served until each of its stations ended
abbrev pub HasEndedServing : Status → Type 0
HasEndedServing status = (status ≡ Done) ⊎ (status ≡ ListenFault)

-- ---- with the ends of the setup's source and of the keeper before and now

-- nothing was read
abbrev pub IsUntouched : SourceEnd → SourceEnd → Type 0
IsUntouched source source' = Keeps source.left source'.left × (source'.count ≡ source.count)

-- why the text was not read
abbrev pub Unread : SourceEnd → SourceEnd → Status → Type 0
Unread source source' ReadFault = Rose source.count source'.count
Unread source source' NoMemory = source.count ≤ source'.count
Unread source source' (BadFrame n) = (n ≡ 0) × IfSome source.left IsTooLong
Unread source source' status = ⊥

module _ (source source' : SourceEnd) (keeper keeper' : KeeperEnd) where
  -- no host was opened: the text was not read, or it opens none; and what is kept is as it was
  pub record ServesNone (status : Status) : Type 0 where
    pub cause : (Unread source source' status × (keeper'.count ≡ keeper.count)) ⊎ ((text : List ℕ) × IsText source source' text × Refuses keeper keeper' text status)
    pub rows_as_they_were : KeepsRows keeper keeper'

-- the text opened a host with this desk over rows that the keeper held, where it was honest
pub record OpensOne (source source' : SourceEnd) (keeper keeper' : KeeperEnd) (desk : Standing) : Type 0 where
  pub text : List ℕ
  pub is_text : IsText source source' text
  pub loaded : List Row
  pub were_held : AreLoaded keeper keeper' loaded
  pub start : Past AllOpened
  pub opened : IsOpenedBy loaded text start
  pub stands : StandsFor (hosts_of desk) start

-- by a mutex that host served: by its desk and its passes, what was attended; and it has gone on by as many turns as the passes took part in
pub record ServesIt (source source' : SourceEnd) (keeper keeper' : KeeperEnd) (Attended : Standing → List Hand → Type 0) : Type 0 where
  pub desk : Standing
  pub opens : OpensOne source source' keeper keeper' desk
  pub passes : List Hand
  pub attended : Attended desk passes
  pub hosts : Hosts
  pub gone_on : HasGoneOn opens.start (turns_of passes) hosts
  -- where the keeper is honest it holds the rows of the past that was reached, which are read as what that holds
  pub kept : keeper'.honest → keeper'.holds (rows (past_after opens.start gone_on.places))
  pub read_back : judged (rows (past_after opens.start gone_on.places)) ≡ Ok (left_by (past_after opens.start gone_on.places))

-- by a lock with tickets that host served: all turns are one history, which is split into those of each station, and one script
pub record ServesInOrder (source source' : SourceEnd) (keeper keeper' : KeeperEnd) (Attended : List (List TurnEntry) → Type 0) : Type 0 where
  pub desk : Standing
  pub opens : OpensOne source source' keeper keeper' desk
  pub entries : List TurnEntry
  pub stations : List (List TurnEntry)
  pub split : IsSplitInto entries stations
  pub attended : Attended stations
  -- the keeper's count when the host was open, and the host at the end
  pub faults : ℕ
  pub opened : keeper.count ≤ faults
  pub last : Hosted
  pub counted : keeper'.count ≡ last.faults
  -- the script, from the past that was opened to that for which the host stands at the end, which is played as promised
  pub script : IsScript opens.start (begun desk faults) entries last
  pub promised : IsAsPromised opens.loaded opens.text opens.start script.frames script.places
  -- where the keeper is honest it holds the rows of that past, which are read as what it holds
  pub kept : keeper'.honest → keeper'.holds (rows (past_after opens.start script.places))
  pub read_back : judged (rows (past_after opens.start script.places)) ≡ Ok (left_by (past_after opens.start script.places))

-- the host served its stations by this lock
abbrev pub ServesBy : {Li T E : Type 0} → (Li → ListenerEnd) → (T → Clock) → List (Station Li T E) → List (Station Li T E) → Lock → SourceEnd → SourceEnd → KeeperEnd → KeeperEnd → Type 0
ServesBy end clock before now lock source source' keeper keeper' =
    ByLock lock (ServesIt source source' keeper keeper' (AreServed end clock before now)) (ServesInOrder source source' keeper keeper' (AreServedInOrder end clock before now))

-- and by the lock that the words ask for; the keeper came back
abbrev pub ServesAsked : {Li T K E : Type 0} → (Li → ListenerEnd) → (T → Clock) → List (Station Li T E) → List (Station Li T E) → List (List ℕ) → SourceEnd → SourceEnd → (K → KeeperEnd) → K → Option K → Type 0
ServesAsked {Li} {T} {K} {E} end clock before now words source source' keeping keeper came =
    (k : K) × (came ≡ Some k) × ((lock : Lock) × AsksLock words lock × ServesBy end clock before now lock source source' (keeping keeper) (keeping k))

-- ---- when a host serves

-- this is so wherever the setup's text is within the limit and accepted, no call of its source failed, and the rows that the keeper holds are read
abbrev pub WhereOpens : SourceEnd → SourceEnd → KeeperEnd → Type 0 → Type 0
WhereOpens source source' keeper Is =
    (text : List ℕ) (lists : Lists) (kept : List Row) (held : Held) → source.left ≡ Some text → length text ≤ setup_limit → lists_in text ≡ Ok lists → keeper.holds kept → judged kept ≡ Ok held → NoFault source.count source'.count → Is

-- where the keeper is honest, it served, or there was no memory, or the keeper failed as the host was opened
abbrev pub ServesUnlessHindered : KeeperEnd → KeeperEnd → Status → Type 0
ServesUnlessHindered keeper keeper' status = keeper'.honest → HasEndedServing status ⊎ ((status ≡ NoMemory) ⊎ ((status ≡ OpenFault) × Rose keeper.count keeper'.count))
