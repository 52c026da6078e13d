-- Workers and the listeners of their stations.
use Rattle.std.specs.Prelude.{◌≡◌, ◌<◌, ℕ, List, All, length, slice_index_or}
use Rattle.wb_model.specs.declared.body.Told.{Told}
use Rattle.wb_model.specs.Requests.{Frame}
use Rattle.wb_tables.specs.Standing.{Standing}
use Rattle.wb_desk.specs.Hosted.{Hosted, Hand, fresh}
use Rattle.wb_desk.specs.Turned.{Turned}
use Rattle.wb_desk.specs.Whole.{IsWholeHost}
use Rattle.wb_transport.specs.Lines.{Clock, ListenerEnd}
use Rattle.wb_front.specs.Attended.{AttendsLinks, HasNone, RoseOften}
use Rattle.wb_front.specs.declared.worker.Station.{Station}
use Rattle.wb_server.specs.declared.worker.Worker.{Worker}
use Rattle.wb_front.specs.declared.worker.Worked.{Worked}
use Rattle.wb_front.specs.declared.worker.Worked.TheVariants.{End, ListenFault}

-- where a worker ended since no link came any more, a listener that tells has none left
abbrev pub HasEnded : ListenerEnd → Worked → Type 0
HasEnded listener worked = worked ≡ End → HasNone listener

-- the links that a listener gave came back in order, each attended: with what is had of the gate and the ticker before and now
pub record IsServed {O : Type 0} (Ran : O → Frame → Told → O → Type 0) (listener listener' : ListenerEnd) (own own' : O) (clock clock' : Clock) : Type 0 where
  pub links : AttendsLinks Ran listener listener' own own' clock clock'

-- so it was at a worker's station
abbrev pub WorkerServed : {Li T O E : Type 0} → (O → Frame → Told → O → Type 0) → (Li → ListenerEnd) → (T → Clock) → Worker Li T O E → Worker Li T O E → Type 0
WorkerServed Ran end clock w w' = IsServed Ran (end w.station.listener) (end w'.station.listener) w.own w'.own (clock w.station.ticker) (clock w'.station.ticker)

-- where a worker says so, its listener failed often
abbrev pub WorkerFailed : {Li T O E : Type 0} → (Li → ListenerEnd) → Worker Li T O E → Worker Li T O E → Type 0
WorkerFailed end w w' = w'.worked ≡ ListenFault → RoseOften 16 (end w.station.listener).count (end w'.station.listener).count

-- ---- stations, by what a listener and a ticker have

module _ {Li T E : Type 0} (end : Li → ListenerEnd) (clock : T → Clock) (before now : List (Station Li T E)) where
  -- so it is at each of as many stations, before and now
  abbrev pub AtEach : (ℕ → ListenerEnd → ListenerEnd → Clock → Clock → Type 0) → Type 0
  AtEach Is = (i : ℕ) (d e : Station Li T E) → i < length before →
      Is i (end (slice_index_or before i d).listener) (end (slice_index_or now i e).listener) (clock (slice_index_or before i d).ticker) (clock (slice_index_or now i e).ticker)

-- the links of each were attended, by what its worker had of the gate before and now
abbrev pub EachServed : {Li T E O : Type 0} → (O → Frame → Told → O → Type 0) → (Li → ListenerEnd) → (T → Clock) → List (Station Li T E) → List (Station Li T E) → List O → List O → Type 0
EachServed {Li} {T} {E} {O} Ran end clock before now owns owns' =
    AtEach end clock before now (λ i listener listener' from to. (d e : O) → IsServed Ran listener listener' (slice_index_or owns i d) (slice_index_or owns' i e) from to)

-- the listener of one of the stations failed often
abbrev pub OneFailed : {Li T E : Type 0} → (Li → ListenerEnd) → List (Station Li T E) → List (Station Li T E) → Type 0
OneFailed {Li} {T} {E} end before now =
    (i : ℕ) × (i < length before) × ((d e : Station Li T E) → RoseOften 16 (end (slice_index_or before i d).listener).count (end (slice_index_or now i e).listener).count)

-- the listeners of all stations have no link left
abbrev pub AllHaveNone : {Li T E : Type 0} → (Li → ListenerEnd) → List (Station Li T E) → Type 0
AllHaveNone end now = All (λ s. HasNone (end s.listener)) now

-- a turn that was made of the host that was opened with this desk, and in which a pass took part
abbrev pub IsTurnOfHost : Standing → Hand → Frame → Told → Hand → Type 0
IsTurnOfHost opened pass frame told pass' =
    (host : Hosted) × (host' : Hosted) × (host.opened ≡ opened) × (host'.opened ≡ opened) × IsWholeHost host × IsWholeHost host' × Turned frame host pass host' pass' told

-- each reply over the links of a station was a turn of that host, in which its pass took part, or the refusal of what asks nothing
abbrev pub WasServed : Standing → Hand → ListenerEnd → ListenerEnd → Clock → Clock → Type 0
WasServed opened pass listener listener' clock clock' = IsServed (IsTurnOfHost opened) listener listener' fresh pass clock clock'

-- so it was at each of the stations of a host that was opened with this desk, by as many passes
abbrev pub AreServed : {Li T E : Type 0} → (Li → ListenerEnd) → (T → Clock) → List (Station Li T E) → List (Station Li T E) → Standing → List Hand → Type 0
AreServed end clock before now desk passes = (length passes ≡ length before) × AtEach end clock before now (λ i. WasServed desk (slice_index_or passes i fresh))
