-- What the call of `notices` did, by its status.
use Rattle.std.specs.Prelude.{◌≡◌, ℕ, ◌++◌, max, List, Option, Some, None, All, codes, decimal, length, Ok}
use Rattle.std.specs.List.{flat_map}
use Rattle.std.specs.Io.KnownBytes.{Appends, Keeps}
use Rattle.wb_base.specs.DateTexts.{date_text}
use Rattle.wb_base.specs.declared.rows.Row.{Row}
use Rattle.wb_base.specs.Outside.{AppendsFront, Rose}
use Rattle.wb_cli.specs.declared.plans.Plan.{Plan}
use Rattle.wb_cli.specs.declared.plans.Plan.TheVariants.{Notices}
use Rattle.wb_cli.specs.CommandLine.{Asks}
use Rattle.wb_rows.specs.Held.{Held}
use Rattle.wb_rows.specs.Openings.{time_of}
use Rattle.wb_cli.specs.declared.status.Status.{Status}
use Rattle.wb_cli.specs.declared.status.Status.TheVariants.{Done, Usage, WriteFault, NoMemory, OpenFault, KeptRows, OutboxRows, OutboxFault}
use Rattle.wb_cli.specs.Loads.{AreRead, ReadsNone, KeeperStood, SinkStood}
use Rattle.wb_notice.specs.declared.notice.Notice.{Notice}
use Rattle.wb_notice.specs.Deliveries.{AreOutboxRows, IsFirstOther}
use Rattle.wb_notice.specs.Notices.{IsNotice, kind_name}
use Rattle.wb_notice.specs.Outbox.{box, new_notices}
use Rattle.wb_notice.specs.Owed.{unsealed}
use Rattle.wb_base.specs.Ends.{KeeperEnd, SinkEnd}
use Rattle.wb_rows.specs.Judged.{judged}

-- ---- what is written

-- the tenant, the user, the kind, the report's number and the day
abbrev pub notice_line : Notice → List ℕ
notice_line n = decimal n.tenant ++ codes " " ++ decimal n.user ++ codes " " ++ kind_name n.kind ++ codes " " ++ decimal n.number ++ codes " " ++ date_text n.day ++ codes "\n"

-- how many were written
abbrev pub count_line : ℕ → List ℕ
count_line count = codes "written " ++ decimal count ++ codes "\n"

abbrev pub notices_text : List Notice → List ℕ
notices_text notices = flat_map notice_line notices ++ count_line (length notices)

-- ---- what is done

-- the moment at which notices are asked for
abbrev pub moment_of : Plan → Option ℕ
moment_of (Notices moment store outbox) = Some moment
moment_of _ = None

-- the words ask for notices at a moment
abbrev pub AsksAt : List (List ℕ) → ℕ → Type 0
AsksAt words moment = (store : List ℕ) × (outbox : List ℕ) × Asks words (Notices moment store outbox)

-- the time of a call: its moment, or the greatest that is kept
abbrev pub time_at : ℕ → Held → ℕ
time_at moment kept = max moment (time_of kept)

-- ---- with the ends of the keeper and of the outbox before and now

-- the keeper's rows are read as tables, and one delivery over them made these notices new in the outbox
pub record HasDelivered (keeper keeper' outbox outbox' : KeeperEnd) (moment : ℕ) (notices : List Notice) : Type 0 where
  pub kept : Held
  pub read : AreRead keeper keeper' kept
  pub rows : List Row
  pub loaded : AreOutboxRows outbox outbox' rows
  pub all : All IsNotice rows
  pub added : notices ≡ new_notices (unsealed kept) (time_at moment kept) rows
  pub left : outbox'.honest → (before : List Row) → outbox.holds before → outbox'.holds (box (unsealed kept) (time_at moment kept) before)

-- the keeper failed, or its rows are refused; or they are read, and the outbox failed, or one of its rows is no notice's; or there was no memory
abbrev pub DeliversNone : KeeperEnd → KeeperEnd → KeeperEnd → KeeperEnd → Status → Type 0
DeliversNone keeper keeper' outbox outbox' OpenFault = ReadsNone keeper keeper' OpenFault
DeliversNone keeper keeper' outbox outbox' (KeptRows fault) = ReadsNone keeper keeper' (KeptRows fault)
DeliversNone keeper keeper' outbox outbox' OutboxFault = Rose outbox.count outbox'.count × ((kept : Held) × AreRead keeper keeper' kept)
DeliversNone keeper keeper' outbox outbox' (OutboxRows key) = ((rows : List Row) × AreOutboxRows outbox outbox' rows × IsFirstOther rows key) × ((kept : Held) × AreRead keeper keeper' kept)
DeliversNone keeper keeper' outbox outbox' NoMemory = Unit {0}
DeliversNone keeper keeper' outbox outbox' status = ⊥

-- and of the sink
module _ (keeper keeper' outbox outbox' : KeeperEnd) (sink sink' : SinkEnd) where
  -- what the call did at a moment
  abbrev pub NotifiedAt : ℕ → Status → Type 0
  NotifiedAt moment Done = (notices : List Notice) × HasDelivered keeper keeper' outbox outbox' moment notices × Appends sink.held sink'.held (notices_text notices)
  NotifiedAt moment WriteFault = (notices : List Notice) × HasDelivered keeper keeper' outbox outbox' moment notices × Rose sink.count sink'.count × AppendsFront sink.held sink'.held (notices_text notices)
  NotifiedAt moment status = DeliversNone keeper keeper' outbox outbox' status × Keeps sink.held sink'.held

  -- and with these words: for want of memory it may not have read them
  abbrev pub Notified : List (List ℕ) → Status → Type 0
  Notified words Usage = ((moment : ℕ) → AsksAt words moment → ⊥) × Keeps sink.held sink'.held
  Notified words NoMemory = Keeps sink.held sink'.held
  Notified words status = (moment : ℕ) × AsksAt words moment × NotifiedAt moment status

-- the outbox is honest, and held notices
abbrev pub HeldNotices : KeeperEnd → KeeperEnd → Type 0
HeldNotices outbox outbox' = outbox'.honest × ((sent : List Row) × outbox.holds sent × All IsNotice sent)

-- the keeper's rows are read, the outbox holds notices, and nothing failed
pub record NothingHinders (keeper keeper' outbox outbox' : KeeperEnd) (sink sink' : SinkEnd) (h : Held) : Type 0 where
  pub honest : keeper'.honest
  pub rows : List Row
  pub holds : keeper.holds rows
  pub read : judged rows ≡ Ok h
  pub notices : HeldNotices outbox outbox'
  pub kept : KeeperStood keeper keeper'
  pub put : KeeperStood outbox outbox'
  pub wrote : SinkStood sink sink'
