-- Tables that kept rows are read as, or why they are not.
use Rattle.std.specs.Prelude.{◌≡◌, List, Ok, Err}
use Rattle.wb_base.specs.declared.rows.Row.{Row}
use Rattle.wb_base.specs.Ends.{KeeperEnd, SourceEnd, SinkEnd}
use Rattle.wb_base.specs.Outside.{Rose, NoFault}
use Rattle.wb_cli.specs.declared.status.Status.{Status}
use Rattle.wb_cli.specs.declared.status.Status.TheVariants.{NoMemory, OpenFault, KeptRows}
use Rattle.wb_rows.specs.Held.{Held}
use Rattle.wb_rows.specs.Judged.{judged}
use Rattle.wb_rows.specs.Loaded.{AreLoaded}

-- with a keeper's end before and now: rows were loaded of it that are read as what is held
abbrev pub AreRead : KeeperEnd → KeeperEnd → Held → Type 0
AreRead keeper keeper' held = (loaded : List Row) × AreLoaded keeper keeper' loaded × (judged loaded ≡ Ok held)

-- none were: it failed, or the rows that it held are refused, or there was no memory
abbrev pub ReadsNone : KeeperEnd → KeeperEnd → Status → Type 0
ReadsNone keeper keeper' OpenFault = Rose keeper.count keeper'.count
ReadsNone keeper keeper' (KeptRows fault) = (loaded : List Row) × AreLoaded keeper keeper' loaded × (judged loaded ≡ Err fault)
ReadsNone keeper keeper' NoMemory = keeper'.count ≡ keeper.count
ReadsNone keeper keeper' status = ⊥

-- this is so wherever the keeper is honest, and held rows that are read as what is held
abbrev pub WhereRead : KeeperEnd → KeeperEnd → (Held → Type 0) → Type 0
WhereRead keeper keeper' Is = (kept : List Row) (held : Held) → keeper'.honest → keeper.holds kept → judged kept ≡ Ok held → Is held

-- ---- no call failed

abbrev pub SourceStood : SourceEnd → SourceEnd → Type 0
SourceStood source source' = NoFault source.count source'.count

abbrev pub SinkStood : SinkEnd → SinkEnd → Type 0
SinkStood sink sink' = NoFault sink.count sink'.count

abbrev pub KeeperStood : KeeperEnd → KeeperEnd → Type 0
KeeperStood keeper keeper' = NoFault keeper.count keeper'.count
