-- What a run did, by what its words ask.
use Rattle.std.specs.Prelude.{ℕ, ℤ, ◌≡◌, ◌⊎◌, List, Option, Bool, true}
use Rattle.std.specs.Io.KnownBytes.{Appends, Keeps}
use Rattle.wb_base.specs.Outside.{AppendsFront, Rose}
use Rattle.wb_cli.specs.declared.plans.Plan.TheVariants.{Play, Make, Tally, Register, Forecast}
use Rattle.wb_cli.specs.CommandLine.{Asks, IsRunForm}
use Rattle.wb_cli.specs.declared.status.Status.{Status}
use Rattle.wb_cli.specs.declared.status.Status.TheVariants.{Done, Usage, WriteFault, NoMemory, OpenFault}
use Rattle.wb_rows.specs.Loaded.{KeepsRows}
use Rattle.wb_export.specs.Exports.{Exported, IsForecastOf, IsRegisterOf, has_recipient, has_tenant}
use Rattle.whistle.specs.Generated.{generated}
use Rattle.whistle.specs.Runs.{Ran}
use Rattle.whistle.specs.Tallies.{Tallied}
use Rattle.wb_base.specs.Ends.{KeeperEnd, SinkEnd, SourceEnd}
use Rattle.wb_cli.specs.Loads.{SinkStood, KeeperStood, WhereRead}
use Rattle.wb_cli.specs.Statuses.{IsDoneOrNoMemory}
use Rattle.wb_rows.specs.Held.{Held}

-- the script of so many turns was written, or a front of it where the sink failed, or there was no memory
abbrev pub Writes : SinkEnd → SinkEnd → ℕ → Status → Type 0
Writes sink sink' turns Done = Appends sink.held sink'.held (generated turns)
Writes sink sink' turns WriteFault = Rose sink.count sink'.count × AppendsFront sink.held sink'.held (generated turns)
Writes sink sink' turns NoMemory = Keeps sink.held sink'.held
Writes sink sink' turns status = ⊥

-- nothing was read
pub record ReadsNothing (source source' : SourceEnd) : Type 0 where
  pub left_as_it_was : Keeps source.left source'.left
  pub no_read : source'.count ≡ source.count

-- the keeper was not asked, and what is kept is as it was
pub record KeepsNothing (keeper keeper' : KeeperEnd) : Type 0 where
  pub no_call : keeper'.count ≡ keeper.count
  pub rows_as_they_were : KeepsRows keeper keeper'

-- with the ends of the source, the sink and the keeper before and now: what a run with these words and this status did
pub record Did (source source' : SourceEnd) (sink sink' : SinkEnd) (keeper keeper' : KeeperEnd) (words : List (List ℕ)) (status : Status) : Type 0 where
  -- words are told to be no form of a run only where they are none
  pub usage : status ≡ Usage → IsRunForm words → ⊥
  -- where they are none, that is told, or there was no memory, and nothing is read, written or kept
  pub no_form : (IsRunForm words → ⊥) → ((status ≡ Usage) ⊎ (status ≡ NoMemory)) × Keeps sink.held sink'.held × ReadsNothing source source' × KeepsNothing keeper keeper'
  pub play : (store : Option (List ℕ)) → Asks words (Play store) → Ran source source' sink sink' keeper keeper' status
  pub make : (turns : ℕ) → Asks words (Make turns) → Writes sink sink' turns status × ReadsNothing source source' × KeepsNothing keeper keeper'
  pub tally : (turns : ℕ) → Asks words (Tally turns) → Tallied keeper keeper' sink sink' turns status × ReadsNothing source source'
  pub register : (t u moment : ℕ) (store : Option (List ℕ)) → Asks words (Register t u moment store) → Exported keeper keeper' sink sink' (has_recipient t u) (IsRegisterOf t u moment) status × KeepsRows keeper keeper' × ReadsNothing source source'
  pub forecast : (t : ℕ) (day : ℤ) (store : Option (List ℕ)) → Asks words (Forecast t day store) → Exported keeper keeper' sink sink' (has_tenant t) (IsForecastOf t day) status × KeepsRows keeper keeper' × ReadsNothing source source'

-- ---- when a run does all that its words ask

-- a tally over rows that are read is written, where the sink did not fail, or there was no memory, or the keeper failed when the host was opened
abbrev pub TalliesWhole : SinkEnd → SinkEnd → KeeperEnd → KeeperEnd → Status → Type 0
TalliesWhole sink sink' keeper keeper' status = WhereRead keeper keeper' (λ held. SinkStood sink sink' → (status ≡ Done) ⊎ ((status ≡ NoMemory) ⊎ ((status ≡ OpenFault) × Rose keeper.count keeper'.count)))

-- a register and a forecast over rows that are read are written, where who is named is there and no call failed, or there was no memory
abbrev pub ExportsWhole : SinkEnd → SinkEnd → KeeperEnd → KeeperEnd → (Held → Bool) → Status → Type 0
ExportsWhole sink sink' keeper keeper' is_there status = WhereRead keeper keeper' (λ held. is_there held ≡ true → SinkStood sink sink' → KeeperStood keeper keeper' → IsDoneOrNoMemory status)
