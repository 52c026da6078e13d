-- What a run did that tallied a generated script.
use Rattle.std.specs.Prelude.{ℕ, ◌≡◌, ◌≤◌, ◌⊎◌, List}
use Rattle.std.specs.Io.KnownBytes.{Appends, Keeps}
use Rattle.wb_base.specs.declared.rows.Row.{Row}
use Rattle.wb_base.specs.Outside.{AppendsFront, Rose}
use Rattle.wb_model.specs.Counts.{counts_of}
use Rattle.wb_model.specs.Past.{Past}
use Rattle.wb_model.specs.Pasts.{AllOpened, standing_hosts}
use Rattle.wb_model.specs.Scripts.{Place, script_replies, past_after}
use Rattle.whistle.specs.declared.counting.StatusCount.{StatusCount}
use Rattle.whistle.specs.declared.sample_setup.TheConstants.{HARBOUR}
use Rattle.wb_cli.specs.declared.status.Status.{Status}
use Rattle.wb_cli.specs.declared.status.Status.TheVariants.{Done, WriteFault, NoMemory}
use Rattle.whistle.specs.Counted.{AreCountsOf}
use Rattle.whistle.specs.Generated.{frames_from}
use Rattle.whistle.specs.Played.{HasPlayed}
use Rattle.whistle.specs.TallyText.{tally_text}
use Rattle.wb_desk.specs.Openings.{IsOpenedBy}
use Rattle.wb_server.specs.Opens.{Refuses}
use Rattle.wb_rows.specs.Loaded.{KeepsRows}
use Rattle.wb_base.specs.Ends.{KeeperEnd, SinkEnd}

-- with the keeper's end before and now
module _ (keeper keeper' : KeeperEnd) where
  -- the generated setup opened a host over the rows that the keeper held, and that host played the generated frames of so many turns
  pub record PlayedTurns (turns : ℕ) : Type 0 where
    pub loaded : List Row
    pub start : Past AllOpened
    pub opened : IsOpenedBy loaded HARBOUR.now start
    pub places : List Place
    pub played : HasPlayed keeper keeper' loaded HARBOUR.now start (frames_from 1 turns) places

  -- the text is their tally: how often each status is among the replies, and what the host counts at the end
  abbrev pub IsTallyOf : (turns : ℕ) → PlayedTurns turns → List ℕ → Type 0
  IsTallyOf turns p text = (rows : List StatusCount) × AreCountsOf (script_replies p.start p.places) rows × (text ≡ tally_text turns rows (counts_of (standing_hosts (past_after p.start p.places))))

  -- the generated setup opened no host, and what is kept is as it was
  pub record OpenedNone (status : Status) : Type 0 where
    pub cause : Refuses keeper keeper' HARBOUR.now status
    pub rows_as_they_were : KeepsRows keeper keeper'

  -- why there is no tally: no host was opened, or there was no memory after some of the turns
  abbrev pub StoppedTally : ℕ → Status → Type 0
  StoppedTally turns status = OpenedNone status ⊎ ((status ≡ NoMemory) × ((played : ℕ) × (played ≤ turns) × PlayedTurns played))

  -- and the sink's
  module _ (sink sink' : SinkEnd) where
    -- what a run did that tallied so many turns, by its status: it wrote their tally, or a front of it where the sink failed, or nothing
    abbrev pub Tallied : ℕ → Status → Type 0
    Tallied turns Done = (p : PlayedTurns turns) × ((text : List ℕ) × IsTallyOf turns p text × Appends sink.held sink'.held text)
    Tallied turns WriteFault = (p : PlayedTurns turns) × ((text : List ℕ) × IsTallyOf turns p text × AppendsFront sink.held sink'.held text) × Rose sink.count sink'.count
    Tallied turns status = StoppedTally turns status × Keeps sink.held sink'.held
