-- What a request may change, what is answered to it, and the verdict that has both.
use Rattle.std.specs.Prelude.{ℕ, Option, Some, None}
use Rattle.wb_base.specs.declared.words.Words.{Words}
use Rattle.wb_model.specs.declared.body.Told.{Told}
use Rattle.wb_model.specs.declared.entry.Entry.{Entry}
use Rattle.wb_model.specs.Tables.{Case, Session, Who}
use Rattle.wb_model.specs.Settings.{Setting}

-- a turn: its time, its number, and its random words
pub record TurnContext : Type 0 where
  pub time : ℕ
  pub turn : ℕ
  pub words : Words

-- ---- changes

-- what an accepted request changes
pub data Change : Type 0 where
  Nothing : Change
  -- a number is drawn, for no report
  Draws : Change
  -- a number is drawn, for a report that begins with this entry
  Begins : Entry → Change
  -- one more entry on a report
  Notes : ℕ → Entry → Change
  -- a report goes, before it expires
  Deletes : ℕ → Change
  -- a session begins
  LogsIn : Session → Change
  -- the session that was made at a turn ends, which is of this caller
  LogsOut : ℕ → Who → Change
  -- the registry changes
  Configures : Setting → Change

-- ---- answers

-- what is answered: a reply that shows no identity answers, or a view that shows those of one report
pub data Answer : Type 0 where
  Says : Told → Answer
  Shows_own : Case → Answer
  Shows_identity : ℕ → Answer

-- ---- verdicts

pub data Verdict : Type 0 where
  Refused : Told → Verdict
  Accepted : Change → Answer → Verdict

-- accepted, unless it is refused
abbrev pub judged : Option Told → Change → Answer → Verdict
judged (Some refusal) change answer = Refused refusal
judged None change answer = Accepted change answer
