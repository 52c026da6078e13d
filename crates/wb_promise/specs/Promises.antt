-- What is promised of a script that was played.
use Rattle.std.specs.Prelude.{ℕ, List}
use Rattle.wb_base.specs.declared.rows.Row.{Row}
use Rattle.wb_model.specs.declared.wire.ScriptFrame.{ScriptFrame}
use Rattle.wb_model.specs.Past.{Past}
use Rattle.wb_model.specs.Pasts.{AllOpened}
use Rattle.wb_model.specs.Playing.{ArePlacesOf, AreLossesTold}
use Rattle.wb_model.specs.Scripts.{Place, ArePossible}
use Rattle.wb_promise.specs.Headline.{KeepsIdentities, ForgetsReports}
use Rattle.wb_promise.specs.OlderReports.{KeepsOlderIdentities, ForgetsOlderReports}
use Rattle.wb_promise.specs.Submissions.{AreWellAnswered}

-- a host that was opened over these loaded rows with this setup, and stood for this past before its first turn, played these frames as
-- these places
pub record IsAsPromised (loaded : List Row) (setup : List ℕ) (start : Past AllOpened) (frames : List ScriptFrame) (places : List Place) : Type 0 where
  -- a turn was lost or a request unread exactly where the reply is 503 or 507
  pub losses : AreLossesTold start places
  -- each good submission among them was answered as its sender expects
  pub submissions : AreWellAnswered start places
  -- the replies and the rows keep identities, of reports that were submitted in the script and of those that were kept before
  pub identities : KeepsIdentities loaded setup start frames places
  pub older_identities : KeepsOlderIdentities loaded setup start frames places
  -- and forget reports that are purged
  pub absence : ForgetsReports start frames places
  pub older_absence : ForgetsOlderReports loaded setup start frames places

-- so is each script that such a host plays, with whatever losses may stand there
abbrev pub AllAsPromised : List Row → List ℕ → Past AllOpened → Type 0
AllAsPromised loaded setup start = (frames : List ScriptFrame) (places : List Place) → ArePlacesOf frames places → ArePossible start places → IsAsPromised loaded setup start frames places
