-- The same two halves of a report that was kept before the start: over kept rows that differ in its identity answers alone, and over the
-- rows without it.
use Rattle.std.specs.Prelude.{◌≡◌, ◌⊎◌, ℕ, ◌≤◌, true, false, List, map, Some}
use Rattle.wb_base.specs.declared.rows.Row.{Row}
use Rattle.wb_model.specs.declared.wire.ScriptFrame.{ScriptFrame}
use Rattle.wb_model.specs.Absence.{AllDrawAnother, HoldsLive, NoneIsLost, holds, is_purged, replies_purged}
use Rattle.wb_model.specs.OtherOpenings.{AreNotBefore, rows_without}
use Rattle.wb_model.specs.Past.{Past, last}
use Rattle.wb_model.specs.Pasts.{AllOpened, standing_hosts, part, time}
use Rattle.wb_model.specs.Rows.{rows, rows_but}
use Rattle.wb_model.specs.Scripts.{Place, script_replies, past_after}
use Rattle.wb_promise.specs.Headline.{AllFramesAlike, AreAnsweredAlike, ArePlayed, bytes_of}

-- over kept rows that differ in the identity answers of one report alone, with the same setup: each script that is the same but for the
-- identities which its reporter gives later is answered alike
abbrev pub KeepsOlderIdentities : List Row → List ℕ → Past AllOpened → List ScriptFrame → List Place → Type 0
KeepsOlderIdentities loaded setup start frames places = (t r : ℕ) (kept : List Row) (other : Past AllOpened) (others : List ScriptFrame) (theirs : List Place) →
    rows_but t r loaded ≡ rows_but t r kept → ArePlayed kept setup places other others theirs → AllFramesAlike t r start frames places others → AreAnsweredAlike t r start other places theirs

-- both hosts begin at one moment, or no place of the script is before the first
abbrev pub BeginTogether : Past AllOpened → Past AllOpened → List Place → Type 0
BeginTogether start other places = (time other ≡ time start) ⊎ AreNotBefore (time start) places

-- from the place on at which the report is purged, the replies are byte for byte those of the host that never held it; and from then on
-- both are the same host. Both hold the same where the first does not hold the report: it does not once it is purged, nor, where nothing is
-- lost, while it is not live. The rows at the end of the second are, at any time, those of the first without the report's
pub record IsForgottenThere (t r : ℕ) (start other : Past AllOpened) (places theirs : List Place) : Type 0 where
  pub replies : bytes_of (replies_purged t r start places (map Some (script_replies start places))) ≡ bytes_of (replies_purged t r start places (map Some (script_replies other theirs)))
  pub hosts : is_purged t r start places ≡ true → standing_hosts (past_after other theirs) ≡ standing_hosts (past_after start places)
  pub tables : holds t r (past_after start places) ≡ false → (standing_hosts (past_after other theirs)).list ≡ (standing_hosts (past_after start places)).list
  pub purged : is_purged t r start places ≡ true → holds t r (past_after start places) ≡ false
  pub gone : HoldsLive t r start → NoneIsLost places → HoldsLive t r (past_after start places)
  pub rows : rows (past_after other theirs) ≡ rows_without t r (rows (past_after start places))

-- over kept rows without those of a report whose number was drawn, with the same setup: by the same script the report is forgotten, where no
-- submission to its tenant draws its receipt while it is live
abbrev pub ForgetsOlderReports : List Row → List ℕ → Past AllOpened → List ScriptFrame → List Place → Type 0
ForgetsOlderReports loaded setup start frames places = (t r : ℕ) (other : Past AllOpened) (theirs : List Place) →
    ArePlayed (rows_without t r loaded) setup places other frames theirs → r ≤ last (part t start) → BeginTogether start other places → AllDrawAnother t r start places → IsForgottenThere t r start other places theirs
