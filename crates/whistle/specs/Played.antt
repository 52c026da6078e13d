-- What it is that a host played frames.
use Rattle.std.specs.Prelude.{ℕ, ◌≡◌, List, Ok}
use Rattle.wb_base.specs.declared.rows.Row.{Row}
use Rattle.wb_model.specs.declared.wire.ScriptFrame.{ScriptFrame}
use Rattle.wb_model.specs.Past.{Past}
use Rattle.wb_model.specs.Pasts.{AllOpened}
use Rattle.wb_model.specs.Playing.{ArePlacesOf, keeper_losses, RoseBy}
use Rattle.wb_model.specs.Scripts.{Place, ArePossible, past_after}
use Rattle.wb_model.specs.Rows.{rows}
use Rattle.wb_rows.specs.Judged.{judged}
use Rattle.wb_rows.specs.Left.{left}
use Rattle.wb_promise.specs.Promises.{IsAsPromised}
use Rattle.wb_base.specs.Ends.{KeeperEnd}

-- with the keeper's end before and now: a host that was opened over these
-- loaded rows with this setup, and stood for this past before its first turn, played these frames as these places
pub record HasPlayed (keeper keeper' : KeeperEnd) (loaded : List Row) (setup : List ℕ) (start : Past AllOpened) (frames : List ScriptFrame) (places : List Place) : Type 0 where
  pub placed : ArePlacesOf frames places
  pub possible : ArePossible start places
  pub counted : RoseBy (keeper_losses places) keeper.count keeper'.count
  -- the keeper held the rows that were loaded, and holds those of the past after the frames
  pub kept : keeper'.honest → (before : List Row) → keeper.holds before → (before ≡ loaded) × keeper'.holds (rows (past_after start places))
  -- these are refused by no rule, and are read as what the hosts hold
  pub read_back : judged (rows (past_after start places)) ≡ Ok (left (past_after start places))
  -- it answered as is promised
  pub promised : IsAsPromised loaded setup start frames places
