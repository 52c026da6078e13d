-- What the program does with one frame.
use Rattle.std.specs.Prelude.{◌≡◌}
use Rattle.wb_model.specs.declared.wire.ScriptFrame.{ScriptFrame}
use Rattle.wb_model.specs.Past.{Past}
use Rattle.wb_model.specs.Pasts.{AllOpened}
use Rattle.wb_model.specs.Scripts.{Place, IsPossible, play}
use Rattle.wb_model.specs.Playing.{IsPlaceOf, one_by_keeper, RoseBy}
use Rattle.wb_model.specs.Rows.{rows}
use Rattle.wb_model.specs.Tenants.{Hosts}
use Rattle.wb_desk.specs.Turns.{StandsFor}
use Rattle.wb_wire.specs.Responses.{reply_of}
use Rattle.wb_wire.specs.declared.responses.Response.{Response}
use Rattle.wb_base.specs.Ends.{KeeperEnd}

-- the answer is what comes of this place over the past, and the host then stands for the past after it; with the keeper's end before and now
pub record IsAnswerTo (keeper keeper' : KeeperEnd) (past : Past AllOpened) (frame : ScriptFrame) (answer : Response) (after : Hosts) (place : Place) : Type 0 where
  pub of_frame : IsPlaceOf frame place
  pub possible : IsPossible past place place.reading place.loss
  pub reply : reply_of answer ≡ (play past place).reply
  pub stands : StandsFor after (play past place).past
  pub counted : RoseBy (one_by_keeper place.loss) keeper.count keeper'.count
  pub kept : keeper'.honest → keeper.holds (rows past) → keeper'.holds (rows (play past place).past)
