-- What a turn of a desk that stands for a past came to, and what it did to the keeper's rows.
use Rattle.std.specs.Prelude.{◌≡◌, true}
use Rattle.wb_model.specs.declared.body.Told.{Told}
use Rattle.wb_model.specs.Past.{Past}
use Rattle.wb_model.specs.Pasts.{AllOpened, standing_hosts}
use Rattle.wb_model.specs.Playing.{RoseBy, one_by_keeper}
use Rattle.wb_model.specs.Requests.{Frame}
use Rattle.wb_model.specs.Rows.{rows}
use Rattle.wb_model.specs.Scripts.{Loss, NotLost, ByKeeper, ByMemory, Unread, has_to_keep, may_want_memory, play_asked}
use Rattle.wb_model.specs.Tenants.{Hosts}
use Rattle.wb_base.specs.Ends.{KeeperEnd}

-- the losses that may stand at a turn
abbrev pub MayLose : Past AllOpened → Frame → Loss → Type 0
MayLose past f NotLost = Unit {0}
MayLose past f ByKeeper = has_to_keep past f ≡ true
MayLose past f ByMemory = may_want_memory past f ≡ true
MayLose past f (Unread close) = ⊥

-- what a turn of a desk that stands for a past came to, with the keeper's end before and now
pub record Took (keeper keeper' : KeeperEnd) (past : Past AllOpened) (f : Frame) (loss : Loss) (reply : Told) (after : Hosts) : Type 0 where
  pub possible : MayLose past f loss
  pub told : reply ≡ (play_asked past f loss).reply.told
  pub stands : after ≡ standing_hosts (play_asked past f loss).past
  pub counted : RoseBy (one_by_keeper loss) keeper.count keeper'.count
  pub kept : keeper'.honest → keeper.holds (rows past) → keeper'.holds (rows (play_asked past f loss).past)
