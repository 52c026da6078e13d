-- The history of a host as one script.
use Rattle.std.specs.Prelude.{◌≡◌, ◌≤◌, ◌⊎◌, List, [], ◌∷◌}
use Rattle.wb_model.specs.declared.wire.ScriptFrame.{ScriptFrame}
use Rattle.wb_model.specs.Past.{Past, turns}
use Rattle.wb_model.specs.Pasts.{AllOpened}
use Rattle.wb_model.specs.Playing.{ArePlacesOf, RoseBy, keeper_losses}
use Rattle.wb_model.specs.Readings.{Asks}
use Rattle.wb_model.specs.Refusals.{turns_spent}
use Rattle.wb_model.specs.Requests.{Frame}
use Rattle.wb_model.specs.Scripts.{Loss, Place, ArePossible, play, past_after}
use Rattle.wb_tables.specs.Standing.{hosts_of}
use Rattle.wb_desk.specs.Kept.{MayLose}
use Rattle.wb_desk.specs.Turns.{StandsFor}
use Rattle.wb_desk.specs.Hosted.{Hosted}
use Rattle.wb_ticket_lock.specs.Histories.{Leads}
use Rattle.wb_ticket.specs.Owned.{AskedAndTold, TurnEntry, IsTurnOf, answered}

-- a turn as a place of a script: its frame, which was read, and what was lost at it
abbrev pub place_of : Frame → Loss → Place
place_of f loss = record { moment = f.moment; words = f.words; reading = Asks f.asked; loss = loss }

-- a turn after the last of a host, of which there are 10^15, is no place, and is told so
abbrev pub IsSpent : Past AllOpened → AskedAndTold → Type 0
IsSpent past a = (1_000_000_000_000_000 ≤ turns past) × (a.1 ≡ turns_spent)

-- the other turns are places: what was asked, with a loss that may stand there, is told what the script replies there
pub record IsPlacedAt (past : Past AllOpened) (a : AskedAndTold) (p : Place) : Type 0 where
  pub place : p ≡ place_of a.0 p.loss
  pub possible : MayLose past a.0 p.loss
  pub told : a.1 ≡ (play past p).reply.told

-- turns are these places in order, but for those after the last
abbrev pub AreAnswered : Past AllOpened → List AskedAndTold → List Place → Type 0
AreAnswered past [] [] = Unit {0}
AreAnswered past [] (p ∷ ps) = ⊥
AreAnswered past (a ∷ more) [] = IsSpent past a × AreAnswered past more []
AreAnswered past (a ∷ more) (p ∷ ps) = (IsSpent past a × AreAnswered past more (p ∷ ps)) ⊎ (IsPlacedAt past a p × AreAnswered (play past p).past more ps)

-- turns from a host that stands for a past to another are one script over that past: its places, which are those of frames, each told as the script
-- replies; the losses of the keeper, which it counted; and the past for which the host stands then
pub record IsScript (start : Past AllOpened) (first : Hosted) (entries : List TurnEntry) (last : Hosted) : Type 0 where
  pub places : List Place
  pub frames : List ScriptFrame
  pub placed : ArePlacesOf frames places
  pub possible : ArePossible start places
  pub answered : AreAnswered start (answered entries) places
  pub counted : RoseBy (keeper_losses places) first.faults last.faults
  pub stands : StandsFor (hosts_of last.desk) (past_after start places)

-- so it is with each history, from each past for which the host stood at first
abbrev pub HistoriesAreScripts : Type 0
HistoriesAreScripts = (first last : Hosted) (entries : List TurnEntry) → Leads IsTurnOf 0 first entries last
    → (start : Past AllOpened) → StandsFor (hosts_of first.desk) start → IsScript start first entries last
