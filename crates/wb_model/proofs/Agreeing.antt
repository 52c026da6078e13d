-- What an event does to the numbering and the registry is told without the trail of the report that it is on.
use Rattle.std.proofs.Common.{◌≡◌, ℕ, List, Option, Some, None, refl}
use Rattle.wb_base.specs.declared.callers.Principal.{Principal}
use Rattle.wb_model.specs.declared.command.Asked.{Asked}
use Rattle.wb_model.specs.declared.entry.Entry.{Entry}
use Rattle.wb_model.specs.declared.event.What.{What}
use Rattle.wb_model.specs.declared.event.What.TheVariants.{Did, Gap, Idle, Lost}
use Rattle.wb_model.specs.Tables.{Registry, Who}
use Rattle.wb_model.specs.Requests.{outline}
use Rattle.wb_model.specs.Changes.{TurnContext, Change, Nothing, Draws}
use Rattle.wb_model.specs.Effects.{Effect, Writes}
use Rattle.wb_model.specs.Commands.{effect_of}
use Rattle.wb_model.specs.OnReports.{change_on}
use Rattle.wb_model.specs.Host.{is_draw, registry_after}
use Rattle.wb_model.specs.Past.{who_of, report_of, alone_by, change_by, alone_in, change_in}

-- two changes that do the same to the numbering and the registry
pub record Agree (x y : Change) : Type 0 where
  pub drawing : is_draw x ≡ is_draw y
  pub setting : (g : Registry) → registry_after x g ≡ registry_after y g

pub same_change : (x : Change) → Agree x x
same_change x = record { drawing = refl; setting = λ g. refl }

pub on_agrees : (at : TurnContext) (g : Registry) (who : Who) (n : ℕ) (trail : List Entry) (e : Effect) → Agree Nothing (change_on at g who n trail e)
on_agrees at g who n trail (Writes d) = record { drawing = refl; setting = λ g. refl }
on_agrees at g who n trail _ = record { drawing = refl; setting = λ g. refl }

pub did_agrees : (at : TurnContext) (g : Registry) (trail : List Entry) (a : Asked) (by : Option Principal) (place : Option ℕ) → Agree (alone_by at g a by place) (change_by at g trail a by place)
did_agrees at g trail a by None = same_change (alone_by at g a by None)
did_agrees at g trail a None (Some n) = same_change Nothing
did_agrees at g trail a (Some by) (Some n) = on_agrees at g (who_of by) n trail (effect_of at g (Some (who_of by)) a.session trail (outline a.command))

-- what an event does on no report is told without the trail
pub alone_agrees : (w : What) (at : TurnContext) (g : Registry) (trail : List Entry) → Agree (alone_in w at g) (change_in w at g trail)
alone_agrees (Did a by) at g trail = did_agrees at g trail a by (report_of a.command by)
alone_agrees (Gap t) at g trail = same_change Draws
alone_agrees Idle at g trail = same_change Nothing
alone_agrees Lost at g trail = same_change Nothing
