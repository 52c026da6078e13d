-- What the sender of a submission is answered, in words for who runs a host.
use Rattle.std.specs.Prelude.{◌≡◌, ◌≢◌, ◌⊎◌, ℕ, ◌<◌, true, List, [], ◌∷◌, Some, None}
use Rattle.wb_base.specs.AnswerList.{Answered}
use Rattle.wb_base.specs.Days.{day_of}
use Rattle.wb_base.specs.Secrets.{receipt_text, digest}
use Rattle.wb_model.specs.declared.body.Told.{Told}
use Rattle.wb_model.specs.declared.command.Asked.{Asked}
use Rattle.wb_model.specs.declared.command.Command.TheVariants.{Submit}
use Rattle.wb_model.specs.declared.registry.ContextItem.{ContextItem}
use Rattle.wb_model.specs.declared.registry.FormItem.{FormItem}
use Rattle.wb_model.specs.Changes.{TurnContext}
use Rattle.wb_model.specs.Past.{Past, plain}
use Rattle.wb_model.specs.PastTurns.{at_frame}
use Rattle.wb_model.specs.Pasts.{AllOpened, part, has_tenant}
use Rattle.wb_model.specs.Readings.{Asks}
use Rattle.wb_model.specs.Refusals.{no_memory}
use Rattle.wb_model.specs.Requests.{Frame, submission_fault}
use Rattle.wb_model.specs.Scripts.{ByKeeper, Place, frame_of, play}
use Rattle.wb_model.specs.Tables.{Plain, context as context_by, newest_form, with_receipt, drawn_on}

-- a submission that finds all it needs in a tenant's tables at its turn: its context is there and open, and the context's form finds no fault
-- in its answers; the tenant's last number is not drawn yet, nor are so many on this day as the quota has, and no live report has the receipt
pub record IsWelcome (at : TurnContext) (p : Plain) (context : ℕ) (given : Answered) : Type 0 where
  pub item : ContextItem
  pub found : context_by context p.registry.contexts ≡ Some item
  pub opens : item.is_open ≡ true
  pub form : FormItem
  pub asks : newest_form item.form p.registry.forms ≡ Some form
  pub valid : submission_fault form.form given ≡ None
  pub unspent : p.numbering.last < 4_294_967_295
  pub in_quota : drawn_on (day_of at.time p.registry.settings.offset) p.registry.settings p.numbering < p.registry.settings.quota
  pub free : with_receipt (digest p.registry.settings.salt (receipt_text at.words)) p.cases ≡ None

-- a turn's request that is such a submission to a tenant that is there
pub record IsGoodSubmission (past : Past AllOpened) (f : Frame) : Type 0 where
  pub tenant : ℕ
  pub context : ℕ
  pub given : Answered
  pub submits : f.asked.command ≡ Submit tenant context given
  pub there : has_tenant past tenant ≡ true
  pub welcome : IsWelcome (at_frame (part tenant past) f) (plain (part tenant past) (at_frame (part tenant past) f).time) context given

-- it is answered 201, or memory was wanted
abbrev pub IsWellAnswered : Told → Type 0
IsWellAnswered told = (told.status ≡ 201) ⊎ (told ≡ no_memory)

-- so is each such submission of a script whose turn the keeper did not lose
abbrev pub AreWellAnswered : Past AllOpened → List Place → Type 0
AreWellAnswered past [] = Unit {0}
AreWellAnswered past (p ∷ ps) =
    ((asked : Asked) → p.reading ≡ Asks asked → p.loss ≢ ByKeeper → IsGoodSubmission past (frame_of p asked) → IsWellAnswered (play past p).reply.told)
    × AreWellAnswered (play past p).past ps
