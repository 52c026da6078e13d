-- A good submission is answered 201, or memory was wanted.
use Rattle.std.proofs.Common.{◌≡◌, ◌≢◌, ◌<◌, inl, inr, ℕ, Bool, true, false, cond, ◌+◌, List, [], ◌∷◌, Option, Some, None, refl, sym, subst, arith}
use Rattle.std.specs.Prelude.{nat_le, is_some}
use Rattle.std.proofs.lemmas.Bool.Decides.{nat_tests}
use Rattle.wb_base.specs.AnswerList.{Answered}
use Rattle.wb_base.specs.Secrets.{receipt_text}
use Rattle.wb_base.specs.declared.callers.Presented.{Presented}
use Rattle.wb_base.specs.declared.words.Words.{Words}
use Rattle.wb_model.specs.declared.body.Told.{Told}
use Rattle.wb_model.specs.declared.command.Asked.{Asked}
use Rattle.wb_model.specs.declared.command.Command.{Command}
use Rattle.wb_model.specs.declared.command.Command.TheVariants.{Submit}
use Rattle.wb_model.specs.declared.registry.ContextItem.{ContextItem}
use Rattle.wb_model.specs.declared.registry.FormItem.{FormItem}
use Rattle.wb_model.specs.Changes.{TurnContext, Change, Answer, Says, judged}
use Rattle.wb_model.specs.Effects.{Submits, with_form}
use Rattle.wb_model.specs.Host.{Sealed, reply_by}
use Rattle.wb_model.specs.Json.{told as answered}
use Rattle.wb_model.specs.Opened.{Opened}
use Rattle.wb_model.specs.Past.{Past, plain, tables}
use Rattle.wb_model.specs.PastTurns.{at_frame, reply_at}
use Rattle.wb_model.specs.Pasts.{AllOpened, part, reply_in}
use Rattle.wb_model.specs.Readings.{Asks}
use Rattle.wb_model.specs.Requests.{Frame, submission_outcome, submission_fault}
use Rattle.wb_model.specs.AskingForms.{asking_form, open_form}
use Rattle.wb_model.specs.Rules.{refusal_alone, answer_alone}
use Rattle.wb_model.specs.Scripts.{Loss, NotLost, ByKeeper, ByMemory, Unread, Place, frame_of, play_by, play_asked, play}
use Rattle.wb_model.specs.ShortViews.{submission_view}
use Rattle.wb_model.specs.Submissions.{Drawing, drawing}
use Rattle.wb_model.specs.Tables.{Plain, Registry, context as context_by, newest_form}
use Rattle.wb_model.specs.Tenants.{without_tenant}
use Rattle.wb_promise.specs.Submissions.{IsWelcome, IsGoodSubmission, IsWellAnswered, AreWellAnswered}

-- what is not refused is answered
well : (refusal : Option Told) (change : Change) (answer : Answer) (sealed : Sealed) (told : Told) → refusal ≡ None → answer ≡ Says told → told.status ≡ 201 → IsWellAnswered (reply_by (judged refusal change answer) sealed)
well refusal change answer sealed told r a status = rw (r, a) (inl status)

below : (n m : ℕ) → n < m → nat_le m n ≡ false
below n m h = grind (arith, nat_tests, h)

none_some : {X : Type 0} (o : Option X) → o ≡ None → is_some o ≡ false
none_some o e = rw e refl

-- nothing refuses it, where the context and its form are found
refusal_is : (g : Registry) (n : Drawing) (o : Option ContextItem) (given : Answered) (item : ContextItem) (form : FormItem) → o ≡ Some item → item.is_open ≡ true → newest_form item.form g.forms ≡ Some form → submission_fault form.form given ≡ None
    → nat_le 4_294_967_295 n.last ≡ false → nat_le g.settings.quota n.today ≡ false → n.taken ≡ false → refusal_alone g n (submission_outcome (asking_form o g.forms) given) (with_form Submits o (open_form o g.forms)) ≡ None
refusal_is g n o given item form found opens asks valid unspent quota free = rw (found, opens, asks, valid, unspent, quota, free) refl

answer_is : (at : TurnContext) (p : Plain) (o : Option ContextItem) (item : ContextItem) (form : FormItem) → o ≡ Some item → item.is_open ≡ true → newest_form item.form p.registry.forms ≡ Some form
    → answer_alone at p None (with_form Submits o (open_form o p.registry.forms)) ≡ Says (answered 201 (submission_view (p.numbering.last + 1) (receipt_text at.words)))
answer_is at p o item form found opens asks = rw (found, opens, asks) refl

-- the frame of a submission
abbrev pub submission : ℕ → Words → Presented → Bool → ℕ → ℕ → Answered → Frame
submission moment words session close t c given = record { moment = moment; words = words; asked = record { command = Submit t c given; session = session; close = close } }

one_told : (past : Past Opened) (moment : ℕ) (words : Words) (session : Presented) (close : Bool) (t c : ℕ) (given : Answered) →
    IsWelcome (at_frame past (submission moment words session close t c given)) (plain past (at_frame past (submission moment words session close t c given)).time) c given → IsWellAnswered (reply_at past (submission moment words session close t c given))
one_told past moment words session close t c given h =
    let at : TurnContext = at_frame past (submission moment words session close t c given) in
    let p : Plain = plain past at.time in
    let o : Option ContextItem = context_by c p.registry.contexts in
    well _ _ _ (tables past at.time).sealed _ (refusal_is p.registry (drawing at p) o given h.item h.form h.found h.opens h.asks h.valid (below p.numbering.last 4_294_967_295 h.unspent) (below (drawing at p).today p.registry.settings.quota h.in_quota) (none_some _ h.free))
    (answer_is at p o h.item h.form h.found h.opens h.asks) refl

good_told : (past : Past AllOpened) (f : Frame) → IsGoodSubmission past f → IsWellAnswered (reply_in past f)
good_told past f good =
    let of : Command → Frame = λ command. record { moment = f.moment; words = f.words; asked = record { command = command; session = f.asked.session; close = f.asked.close } } in
    let s : Frame = submission f.moment f.words f.asked.session f.asked.close good.tenant good.context good.given in
    subst (λ (command : Command). IsWelcome (at_frame (part good.tenant past) f) (plain (part good.tenant past) (at_frame (part good.tenant past) f).time) good.context good.given → IsWellAnswered (reply_in past (of command))) (sym good.submits)
    (λ welcome. subst (λ (b : Bool). IsWellAnswered (cond b (reply_at (part good.tenant past) s) (without_tenant good.tenant))) (sym good.there)
    (one_told (part good.tenant past) f.moment f.words f.asked.session f.asked.close good.tenant good.context good.given welcome)) good.welcome

well_by_loss : (past : Past AllOpened) (f : Frame) (loss : Loss) → loss ≢ ByKeeper → IsWellAnswered (reply_in past f) → IsWellAnswered (play_asked past f loss).reply.told
well_by_loss past f NotLost kept h = h
well_by_loss past f ByKeeper kept h = absurd (kept refl)
well_by_loss past f ByMemory kept h = inr refl
well_by_loss past f (Unread close) kept h = inr refl

well_at : (past : Past AllOpened) (p : Place) (asked : Asked) → p.reading ≡ Asks asked → p.loss ≢ ByKeeper → IsGoodSubmission past (frame_of p asked) → IsWellAnswered (play past p).reply.told
well_at past p asked reads kept good = subst (λ r. IsWellAnswered (play_by past p r).reply.told) (sym reads) (well_by_loss past (frame_of p asked) p.loss kept (good_told past (frame_of p asked) good))

-- so is each of a script
pub all_well : (past : Past AllOpened) (ps : List Place) → AreWellAnswered past ps
all_well past [] = tt
all_well past (p ∷ ps) = (λ asked reads kept good. well_at past p asked reads kept good, all_well (play past p).past ps)
