-- Submissions: what refuses one, and the entry with which its report begins.
use Rattle.std.specs.Prelude.{ℕ, nat_le, is_some, Bool, false, [], Option, None, option_map}
use Rattle.std.specs.Option.{option_or}
use Rattle.wb_base.specs.AnswerList.{Answered}
use Rattle.wb_base.specs.Days.{day_of}
use Rattle.wb_base.specs.Terms as terms
use Rattle.wb_model.specs.declared.body.Told.{Told}
use Rattle.wb_model.specs.declared.entry.Actor.TheVariants as actors
use Rattle.wb_model.specs.declared.entry.Entry.{Entry}
use Rattle.wb_model.specs.declared.entry.Deed.TheVariants as deeds
use Rattle.wb_model.specs.declared.registry.ContextItem.{ContextItem}
use Rattle.wb_model.specs.declared.registry.FormItem.{FormItem}
use Rattle.wb_base.specs.Secrets.{receipt_text, digest}
use Rattle.wb_model.specs.Tables.{Registry, Plain, drawn_on, with_receipt}
use Rattle.wb_model.specs.Refusals.{numbers_spent, quota_spent, receipt_taken, faulty}
use Rattle.wb_model.specs.Refusing.{refuses_where}
use Rattle.wb_model.specs.Requests.{Outcome, Unchecked, Checked}
use Rattle.wb_model.specs.Changes.{TurnContext}

-- what is wrong with its answers
abbrev pub outcome_refusal : Outcome → Option Told
outcome_refusal Unchecked = None
outcome_refusal (Checked fault answers marked) = option_map faulty fault

-- what stands in the way of a draw: the last number, how many were drawn today, and whether a live report has the receipt
pub record Drawing : Type 0 where
  pub last : ℕ
  pub today : ℕ
  pub taken : Bool

abbrev pub drawing : TurnContext → Plain → Drawing
drawing at p = record {
  last = p.numbering.last;
  today = drawn_on (day_of at.time p.registry.settings.offset) p.registry.settings p.numbering;
  taken = is_some (with_receipt (digest p.registry.settings.salt (receipt_text at.words)) p.cases);
}

-- the refusals of a submission in their order
abbrev pub submission_refusal : ℕ → Drawing → Outcome → Option Told
submission_refusal quota n o =
    option_or (outcome_refusal o)
    (option_or (refuses_where (nat_le 4_294_967_295 n.last) numbers_spent)
    (option_or (refuses_where (nat_le quota n.today) (quota_spent quota))
    (refuses_where n.taken receipt_taken)))

abbrev pub answers_in : Outcome → Answered
answers_in Unchecked = []
answers_in (Checked fault answers marked) = answers

abbrev pub mark_in : Outcome → Bool
mark_in Unchecked = false
mark_in (Checked fault answers marked) = marked

-- the entry with which a report begins
unfoldable pub submission_entry : TurnContext → Registry → Outcome → ContextItem → FormItem → Entry
submission_entry at g o c form = let received = day_of at.time g.settings.offset in record {
  at = at.time;
  by = actors.Reporter;
  deed = deeds.Submitted (terms.ack_due received g.settings.calendar) (answers_in o) c.id (terms.expiry received c.retention) (terms.feedback_due received None false g.settings.calendar) form.id (mark_in o) c.recipients (digest g.settings.salt (receipt_text at.words)) received form.version;
}
