-- Submissions, computed: the order of what refuses one, and the numbers of a day.
use Rattle.std.proofs.Common.{◌≡◌, ℕ, true, false, [], ◌∷◌, Option, Some, None, refl}
use Rattle.std.specs.Prelude.{codes}
use Rattle.wb_base.specs.declared.callers.Presented.TheVariants as presented
use Rattle.wb_base.specs.declared.faults.AnswerFault.{AnswerFault}
use Rattle.wb_model.specs.declared.body.Told.{Told}
use Rattle.wb_model.specs.declared.command.Command.TheVariants as commands
use Rattle.wb_model.specs.declared.event.What.{What}
use Rattle.wb_model.specs.declared.event.What.TheVariants.{Did, Gap}
use Rattle.wb_model.specs.Refusals.{not_found, numbers_spent, quota_spent, receipt_taken, faulty}
use Rattle.wb_model.specs.Tables.{Registry}
use Rattle.wb_model.specs.Requests.{Outcome, Checked}
use Rattle.wb_model.specs.Submissions.{Drawing, submission_refusal}
use Rattle.wb_model.specs.Commands.{effect_of}
use Rattle.wb_model.specs.Rules.{refusal_alone}
use Rattle.wb_model.proofs.Starter.{starter_registry}
use Rattle.wb_model.specs.Past.{Past, Turn, last, numbering, day, drawn}
use Rattle.wb_model.specs.Opened.{Opened}
use Rattle.wb_model.proofs.RowPasts.{after, at}
use Rattle.wb_model.proofs.SessionRows.{start}

-- ---- the order of refusals

abbrev fault : AnswerFault
fault = record { code = 2; field = codes "what" }

abbrev wrong : Outcome
wrong = Checked (Some fault) [] false

abbrev right : Outcome
right = Checked None [] false

-- all that may stand in the way of a draw, and nothing
abbrev spent : Drawing
spent = record { last = 4_294_967_295; today = 50; taken = true }

abbrev free : Drawing
free = record { last = 4_294_967_294; today = 49; taken = false }

-- to this context of this registry
abbrev refused : Registry → Drawing → Outcome → ℕ → Option Told
refused g n o c = refusal_alone g n o (effect_of (at 0) g None presented.None [] (commands.Submit 1 c []))

absent-row : refused starter_registry spent wrong 9 ≡ Some not_found
unfolding starter_registry
absent-row = refl

-- the tenant with no form and the one with context 1 closed
abbrev formless : Registry
formless = record starter_registry { forms = [] }

abbrev shut : Registry
shut = record starter_registry { contexts = record { tenant = 1; id = 1; form = 1; name = codes "Fraud"; is_open = false; recipients = 1 ∷ []; retention = 30 } ∷ [] }

formless-row : refused formless spent wrong 1 ≡ Some not_found
unfolding starter_registry
formless-row = refl

shut-row : refused shut spent wrong 1 ≡ Some not_found
unfolding starter_registry
shut-row = refl

wrong-row : refused starter_registry spent wrong 1 ≡ Some (faulty fault)
unfolding starter_registry
wrong-row = refl

spent-row : refused starter_registry spent right 1 ≡ Some numbers_spent
unfolding starter_registry
spent-row = refl

quota-row : refused starter_registry (record spent { last = 4_294_967_294 }) right 1 ≡ Some (quota_spent 50)
unfolding starter_registry
quota-row = refl

-- the quota may have been lowered below what was drawn
lowered-row : submission_refusal 1 (record free { today = 2 }) right ≡ Some (quota_spent 1)
lowered-row = refl

taken-row : refused starter_registry (record free { taken = true }) right 1 ≡ Some receipt_taken
unfolding starter_registry
taken-row = refl

free-row : refused starter_registry free right 1 ≡ None
unfolding starter_registry
free-row = refl

-- the view of a context asks the same of it
abbrev asked : Registry → ℕ → Option Told
asked g c = refusal_alone g free right (effect_of (at 0) g None presented.None [] (commands.ContextOf 1 c))

absent-view-row : asked starter_registry 9 ≡ Some not_found
unfolding starter_registry
absent-view-row = refl

shut-view-row : asked shut 1 ≡ Some not_found
unfolding starter_registry
shut-view-row = refl

open-view-row : asked starter_registry 1 ≡ None
unfolding starter_registry
open-view-row = refl

-- ---- the numbers of a day

abbrev turn : ℕ → What → Past Opened → Past Opened
turn s what past = Turn (record { moment = after s; words = record { 0 = 0 ∷ 0 ∷ 0 ∷ s ∷ [] }; what = what }) past

abbrev submits : What
submits = Did (record { command = commands.Submit 1 1 []; session = presented.None; close = false }) None

-- a submission, and in its place a draw for no report
abbrev begun : Past Opened
begun = turn 0 submits start

abbrev gapped : Past Opened
gapped = turn 0 (Gap 1) start

last-row : last begun ≡ 1
unfolding starter_registry
last-row = refl

today-row : drawn begun (day begun (after 86_399)) ≡ 1
unfolding starter_registry
today-row = refl

tomorrow-row : drawn begun (day begun (after 86_400)) ≡ 0
unfolding starter_registry
tomorrow-row = refl

gap-row : numbering gapped ≡ numbering begun
unfolding starter_registry
gap-row = refl

-- a second one on the next day
next-row : numbering (turn 86_400 submits begun) ≡ record { at = after 86_400; drawn = 1; last = 2 }
unfolding starter_registry
next-row = refl

next-gap-row : numbering (turn 86_400 submits gapped) ≡ record { at = after 86_400; drawn = 1; last = 2 }
unfolding starter_registry
next-gap-row = refl
