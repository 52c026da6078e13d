-- Acts, each computed from a past: what refuses it, and what it leaves.
use Rattle.wb_base.specs.Calendars.{plain}
use Rattle.std.proofs.Common.{◌≡◌, false, [], ◌∷◌, Some, None, refl, pos}
use Rattle.std.specs.Prelude.{codes}
use Rattle.wb_base.specs.Terms as terms
use Rattle.wb_base.specs.declared.callers.Role.TheVariants as roles
use Rattle.wb_model.specs.declared.act.CaseFault.TheVariants as cases
use Rattle.wb_model.specs.declared.act.Was.TheVariants as was
use Rattle.wb_model.specs.declared.command.Command.TheVariants as commands
use Rattle.wb_model.specs.declared.entry.Status.TheVariants as statuses
use Rattle.wb_model.specs.Refusals.{not_found}
use Rattle.wb_model.specs.Faults.{case_told}
use Rattle.wb_model.specs.Trails.{expires, feedback_due}
use Rattle.wb_model.specs.Tables.{TheReporter}
use Rattle.wb_model.specs.Requests.{Unchecked}
use Rattle.wb_model.specs.OnReports.{refusal_on}
use Rattle.wb_model.proofs.Starter.{starter_registry}
use Rattle.wb_model.specs.Past.{Past, registry, trail, case_of}
use Rattle.wb_model.specs.Opened.{Opened}
use Rattle.wb_model.proofs.RowPasts.{opened, did, at, does, refusal}

-- ---- acts

abbrev pub acknowledged : Past Opened
acknowledged = did 50 1 (commands.Acknowledge 1 1) opened

pub acknowledged-row : refusal acknowledged 60 1 (commands.Acknowledge 1 1) ≡ Some (case_told (cases.Already (was.Day (pos 20_089))))
unfolding starter_registry
acknowledged-row = refl

pub feedback-row : feedback_due (trail acknowledged 1) ≡ terms.feedback_due (pos 20_089) (Some (pos 20_089)) false plain
unfolding starter_registry
feedback-row = refl

abbrev pub shared : Past Opened
shared = did 60 1 (commands.Share 1 1 2) opened

pub shared-row : refusal shared 70 1 (commands.Share 1 1 2) ≡ Some (case_told (cases.Already (was.User 2)))
unfolding starter_registry
shared-row = refl

pub custodian-row : refusal shared 70 1 (commands.Share 1 1 3) ≡ Some not_found
unfolding starter_registry
custodian-row = refl

abbrev pub closed : Past Opened
closed = did 70 1 (commands.SetStatus 1 1 statuses.Closed) shared

pub closed-row : refusal closed 80 1 (commands.Comment 1 1 (codes "x") false) ≡ Some (case_told cases.Closed)
unfolding starter_registry
closed-row = refl

pub last-row : refusal (did 90 1 (commands.Unshare 1 1 2) closed) 100 1 (commands.Unshare 1 1 1) ≡ Some (case_told cases.LastReader)
unfolding starter_registry
last-row = refl

-- ---- a postponement

pub postponed-row : expires (trail (did 691_200 1 (commands.Postpone 1 1) opened) 1) ≡ pos 20_127
unfolding starter_registry
postponed-row = refl

-- ---- each refusal of an act

twice-closed-row : refusal closed 80 1 (commands.SetStatus 1 1 statuses.Closed) ≡ Some (case_told (cases.Already (was.Status statuses.Closed)))
unfolding starter_registry
twice-closed-row = refl

closed-first-row : refusal closed 80 1 (commands.Acknowledge 1 1) ≡ Some (case_told cases.Closed)
unfolding starter_registry
closed-first-row = refl

closed-feedback-row : refusal closed 80 1 (commands.Feedback 1 1 (codes "x")) ≡ Some (case_told cases.Closed)
unfolding starter_registry
closed-feedback-row = refl

closed-label-row : refusal closed 80 1 (commands.Label 1 1 (codes "x")) ≡ None
unfolding starter_registry
closed-label-row = refl

closed-transfer-row : refusal closed 80 1 (commands.Transfer 1 1 1) ≡ Some (case_told cases.Closed)
unfolding starter_registry
closed-transfer-row = refl

closed-postponed-row : refusal closed 80 1 (commands.Postpone 1 1) ≡ None
unfolding starter_registry
closed-postponed-row = refl

same-context-row : refusal opened 10 1 (commands.Transfer 1 1 1) ≡ Some (case_told cases.SameContext)
unfolding starter_registry
same-context-row = refl

no-context-row : refusal opened 10 1 (commands.Transfer 1 1 9) ≡ Some not_found
unfolding starter_registry
no-context-row = refl

-- context 2 is closed
abbrev shut : Past Opened
shut = did 5 4 (commands.SetContext 1 2 (record { name = codes "Safety"; form = 1; is_open = false; recipients = 2 ∷ []; retention = 10 })) opened

context-closed-row : refusal shut 10 1 (commands.Transfer 1 1 2) ≡ Some (case_told cases.ContextClosed)
unfolding starter_registry
context-closed-row = refl

not-reader-row : refusal opened 10 1 (commands.Unshare 1 1 2) ≡ Some (case_told cases.NotReader)
unfolding starter_registry
not-reader-row = refl

abbrev postponed : Past Opened → Past Opened
postponed past = did 10 1 (commands.Postpone 1 1) past

nine-postponed-row : refusal (postponed (postponed (postponed (postponed (postponed (postponed (postponed (postponed (postponed opened))))))))) 10 1 (commands.Postpone 1 1) ≡ None
unfolding starter_registry
nine-postponed-row = refl

ten-postponed-row : refusal (postponed (postponed (postponed (postponed (postponed (postponed (postponed (postponed (postponed (postponed opened)))))))))) 10 1 (commands.Postpone 1 1) ≡ Some (case_told cases.PostponeSpent)
unfolding starter_registry
ten-postponed-row = refl

-- the reporter's identity and comment on a closed report
closed-identity-row : refusal_on (at 80) (registry closed) (TheReporter 1) (case_of closed 1) Unchecked (does closed 80 (TheReporter 1) (commands.GiveIdentity 1 [])) ≡ Some (case_told cases.Closed)
unfolding starter_registry
closed-identity-row = refl

closed-comment-row : refusal_on (at 80) (registry closed) (TheReporter 1) (case_of closed 1) Unchecked (does closed 80 (TheReporter 1) (commands.OwnComment 1 (codes "x"))) ≡ Some (case_told cases.Closed)
unfolding starter_registry
closed-comment-row = refl

-- what is not there comes before what refuses: a context to which a closed report would go, and a reader who was disabled since
absent-first-row : refusal closed 80 1 (commands.Transfer 1 1 9) ≡ Some not_found
unfolding starter_registry
absent-first-row = refl

abbrev disabled : Past Opened
disabled = did 65 4 (commands.SetUser 1 2 (record { name = codes "ben"; role = roles.Recipient; enabled = false; may = record { delete = false; postpone = false; share = false; transfer = false }; password = None })) shared

disabled-first-row : refusal disabled 70 1 (commands.Share 1 1 2) ≡ Some not_found
unfolding starter_registry
disabled-first-row = refl
