-- Acts and moves on a full trail, computed: what else refuses one comes first, and a removal of a reader passes.
use Rattle.std.proofs.Common.{◌≡◌, ℕ, true, false, List, [], ◌∷◌, ◌++◌, Option, Some, None, refl, pos}
use Rattle.std.specs.Prelude.{codes, replicate}
use Rattle.wb_base.specs.declared.callers.Presented.TheVariants as presented
use Rattle.wb_base.specs.declared.faults.AnswerFault.{AnswerFault}
use Rattle.wb_model.specs.declared.access.AccessRequest.{AccessRequest}
use Rattle.wb_model.specs.declared.access.State.TheVariants as states
use Rattle.wb_model.specs.declared.act.Act.TheVariants as acts
use Rattle.wb_model.specs.declared.act.CaseFault.TheVariants as cases
use Rattle.wb_model.specs.declared.act.CustodyFault.TheVariants as custody
use Rattle.wb_model.specs.declared.act.Move.TheVariants as moves
use Rattle.wb_model.specs.declared.act.Was.TheVariants as was
use Rattle.wb_model.specs.declared.body.Told.{Told}
use Rattle.wb_model.specs.declared.command.Command.TheVariants as commands
use Rattle.wb_model.specs.declared.entry.Actor.TheVariants as actors
use Rattle.wb_model.specs.declared.entry.Deed.{Deed}
use Rattle.wb_model.specs.declared.entry.Deed.TheVariants as deeds
use Rattle.wb_model.specs.declared.entry.Entry.{Entry}
use Rattle.wb_model.specs.declared.entry.Status.TheVariants as statuses
use Rattle.wb_model.specs.Refusals.{not_found, faulty}
use Rattle.wb_model.specs.Faults.{case_told}
use Rattle.wb_model.specs.Tables.{Registry, TheReporter}
use Rattle.wb_model.specs.Requests.{Outcome, Unchecked, Checked}
use Rattle.wb_model.specs.Acts.{case_fault}
use Rattle.wb_model.specs.Moves.{custody_fault}
use Rattle.wb_model.specs.Commands.{effect_of}
use Rattle.wb_model.specs.OnReports.{refusal_on}
use Rattle.wb_model.proofs.Starter.{starter_registry}
use Rattle.wb_model.proofs.RowPasts.{after, at, opened_case}

-- ---- trails

abbrev by_ada : Deed → Entry
by_ada deed = record { at = after 0; by = actors.User 1; deed = deed }

-- a report on which this was done, and then a label set so often
abbrev labelled : List Deed → ℕ → List Entry
labelled done times = opened_case.trail ++ begun done
  where
    begun : List Deed → List Entry
    begun [] = replicate times (by_ada (deeds.Label (codes "x")))
    begun (deed ∷ rest) = by_ada deed ∷ begun rest

-- 4,096 entries, and 4,095
abbrev full : List Entry
full = labelled [] 4_095

abbrev nearly : List Entry
nearly = labelled [] 4_094

room-row : case_fault nearly (acts.Label (codes "y")) ≡ None
room-row = refl

label-row : case_fault full (acts.Label (codes "y")) ≡ Some cases.TrailFull
label-row = refl

comment-row : case_fault full (acts.Comment false (codes "y")) ≡ Some cases.TrailFull
comment-row = refl

status-row : case_fault full (acts.SetStatus statuses.Opened) ≡ Some cases.TrailFull
status-row = refl

acknowledge-row : case_fault full (acts.Acknowledge (pos 20_089)) ≡ Some cases.TrailFull
acknowledge-row = refl

feedback-row : case_fault full (acts.Feedback (codes "y")) ≡ Some cases.TrailFull
feedback-row = refl

share-row : case_fault full (acts.Share 2) ≡ Some cases.TrailFull
share-row = refl

transfer-row : case_fault full (acts.Transfer 2 true (2 ∷ [])) ≡ Some cases.TrailFull
transfer-row = refl

postpone-row : case_fault full (acts.Postpone (pos 20_089) 30) ≡ Some cases.TrailFull
postpone-row = refl

identity-row : case_fault full acts.Identity ≡ Some cases.TrailFull
identity-row = refl

-- ---- what comes before a full trail

-- on a full trail that begins with these deeds
abbrev full_with : Deed → List Entry
full_with deed = labelled (deed ∷ []) 4_094

abbrev closed : List Entry
closed = full_with (deeds.SetStatus statuses.Closed)

abbrev acknowledged : List Entry
acknowledged = full_with (deeds.Acknowledged (pos 20_090) (pos 20_186))

abbrev shared : List Entry
shared = full_with (deeds.Shared 2)

-- a removal passes, unless the user is no reader or the last one
removal-row : case_fault shared (acts.Unshare 2) ≡ None
removal-row = refl

no-reader-row : case_fault full (acts.Unshare 2) ≡ Some cases.NotReader
no-reader-row = refl

last-reader-row : case_fault full (acts.Unshare 1) ≡ Some cases.LastReader
last-reader-row = refl

closed-comment-row : case_fault closed (acts.Comment false (codes "y")) ≡ Some cases.Closed
closed-comment-row = refl

closed-feedback-row : case_fault closed (acts.Feedback (codes "y")) ≡ Some cases.Closed
closed-feedback-row = refl

closed-identity-row : case_fault closed acts.Identity ≡ Some cases.Closed
closed-identity-row = refl

closed-status-row : case_fault closed (acts.SetStatus statuses.Closed) ≡ Some (cases.Already (was.Status statuses.Closed))
closed-status-row = refl

reopened-row : case_fault closed (acts.SetStatus statuses.Opened) ≡ Some cases.TrailFull
reopened-row = refl

acknowledged-row : case_fault acknowledged (acts.Acknowledge (pos 20_091)) ≡ Some (cases.Already (was.Day (pos 20_090)))
acknowledged-row = refl

-- an acknowledged and closed report is closed first
closed-first-row : case_fault (labelled (deeds.Acknowledged (pos 20_090) (pos 20_186) ∷ deeds.SetStatus statuses.Closed ∷ []) 4_093) (acts.Acknowledge (pos 20_091)) ≡ Some cases.Closed
closed-first-row = refl

shared-row : case_fault shared (acts.Share 2) ≡ Some (cases.Already (was.User 2))
shared-row = refl

-- a transfer: a closed report, then its own context, then a closed context
closed-transfer-row : case_fault closed (acts.Transfer 1 false (1 ∷ [])) ≡ Some cases.Closed
closed-transfer-row = refl

same-context-row : case_fault full (acts.Transfer 1 false (1 ∷ [])) ≡ Some cases.SameContext
same-context-row = refl

context-closed-row : case_fault full (acts.Transfer 2 false (2 ∷ [])) ≡ Some cases.ContextClosed
context-closed-row = refl

ten_times : List Deed
ten_times = replicate 10 (deeds.Postponed (pos 20_119))

spent-row : case_fault (labelled ten_times 4_085) (acts.Postpone (pos 20_089) 30) ≡ Some cases.PostponeSpent
unfolding ten_times
spent-row = refl

-- ---- an identity: its form, then its answers, then the report

abbrev fault : AnswerFault
fault = record { code = 2; field = codes "name" }

abbrev identity_refused : Registry → List Entry → Outcome → Option Told
identity_refused g trail o =
    refusal_on (at 0) g (TheReporter 1) (record { number = 1; trail = trail }) o (effect_of (at 0) g (Some (TheReporter 1)) presented.None trail (commands.GiveIdentity 1 []))

no-form-row : identity_refused (record starter_registry { forms = [] }) closed Unchecked ≡ Some not_found
unfolding starter_registry
no-form-row = refl

wrong-first-row : identity_refused starter_registry closed (Checked (Some fault) [] true) ≡ Some (faulty fault)
unfolding starter_registry
wrong-first-row = refl

then-closed-row : identity_refused starter_registry closed (Checked None [] true) ≡ Some (case_told cases.Closed)
unfolding starter_registry
then-closed-row = refl

then-full-row : identity_refused starter_registry full (Checked None [] true) ≡ Some (case_told cases.TrailFull)
unfolding starter_registry
then-full-row = refl

given-row : identity_refused starter_registry nearly (Checked None [] true) ≡ None
unfolding starter_registry
given-row = refl

-- ---- moves, by the desk's requests

abbrev asked : ℕ → AccessRequest
asked user = record { by = user; reason = codes "x"; stamp = 0; state = states.Waiting; effective = None }

abbrev denied : AccessRequest
denied = record { by = 1; reason = codes "x"; stamp = 0; state = states.Denied; effective = None }

-- an ask: no identity, then one that waits, then the hundred, then the trail
no-identity-row : custody_fault 4_096 false (asked 1 ∷ replicate 99 denied) 1 (moves.Ask (codes "x") 0) ≡ Some custody.NoIdentity
no-identity-row = refl

pending-row : custody_fault 4_096 true (asked 1 ∷ replicate 99 denied) 1 (moves.Ask (codes "x") 0) ≡ Some (custody.Pending 1)
pending-row = refl

hundred-row : custody_fault 4_096 true (asked 2 ∷ replicate 99 denied) 1 (moves.Ask (codes "x") 0) ≡ Some custody.DeskFull
hundred-row = refl

ask-row : custody_fault 4_095 true [] 1 (moves.Ask (codes "x") 0) ≡ None
ask-row = refl

-- a decision: what was decided comes before the trail, and a denial and a revocation pass
decided-row : custody_fault 4_096 true (denied ∷ []) 3 (moves.Grant 1 0 7 (codes "x") None) ≡ Some (custody.Decided states.Denied)
decided-row = refl

no-request-row : custody_fault 4_096 true [] 3 (moves.Grant 1 0 7 (codes "x") None) ≡ Some custody.NoSuchRequest
no-request-row = refl

revoked-row : custody_fault 4_096 true (record { by = 1; reason = codes "x"; stamp = 0; state = states.Granted; effective = Some 0 } ∷ []) 3 (moves.Revoke 1 0 (codes "x")) ≡ None
revoked-row = refl
