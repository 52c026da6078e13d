-- Requests for an identity, computed from pasts: what refuses each move, and who reads the identity then.
use Rattle.std.proofs.Common.{◌≡◌, ℕ, true, false, [], ◌∷◌, Some, None, refl}
use Rattle.std.specs.Prelude.{replicate, codes}
use Rattle.wb_base.specs.declared.callers.Role.TheVariants as roles
use Rattle.wb_model.specs.declared.access.State.TheVariants as states
use Rattle.wb_model.specs.declared.act.CustodyFault.TheVariants as custody
use Rattle.wb_model.specs.declared.command.Command.TheVariants as commands
use Rattle.wb_model.specs.declared.command.Decision.TheVariants as decisions
use Rattle.wb_model.specs.Json.{told}
use Rattle.wb_model.specs.Refusals.{not_found}
use Rattle.wb_model.specs.Faults.{custody_told}
use Rattle.wb_model.specs.ShortViews.{request_view}
use Rattle.wb_model.specs.Trails.{dialogue, readers}
use Rattle.wb_model.specs.declared.access.AccessRequest.{AccessRequest}
use Rattle.wb_model.specs.declared.act.Move.TheVariants as moves
use Rattle.wb_model.specs.Moves.{custody_fault}
use Rattle.wb_model.specs.Acts.{is_full}
use Rattle.wb_model.specs.Targets.{finds}
use Rattle.wb_model.specs.Changes.{Says}
use Rattle.wb_model.proofs.Starter.{starter_registry}
use Rattle.wb_model.specs.Past.{Past, trail}
use Rattle.wb_model.specs.Opened.{Opened}
use Rattle.wb_model.proofs.RowPasts.{opened_case, opened, did, refusal, answer, ask, read, decide}

-- ---- asked, pending, granted with seven days of notice

abbrev asked : Past Opened
asked = did 50 1 ask opened

ask-row : answer opened 50 1 ask ≡ Says (told 201 (request_view 1))
unfolding starter_registry
ask-row = refl

pending-row : refusal asked 60 1 ask ≡ Some (custody_told (custody.Pending 1))
unfolding starter_registry
pending-row = refl

waiting-row : refusal asked 60 1 read ≡ Some not_found
unfolding starter_registry
waiting-row = refl

abbrev granted : Past Opened
granted = did 100 3 (decide decisions.Grant 1 None) asked

early-row : refusal granted 604_899 1 read ≡ Some not_found
unfolding starter_registry
early-row = refl

effective-row : refusal granted 604_900 1 read ≡ None
unfolding starter_registry
effective-row = refl

decided-row : refusal granted 110 3 (decide decisions.Deny 1 None) ≡ Some (custody_told (custody.Decided states.Granted))
unfolding starter_registry
decided-row = refl

none-row : refusal granted 110 3 (decide decisions.Grant 2 None) ≡ Some not_found
unfolding starter_registry
none-row = refl

-- ---- granted at once, with no notice; then transferred

abbrev withheld : Past Opened
withheld = did 100 3 (decide decisions.Grant 1 (Some (codes "Ongoing search"))) asked

at-once-row : refusal withheld 110 1 read ≡ None
unfolding starter_registry
at-once-row = refl

abbrev transferred : Past Opened
transferred = did 110 1 (commands.Transfer 1 1 2) withheld

transfer-row : refusal withheld 110 1 (commands.Transfer 1 1 2) ≡ None
unfolding starter_registry
transfer-row = refl

moved-row : readers (trail transferred 1) ≡ 2 ∷ []
unfolding starter_registry
moved-row = refl

transferred-row : refusal transferred 110 1 read ≡ Some not_found
unfolding starter_registry
transferred-row = refl

no-notice-row : dialogue (trail transferred 1) ≡ []
unfolding starter_registry
no-notice-row = refl

-- ---- revoked, and asked again

abbrev revoked : Past Opened
revoked = did 120 3 (decide decisions.Revoke 1 None) withheld

revoked-row : refusal revoked 120 1 read ≡ Some not_found
unfolding starter_registry
revoked-row = refl

again-row : answer revoked 130 1 ask ≡ Says (told 201 (request_view 2))
unfolding starter_registry
again-row = refl

not-granted-row : refusal revoked 140 3 (decide decisions.Revoke 1 None) ≡ Some (custody_told (custody.NotGranted states.Revoked))
unfolding starter_registry
not-granted-row = refl

-- ---- a disabling ends requests, though the user is enabled again; so does the removal of a reader

abbrev set_ada : ℕ → Past Opened → Past Opened
set_ada s past = did s 4 (commands.SetUser 1 1 (record { name = codes "ada"; role = roles.Recipient; enabled = true; may = record { delete = false; postpone = true; share = true; transfer = true }; password = None })) past

abbrev disable_ada : ℕ → Past Opened → Past Opened
disable_ada s past = did s 4 (commands.SetUser 1 1 (record { name = codes "ada"; role = roles.Recipient; enabled = false; may = record { delete = false; postpone = true; share = true; transfer = true }; password = None })) past

disabled-row : refusal (set_ada 300 (disable_ada 200 withheld)) 310 1 read ≡ Some not_found
unfolding starter_registry
disabled-row = refl

ended-row : refusal (set_ada 300 (disable_ada 200 withheld)) 310 3 (decide decisions.Revoke 1 None) ≡ Some (custody_told (custody.NotGranted states.Ended))
unfolding starter_registry
ended-row = refl

abbrev removed : Past Opened
removed = did 220 2 (commands.Share 1 1 1) (did 210 1 (commands.Unshare 1 1 1) (did 200 1 (commands.Share 1 1 2) withheld))

removed-row : refusal removed 230 1 read ≡ Some not_found
unfolding starter_registry
removed-row = refl

-- ---- rules that no law looks at

-- an ask of a user who was disabled since does not wait
asks-anew-row : refusal (set_ada 300 (disable_ada 200 asked)) 310 1 ask ≡ None
unfolding starter_registry
asks-anew-row = refl

-- a disabled recipient is not made a reader
abbrev disable_ben : Past Opened → Past Opened
disable_ben past = did 20 4 (commands.SetUser 1 2 (record { name = codes "ben"; role = roles.Recipient; enabled = false; may = record { delete = false; postpone = false; share = false; transfer = false }; password = None })) past

disabled-reader-row : refusal (disable_ben opened) 70 1 (commands.Share 1 1 2) ≡ Some not_found
unfolding starter_registry
disabled-reader-row = refl

-- a custodian finds a report that it does not read, and a recipient does not
custodian-finds-row : finds roles.Custodian 3 opened_case ≡ true
custodian-finds-row = refl

recipient-finds-row : finds roles.Recipient 2 opened_case ≡ false
recipient-finds-row = refl

-- a trail takes 4,096 entries
room-row : is_full 4_095 ≡ false
room-row = refl

full-row : is_full 4_096 ≡ true
full-row = refl

-- ---- each refusal of a move, by the desk's requests

abbrev waiting : AccessRequest
waiting = record { by = 1; reason = codes "x"; stamp = 0; state = states.Waiting; effective = None }

abbrev denied : AccessRequest
denied = record { by = 1; reason = codes "x"; stamp = 0; state = states.Denied; effective = None }

no-identity-row : custody_fault 1 false (waiting ∷ []) 1 (moves.Ask (codes "x") 0) ≡ Some custody.NoIdentity
no-identity-row = refl

other-waits-row : custody_fault 1 true (denied ∷ waiting ∷ []) 2 (moves.Ask (codes "x") 0) ≡ None
other-waits-row = refl

second-waits-row : custody_fault 1 true (denied ∷ waiting ∷ []) 1 (moves.Ask (codes "x") 0) ≡ Some (custody.Pending 2)
second-waits-row = refl

desk-room-row : custody_fault 1 true (replicate 99 denied) 1 (moves.Ask (codes "x") 0) ≡ None
desk-room-row = refl

desk-full-row : custody_fault 4_096 true (replicate 100 denied) 1 (moves.Ask (codes "x") 0) ≡ Some custody.DeskFull
desk-full-row = refl

ask-full-row : custody_fault 4_096 true [] 1 (moves.Ask (codes "x") 0) ≡ Some custody.TrailFull
ask-full-row = refl

grant-full-row : custody_fault 4_096 true (waiting ∷ []) 3 (moves.Grant 1 0 7 (codes "x") None) ≡ Some custody.TrailFull
grant-full-row = refl

deny-full-row : custody_fault 4_096 true (waiting ∷ []) 3 (moves.Deny 1 0 (codes "x")) ≡ None
deny-full-row = refl

deny-denied-row : custody_fault 1 true (denied ∷ []) 3 (moves.Deny 1 0 (codes "x")) ≡ Some (custody.Decided states.Denied)
deny-denied-row = refl

revoke-waiting-row : custody_fault 1 true (waiting ∷ []) 3 (moves.Revoke 1 0 (codes "x")) ≡ Some (custody.NotGranted states.Waiting)
revoke-waiting-row = refl

none-there-row : custody_fault 1 true (waiting ∷ []) 3 (moves.Deny 2 0 (codes "x")) ≡ Some custody.NoSuchRequest
none-there-row = refl
