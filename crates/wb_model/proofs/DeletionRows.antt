-- Deletion, computed from pasts: what goes with a report, and what stays.
use Rattle.std.proofs.Common.{◌≡◌, true, false, [], ◌∷◌, Some, None, refl, pos}
use Rattle.std.specs.Prelude.{map, length}
use Rattle.wb_base.specs.declared.callers.Presented.TheVariants as presented
use Rattle.wb_base.specs.declared.callers.Principal.TheVariants as principals
use Rattle.wb_model.specs.declared.command.Command.TheVariants as commands
use Rattle.wb_model.specs.declared.event.What.TheVariants.{Did}
use Rattle.wb_base.specs.declared.callers.Role.TheVariants as roles
use Rattle.wb_model.specs.Commands.{Names, To_delete, need}
use Rattle.wb_model.specs.Targets.{Nobody, who_target}
use Rattle.wb_model.specs.Refusals.{wrong_right}
use Rattle.wb_model.specs.Tables.{Session, TheUser}
use Rattle.wb_model.specs.Changes.{Says}
use Rattle.wb_model.specs.Json.{told}
use Rattle.wb_model.specs.ShortViews.{done_view}
use Rattle.wb_model.proofs.Starter.{starter_registry}
use Rattle.wb_model.specs.Past.{Past, Turn, last, drawn, live, trail, plain, tables, standing_sessions}
use Rattle.wb_model.specs.Opened.{Opened}
use Rattle.wb_model.proofs.RowPasts.{opened, after, did, refusal, answer}

-- a reader deletes the report; a second request finds it no more
abbrev deleted : Past Opened
deleted = did 50 1 (commands.Delete 1 1) opened

free-row : refusal opened 50 1 (commands.Delete 1 1) ≡ None
free-row = refl

done-row : answer opened 50 1 (commands.Delete 1 1) ≡ Says (told 200 done_view)
unfolding starter_registry
done-row = refl

before-row : live opened 1 (after 50) ≡ true
unfolding starter_registry
before-row = refl

gone-row : live deleted 1 (after 50) ≡ false
unfolding starter_registry
gone-row = refl

-- it stays gone, whatever a list of events has afterwards
stays-row : live (did 60 1 (commands.Postpone 1 1) deleted) 1 (after 60) ≡ false
unfolding starter_registry
stays-row = refl

-- trail and identity answers are in no table, and the deletion is no entry
cases-row : (tables deleted (after 50)).plain.cases ≡ []
unfolding starter_registry
cases-row = refl

sealed-row : (tables deleted (after 50)).sealed 1 ≡ None
unfolding starter_registry
sealed-row = refl

entries-row : length (trail deleted 1) ≡ 1
unfolding starter_registry
entries-row = refl

-- its number and the day's draws stay
number-row : last deleted ≡ 1
unfolding starter_registry
number-row = refl

draws-row : drawn deleted (pos 20_089) ≡ 1
unfolding starter_registry
draws-row = refl

-- its reporter's session ends, and the reader's stays
abbrev both_in : Past Opened
both_in = Turn (record { moment = after 10; words = record { 0 = 0 ∷ 0 ∷ 0 ∷ 0 ∷ [] }; what = Did (record { command = commands.ReceiptLogin 1 []; session = presented.None; close = false }) (Some (principals.Report 1 1)) }) (did 5 1 (commands.Login 1 [] []) opened)

in-row : map (λ (s : Session). s.turn) (standing_sessions both_in (after 50)) ≡ 1 ∷ 2 ∷ []
unfolding starter_registry
in-row = refl

out-row : map (λ (s : Session). s.turn) (standing_sessions (did 50 1 (commands.Delete 1 1) both_in) (after 50)) ≡ 1 ∷ []
unfolding starter_registry
out-row = refl

-- it needs the right to delete, which the starter tenant's users do not have
right-row : need (commands.Delete 1 1) ≡ Names roles.Recipient To_delete 1
right-row = refl

refused-row : who_target (plain opened (after 50)) roles.Recipient (need (commands.Delete 1 1)) (TheUser 1) ≡ Nobody wrong_right
unfolding starter_registry
refused-row = refl
