-- Callers, computed: the session, then the role, then the right, then the thing.
use Rattle.std.proofs.Common.{◌≡◌, true, false, [], ◌∷◌, Some, None, refl}
use Rattle.std.specs.Prelude.{codes}
use Rattle.wb_base.specs.declared.callers.Presented.TheVariants as presented
use Rattle.wb_base.specs.declared.callers.Role.TheVariants as roles
use Rattle.wb_model.specs.declared.command.Command.TheVariants as commands
use Rattle.wb_model.specs.Refusals.{not_found, no_session, wrong_role, wrong_right, bad_login}
use Rattle.wb_model.specs.Tables.{Plain, TheUser, TheReporter}
use Rattle.wb_model.specs.Commands.{Own, Staff, Names, Free, To_share}
use Rattle.wb_model.specs.Targets.{Nobody, On, by_password, by_receipt, who_target, target}
use Rattle.wb_model.proofs.Starter.{starter_registry, starter_tables, starter_salt, starter_user}
use Rattle.wb_model.proofs.RowPasts.{opened_case}

-- the starter tenant with one report, which user 1 reads
abbrev one : Plain
one = record starter_tables.plain { cases = opened_case ∷ [] }

abbrev none : Plain
none = record starter_tables.plain { cases = [] }

no-session-row : target one presented.None (commands.ReadReport 1 1) ≡ Nobody no_session
unfolding starter_registry
no-session-row = refl

bad-session-row : target one presented.Bad (commands.Logout 1) ≡ Nobody no_session
unfolding starter_registry
bad-session-row = refl

-- a user who is not there any more has no session
gone-user-row : who_target one roles.Recipient (Staff roles.Recipient) (TheUser 9) ≡ Nobody no_session
unfolding starter_registry
gone-user-row = refl

-- an admin, and user 2, who has no rights and does not read the report
role-first-row : who_target none roles.Admin (Names roles.Recipient To_share 1) (TheUser 4) ≡ Nobody wrong_role
unfolding starter_registry
role-first-row = refl

right-next-row : who_target none roles.Recipient (Names roles.Recipient To_share 1) (TheUser 2) ≡ Nobody wrong_right
unfolding starter_registry
right-next-row = refl

others-row : who_target one roles.Recipient (Names roles.Recipient Free 1) (TheUser 2) ≡ Nobody not_found
unfolding starter_registry
others-row = refl

absent-row : who_target one roles.Recipient (Names roles.Recipient Free 99) (TheUser 2) ≡ Nobody not_found
unfolding starter_registry
absent-row = refl

reader-row : who_target one roles.Recipient (Names roles.Recipient To_share 1) (TheUser 1) ≡ On (TheUser 1) opened_case
unfolding starter_registry
reader-row = refl

custodian-row : who_target one roles.Custodian (Names roles.Custodian Free 1) (TheUser 3) ≡ On (TheUser 3) opened_case
unfolding starter_registry
custodian-row = refl

-- a user has no own report, a reporter no other's, and a reporter's session ends with the report
user-own-row : who_target one roles.Recipient Own (TheUser 1) ≡ Nobody wrong_role
unfolding starter_registry
user-own-row = refl

reporter-other-row : who_target one roles.Reporter (Names roles.Recipient Free 1) (TheReporter 1) ≡ Nobody wrong_role
unfolding starter_registry
reporter-other-row = refl

reporter-gone-row : who_target none roles.Reporter Own (TheReporter 1) ≡ Nobody no_session
unfolding starter_registry
reporter-gone-row = refl

reporter-row : who_target one roles.Reporter Own (TheReporter 1) ≡ On (TheReporter 1) opened_case
unfolding starter_registry
reporter-row = refl

-- a login of nobody, of a disabled user whatever the password is, and by a receipt that no live report has
nobody-row : by_password starter_salt (codes "p") None ≡ Nobody bad_login
nobody-row = refl

disabled-row : by_password starter_salt (codes "ada-pass") (Some (record (starter_user 1 (codes "ada") roles.Recipient (codes "ada-pass") true) { enabled = false })) ≡ Nobody bad_login
disabled-row = refl

no-receipt-row : by_receipt None ≡ Nobody bad_login
no-receipt-row = refl
