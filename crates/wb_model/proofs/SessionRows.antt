-- Sessions, computed from pasts.
use Rattle.std.proofs.Common.{◌≡◌, ℕ, true, false, List, [], ◌∷◌, Some, None, refl}
use Rattle.std.specs.Prelude.{map, codes}
use Rattle.wb_base.specs.declared.callers.Presented.{Presented}
use Rattle.wb_base.specs.declared.callers.Presented.TheVariants as presented
use Rattle.wb_base.specs.declared.callers.Principal.TheVariants as principals
use Rattle.wb_base.specs.declared.callers.Role.TheVariants as roles
use Rattle.wb_model.specs.declared.command.Command.{Command}
use Rattle.wb_model.specs.declared.command.Command.TheVariants as commands
use Rattle.wb_model.specs.declared.event.Event.{Event}
use Rattle.wb_model.specs.declared.event.What.TheVariants.{Did}
use Rattle.wb_model.proofs.Starter.{starter_registry, starter_tables, starter_opened}
use Rattle.wb_model.specs.Tables.{Session, disablings}
use Rattle.wb_model.specs.Past.{Past, Opening, Turn, registry, standing_sessions}
use Rattle.wb_model.specs.Opened.{Opened}

-- the starter tenant
abbrev pub start : Past Opened
unfolding starter_registry
start = Opening (record { at = 0; tables = starter_tables; sound = starter_opened })

abbrev did : ℕ → ℕ → Presented → Command → Event
did moment u shown command = record { moment = moment; words = record { 0 = 0 ∷ 0 ∷ 0 ∷ 0 ∷ [] }; what = Did (record { command = command; session = shown; close = false }) (Some (principals.User 1 u)) }

abbrev enters : ℕ → ℕ → Event
enters moment u = did moment u presented.None (commands.Login 1 [] [])

abbrev turns_at : Past Opened → ℕ → List ℕ
turns_at past moment = map (λ (s : Session). s.turn) (standing_sessions past moment)

-- two logins, and a logout of the first
abbrev two_in : Past Opened
two_in = Turn (enters 0 4) (Turn (enters 0 1) start)

abbrev one_out : Past Opened
one_out = Turn (did 0 1 (presented.Token 1 []) (commands.Logout 1)) two_in

logout-row : turns_at one_out 0 ≡ 2 ∷ []
unfolding starter_registry
logout-row = refl

lasting-row : turns_at two_in 14_399 ≡ 1 ∷ 2 ∷ []
unfolding starter_registry
lasting-row = refl

over-row : turns_at two_in 14_400 ≡ []
unfolding starter_registry
over-row = refl

-- user 1 is disabled and enabled again
abbrev disabled : Past Opened
disabled = Turn (did 10 4 (presented.Token 2 []) (commands.SetUser 1 1 (record { name = codes "ada"; role = roles.Recipient; enabled = false; may = record { delete = false; postpone = true; share = true; transfer = true }; password = None }))) two_in

abbrev enabled : Past Opened
enabled = Turn (did 20 4 (presented.Token 2 []) (commands.SetUser 1 1 (record { name = codes "ada"; role = roles.Recipient; enabled = true; may = record { delete = false; postpone = true; share = true; transfer = true }; password = None }))) disabled

disabled-row : turns_at disabled 10 ≡ 2 ∷ []
unfolding starter_registry
disabled-row = refl

enabled-row : turns_at (Turn (enters 30 1) enabled) 30 ≡ 2 ∷ 5 ∷ []
unfolding starter_registry
enabled-row = refl

count-row : disablings 1 (registry enabled).users ≡ 1
unfolding starter_registry
count-row = refl

-- nine logins of one user
abbrev nine_in : Past Opened
nine_in = Turn (enters 0 4) (Turn (enters 0 4) (Turn (enters 0 4) (Turn (enters 0 4) (Turn (enters 0 4) (Turn (enters 0 4) (Turn (enters 0 4) (Turn (enters 0 4) (Turn (enters 0 4) start))))))))

nine-row : turns_at nine_in 0 ≡ 2 ∷ 3 ∷ 4 ∷ 5 ∷ 6 ∷ 7 ∷ 8 ∷ 9 ∷ []
unfolding starter_registry
nine-row = refl

nine-lasting-row : turns_at nine_in 14_399 ≡ 2 ∷ 3 ∷ 4 ∷ 5 ∷ 6 ∷ 7 ∷ 8 ∷ 9 ∷ []
unfolding starter_registry
nine-lasting-row = refl

nine-over-row : turns_at nine_in 14_400 ≡ []
unfolding starter_registry
nine-over-row = refl

-- a password ends the sessions of its user, and of no other
password-row : turns_at (Turn (did 10 4 (presented.Token 2 []) (commands.SetUser 1 1 (record { name = codes "ada"; role = roles.Recipient; enabled = true; may = record { delete = false; postpone = true; share = true; transfer = true }; password = Some (codes "new") }))) two_in) 10 ≡ 2 ∷ []
unfolding starter_registry
password-row = refl

-- a logout ends no other session, not even of its caller's
logout-own-row : turns_at (Turn (did 5 1 (presented.Token 3 []) (commands.Logout 1)) (Turn (enters 0 1) two_in)) 5 ≡ 1 ∷ 2 ∷ []
unfolding starter_registry
logout-own-row = refl
