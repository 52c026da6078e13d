-- What a change makes of a tenant's tables.
use Rattle.std.specs.Prelude.{◌≡◌, ◌==◌, ℕ, true, List, [], ◌∷◌}
use Rattle.wb_model.specs.Changes.{Change}
use Rattle.wb_model.specs.Tables.{Plain, Session, Who, same_who}
use Rattle.wb_tables.specs.Logins.{who_seen}
use Rattle.wb_tables.specs.Receipted.{HasOwnReceipt}
use Rattle.wb_tables.specs.declared.tenancy.Tenancy.{Tenancy as KeptTenancy}
use Rattle.wb_commands.specs.declared.mutation.Mutation.{Mutation}
use Rattle.wb_commands.specs.declared.mutation.Mutation.TheVariants as planned
use Rattle.wb_commands.specs.Plans.{change_of}

-- each session that was made at this turn is of this caller
abbrev pub AreBy : ℕ → Who → List Session → Type 0
AreBy turn who [] = Unit {0}
AreBy turn who (s ∷ ss) = ((s.turn == turn) ≡ true → same_who s.who who ≡ true) × AreBy turn who ss

-- who logs out ends an own session, and a report that begins has a receipt of its own
abbrev pub IsOwnMutation : Plain → Mutation → Type 0
IsOwnMutation p (planned.LogsOut turn who) = AreBy turn (who_seen who) p.sessions
IsOwnMutation p (planned.Begins o) = HasOwnReceipt o.case.items p.cases
IsOwnMutation p _ = Unit {0}

-- what a plan changes of a tenant
abbrev pub planned_change : KeptTenancy → Mutation → Change
planned_change x c = change_of x.configuration.tenant x.configuration.registry c
