-- What a request that looks at something is shown.
use Rattle.std.specs.Prelude.{◌≡◌, ◌&&◌, ℕ, Option, Some, List, [], Bool, true, false, unwrap_or}
use Rattle.wb_model.specs.declared.body.Told.{Told}
use Rattle.wb_model.specs.declared.registry.ContextItem.{ContextItem}
use Rattle.wb_model.specs.declared.registry.FormItem.{FormItem}
use Rattle.wb_model.specs.Changes.{TurnContext}
use Rattle.wb_model.specs.Effects as effects
use Rattle.wb_model.specs.Effects.{Effect}
use Rattle.wb_model.specs.Commands.{Need, Anyone, Staff, effect_of, is_reading, kind_of, need}
use Rattle.wb_model.specs.Json.{told}
use Rattle.wb_model.specs.Refusals.{not_found}
use Rattle.wb_model.specs.Rules.{shown}
use Rattle.wb_model.specs.Tables.{Registry, Plain, Who, context, newest_form, TheUser, disablings as disablings_of}
use Rattle.wb_model.specs.TenantViews.{context_view}
use Rattle.wb_tables.specs.declared.tenancy.Report.{Report}
use Rattle.wb_tables.specs.declared.tenancy.Tenancy.{Tenancy as KeptTenancy}
use Rattle.wb_tables.specs.declared.turn_context.TurnContext.{TurnContext as KeptAt}
use Rattle.wb_model.specs.Requests.{outline}
use Rattle.wb_model.specs.Access.{in_force}
use Rattle.wb_model.specs.Views.{identity_view as identity_data}
use Rattle.wb_model.specs.declared.command.Command.{Command}
use Rattle.wb_base.specs.declared.callers.Presented.{Presented}
use Rattle.wb_custody.specs.SealedAnswers.{answers_of}
use Rattle.wb_custody.specs.declared.sealed.SealedItem.{SealedItem}
use Rattle.wb_tables.specs.Kept.{live_plain, plain_of}
use Rattle.wb_tables.specs.TurnContexts.{at_of}

-- a command asks no session
abbrev is_for_all : Need → Bool
is_for_all Anyone = true
is_for_all _ = false

-- a command is for users of a role, on no report
abbrev is_for_users : Need → Bool
is_for_users (Staff role) = true
is_for_users _ = false

-- anyone is shown something
abbrev pub is_shown_to_all : Command → Bool
is_shown_to_all command = is_reading (kind_of command) && is_for_all (need command)

-- a user is shown something that is no single report
abbrev pub is_shown_to_users : Command → Bool
is_shown_to_users command = is_reading (kind_of command) && is_for_users (need command)

-- the request looks at something, which may not be there
abbrev pub IsLook : Effect → Type 0
IsLook (effects.Looks view) = Unit {0}
IsLook effects.Misses = Unit {0}
IsLook _ = ⊥

-- what it is shown
abbrev pub seen : TurnContext → Plain → Option Who → Effect → Told
seen at p who (effects.Looks view) = shown at p who view
seen at p who _ = not_found

-- the reply shows the open context of an id with the newest version of its form
abbrev pub ShowsOpen : Registry → ℕ → Told → Type 0
ShowsOpen g c t = (x : ContextItem) (form : FormItem) → context c g.contexts ≡ Some x → newest_form x.form g.forms ≡ Some form → t ≡ told 200 (context_view x form)

-- what a user's request does, on no report
abbrev pub effect_for : KeptTenancy → KeptAt → ℕ → Presented → Command → Effect
effect_for x at user s command = effect_of (at_of at) x.configuration.registry (Some (TheUser user)) s [] (outline command)

-- what a user sees of a tenant's live tables
abbrev pub seen_by : KeptTenancy → KeptAt → ℕ → Effect → Told
seen_by x at user effect = seen (at_of at) (live_plain at.time (plain_of x)) (Some (TheUser user)) effect

-- a grant is in force of a user, to the identity answers of a report
abbrev pub is_granted : KeptTenancy → ℕ → ℕ → Report → Bool
is_granted x time user report = in_force user (disablings_of user x.configuration.registry.users) time report.case.items

-- the identity answers of a report, shown
abbrev pub identity_told : KeptTenancy → List SealedItem → Report → Told
identity_told x sealed report = told 200 (identity_data report.number (unwrap_or (answers_of sealed x.configuration.tenant report.number) []))
