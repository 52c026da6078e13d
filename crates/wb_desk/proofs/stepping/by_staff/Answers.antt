use Rattle.std.proofs.Common.{refl, sym, ap, ◌∙◌}
use Rattle.std.proofs.lemmas.Result.{IfOk-weaker}
use Rattle.wb_model.specs.declared.command.Command.TheVariants as commands
use Rattle.wb_model.specs.Commands.{tenant_of}
use Rattle.wb_model.specs.Effects.{Sets}
use Rattle.wb_model.specs.Settings.{ToTenant, ToUser, ToContext}
use Rattle.wb_tables.specs.TurnContexts.{at_of}
use Rattle.wb_commands.specs.Plans.{tables_at}
use Rattle.wb_desk.proofs.Families.{proposed_fit, proposed_step}
use Rattle.wb_desk.proofs.stepping.by_staff.Goals as goal

pub returns-in-SetSettings-clause-step : goal.returns-in-SetSettings-clause-step
returns-in-SetSettings-clause-step c =
    IfOk-weaker c.set_settings.result _ _
    (λ step h sealed. proposed_step c.args.tenancy.now.configuration.tenant (tables_at c.args.at.now.time c.args.tenancy.now sealed) (at_of c.args.at.now) c.args.asked.now c.args.user (commands.SetSettings c.in-SetSettings.t c.in-SetSettings.next) (ToTenant c.in-SetSettings.next) step c.in-SetSettings.is refl
    (ap (λ n. Sets n (ToTenant c.in-SetSettings.next)) (sym (c.requires.may_plan.named ∙ ap tenant_of c.in-SetSettings.is))) (h c.args.tenancy.now.configuration.registry)) c.set_settings.ensures

pub returns-in-SetSettings-clause-fit : goal.returns-in-SetSettings-clause-fit
returns-in-SetSettings-clause-fit c = IfOk-weaker c.set_settings.result _ _ (λ step h. proposed_fit c.args.at.now.time c.args.tenancy.now c.args.tenancy.now.configuration.registry (ToTenant c.in-SetSettings.next) step (h c.args.tenancy.now.configuration.registry)) c.set_settings.ensures

pub returns-in-SetUser-clause-step : goal.returns-in-SetUser-clause-step
returns-in-SetUser-clause-step c =
    IfOk-weaker c.set_user.result _ _
    (λ step h sealed. proposed_step c.args.tenancy.now.configuration.tenant (tables_at c.args.at.now.time c.args.tenancy.now sealed) (at_of c.args.at.now) c.args.asked.now c.args.user (commands.SetUser c.in-SetUser.t c.in-SetUser.u c.in-SetUser.next) (ToUser c.in-SetUser.u c.in-SetUser.next) step c.in-SetUser.is refl
    (ap (λ n. Sets n (ToUser c.in-SetUser.u c.in-SetUser.next)) (sym (c.requires.may_plan.named ∙ ap tenant_of c.in-SetUser.is))) (h c.args.tenancy.now.configuration.registry)) c.set_user.ensures

pub returns-in-SetUser-clause-fit : goal.returns-in-SetUser-clause-fit
returns-in-SetUser-clause-fit c = IfOk-weaker c.set_user.result _ _ (λ step h. proposed_fit c.args.at.now.time c.args.tenancy.now c.args.tenancy.now.configuration.registry (ToUser c.in-SetUser.u c.in-SetUser.next) step (h c.args.tenancy.now.configuration.registry)) c.set_user.ensures

pub returns-in-SetContext-clause-step : goal.returns-in-SetContext-clause-step
returns-in-SetContext-clause-step c =
    IfOk-weaker c.set_context.result _ _
    (λ step h sealed. proposed_step c.args.tenancy.now.configuration.tenant (tables_at c.args.at.now.time c.args.tenancy.now sealed) (at_of c.args.at.now) c.args.asked.now c.args.user (commands.SetContext c.in-SetContext.t c.in-SetContext.c c.in-SetContext.next) (ToContext c.in-SetContext.c c.in-SetContext.next) step c.in-SetContext.is refl
    (ap (λ n. Sets n (ToContext c.in-SetContext.c c.in-SetContext.next)) (sym (c.requires.may_plan.named ∙ ap tenant_of c.in-SetContext.is))) (h c.args.tenancy.now.configuration.registry)) c.set_context.ensures

pub returns-in-SetContext-clause-fit : goal.returns-in-SetContext-clause-fit
returns-in-SetContext-clause-fit c = IfOk-weaker c.set_context.result _ _ (λ step h. proposed_fit c.args.at.now.time c.args.tenancy.now c.args.tenancy.now.configuration.registry (ToContext c.in-SetContext.c c.in-SetContext.next) step (h c.args.tenancy.now.configuration.registry)) c.set_context.ensures
