use Rattle.std.proofs.Common.{◌≡◌, Some, refl, sym, subst}
use Rattle.std.proofs.lemmas.Result.{IfOk-weaker}
use Rattle.wb_custody.specs.SealedAnswers.{answers_of}
use Rattle.wb_model.specs.declared.command.Command.TheVariants as commands
use Rattle.wb_model.specs.Host.{purged}
use Rattle.wb_model.specs.Json.{told}
use Rattle.wb_model.specs.Views.{reporter_view}
use Rattle.wb_model.specs.Tables.{TheReporter}
use Rattle.wb_tables.specs.declared.tenancy.Who.TheVariants as kept
use Rattle.wb_tables.specs.Kept.{case_of, place_of, tables_of}
use Rattle.wb_tables.specs.TurnContexts.{at_of}
use Rattle.wb_commands.specs.Steps.{IsAskedOnReport}
use Rattle.wb_desk.proofs.Families.{given_step, own_step, sealed_there, unanswered}
use Rattle.wb_desk.proofs.Drafts.{asked_step}
use Rattle.wb_desk.proofs.stepping.by_reporter.Goals as goal

pub returns-in_ok-read_own-in-OwnReport-clause-step : goal.returns-in_ok-read_own-in-OwnReport-clause-step
returns-in_ok-read_own-in-OwnReport-clause-step c =
    let x = place_of c.args.tenancy.now in
    let case = case_of c.args.report.now in
    own_step c.args.tenancy.now.configuration.tenant (purged c.args.at.now.time (tables_of c.args.sealed.now.items x)) (at_of c.args.at.now) c.args.asked.now (TheReporter c.args.report.now.number) case (answers_of c.args.sealed.now.items c.args.tenancy.now.configuration.tenant c.args.report.now.number) c.in-OwnReport.t
    c.in_ok-read_own-in-OwnReport.field-0 c.telling.result c.in-OwnReport.is (sealed_there c.args.at.now.time c.args.sealed.now.items x c.args.report.now.number case c.requires.there)
    (subst (λ n. c.in_ok-read_own-in-OwnReport.field-0 ≡ told 200 (reporter_view case (answers_of c.args.sealed.now.items n c.args.report.now.number))) c.tenant-tenant.ensures c.in_ok-read_own-in-OwnReport.ensures) c.telling.ensures

pub returns-in_ok-commenting-in-OwnComment-clause-step : goal.returns-in_ok-commenting-in-OwnComment-clause-step
returns-in_ok-commenting-in-OwnComment-clause-step c =
    let g = c.args.tenancy.now.configuration.registry in
    let trail = c.args.report.now.case.items in
    let asks = c.in_ok-commenting-in-OwnComment.field-0 in
    IfOk-weaker c.write_down.result _ _
    (λ step h. asked_step c.args.tenancy.now.configuration.tenant (purged c.args.at.now.time (tables_of c.args.sealed.now.items (place_of c.args.tenancy.now))) (at_of c.args.at.now) c.args.asked.now (kept.Reporter c.args.report.now.number) c.args.report.now asks step
    (unanswered g trail c.args.asked.now (commands.OwnComment c.in-OwnComment.t c.in-OwnComment.text) c.in-OwnComment.is refl refl refl) c.requires.there
    (subst (λ y. IsAskedOnReport (at_of c.args.at.now) g (Some (TheReporter c.args.report.now.number)) c.args.asked.now.session trail y asks) (sym c.in-OwnComment.is) (c.in_ok-commenting-in-OwnComment.ensures.asked (at_of c.args.at.now) g c.args.report.now.number c.in-OwnComment.t c.args.asked.now.session trail))
    c.in_ok-commenting-in-OwnComment.ensures.sound h) c.write_down.ensures

pub returns-in-GiveIdentity-clause-step : goal.returns-in-GiveIdentity-clause-step
returns-in-GiveIdentity-clause-step c =
    IfOk-weaker c.give_identity.result _ _
    (λ step h. given_step c.args.tenancy.now.configuration.tenant (purged c.args.at.now.time (tables_of c.args.sealed.now.items (place_of c.args.tenancy.now))) (at_of c.args.at.now) c.args.asked.now c.args.report.now c.in-GiveIdentity.t c.in-GiveIdentity.answers step c.in-GiveIdentity.is c.requires.there h) c.give_identity.ensures
