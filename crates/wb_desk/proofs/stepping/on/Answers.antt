use Rattle.std.proofs.Common.{◌≡◌, ◌≤◌, true, length, sym, ap, ◌∙◌, subst}
use Rattle.std.proofs.lemmas.Result.{IfOk-weaker}
use Rattle.wb_model.specs.Host.{purged}
use Rattle.wb_model.specs.Requests.{outline}
use Rattle.wb_model.specs.Tables.{has_number, is_live, TheReporter}
use Rattle.wb_model.specs.Targets.{target, On}
use Rattle.wb_model.proofs.Leaving.{apart_filter}
use Rattle.wb_tables.specs.Kept.{case_of, live_plain, place_of, plain_of, tables_of}
use Rattle.wb_tables.specs.Logins.{who_seen}
use Rattle.wb_tables.specs.TurnContexts.{at_of}
use Rattle.wb_commands.specs.Steps.{IsDraftOf}
use Rattle.wb_desk.proofs.Families.{few_filtered, few_there, found_passes}
use Rattle.wb_desk.specs.Suited.{suits}
use Rattle.wb_desk.proofs.Requests.{target-outline}
use Rattle.wb_desk.proofs.Suits.{reporter_number, suited, target_there}
use Rattle.wb_desk.proofs.stepping.on.Goals as goal

pub by_reader-requires-clause-there : goal.by_reader-requires-clause-there
by_reader-requires-clause-there c =
    let p = live_plain c.args.at.now.time (plain_of c.args.tenancy.now) in
    target_there p c.args.asked.now.session (outline c.args.asked.now.command) (who_seen c.args.who) (case_of c.args.report.now) (apart_filter has_number (is_live p.registry.settings c.args.at.now.time) (plain_of c.args.tenancy.now).cases c.requires.may_plan.place.cases) c.requires.target

pub by_reader-requires-clause-few : goal.by_reader-requires-clause-few
by_reader-requires-clause-few c =
    let p = live_plain c.args.at.now.time (plain_of c.args.tenancy.now) in
    let cases = (plain_of c.args.tenancy.now).cases in
    let lives = is_live p.registry.settings c.args.at.now.time in
    let there = target_there p c.args.asked.now.session (outline c.args.asked.now.command) (who_seen c.args.who) (case_of c.args.report.now) (apart_filter has_number lives cases c.requires.may_plan.place.cases) c.requires.target in
    subst (λ rs. length rs ≤ 100) (sym c.requires.custodied) (few_there c.args.report.now.number p.cases (case_of c.args.report.now) (few_filtered lives cases c.requires.may_plan.few) there)

pub by_reader-requires-clause-live : goal.by_reader-requires-clause-live
by_reader-requires-clause-live c =
    let p = live_plain c.args.at.now.time (plain_of c.args.tenancy.now) in
    let cases = (plain_of c.args.tenancy.now).cases in
    let lives = is_live p.registry.settings c.args.at.now.time in
    found_passes lives c.args.report.now.number cases (case_of c.args.report.now) (target_there p c.args.asked.now.session (outline c.args.asked.now.command) (who_seen c.args.who) (case_of c.args.report.now) (apart_filter has_number lives cases c.requires.may_plan.place.cases) c.requires.target)

pub by_reporter-requires-clause-there : goal.by_reporter-requires-clause-there
by_reporter-requires-clause-there c =
    let p = live_plain c.args.at.now.time (plain_of c.args.tenancy.now) in
    target_there p c.args.asked.now.session (outline c.args.asked.now.command) (who_seen c.args.who) (case_of c.args.report.now) (apart_filter has_number (is_live p.registry.settings c.args.at.now.time) (plain_of c.args.tenancy.now).cases c.requires.may_plan.place.cases) c.requires.target

pub by_reporter-requires-clause-few : goal.by_reporter-requires-clause-few
by_reporter-requires-clause-few c =
    let p = live_plain c.args.at.now.time (plain_of c.args.tenancy.now) in
    let cases = (plain_of c.args.tenancy.now).cases in
    let lives = is_live p.registry.settings c.args.at.now.time in
    let there = target_there p c.args.asked.now.session (outline c.args.asked.now.command) (who_seen c.args.who) (case_of c.args.report.now) (apart_filter has_number lives cases c.requires.may_plan.place.cases) c.requires.target in
    subst (λ rs. length rs ≤ 100) (sym c.requires.custodied) (few_there c.args.report.now.number p.cases (case_of c.args.report.now) (few_filtered lives cases c.requires.may_plan.few) there)

pub by_reporter-requires-clause-suits : goal.by_reporter-requires-clause-suits
by_reporter-requires-clause-suits c =
    let p = live_plain c.args.at.now.time (plain_of c.args.tenancy.now) in
    let on : target p c.args.asked.now.session c.args.asked.now.command ≡ On (TheReporter c.in-Reporter.field-0) (case_of c.args.report.now) =
    sym (target-outline p c.args.asked.now.session c.args.asked.now.command) ∙ (c.requires.target ∙ ap (λ w. On w (case_of c.args.report.now)) (ap who_seen c.in-Reporter.is)) in
    subst (λ to. suits to c.args.asked.now.command ≡ true) on (suited p c.args.asked.now.session c.args.asked.now.command)

pub returns-in-Reporter-clause-step : goal.returns-in-Reporter-clause-step
returns-in-Reporter-clause-step c =
    let p = live_plain c.args.at.now.time (plain_of c.args.tenancy.now) in
    let case = case_of c.args.report.now in
    let who = ap who_seen c.in-Reporter.is in
    let on : target p c.args.asked.now.session (outline c.args.asked.now.command) ≡ On (TheReporter c.in-Reporter.field-0) case = c.requires.target ∙ ap (λ w. On w case) who in
    let same = who ∙ ap TheReporter (reporter_number p c.args.asked.now.session c.args.asked.now.command c.in-Reporter.field-0 case on) in
    IfOk-weaker c.by_reporter.result _ _ (λ step h. subst (λ w. IsDraftOf c.args.tenancy.now.configuration.tenant (purged c.args.at.now.time (tables_of c.args.sealed.now.items (place_of c.args.tenancy.now))) (at_of c.args.at.now) c.args.asked.now (On w case) step) (sym same) h) c.by_reporter.ensures.step
