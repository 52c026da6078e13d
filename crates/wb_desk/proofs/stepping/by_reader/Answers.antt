use Rattle.std.proofs.Common.{Some, sym, subst}
use Rattle.std.proofs.lemmas.Result.{IfOk-weaker}
use Rattle.wb_custody.specs.SealedAnswers.{answers_of}
use Rattle.wb_model.specs.Host.{purged}
use Rattle.wb_model.specs.Tables.{TheUser}
use Rattle.wb_tables.specs.declared.tenancy.Who.TheVariants as kept
use Rattle.wb_tables.specs.Kept.{case_of, place_of, tables_of}
use Rattle.wb_tables.specs.TurnContexts.{at_of}
use Rattle.wb_commands.specs.Steps.{IsAskedOnReport}
use Rattle.wb_desk.proofs.Families.{answers_fit, erased_fit, erased_step, identity_step, names_unanswered, sealed_there}
use Rattle.wb_desk.proofs.Drafts.{asked_step}
use Rattle.wb_desk.proofs.stepping.by_reader.Goals as goal

pub returns-in_ok-told-in-ReadIdentity-clause-step : goal.returns-in_ok-told-in-ReadIdentity-clause-step
returns-in_ok-told-in-ReadIdentity-clause-step c =
    let x = place_of c.args.tenancy.now in
    let case = case_of c.args.report.now in
    identity_step c.args.tenancy.now.configuration.tenant (purged c.args.at.now.time (tables_of c.args.sealed.now.items x)) (at_of c.args.at.now) c.args.asked.now c.args.user case (answers_of c.args.sealed.now.items c.args.tenancy.now.configuration.tenant c.args.report.now.number) c.in-ReadIdentity.t c.in-ReadIdentity.n
    c.in_ok-told-in-ReadIdentity.told c.telling-in-ReadIdentity.result c.in-ReadIdentity.is (sealed_there c.args.at.now.time c.args.sealed.now.items x c.args.report.now.number case c.requires.there) c.in_ok-told-in-ReadIdentity.ensures.shown c.telling-in-ReadIdentity.ensures

pub returns-in_ok-asking-in-Ask-clause-step : goal.returns-in_ok-asking-in-Ask-clause-step
returns-in_ok-asking-in-Ask-clause-step c =
    let g = c.args.tenancy.now.configuration.registry in
    let trail = c.args.report.now.case.items in
    let asks = c.in_ok-asking-in-Ask.field-0 in
    IfOk-weaker c.write_down.result _ _
    (λ step h. asked_step c.args.tenancy.now.configuration.tenant (purged c.args.at.now.time (tables_of c.args.sealed.now.items (place_of c.args.tenancy.now))) (at_of c.args.at.now) c.args.asked.now (kept.User c.args.user) c.args.report.now asks step
    (names_unanswered g trail c.args.asked.now c.requires.suits) c.requires.there
    (subst (λ y. IsAskedOnReport (at_of c.args.at.now) g (Some (TheUser c.args.user)) c.args.asked.now.session trail y asks) (sym c.in-Ask.is) (c.in_ok-asking-in-Ask.ensures.asked (at_of c.args.at.now) c.args.asked.now.session trail c.in-Ask.t c.in-Ask.n))
    c.in_ok-asking-in-Ask.ensures.sound h) c.write_down.ensures

pub returns-in_ok-asks-in-Decide-clause-step : goal.returns-in_ok-asks-in-Decide-clause-step
returns-in_ok-asks-in-Decide-clause-step c =
    let g = c.args.tenancy.now.configuration.registry in
    let trail = c.args.report.now.case.items in
    let asks = c.in_ok-asks-in-Decide.asks in
    IfOk-weaker c.write_down-in-Decide.result _ _
    (λ step h. asked_step c.args.tenancy.now.configuration.tenant (purged c.args.at.now.time (tables_of c.args.sealed.now.items (place_of c.args.tenancy.now))) (at_of c.args.at.now) c.args.asked.now (kept.User c.args.user) c.args.report.now asks step
    (names_unanswered g trail c.args.asked.now c.requires.suits) c.requires.there
    (subst (λ y. IsAskedOnReport (at_of c.args.at.now) g (Some (TheUser c.args.user)) c.args.asked.now.session trail y asks) (sym c.in-Decide.is) (c.in_ok-asks-in-Decide.ensures.asked (at_of c.args.at.now) c.args.user c.args.asked.now.session c.in-Decide.t c.in-Decide.n))
    (c.in_ok-asks-in-Decide.ensures.sound c.args.user) h) c.write_down-in-Decide.ensures

pub returns-in_ok-acting-in_default : goal.returns-in_ok-acting-in_default
returns-in_ok-acting-in_default c =
    let g = c.args.tenancy.now.configuration.registry in
    let trail = c.args.report.now.case.items in
    let asks = c.in_ok-acting-in_default.field-0 in record {
      step = IfOk-weaker c.write_down-in_default.result _ _
          (λ step h. asked_step c.args.tenancy.now.configuration.tenant (purged c.args.at.now.time (tables_of c.args.sealed.now.items (place_of c.args.tenancy.now))) (at_of c.args.at.now) c.args.asked.now (kept.User c.args.user) c.args.report.now asks step
          (names_unanswered g trail c.args.asked.now c.requires.suits) c.requires.there
          (c.in_ok-acting-in_default.ensures.asked c.args.user c.args.asked.now.session)
          (c.in_ok-acting-in_default.ensures.sound c.args.user) h) c.write_down-in_default.ensures;
      fit = IfOk-weaker c.write_down-in_default.result _ _ (λ step h. answers_fit c.args.at.now.time c.args.tenancy.now (kept.User c.args.user) c.args.report.now asks step h) c.write_down-in_default.ensures;
    }

pub returns-in-Delete-clause-step : goal.returns-in-Delete-clause-step
returns-in-Delete-clause-step c =
    erased_step c.args.tenancy.now.configuration.tenant (purged c.args.at.now.time (tables_of c.args.sealed.now.items (place_of c.args.tenancy.now))) (at_of c.args.at.now) c.args.asked.now (TheUser c.args.user) c.args.report.now c.in-Delete.t c.in-Delete.n c.erasing.result c.in-Delete.is c.erasing.ensures

pub returns-in-Delete-clause-fit : goal.returns-in-Delete-clause-fit
returns-in-Delete-clause-fit c = erased_fit c.args.at.now.time c.args.tenancy.now c.args.report.now c.erasing.result c.erasing.ensures
