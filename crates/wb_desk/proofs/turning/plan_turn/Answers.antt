use Rattle.std.proofs.Common.{◌≡◌, true, ap, sym, ◌∙◌, subst}
use Rattle.std.specs.Prelude.{is_some}
use Rattle.std.proofs.lemmas.Result.{IfOk-weaker}
use Rattle.wb_model.specs.Host.{purged}
use Rattle.wb_model.specs.Requests.{outline}
use Rattle.wb_model.specs.Tables.{is_there}
use Rattle.wb_model.specs.Targets.{target}
use Rattle.wb_tables.specs.Kept.{PlainTenancy, live_plain, place_of, plain_of, tables_of}
use Rattle.wb_tables.proofs.Lookups.{there-found}
use Rattle.wb_tables.specs.TurnContexts.{at_of}
use Rattle.wb_commands.specs.Steps.{IsDraftOf, IsFitStep, IsWriting}
use Rattle.wb_desk.proofs.Families.{done_roomy, writing_found, written_fit}
use Rattle.wb_commands.proofs.Results.{ok_both}
use Rattle.wb_desk.proofs.Drafts.{written_plan}
use Rattle.wb_desk.proofs.turning.plan_turn.Goals as goal

pub write_in-requires-clause-there : goal.write_in-requires-clause-there
write_in-requires-clause-there c =
    let x = c.args.tenancy.now in
    let p = live_plain c.args.at.now.time (plain_of x) in
    let to = target p c.args.asked.now.session (outline c.args.asked.now.command) in
    let h : IsWriting p (at_of c.args.at.now) c.args.asked.now to c.in-Writes.writing = subst (IsDraftOf x.configuration.tenant (purged c.args.at.now.time (tables_of c.args.sealed.now.items (place_of x))) (at_of c.args.at.now) c.args.asked.now to) c.in-Writes.is c.in_ok-plan.ensures.step in
    there-found c.in-Writes.writing.number (plain_of x).cases ∙ ap is_some (writing_found x c.args.at.now.time (at_of c.args.at.now) c.args.asked.now to c.in-Writes.writing h c.requires.may_plan.place.cases)

pub returns-in-Writes-clause-plan : goal.returns-in-Writes-clause-plan
returns-in-Writes-clause-plan c =
    let x = c.args.tenancy.now in
    let p = live_plain c.args.at.now.time (plain_of x) in
    let t = purged c.args.at.now.time (tables_of c.args.sealed.now.items (place_of x)) in
    let to = target p c.args.asked.now.session (outline c.args.asked.now.command) in
    let h : IsWriting p (at_of c.args.at.now) c.args.asked.now to c.in-Writes.writing = subst (IsDraftOf x.configuration.tenant t (at_of c.args.at.now) c.args.asked.now to) c.in-Writes.is c.in_ok-plan.ensures.step in
    let found = writing_found x c.args.at.now.time (at_of c.args.at.now) c.args.asked.now to c.in-Writes.writing h c.requires.may_plan.place.cases in
    IfOk-weaker c.write_in.result _ _ (λ plan f. written_plan x.configuration.tenant t (at_of c.args.at.now) c.args.asked.now to c.in-Writes.writing plan h (f h.case.trail found)) c.write_in.ensures.plan

pub returns-in-Writes-clause-roomy : goal.returns-in-Writes-clause-roomy
returns-in-Writes-clause-roomy c =
    let x = c.args.tenancy.now in
    let p = live_plain c.args.at.now.time (plain_of x) in
    let to = target p c.args.asked.now.session (outline c.args.asked.now.command) in
    let h : IsWriting p (at_of c.args.at.now) c.args.asked.now to c.in-Writes.writing = subst (IsDraftOf x.configuration.tenant (purged c.args.at.now.time (tables_of c.args.sealed.now.items (place_of x))) (at_of c.args.at.now) c.args.asked.now to) c.in-Writes.is c.in_ok-plan.ensures.step in
    let found = writing_found x c.args.at.now.time (at_of c.args.at.now) c.args.asked.now to c.in-Writes.writing h c.requires.may_plan.place.cases in
    let there = there-found c.in-Writes.writing.number p.cases ∙ ap is_some h.there in
    ok_both c.write_in.result
    (λ plan f g. record {
      fit = written_fit c.args.at.now.time c.write_in.new.tenancy x.configuration.registry.settings.calendar h.case.trail c.args.at.now.time c.in-Writes.writing plan (subst (λ (y : PlainTenancy). is_there c.in-Writes.writing.number (live_plain c.args.at.now.time y.plain).cases ≡ true) (sym c.write_in.ensures.place) there) (f h.case.trail found);
      room = g h.case.trail found;
    }) c.write_in.ensures.plan c.write_in.ensures.roomy

pub returns-in-Sets-clause-roomy : goal.returns-in-Sets-clause-roomy
returns-in-Sets-clause-roomy c = ok_both c.set_in.result (λ plan fit room. record { fit = fit c.args.at.now.time; room = room c.args.sealed.now.spare }) c.set_in.ensures.fit c.set_in.ensures.room

pub returns-in_ok-reserve-in-Done-clause-roomy : goal.returns-in_ok-reserve-in-Done-clause-roomy
returns-in_ok-reserve-in-Done-clause-roomy c =
    done_roomy c.args.at.now.time c.reserve.new.sealed.spare c.args.tenancy.now c.reserve.new.tenancy c.in-Done.plan.change c.reserve.ensures.place
    (subst (IsFitStep c.args.at.now.time c.args.tenancy.now) c.in-Done.is c.in_ok-plan.ensures.fit) c.in_ok-reserve-in-Done.ensures.room
