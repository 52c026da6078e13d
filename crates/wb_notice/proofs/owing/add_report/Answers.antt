use Rattle.std.proofs.Common.{◌++◌, ap, ◌∙◌}
use Rattle.std.specs.List.{flat_map}
use Rattle.wb_model.specs.Openings.{registry_of}
use Rattle.wb_rows.specs.Reports.{case_report}
use Rattle.wb_rows.specs.Openings.{case_of}
use Rattle.wb_notice.specs.declared.users.Addressee.{Addressee}
use Rattle.wb_notice.specs.Owed.{addressees, notices_to}
use Rattle.wb_notice.proofs.ListFacts.{flat_all, flat_more, map_itself}
use Rattle.wb_notice.proofs.owing.add_report.Goals as goal

pub loop-user-init : goal.loop-user-init
loop-user-init c =
    let told = notices_to c.args.item.now.tenant c.args.today c.in_ok-kinds.kinds.items (case_of (case_report c.args.item.now)) in
    ap (λ l. c.args.notices.now.items ++ flat_map told l) (map_itself c.args.users.now)

pub loop-user-preserved : goal.loop-user-preserved
loop-user-preserved c =
    let told = notices_to c.args.item.now.tenant c.args.today c.in_ok-kinds.kinds.items (case_of (case_report c.args.item.now)) in
    flat_more (λ (x : Addressee). x) told c.args.users.now c.loop-user.user-index c.user-item.result c.loop-user-test.true c.user-item.is _ _ _ c.loop-user.invariant (rw c.as_slice.ensures.value at c.in_ok-add_user.ensures)

pub returns : goal.returns
returns c =
    let told = notices_to c.args.item.now.tenant c.args.today c.in_ok-kinds.kinds.items (case_of (case_report c.args.item.now)) in
    let old = c.args.notices.now.items in
    flat_all (λ (x : Addressee). x) told c.args.users.now c.loop-user.user-index _ _ c.loop-user-test.false c.loop-user.invariant
    ∙ (ap (λ us. old ++ flat_map told us) c.requires.users
    ∙ ap (λ ks. old ++ flat_map (notices_to c.args.item.now.tenant c.args.today ks (case_of (case_report c.args.item.now))) (addressees (registry_of c.args.registry.now.lists c.args.item.now.tenant).users)) c.in_ok-kinds.ensures)
