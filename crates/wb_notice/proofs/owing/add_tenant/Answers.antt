use Rattle.std.proofs.Common.{◌≡◌, ◌++◌, true, false, sym, ap, ◌∙◌}
use Rattle.std.proofs.lemmas.Bool.{and_parts, eqb-true}
use Rattle.std.specs.Prelude.{◌==◌}
use Rattle.wb_model.specs.Openings.{registry_of}
use Rattle.wb_rows.specs.Reports.{case_report}
use Rattle.wb_rows.specs.Openings.{case_of}
use Rattle.wb_notice.specs.Owed.{addressees, is_live_on, notices_on}
use Rattle.wb_notice.proofs.OwedOnes.{later_actors, own_actors, is_told, told_as, told_more}
use Rattle.wb_notice.proofs.owing.add_tenant.Goals as goal
use Rattle.wb_notice.proofs.owing.add_tenant.Goals.{then-is_live_of+in_ok-add_report, else-is_live_of}

pub add_report-requires-clause-actors : goal.add_report-requires-clause-actors
add_report-requires-clause-actors c =
    let x = c.item-item.result in
    let within = rw c.as_slice-item-items.ensures at c.loop-item-test.true in
    let is = rw c.as_slice-item-items.ensures at c.item-item.is in
    let own = (and_parts (x.tenant == c.args.tenant) (is_live_on c.args.today (case_of (case_report x))) (sym c.is_live_of.ensures ∙ c.if-is_live_of.true)).0 in
    own_actors c.args.tenant c.args.tables.now.cases c.loop-item.item-index x within is c.loop-item.invariant.actors own

pub add_report-requires-clause-users : goal.add_report-requires-clause-users
add_report-requires-clause-users c =
    let x = c.item-item.result in
    let own = (and_parts (x.tenant == c.args.tenant) (is_live_on c.args.today (case_of (case_report x))) (sym c.is_live_of.ensures ∙ c.if-is_live_of.true)).0 in
    c.requires.users ∙ ap (λ t. addressees (registry_of c.args.tables.now.registry.lists t).users) (sym (eqb-true x.tenant c.args.tenant own))

pub loop-item-preserved : goal.loop-item-preserved
loop-item-preserved c =
    let t = c.args.tenant in
    let x = c.item-item.result in
    let items = c.args.tables.now.cases in
    let i = c.loop-item.item-index in
    let told = notices_on t (registry_of c.args.tables.now.registry.lists t) c.args.today in
    let within = rw c.as_slice-item-items.ensures at c.loop-item-test.true in
    let is = rw c.as_slice-item-items.ensures at c.item-item.is in
    record {
      told = elim c.if-is_live_of.branch [
        | then-is_live_of+in_ok-add_report w ↦
            let live : is_told t c.args.today told x ≡ true = sym c.is_live_of.ensures ∙ w.if-is_live_of.true in
            let own = (and_parts (x.tenant == t) (is_live_on c.args.today (case_of (case_report x))) live).0 in
            rw w.notices-is (told_more t c.args.today told items i x within is _ _ c.loop-item.invariant.told _ live
            (w.in_ok-add_report.ensures ∙ ap (λ u. c.loop-item.notices.items ++ notices_on u (registry_of c.args.tables.now.registry.lists u) c.args.today (case_of (case_report x))) (eqb-true x.tenant t own)))
        | else-is_live_of w ↦
            let dead : is_told t c.args.today told x ≡ false = sym c.is_live_of.ensures ∙ w.if-is_live_of.false in
            rw w.notices-is (told_as t c.args.today told items i x within is _ _ c.loop-item.invariant.told dead)
      ];
      actors = later_actors t items i x within is c.loop-item.invariant.actors;
    }
