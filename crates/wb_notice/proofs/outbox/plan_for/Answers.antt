use Rattle.std.proofs.Common.{◌≡◌, ◌++◌, map, filter, not, sym, ap, ◌∙◌, subst}
use Rattle.std.specs.Prelude.{All}
use Rattle.wb_base.specs.KeptRows.{IsGoodChange, all_changed}
use Rattle.wb_base.specs.declared.rows.Change.TheVariants.{Put}
use Rattle.wb_rows.specs.Held.{held_by}
use Rattle.wb_notice.specs.declared.notice.Notice.{Notice}
use Rattle.wb_notice.specs.Notices.{IsNotice, notice_row}
use Rattle.wb_notice.specs.Outbox.{new_notices, new_rows, stands}
use Rattle.wb_notice.specs.Owed.{unsealed}
use Rattle.wb_notice.proofs.NoticeRows.{are_notices}
use Rattle.wb_notice.proofs.Planned.{batch_good, planned}
use Rattle.wb_notice.proofs.outbox.plan_for.Goals as goal

pub live_reports-requires : goal.live_reports-requires
live_reports-requires c = (c.requires 0).set_up.tenants

pub returns-clause-ok : goal.returns-clause-ok
returns-clause-ok c =
    let x = unsealed (held_by c.args.tables.now) in
    let now = c.args.now in
    let rows = c.args.rows.now.items in
    let held = c.in_ok-held.held.items in
    let drops = c.in_ok-drops.drops.items in
    let own : rows ≡ map notice_row held = sym c.as_slice.ensures.all ∙ c.in_ok-held.ensures.notices in
    let notices : c.in_ok-notices.notices.items ≡ new_notices x now rows = (rw c.as_slice-2.ensures.value at c.in_ok-notices.ensures) ∙ ap (filter (λ (n : Notice). not (stands rows (notice_row n).key))) c.in_ok-owed.ensures in
    let added : c.in_ok-new.new.items ≡ new_rows x now rows = (rw c.as_slice-3.ensures.value at c.in_ok-new.ensures) ∙ ap (map notice_row) notices in
    let batch : c.in_ok-batch.batch.items ≡ drops ++ map Put (new_rows x now rows) = c.in_ok-batch.ensures ∙ ap (λ l. drops ++ map Put l) (c.as_slice-5.ensures.value ∙ added) in
    let dropped = rw c.as_slice-4.ensures.value at c.in_ok-drops.ensures.rows in
    record {
      notices = subst (All IsNotice) (sym own) (are_notices held c.in_ok-held.ensures.ranged);
      news = record { notices = notices; added = added };
      changes = ap (all_changed rows) batch ∙ planned x now c.in_ok-live.live.items c.in_ok-live.ensures rows held drops own dropped;
      good = subst (All IsGoodChange) (sym batch) (batch_good drops (new_notices x now rows) c.in_ok-drops.ensures.good);
    }
