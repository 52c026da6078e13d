use Rattle.std.proofs.Common.{◌≡◌, ◌++◌, ◌∷◌, [], Some, map, find, unwrap_or, rules, to_z, of_z, w32, refl, sym, ap, ◌∙◌}
use Rattle.wb_base.specs.Days.{IsOffset, day_of}
use Rattle.wb_model.specs.declared.registry.TenantItem.{TenantItem}
use Rattle.wb_model.specs.Openings.{no_settings, registry_of}
use Rattle.wb_model.specs.SetUps.{is_tenant_item}
use Rattle.wb_model.specs.Tables.{Case, is_live}
use Rattle.wb_model.specs.Trails.{reads}
use Rattle.wb_model.proofs.Found.{filter_both}
use Rattle.wb_tenants.specs.Sets.{is_tenant}
use Rattle.wb_rows.specs.Reports.{case_report}
use Rattle.wb_rows.specs.Openings.{case_of, cases_of}
use Rattle.wb_export.specs.Csv.{csv_text}
use Rattle.wb_export.specs.Registers.{register_header, register_line}
use Rattle.wb_export.proofs.Entries.{all_done, lines_of, with_line, without_line}
use Rattle.wb_rows.proofs.Fitting.{found-fits, offset-fits}
use Rattle.wb_export.proofs.registers.register.Goals as goal
use Rattle.wb_export.proofs.registers.register.Goals.{then-is_in+in_ok-line_of+in_ok-put, else-is_in}

pub day_of-today-requires : goal.day_of-today-requires
day_of-today-requires c =
    let found : find (is_tenant c.args.tenant) c.args.tables.now.registry.lists.tenants ≡ Some c.in-Some.settings.now = search rules in
    let between : IsOffset c.in-Some.settings.now.offset = offset-fits c.in-Some.settings.now (found-fits (is_tenant c.args.tenant) is_tenant_item c.args.tables.now.registry.lists.tenants c.in-Some.settings.now c.requires.tenants found) in
    search rules

pub loop-item-init : goal.loop-item-init
loop-item-init c = ([], c.in_ok-lines.ensures, refl)

pub loop-item-preserved : goal.loop-item-preserved
loop-item-preserved c =
    let inv = c.loop-item.invariant in
    let x = c.item-item.result in
    let line = register_line (case_of (case_report x)) in
    let items = c.args.tables.now.cases in
    let within = rw c.as_slice-item-items.ensures at c.loop-item-test.true in
    let is = rw c.as_slice-item-items.ensures at c.item-item.is in
    elim c.if-is_in.branch [
      | then-is_in+in_ok-line_of+in_ok-put w ↦ (
        inv.0 ++ line ∷ [],
        rw w.lines-is (w.in_ok-put.ensures (register_header ∷ inv.0) line inv.1 w.in_ok-line_of.ensures),
        with_line c.args.tenant c.day_of-today.result c.args.user inv.0 items c.loop-item.item-index x within is (sym c.is_in.ensures ∙ w.if-is_in.true) inv.2,
      )
      | else-is_in w ↦
          (inv.0, rw w.lines-is inv.1, without_line c.args.tenant c.day_of-today.result c.args.user inv.0 items c.loop-item.item-index x within is (sym c.is_in.ensures ∙ w.if-is_in.false) inv.2)
    ]

pub returns : goal.returns
returns c =
    let inv = c.loop-item.invariant in
    let t = c.args.tenant in
    let lists = c.args.tables.now.registry.lists in
    let found : find (is_tenant t) lists.tenants ≡ Some c.in-Some.settings.now = search rules in
    let settings : (registry_of lists t).settings ≡ c.in-Some.settings.now = ap (λ o. unwrap_or o (no_settings t)) found in
    let between : IsOffset c.in-Some.settings.now.offset = offset-fits c.in-Some.settings.now (found-fits (is_tenant t) is_tenant_item lists.tenants c.in-Some.settings.now c.requires.tenants found) in
    let offset : to_z w32 (of_z w32 c.in-Some.settings.now.offset) ≡ c.in-Some.settings.now.offset = search rules in
    let today : c.day_of-today.result ≡ day_of c.args.now (registry_of lists t).settings.offset = c.day_of-today.ensures.day ∙ (ap (day_of c.args.now) offset ∙ ap (λ (x : TenantItem). day_of c.args.now x.offset) (sym settings)) in
    let over = rw c.as_slice-item-items.ensures at c.loop-item-test.false in
    let all = all_done t c.day_of-today.result c.args.user inv.0 c.args.tables.now.cases c.loop-item.item-index over inv.2 in
    c.in_ok-end.ensures _ inv.1 ∙ (ap (λ ls. csv_text (register_header ∷ ls)) all ∙ (ap (λ d. csv_text (register_header ∷ lines_of t d c.args.user c.args.tables.now.cases)) today
    ∙ ap (λ cs. csv_text (register_header ∷ map register_line cs)) (sym (filter_both (is_live (registry_of lists t).settings c.args.now) (λ (x : Case). reads c.args.user x.trail) (cases_of (map case_report c.args.tables.now.cases) t)))))
