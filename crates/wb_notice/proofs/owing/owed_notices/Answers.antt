use Rattle.std.proofs.Common.{◌≡◌, ◌++◌, filter, map, rules, to_z, of_z, w32, sym, ap, ◌∙◌}
use Rattle.std.specs.List.{flat_map}
use Rattle.wb_base.specs.Days.{IsOffset, day_of}
use Rattle.wb_custody.specs.Desks.{have_right_actors}
use Rattle.wb_model.specs.declared.registry.TenantItem.{TenantItem}
use Rattle.wb_model.specs.Legal.{is_legal, reckoning}
use Rattle.wb_model.specs.Openings.{registry_of}
use Rattle.wb_model.specs.SetUps.{is_tenant_item}
use Rattle.wb_model.specs.Tables.{Case}
use Rattle.wb_rows.specs.Reports.{case_report}
use Rattle.wb_rows.proofs.Fitting.{offset-fits}
use Rattle.wb_rows.specs.Held.{held_by}
use Rattle.wb_rows.specs.Openings.{cases_of}
use Rattle.wb_notice.specs.Owed.{is_live_on, notices_of, notices_on, unsealed}
use Rattle.wb_notice.proofs.ListFacts.{all_weaker, flat_all, flat_more, held_here}
use Rattle.wb_notice.proofs.OwedOnes.{own_settings, passes_here}
use Rattle.wb_notice.proofs.owing.owed_notices.Goals as goal

pub day_of-today-requires : goal.day_of-today-requires
day_of-today-requires c =
    let x = c.item-item.result in
    let tenants = c.args.tables.now.registry.lists.tenants in
    let within = rw (c.as_slice-item-items.ensures, c.lists-lists.ensures.all) at c.loop-item-test.true in
    let is = rw (c.as_slice-item-items.ensures, c.lists-lists.ensures.all) at c.item-item.is in
    let between : IsOffset x.offset = offset-fits x (passes_here is_tenant_item tenants x (c.requires x.tenant).set_up.tenants (held_here tenants c.loop-item.item-index x within is)) in
    search rules

pub add_tenant-requires-clause-actors : goal.add_tenant-requires-clause-actors
add_tenant-requires-clause-actors c =
    let t = c.item-item.result.tenant in
    let days = reckoning (registry_of c.args.tables.now.registry.lists t).settings in
    all_weaker (λ (x : Case). is_legal days x.trail) (λ (x : Case). have_right_actors x.trail) (λ x legal. c.what_legal_trails_say_of_requests.ensures.actors days x.trail legal) (cases_of (map case_report c.args.tables.now.cases) t) (c.requires t).legal

pub loop-item-preserved : goal.loop-item-preserved
loop-item-preserved c =
    let x = c.item-item.result in
    let t = x.tenant in
    let now = c.args.now in
    let i = c.loop-item.item-index in
    let lists = c.args.tables.now.registry.lists in
    let cases = cases_of (map case_report c.args.tables.now.cases) t in
    let within = rw (c.as_slice-item-items.ensures, c.lists-lists.ensures.all) at c.loop-item-test.true in
    let is = rw (c.as_slice-item-items.ensures, c.lists-lists.ensures.all) at c.item-item.is in
    let set_up = (c.requires t).set_up in
    let between : IsOffset x.offset = offset-fits x (passes_here is_tenant_item lists.tenants x set_up.tenants (held_here lists.tenants i x within is)) in
    let offset : to_z w32 (of_z w32 x.offset) ≡ x.offset = search rules in
    let today : c.day_of-today.result ≡ day_of now (registry_of lists t).settings.offset = c.day_of-today.ensures.day ∙ (ap (day_of now) offset ∙ ap (λ (s : TenantItem). day_of now s.offset) (sym (own_settings lists i x set_up within is))) in
    flat_more (λ (y : TenantItem). y.tenant) (notices_of (unsealed (held_by c.args.tables.now)) now) lists.tenants i x within is _ _ _ c.loop-item.invariant
    (c.in_ok-add_tenant.ensures ∙ ap (λ d. c.loop-item.notices.items ++ flat_map (notices_on t (registry_of lists t) d) (filter (is_live_on d) cases)) today)

pub returns : goal.returns
returns c =
    let over = rw (c.as_slice-item-items.ensures, c.lists-lists.ensures.all) at c.loop-item-test.false in
    flat_all (λ (y : TenantItem). y.tenant) (notices_of (unsealed (held_by c.args.tables.now)) c.args.now) c.args.tables.now.registry.lists.tenants c.loop-item.item-index _ _ over c.loop-item.invariant
