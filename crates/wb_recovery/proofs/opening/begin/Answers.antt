use Rattle.std.proofs.Common.{◌≡◌, List, ◌++◌, length, take, drop, map, sym, ap, ◌∙◌, subst}
use Rattle.std.proofs.Math.Seq.{take-append_seam}
use Rattle.std.specs.List.{AllByRecursion, list_any}
use Rattle.std.specs.List.Sorted.{IsStrictlySortedBy}
use Rattle.std.specs.Prelude.{◌==◌, All}
use Rattle.wb_base.specs.KeptRows.{all_changed, key_cmp, key_of, IsGoodChange}
use Rattle.wb_model.specs.declared.registry.Lists.{Lists}
use Rattle.wb_model.specs.declared.registry.TenantItem.{TenantItem}
use Rattle.wb_model.specs.Legal.{ascends, ascends_from}
use Rattle.wb_model.specs.SetUps.{has_tenant, tenant_ids}
use Rattle.wb_rows.specs.Held.{held_by}
use Rattle.wb_rows.specs.Openings.{tenancies_of, with_setup}
use Rattle.wb_tables.specs.declared.tenancy.Tenancy.{Tenancy as KeptTenancy}
use Rattle.wb_tables.specs.Kept.{place_of}
use Rattle.wb_setup.specs.Joined.{joined}
use Rattle.wb_setup.specs.Keys.{tenant_key}
use Rattle.wb_recovery.specs.HeldPlaces.{AreToCome, bare, held_places, new_puts, with_reports}
use Rattle.wb_recovery.proofs.KeptReports.{ids, held_ids, held_reports, none_come_yet}
use Rattle.wb_recovery.proofs.NewTenants.{batch_good, new_in_order, new-tables, old-tables, rows_begun, same_puts, tenancy_ids}
use Rattle.wb_recovery.proofs.OpenedPlaces.{ids_from}
use Rattle.wb_recovery.proofs.opening.begin.Goals as goal

pub add_reports-requires-clause-ids : goal.add_reports-requires-clause-ids
add_reports-requires-clause-ids c =
    let h = with_setup c.args.setup.now.lists (held_by c.args.kept) in
    let up = c.kept_rows_and_a_setup_make_an_opening.ensures c.args.setup.now.lists c.args.kept.registry.lists c.requires.setup c.requires.lists in
    let places = c.in_ok-tenancies.ensures ∙ (λ i. held_places (bare (c.in_ok-registry.ensures i) (c.as_slice-3.ensures i))) in
    ap (λ (ks : List KeptTenancy). ascends_from 0 (ids (map place_of ks))) c.deref_mut.ensures.value ∙ (ap (λ xs. ascends_from 0 (ids xs)) places ∙ (ap (ascends_from 0) (held_ids (bare h.lists h.numberings) (tenant_ids h.lists)) ∙ ids_from h.lists.tenants up.tenants up.order))

pub add_reports-requires-clause-to_come : goal.add_reports-requires-clause-to_come
add_reports-requires-clause-to_come c =
    let h = with_setup c.args.setup.now.lists (held_by c.args.kept) in
    let places = c.in_ok-tenancies.ensures ∙ (λ i. held_places (bare (c.in_ok-registry.ensures i) (c.as_slice-3.ensures i))) in
    subst (AllByRecursion (AreToCome h.reports)) (sym (ap (λ (ks : List KeptTenancy). map place_of ks) c.deref_mut.ensures.value ∙ places)) (none_come_yet h c.requires.keys c.requires.receipts (tenant_ids h.lists))

pub returns-clause-places : goal.returns-clause-places
returns-clause-places c =
    let h = with_setup c.args.setup.now.lists (held_by c.args.kept) in
    let places = c.in_ok-tenancies.ensures ∙ (λ i. held_places (bare (c.in_ok-registry.ensures i) (c.as_slice-3.ensures i))) in
    let new = c.add_reports.new.tenancies in
    let rest = drop (length new) c.in_ok-tenancies.tenancies.items in
    let whole : c.in_ok-tenancies.tenancies.len ≡ length new = cc c.add_reports.auto.tenancies in
    let written = ap (λ n. take n (new ++ rest)) whole ∙ take-append_seam new rest in
    ap (λ (ks : List KeptTenancy). map place_of ks) written
    ∙ (c.in_ok-add_reports.ensures
    ∙ (ap (λ (ks : List KeptTenancy). map (with_reports h.reports) (map place_of ks)) c.deref_mut.ensures.value
    ∙ (ap (map (with_reports h.reports)) places ∙ held_reports h (tenant_ids h.lists))))

pub returns-clause-batch : goal.returns-clause-batch
returns-clause-batch c =
    let kept = c.args.kept.registry.lists in
    let all = joined c.args.setup.now.lists kept in
    let old = c.as_slice-2.ensures.value ∙ (c.in_ok-old.ensures ∙ ap (λ (xs : List TenantItem). map tenant_key xs) (c.as_slice.ensures ∙ ap (λ (l : Lists). l.tenants) c.lists.ensures.all)) in
    c.in_ok-put_all_new.ensures
    ∙ (λ i. c.in_ok-batch.ensures i ++ ((λ j. new_puts (c.in_ok-registry.ensures j) (λ t. list_any (λ u. u == t) (old j)) (tenant_ids (c.in_ok-registry.ensures j))) ∙ same_puts all kept.tenants (tenant_ids all)) i)

pub returns-clause-good : goal.returns-clause-good
returns-clause-good c =
    let kept = held_by c.args.kept in
    subst (All IsGoodChange) (sym (returns-clause-batch c)) (batch_good c.args.format (tenancies_of kept) c.args.setup.now.lists kept.lists)

pub returns-clause-rows : goal.returns-clause-rows
returns-clause-rows c = λ alone rows sorted loaded.
    let setup = c.args.setup.now.lists in
    let h = held_by c.args.kept in
    let whole = with_setup setup h in
    let up = c.kept_rows_and_a_setup_make_an_opening.ensures setup h.lists c.requires.setup c.requires.lists in
    let opened = c.setups_and_kept_rows_make_openings.ensures.setups whole.lists up in
    let old = old-tables setup h (c.a_kept_tenant_stays_whole.ensures setup h.lists) in
    let new = new-tables setup h alone in
    let in_order = new_in_order setup h old new (λ t. (opened t).ordered) (λ t. (opened t).versions) in
    let ids = ap ascends (tenancy_ids whole (tenant_ids whole.lists)) ∙ up.order in
    let becomes = c.rows_become_those_of_format_2.ensures c.args.format (tenancies_of h) (subst (λ rs. IsStrictlySortedBy key_cmp (map key_of rs)) (sym loaded) sorted) in
    ap (all_changed rows) (returns-clause-batch c)
    ∙ rows_begun setup h old new c.args.format rows loaded becomes (c.new_tenants_put_their_rows.ensures (λ x. has_tenant h.lists x.id) (tenancies_of whole) ids in_order)
