-- What rows are read as is what a host may be opened over: the tables of each tenant keep the rules, and their rows are the rows read.
use Rattle.std.proofs.Common.{◌≡◌, ℕ, true, false, List, map, Ok, ◌∙◌, subst}
use Rattle.std.specs.List.{list_all}
use Rattle.std.specs.List.Sorted.{IsStrictlySortedBy}
use Rattle.wb_base.specs.KeptRows.{key_cmp, key_of}
use Rattle.wb_base.specs.declared.rows.Row.{Row}
use Rattle.wb_custody.specs.SealedAnswers.{pair_cmp}
use Rattle.wb_row_codec.specs.declared.item.EntryItem.{EntryItem}
use Rattle.wb_row_codec.specs.declared.item.Item.{Item}
use Rattle.wb_row_codec.specs.Items.{is_in_range, item_row}
use Rattle.wb_list.specs.Keyed.{IsAscending}
use Rattle.wb_model.specs.KeptRules.{AreKept}
use Rattle.wb_model.specs.Openings.{empty_tables, registry_of}
use Rattle.wb_model.specs.Rows.{own_rows_in as own_rows_of_tenants}
use Rattle.wb_model.specs.SetUps.{has_tenant}
use Rattle.wb_rows.specs.declared.items.ItemsByKind.{ItemsByKind}
use Rattle.wb_rows.specs.Reports.{Report}
use Rattle.wb_rows.specs.Held.{Held}
use Rattle.wb_rows.specs.HeldRows.{own_rows}
use Rattle.wb_rows.specs.Judged.{held as tables_read, judged_in}
use Rattle.wb_rows.specs.KeptItems.{kept_of}
use Rattle.wb_rows.specs.ListRules.{has_tenant_rows}
use Rattle.wb_rows.specs.Blame.{first_breaking}
use Rattle.wb_rows.specs.Openings.{tables_of, tenancies_of, time_of}
use Rattle.wb_rows.specs.Places.{report_place}
use Rattle.wb_rows.specs.ReadItems.{items_in}
use Rattle.wb_rows.proofs.FitItems.{entries-fit}
use Rattle.wb_rows.proofs.HeldReports.{firsts-all}
use Rattle.wb_rows.proofs.ItemOrder.{entries-order, item_key, items_ascend, lists-order, numberings-order, rows_of_items}
use Rattle.wb_rows.proofs.KeptSetUp.{set-up}
use Rattle.wb_rows.proofs.KeptTables.{are-kept}
use Rattle.wb_rows.proofs.LegalReports.{reports-legal}
use Rattle.wb_rows.proofs.NoTenant.{none-held}
use Rattle.wb_rows.proofs.OwnedRows.{AreOwned, owned-rows}
use Rattle.wb_rows.proofs.ReportOrder.{reports_ascend}
use Rattle.wb_rows.proofs.RowsBack.{IsReadAs, is-read, rows-back}
use Rattle.wb_rows.proofs.RowsByTenant.{AreParted, parted-rows}
use Rattle.wb_rows.proofs.RulesHold.{none-blamed, rules-hold}
use Rattle.wb_rows.proofs.TrailRows.{entries-back}
use Rattle.wb_base.specs.declared.form.Format.{Format}

module _ (format : Format) (rows : List Row) (h : Held) (all : List Item) (rs : List Report) (how : IsReadAs format rows h all rs) (fits : list_all is_in_range all ≡ true) (sorted : IsStrictlySortedBy key_cmp (map item_key all)) where
  abbrev k : ItemsByKind
  k = kept_of all

  are : map (item_row format) all ≡ rows
  are = rows_of_items format rows all how.items

  owned : AreOwned k
  owned = owned-rows format rows all are (none-blamed 1 (first_breaking (has_tenant_rows k.lists k.numberings) key_of rows) _ how.lists).0

  ascend : IsAscending pair_cmp report_place rs
  ascend = reports_ascend k.lists k.entries rs (entries-order all fits sorted) how.reports

  reports_owned : list_all (λ (r : Report). has_tenant k.lists r.tenant) rs ≡ true
  reports_owned =
      firsts-all k.lists rs (reports-legal k.lists k.entries rs how.reports) (λ t n. has_tenant k.lists t)
      (subst (λ l. list_all (λ (x : EntryItem). has_tenant k.lists x.tenant) l ≡ true) (entries-back k.lists k.entries rs how.reports) owned.entries)

  kept : (t : ℕ) → AreKept (time_of (tables_read k rs)) k.lists t (tables_of (tables_read k rs) t)
  kept t = are-kept k rs how.reports (rules-hold k rs how.rules) ascend (entries-fit all fits) t (set-up format rows all are fits sorted how.lists)

  parted : AreParted (tables_read k rs)
  parted = record {
    lists = lists-order all fits sorted;
    numberings = numberings-order all fits sorted;
    reports = ascend;
    numbered = owned.numbered;
    numberings_owned = owned.numberings;
    users_owned = owned.users;
    forms_owned = owned.forms;
    contexts_owned = owned.contexts;
    reports_owned = reports_owned;
  }

  -- the tables of each tenant keep the rules
  pub kept-read : (t : ℕ) → AreKept (time_of h) h.lists t (tables_of h t)
  kept-read t = subst (λ (x : Held). AreKept (time_of x) x.lists t (tables_of x t)) how.held (kept t)

  -- nothing is held of a tenant that is not there
  pub others-read : (t : ℕ) → has_tenant h.lists t ≡ false → tables_of h t ≡ empty_tables (registry_of h.lists t)
  others-read = subst (λ (x : Held). (t : ℕ) → has_tenant x.lists t ≡ false → tables_of x t ≡ empty_tables (registry_of x.lists t)) how.held (none-held k rs owned reports_owned)

  -- the rows of the tenants that are there are the rows of all that is held
  pub whole-read : own_rows_of_tenants format (tenancies_of h) ≡ own_rows format h
  whole-read = subst (λ (x : Held). own_rows_of_tenants format (tenancies_of x) ≡ own_rows format x) how.held (parted-rows format (tables_read k rs) parted)

-- ---- rows that are read

module _ (format : Format) (rows : List Row) (h : Held) (sorted : IsStrictlySortedBy key_cmp (map key_of rows)) (fits : (all : List Item) → items_in format rows ≡ Ok all → list_all is_in_range all ≡ true) (is : judged_in format rows ≡ Ok h) where
  pub read-kept : (t : ℕ) → AreKept (time_of h) h.lists t (tables_of h t)
  read-kept t =
      let parts = is-read format rows h is in
      let how = parts.1.1 in
      kept-read format rows h parts.0 parts.1.0 how (fits parts.0 how.items) (items_ascend format rows parts.0 how.items sorted) t

  pub read-others : (t : ℕ) → has_tenant h.lists t ≡ false → tables_of h t ≡ empty_tables (registry_of h.lists t)
  read-others t absent =
      let parts = is-read format rows h is in
      let how = parts.1.1 in
      others-read format rows h parts.0 parts.1.0 how (fits parts.0 how.items) (items_ascend format rows parts.0 how.items sorted) t absent

  pub read-whole : own_rows_of_tenants format (tenancies_of h) ≡ rows
  read-whole =
      let parts = is-read format rows h is in
      let how = parts.1.1 in
      whole-read format rows h parts.0 parts.1.0 how (fits parts.0 how.items) (items_ascend format rows parts.0 how.items sorted) ∙ rows-back format rows h sorted fits is
