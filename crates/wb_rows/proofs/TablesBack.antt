-- THE LAW of what is written: good tables are read of their rows.
use Rattle.std.proofs.Common.{◌≡◌, ◌≢◌, ℕ, Bool, true, List, [], ◌∷◌, ◌++◌, map, None, Ok, Err, refl, sym, ap, ◌∙◌}
use mathlib.Core.Path.{fun_ext}
use Rattle.std.proofs.lemmas.Bool.{and_from, and_parts, eq-eqb}
use Rattle.std.proofs.lemmas.List.Folds.{list_all-append, list_all-map}
use Rattle.std.specs.List.{list_all, list_any}
use Rattle.std.specs.Option.{option_or}
use Rattle.std.specs.Prelude.{◌==◌, ◌&&◌}
use Rattle.wb_base.specs.declared.rows.Row.{Row}
use Rattle.wb_custody.specs.declared.sealed.SealedItem.{SealedItem}
use Rattle.wb_row_codec.specs.declared.item.EntryItem.{EntryItem}
use Rattle.wb_row_codec.specs.declared.item.Item.{Item}
use Rattle.wb_row_codec.specs.declared.item.Item.TheVariants as items
use Rattle.wb_row_codec.specs.declared.item.NumberingItem.{NumberingItem}
use Rattle.wb_row_codec.specs.Items.{item_row, is_kept_in}
use Rattle.wb_model.specs.Rows.{format_row}
use Rattle.std.proofs.lemmas.Cmp.{nat_list_eq_equiv}
use Rattle.wb_model.specs.declared.registry.ContextItem.{ContextItem}
use Rattle.wb_model.specs.declared.registry.FormItem.{FormItem}
use Rattle.wb_model.specs.declared.registry.TenantItem.{TenantItem}
use Rattle.wb_model.specs.declared.registry.UserItem.{UserItem}
use Rattle.wb_model.specs.SetUps.{AreSetUp, has_tenant}
use Rattle.wb_rows.specs.declared.faults.RowFault.{RowFault}
use Rattle.wb_rows.specs.declared.faults.RowFault.TheVariants as faults
use Rattle.wb_rows.specs.declared.items.ItemsByKind.{ItemsByKind}
use Rattle.wb_rows.specs.Blame.{blamed}
use Rattle.wb_rows.specs.Good.{AreGood}
use Rattle.wb_rows.specs.Reports.{Report}
use Rattle.wb_rows.specs.Held.{Held}
use Rattle.wb_rows.specs.HeldItems.{entry_items, items_of, sealed_items}
use Rattle.wb_rows.specs.HeldRows.{own_rows, rows_in, rows_of}
use Rattle.wb_rows.specs.Judged.{held as tables_read, judged, judged_in, judged_items, judged_kept, judged_reports, report_fault, unless}
use Rattle.wb_rows.specs.ListRules.{has_tenant_rows}
use Rattle.wb_rows.specs.Places.{entry_key, numbering_key, sealed_key}
use Rattle.wb_rows.specs.ReadItems.{items_in}
use Rattle.wb_rows.specs.ReportRules.{has_its_seal, is_right_entry, is_right_numbering, is_right_seal, same_receipt}
use Rattle.wb_rows.specs.TrailRule.{reports_of}
use Rattle.wb_rows.proofs.HeldReports.{all-true, held-true}
use Rattle.wb_rows.proofs.ItemsBack.{items-read, kept_by, kinds-of-items, rows-of-items}
use Rattle.wb_rows.proofs.ListsBack.{held_any, none-at-fault, none_breaks, none_repeats}
use Rattle.wb_rows.proofs.OwnedRows.{has_numbering}
use Rattle.wb_rows.proofs.ReportsBack.{all-legal, all-sealed, any_map, entries_all, entries_of_all, rules-kept, seal_all, seals_all}
use Rattle.wb_rows.proofs.RulesHold.{RulesHold, drawn_entry, drawn_seal}
use Rattle.wb_rows.proofs.TrailsBack.{reports-read}
use Rattle.wb_base.specs.declared.form.Format.{Format}
use Rattle.wb_base.specs.declared.form.Format.TheVariants.{Plain, Weighed}

-- ---- no rule of reports is broken

none-blamed : (k : ItemsByKind) (rs : List Report) → RulesHold k rs → report_fault k rs ≡ None
none-blamed k rs hold =
    let six = none_breaks (is_right_entry k.lists) entry_key k.entries hold.entries in
    let seven = none_breaks (drawn_entry k) entry_key k.entries hold.drawn in
    let seven_seals = none_breaks (drawn_seal k) sealed_key k.sealed hold.drawn_seals in
    let eight = none_breaks (has_its_seal k.sealed) entry_key k.entries hold.sealed in
    let eight_seals = none_breaks (is_right_seal k.lists rs) sealed_key k.sealed hold.seals in
    let nine = none_repeats same_receipt entry_key k.entries hold.receipts in
    let ten = none_breaks (is_right_numbering k.entries) numbering_key k.numberings hold.numberings in
    λ i. blamed 6 (six i) (blamed 7 (option_or (seven i) (seven_seals i)) (blamed 8 (option_or (eight i) (eight_seals i)) (blamed 9 (nine i) (blamed 10 (ten i) None))))

module _ (format : Format) (at : ℕ) (h : Held) (good : AreGood at h) where
  up : AreSetUp h.lists
  up = (good.kept 0).set_up

  -- ---- each row is of a tenant that has its settings and its numbering

  abbrev is_there : ℕ → Bool
  is_there t = has_tenant h.lists t

  abbrev of_tenant : Row → Bool
  of_tenant row = has_tenant_rows h.lists h.numberings row

  same_tenants : (t : ℕ) → has_numbering h.numberings t ≡ is_there t
  same_tenants t = any_map (λ (x : NumberingItem). x.tenant) t h.numberings ∙ (ap (list_any (λ n. n == t)) good.numbered ∙ sym (any_map (λ (x : TenantItem). x.tenant) t h.lists.tenants))

  has_rows : (row : Row) → is_there row.key.tenant ≡ true → of_tenant row ≡ true
  unfolding has_tenant_rows
  has_rows row there = and_from (is_there row.key.tenant) (has_numbering h.numberings row.key.tenant) there (same_tenants row.key.tenant ∙ there)

  -- the rows of a kind
  of_kind : {X : Type 0} (kind : X → Item) (tenant : X → ℕ) → ((x : X) → (item_row format (kind x)).key.tenant ≡ tenant x) → (xs : List X) → list_all (λ x. is_there (tenant x)) xs ≡ true → list_all (λ i. of_tenant (item_row format i)) (map kind xs) ≡ true
  of_kind kind tenant own [] all = refl
  of_kind kind tenant own (x ∷ xs) all =
      let parts = and_parts (is_there (tenant x)) (list_all (λ y. is_there (tenant y)) xs) all in
      and_from (of_tenant (item_row format (kind x))) (list_all (λ i. of_tenant (item_row format i)) (map kind xs)) (has_rows (item_row format (kind x)) (ap is_there (own x) ∙ parts.0)) (of_kind kind tenant own xs parts.1)

  both : (xs ys : List Item) → list_all (λ i. of_tenant (item_row format i)) xs ≡ true → list_all (λ i. of_tenant (item_row format i)) ys ≡ true → list_all (λ i. of_tenant (item_row format i)) (xs ++ ys) ≡ true
  both xs ys p q = list_all-append (λ i. of_tenant (item_row format i)) xs ys ∙ and_from (list_all (λ i. of_tenant (item_row format i)) xs) (list_all (λ i. of_tenant (item_row format i)) ys) p q

  tenants_there : list_all (λ (x : TenantItem). is_there x.tenant) h.lists.tenants ≡ true
  tenants_there = all-true (λ (x : TenantItem). is_there x.tenant) h.lists.tenants (λ x held. held_any (λ (y : TenantItem). y.tenant == x.tenant) h.lists.tenants x held (eq-eqb x.tenant x.tenant refl))

  numberings_there : list_all (λ (x : NumberingItem). is_there x.tenant) h.numberings ≡ true
  numberings_there = all-true (λ (x : NumberingItem). is_there x.tenant) h.numberings (λ x held. sym (same_tenants x.tenant) ∙ held_any (λ (y : NumberingItem). y.tenant == x.tenant) h.numberings x held (eq-eqb x.tenant x.tenant refl))

  entries_there : list_all (λ (x : EntryItem). is_there x.tenant) (entry_items h.reports) ≡ true
  entries_there = entries_all (λ (x : EntryItem). is_there x.tenant) h.reports (λ r held. entries_of_all (λ t n. is_there t) r.tenant r.number 1 r.trail (held-true (λ (x : Report). is_there x.tenant) h.reports good.owned r held))

  sealed_there : list_all (λ (x : SealedItem). is_there x.tenant) (sealed_items h.sealed h.reports) ≡ true
  sealed_there = seals_all (λ (x : SealedItem). is_there x.tenant) h.sealed h.reports (λ r held. seal_all (λ t n. is_there t) r.tenant r.number (h.sealed r.tenant r.number) (held-true (λ (x : Report). is_there x.tenant) h.reports good.owned r held))

  items_there : list_all (λ i. of_tenant (item_row format i)) (items_of h) ≡ true
  items_there =
      let contexts = and_parts (list_all (λ (x : UserItem). is_there x.tenant) h.lists.users && list_all (λ (x : FormItem). is_there x.tenant) h.lists.forms) (list_all (λ (x : ContextItem). is_there x.tenant) h.lists.contexts) up.owned in
      let users = and_parts (list_all (λ (x : UserItem). is_there x.tenant) h.lists.users) (list_all (λ (x : FormItem). is_there x.tenant) h.lists.forms) contexts.0 in
      both (map items.Settings h.lists.tenants) _ (of_kind items.Settings (λ (x : TenantItem). x.tenant) (λ x. refl) h.lists.tenants tenants_there)
      (both (map items.Numbering h.numberings) _ (of_kind items.Numbering (λ (x : NumberingItem). x.tenant) (λ x. refl) h.numberings numberings_there)
      (both (map items.User h.lists.users) _ (of_kind items.User (λ (x : UserItem). x.tenant) (λ x. refl) h.lists.users users.0)
      (both (map items.Form h.lists.forms) _ (of_kind items.Form (λ (x : FormItem). x.tenant) (λ x. refl) h.lists.forms users.1)
      (both (map items.Context h.lists.contexts) _ (of_kind items.Context (λ (x : ContextItem). x.tenant) (λ x. refl) h.lists.contexts contexts.1)
      (both (map items.Entry (entry_items h.reports)) _ (of_kind items.Entry (λ (x : EntryItem). x.tenant) (λ x. refl) (entry_items h.reports) entries_there)
      (of_kind items.Sealed (λ (x : SealedItem). x.tenant) (λ x. refl) (sealed_items h.sealed h.reports) sealed_there))))))

  rows_there : list_all of_tenant (own_rows format h) ≡ true
  rows_there = ap (list_all of_tenant) (sym (rows-of-items format h)) ∙ (list_all-map of_tenant (item_row format) (items_of h) ∙ items_there)

  -- ---- what is read

  read_items : list_all (is_kept_in format) (items_of h) ≡ true → items_in format (own_rows format h) ≡ Ok (items_of h)
  read_items kept = ap (items_in format) (sym (rows-of-items format h)) ∙ items-read format (items_of h) good.fits kept

  same_tables : tables_read (kept_by h) h.reports ≡ h
  same_tables = λ i. record h { sealed = fun_ext (λ t. fun_ext (λ n. all-sealed at h good t n)) i }

  read_reports : judged_reports (kept_by h) (reports_of h.lists (entry_items h.reports)) ≡ Ok h
  read_reports =
      ap (judged_reports (kept_by h)) (reports-read h.lists h.reports good.order (all-legal at h good))
      ∙ (ap (λ o. unless o (Ok (tables_read (kept_by h) h.reports))) (none-blamed (kept_by h) h.reports (rules-kept at h good)) ∙ ap (λ (x : Held). Ok x) same_tables)

  pub own-back : list_all (is_kept_in format) (items_of h) ≡ true → judged_in format (own_rows format h) ≡ Ok h
  own-back kept =
      ap (judged_items (own_rows format h)) (read_items kept)
      ∙ (ap (judged_kept (own_rows format h)) (kinds-of-items h)
      ∙ (ap (λ o. unless o (judged_reports (kept_by h) (reports_of h.lists (entry_items h.reports)))) (none-at-fault h.lists up (own_rows format h) h.numberings rows_there) ∙ read_reports))

-- ---- with the row of the format

each_kept : (all : List Item) → list_all (is_kept_in Weighed) all ≡ true
each_kept [] = refl
each_kept (items.Settings x ∷ all) = each_kept all
each_kept (items.Numbering x ∷ all) = each_kept all
each_kept (items.User x ∷ all) = each_kept all
each_kept (items.Form x ∷ all) = each_kept all
each_kept (items.Context x ∷ all) = each_kept all
each_kept (items.Entry x ∷ all) = each_kept all
each_kept (items.Sealed x ∷ all) = each_kept all

-- rows of items have no row of the format
plain-judged : (all : List Item) → judged (map (item_row Plain) all) ≡ judged_in Plain (map (item_row Plain) all)
plain-judged [] = refl
plain-judged (items.Settings x ∷ all) = refl
plain-judged (items.Numbering x ∷ all) = refl
plain-judged (items.User x ∷ all) = refl
plain-judged (items.Form x ∷ all) = refl
plain-judged (items.Context x ∷ all) = refl
plain-judged (items.Entry x ∷ all) = refl
plain-judged (items.Sealed x ∷ all) = refl

-- tables without a scored form are read of their rows in format 1 too
pub old-back : (at : ℕ) (h : Held) → AreGood at h → list_all (is_kept_in Plain) (items_of h) ≡ true → judged (rows_in Plain h) ≡ Ok h
old-back at h good kept =
    ap judged (sym (rows-of-items Plain h)) ∙ plain-judged (items_of h) ∙ ap (judged_in Plain) (rows-of-items Plain h) ∙ own-back Plain at h good kept

pub tables-back : (at : ℕ) (h : Held) → AreGood at h → judged (rows_of h) ≡ Ok h
tables-back at h good = rw (nat_list_eq_equiv.refl format_row.text) (own-back Weighed at h good (each_kept (items_of h)))

-- ---- rows that are read as tables

module _ (rows : List Row) (h : Held) (read : judged rows ≡ Ok h) where
  -- are read as no others
  pub same-read : (x : Held) → judged rows ≡ Ok x → x ≡ h
  same-read x is = let both : Ok x ≡ Ok h = sym is ∙ read in cc (both)

  -- and refused for want of memory alone
  pub not-refused : (fault : RowFault) → (fault ≢ faults.Memory → judged rows ≡ Err fault) → fault ≡ faults.Memory
  not-refused faults.Memory is = refl
  not-refused (faults.BadRow k) is = let both : Err (faults.BadRow k) ≡ Ok h = sym (is (λ e. absurd (cc (e)))) ∙ read in absurd (cc (both))
  not-refused (faults.BadSet rule k) is = let both : Err (faults.BadSet rule k) ≡ Ok h = sym (is (λ e. absurd (cc (e)))) ∙ read in absurd (cc (both))
