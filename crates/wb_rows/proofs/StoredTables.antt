-- What rows are read as is such that its rows are read back after turns.
use Rattle.std.proofs.Common.{◌≡◌, ℕ, Bool, true, List, [], ◌∷◌, map, filter, find, Option, Some, None, Ok, option_map, refl, sym, subst, arith}
use Rattle.std.specs.Prelude.{◌==◌}
use Rattle.std.specs.List.{list_all, filter_map}
use Rattle.std.specs.List.Sorted.{IsStrictlySortedBy}
use Rattle.std.specs.Option.{option_map_or}
use Rattle.std.proofs.lemmas.Bool.{and_parts, and_from}
use Rattle.std.proofs.lemmas.Bool.Decides.{nat_tests}
use Rattle.wb_base.specs.KeptRows.{key_cmp, key_of}
use Rattle.wb_base.specs.declared.rows.Row.{Row}
use Rattle.wb_custody.specs.SealedAnswers.{is_of, answers_of}
use Rattle.wb_custody.specs.declared.sealed.SealedItem.{SealedItem}
use Rattle.wb_row_codec.specs.declared.item.EntryItem.{EntryItem}
use Rattle.wb_row_codec.specs.declared.item.Item.{Item}
use Rattle.wb_row_codec.specs.declared.item.Item.TheVariants as items
use Rattle.wb_row_codec.specs.declared.item.NumberingItem.{NumberingItem}
use Rattle.wb_base.specs.declared.form.Format.{Format}
use Rattle.wb_row_codec.specs.Items.{is_in_range}
use Rattle.wb_model.specs.declared.entry.Entry.{Entry}
use Rattle.wb_model.specs.declared.registry.TenantItem.{TenantItem}
use Rattle.wb_model.specs.declared.registry.UserItem.{UserItem}
use Rattle.wb_model.specs.AnswerRanges.{are_answers}
use Rattle.wb_model.specs.Readable.{are_bytes, are_stored, is_stored_tenant, is_count, is_stored, are_sealed, is_stored_case, AreReadable}
use Rattle.wb_model.specs.SetUps.{has_tenant}
use Rattle.wb_model.specs.Tables.{Case}
use Rattle.wb_model.proofs.Found.{Held as In, held_filter, find_held}
use Rattle.wb_model.proofs.ItemPuts.{held_all, all_held}
use Rattle.wb_model.proofs.SetUpsReadable.{kept_readable}
use Rattle.wb_model.proofs.TurnRows.{map_held}
use Rattle.wb_rows.specs.ReportRules.{is_numbering_of}
use Rattle.wb_rows.specs.Reports.{Report}
use Rattle.wb_rows.specs.declared.items.ItemsByKind.{ItemsByKind}
use Rattle.wb_rows.specs.Held.{Held}
use Rattle.wb_rows.specs.HeldItems.{entry_items}
use Rattle.wb_rows.specs.Judged.{judged_in}
use Rattle.wb_rows.specs.KeptItems.{tenant_in, numbering_in, user_in, entry_in, sealed_in, kept_of}
use Rattle.wb_rows.specs.Openings.{numbering_of, case_of, cases_of, tables_of, time_of}
use Rattle.wb_rows.specs.ReadItems.{items_in}
use Rattle.wb_rows.proofs.HeldReports.{items-held, trail-all}
use Rattle.wb_rows.proofs.OpenedTables.{read-kept}
use Rattle.wb_rows.proofs.RowsBack.{is-read}
use Rattle.wb_rows.proofs.StoredItems.{is_stored_item, items_stored}
use Rattle.wb_rows.proofs.TrailRows.{entries-back}

-- what each item of a kind is, where all items are so
of_kind_all : {X : Type 0} (f : Item → Option X) (p : X → Bool) → ((i : Item) (x : X) → f i ≡ Some x → is_stored_item i ≡ true → p x ≡ true) → (all : List Item) → list_all is_stored_item all ≡ true → list_all p (filter_map f all) ≡ true
of_kind_all f p up [] all = refl
of_kind_all {X} f p up (i ∷ more) all =
    let parts = and_parts (is_stored_item i) (list_all is_stored_item more) all in
    by (f i) refl parts.0 (of_kind_all f p up more parts.1)
  where
    by : (o : Option X) → f i ≡ o → is_stored_item i ≡ true → list_all p (filter_map f more) ≡ true → list_all p (filter_map f (i ∷ more)) ≡ true
    by None e is ih = rw e ih
    by (Some x) e is ih = rw e (and_from _ _ (up i x e is) ih)

tenant_stored : (i : Item) (x : TenantItem) → tenant_in i ≡ Some x → is_stored_item i ≡ true → is_stored_tenant x ≡ true
tenant_stored (items.Settings y) x e is = let same : y ≡ x = cc in subst (λ (z : TenantItem). is_stored_tenant z ≡ true) same is
tenant_stored (items.Numbering y) x e is = absurd cc
tenant_stored (items.User y) x e is = absurd cc
tenant_stored (items.Form y) x e is = absurd cc
tenant_stored (items.Context y) x e is = absurd cc
tenant_stored (items.Entry y) x e is = absurd cc
tenant_stored (items.Sealed y) x e is = absurd cc

numbering_stored : (i : Item) (x : NumberingItem) → numbering_in i ≡ Some x → is_stored_item i ≡ true → is_count x.numbering.last ≡ true
numbering_stored (items.Numbering y) x e is = let same : y ≡ x = cc in subst (λ (z : NumberingItem). is_count z.numbering.last ≡ true) same is
numbering_stored (items.Settings y) x e is = absurd cc
numbering_stored (items.User y) x e is = absurd cc
numbering_stored (items.Form y) x e is = absurd cc
numbering_stored (items.Context y) x e is = absurd cc
numbering_stored (items.Entry y) x e is = absurd cc
numbering_stored (items.Sealed y) x e is = absurd cc

user_stored : (i : Item) (x : UserItem) → user_in i ≡ Some x → is_stored_item i ≡ true → are_bytes 32 x.secret.0 ≡ true
user_stored (items.User y) x e is = let same : y ≡ x = cc in subst (λ (z : UserItem). are_bytes 32 z.secret.0 ≡ true) same is
user_stored (items.Settings y) x e is = absurd cc
user_stored (items.Numbering y) x e is = absurd cc
user_stored (items.Form y) x e is = absurd cc
user_stored (items.Context y) x e is = absurd cc
user_stored (items.Entry y) x e is = absurd cc
user_stored (items.Sealed y) x e is = absurd cc

entry_stored : (i : Item) (x : EntryItem) → entry_in i ≡ Some x → is_stored_item i ≡ true → is_stored x.entry.deed ≡ true
entry_stored (items.Entry y) x e is = let same : y ≡ x = cc in subst (λ (z : EntryItem). is_stored z.entry.deed ≡ true) same is
entry_stored (items.Settings y) x e is = absurd cc
entry_stored (items.Numbering y) x e is = absurd cc
entry_stored (items.User y) x e is = absurd cc
entry_stored (items.Form y) x e is = absurd cc
entry_stored (items.Context y) x e is = absurd cc
entry_stored (items.Sealed y) x e is = absurd cc

sealed_stored : (i : Item) (x : SealedItem) → sealed_in i ≡ Some x → is_stored_item i ≡ true → are_answers x.answers ≡ true
sealed_stored (items.Sealed y) x e is = let same : y ≡ x = cc in subst (λ (z : SealedItem). are_answers z.answers ≡ true) same is
sealed_stored (items.Settings y) x e is = absurd cc
sealed_stored (items.Numbering y) x e is = absurd cc
sealed_stored (items.User y) x e is = absurd cc
sealed_stored (items.Form y) x e is = absurd cc
sealed_stored (items.Context y) x e is = absurd cc
sealed_stored (items.Entry y) x e is = absurd cc

module _ (all : List Item) (rs : List Report) (stored : list_all is_stored_item all ≡ true) (entries : (kept_of all).entries ≡ entry_items rs) where
  abbrev k : ItemsByKind
  k = kept_of all

  lists_stored : are_stored (kept_of all).lists ≡ true
  lists_stored = and_from _ _ (of_kind_all tenant_in is_stored_tenant tenant_stored all stored) (of_kind_all user_in (λ (x : UserItem). are_bytes 32 x.secret.0) user_stored all stored)

  last_stored : (t : ℕ) → is_count (numbering_of (kept_of all).numberings t).last ≡ true
  last_stored t = by (find (is_numbering_of t) (kept_of all).numberings) refl
    where
      by : (o : Option NumberingItem) → find (is_numbering_of t) (kept_of all).numberings ≡ o → is_count (option_map_or (λ (x : NumberingItem). x.numbering) o (record { at = 0; drawn = 0; last = 0 })).last ≡ true
      by None e = grind (arith, nat_tests)
      by (Some x) e = held_all (λ (y : NumberingItem). is_count y.numbering.last) (kept_of all).numberings x (of_kind_all numbering_in (λ (y : NumberingItem). is_count y.numbering.last) numbering_stored all stored) (find_held (is_numbering_of t) (kept_of all).numberings x e)

  seal_stored : (t n : ℕ) → are_sealed (answers_of (kept_of all).sealed t n) ≡ true
  seal_stored t n = by (find (is_of t n) (kept_of all).sealed) refl
    where
      by : (o : Option SealedItem) → find (is_of t n) (kept_of all).sealed ≡ o → are_sealed (option_map (λ (x : SealedItem). x.answers) o) ≡ true
      by None e = refl
      by (Some x) e = held_all (λ (y : SealedItem). are_answers y.answers) (kept_of all).sealed x (of_kind_all sealed_in (λ (y : SealedItem). are_answers y.answers) sealed_stored all stored) (find_held (is_of t n) (kept_of all).sealed x e)

  trail_stored : (r : Report) → In r rs → list_all (λ (e : Entry). is_stored e.deed) r.trail ≡ true
  trail_stored r h = trail-all (λ (x : EntryItem). is_stored x.entry.deed) (λ (e : Entry). is_stored e.deed) r.tenant r.number (λ place e is. is) 1 r.trail
      (items-held (λ (x : EntryItem). is_stored x.entry.deed) rs (subst (λ l. list_all (λ (x : EntryItem). is_stored x.entry.deed) l ≡ true) entries (of_kind_all entry_in (λ (x : EntryItem). is_stored x.entry.deed) entry_stored all stored)) r h)

  cases_stored : (t : ℕ) → list_all (is_stored_case (answers_of (kept_of all).sealed t)) (cases_of rs t) ≡ true
  cases_stored t = all_held (is_stored_case (answers_of (kept_of all).sealed t)) (cases_of rs t) (λ c h.
      let r = map_held case_of (filter (λ (x : Report). x.tenant == t) rs) c h in
      let held = held_filter (λ (x : Report). x.tenant == t) rs r.0 r.1.0 in
      subst (λ (d : Case). is_stored_case (answers_of (kept_of all).sealed t) d ≡ true) (sym r.1.1) (and_from _ _ (trail_stored r.0 held.0) (seal_stored t r.0.number)))

module _ (format : Format) (rows : List Row) (h : Held) (sorted : IsStrictlySortedBy key_cmp (map key_of rows)) (fits : (all : List Item) → items_in format rows ≡ Ok all → list_all is_in_range all ≡ true) (is : judged_in format rows ≡ Ok h) where
  pub read-readable : (t : ℕ) → has_tenant h.lists t ≡ true → AreReadable t (tables_of h t)
  read-readable t there =
      let parts = is-read format rows h is in
      let all = parts.0 in
      let rs = parts.1.0 in
      let how = parts.1.1 in
      let stored = items_stored format rows all how.items in
      let entries = entries-back (kept_of all).lists (kept_of all).entries rs how.reports in
      kept_readable (time_of h) h.lists t (tables_of h t) (read-kept format rows h sorted fits is t)
      (subst (λ (x : Held). are_stored x.lists ≡ true) how.held (lists_stored all rs stored entries)) there
      (subst (λ (x : Held). is_count (numbering_of x.numberings t).last ≡ true) how.held (last_stored all rs stored entries t))
      (subst (λ (x : Held). list_all (is_stored_case (x.sealed t)) (cases_of x.reports t) ≡ true) how.held (cases_stored all rs stored entries t))

  pub read-stored : are_stored h.lists ≡ true
  read-stored =
      let parts = is-read format rows h is in
      let how = parts.1.1 in
      subst (λ (x : Held). are_stored x.lists ≡ true) how.held (lists_stored parts.0 parts.1.0 (items_stored format rows parts.0 how.items) (entries-back (kept_of parts.0).lists (kept_of parts.0).entries parts.1.0 how.reports))
