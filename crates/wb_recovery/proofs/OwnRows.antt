-- The rows of a tenant's part of lists are those of a tenant of whom nothing is held.
use Rattle.std.proofs.Common.{◌≡◌, ◌⊎◌, inl, inr, ℕ, ◌≤◌, true, cond, List, [], ◌∷◌, ◌++◌, map, filter, find, Some, refl, sym, ap, ◌∙◌, arith, eq-eqb, eqb-true, ne_eqb}
use Rattle.std.specs.Prelude.{◌==◌, nat_lt, is_some, unwrap_or}
use Rattle.std.proofs.lemmas.Bool.{and_parts, cases_eq, false≢true}
use Rattle.std.proofs.lemmas.List.{append-nil}
use Rattle.wb_base.specs.FormJson.{kept_data}
use Rattle.wb_base.specs.declared.form.Format.TheVariants.{Weighed}
use Rattle.wb_custody.specs.SealedAnswers.{answers_of}
use Rattle.wb_row_codec.specs.declared.item.NumberingItem.{NumberingItem}
use Rattle.wb_model.specs.declared.registry.ContextItem.{ContextItem}
use Rattle.wb_model.specs.declared.registry.FormItem.{FormItem}
use Rattle.wb_model.specs.declared.registry.Lists.{Lists}
use Rattle.wb_model.specs.declared.registry.TenantItem.{TenantItem}
use Rattle.wb_model.specs.declared.registry.UserItem.{UserItem}
use Rattle.wb_model.specs.Legal.{ascends, ascends_from}
use Rattle.wb_model.specs.Openings.{no_settings}
use Rattle.wb_model.specs.Rows.{row, tenants_rows, settings_data, user_data, context_data}
use Rattle.wb_model.specs.SetUps.{tenant_ids}
use Rattle.wb_rows.specs.declared.tables.Tables.{Tables}
use Rattle.wb_rows.specs.Reports.{case_report}
use Rattle.wb_rows.specs.Held.{held_by}
use Rattle.wb_rows.specs.HeldRows.{settings_row, numbering_row, user_row, form_row, context_row, list_rows, trail_rows, sealed_rows, own_rows as own_held}
use Rattle.wb_tenants.specs.Owned.{own_lists}
use Rattle.wb_tenants.specs.Sets.{HasTenant, is_tenant}
use Rattle.wb_recovery.specs.HeldPlaces.{new_tenancy}
use Rattle.wb_recovery.proofs.NewTenants.{same_on}
use Rattle.wb_recovery.proofs.OpenedPlaces.{below}

-- no number is drawn
abbrev pub undrawn : ℕ → NumberingItem
undrawn t = record { tenant = t; numbering = record { at = 0; drawn = 0; last = 0 } }

-- ---- the settings

none_above : (t k : ℕ) (xs : List TenantItem) → t ≤ k → ascends_from k (map (λ (x : TenantItem). x.tenant) xs) ≡ true → filter (is_tenant t) xs ≡ []
none_above t k [] le up = refl
none_above t k (x ∷ xs) le up =
    let parts = and_parts (nat_lt k x.tenant) (ascends_from x.tenant (map (λ (y : TenantItem). y.tenant) xs)) up in
    let lt = below k x.tenant parts.0 in
    rw (ne_eqb x.tenant t (λ e. omega (arith, e, le, lt))) (none_above t x.tenant xs (omega (arith, le, lt)) parts.1)

from_above : (k : ℕ) (ts : List ℕ) → ascends_from k ts ≡ true → ascends ts ≡ true
from_above k [] up = refl
from_above k (t ∷ ts) up = (and_parts (nat_lt k t) (ascends_from t ts) up).1

settings_alone : (t : ℕ) (xs : List TenantItem) → ascends (map (λ (x : TenantItem). x.tenant) xs) ≡ true → is_some (find (is_tenant t) xs) ≡ true
    → map settings_row (filter (is_tenant t) xs) ≡ row 1 t 0 0 (settings_data (unwrap_or (find (is_tenant t) xs) (no_settings t))) ∷ []
settings_alone t [] up there = absurd (false≢true there)
settings_alone t (x ∷ xs) up there = by (cases_eq x.tenant t) (λ e. settings_alone t xs (from_above x.tenant (map (λ (y : TenantItem). y.tenant) xs) up) e)
  where
    by : (x.tenant ≡ t) ⊎ (x.tenant ≡ t → ⊥) → (is_some (find (is_tenant t) xs) ≡ true → map settings_row (filter (is_tenant t) xs) ≡ row 1 t 0 0 (settings_data (unwrap_or (find (is_tenant t) xs) (no_settings t))) ∷ [])
        → map settings_row (filter (is_tenant t) (x ∷ xs)) ≡ row 1 t 0 0 (settings_data (unwrap_or (find (is_tenant t) (x ∷ xs)) (no_settings t))) ∷ []
    by (inl is) rest = rw (eq-eqb x.tenant t is, none_above t x.tenant xs (omega (arith, is)) up) (ap (λ u. row 1 u 0 0 (settings_data x) ∷ []) is)
    by (inr ne) rest = rw (ne_eqb x.tenant t ne) (rest (sym (ap (λ b. is_some (cond b (Some x) (find (is_tenant t) xs))) (ne_eqb x.tenant t ne)) ∙ there))

-- ---- the whole

module _ (t : ℕ) (lists : Lists) (up : ascends (tenant_ids lists) ≡ true) (there : HasTenant lists t) where
  users : map user_row (filter (λ (x : UserItem). x.tenant == t) lists.users) ≡ map (λ (u : UserItem). row 3 t u.id 0 (user_data u)) (filter (λ (x : UserItem). x.tenant == t) lists.users)
  users = same_on (λ (x : UserItem). x.tenant == t) user_row (λ (u : UserItem). row 3 t u.id 0 (user_data u)) (λ x is. ap (λ n. row 3 n x.id 0 (user_data x)) (eqb-true x.tenant t is)) lists.users

  forms : map (form_row Weighed) (filter (λ (x : FormItem). x.tenant == t) lists.forms) ≡ map (λ (f : FormItem). row 4 t f.id f.version (kept_data f.form)) (filter (λ (x : FormItem). x.tenant == t) lists.forms)
  forms = same_on (λ (x : FormItem). x.tenant == t) (form_row Weighed) (λ (f : FormItem). row 4 t f.id f.version (kept_data f.form)) (λ x is. ap (λ n. row 4 n x.id x.version (kept_data x.form)) (eqb-true x.tenant t is)) lists.forms

  contexts : map context_row (filter (λ (x : ContextItem). x.tenant == t) lists.contexts) ≡ map (λ (c : ContextItem). row 5 t c.id 0 (context_data c)) (filter (λ (x : ContextItem). x.tenant == t) lists.contexts)
  contexts = same_on (λ (x : ContextItem). x.tenant == t) context_row (λ (c : ContextItem). row 5 t c.id 0 (context_data c)) (λ x is. ap (λ n. row 5 n x.id 0 (context_data x)) (eqb-true x.tenant t is)) lists.contexts

  own_rows : list_rows Weighed (own_lists t lists) (undrawn t ∷ []) ≡ tenants_rows (new_tenancy lists t ∷ [])
  own_rows =
      let settings = settings_alone t lists.tenants up there in
      λ i. settings i ++ (numbering_row (undrawn t) ∷ ((users ∙ sym (append-nil (map (λ (u : UserItem). row 3 t u.id 0 (user_data u)) (filter (λ (x : UserItem). x.tenant == t) lists.users)))) i
      ++ ((forms ∙ sym (append-nil (map (λ (f : FormItem). row 4 t f.id f.version (kept_data f.form)) (filter (λ (x : FormItem). x.tenant == t) lists.forms)))) i
      ++ (contexts ∙ (sym (append-nil (map (λ (c : ContextItem). row 5 t c.id 0 (context_data c)) (filter (λ (x : ContextItem). x.tenant == t) lists.contexts)))
      ∙ sym (append-nil (map (λ (c : ContextItem). row 5 t c.id 0 (context_data c)) (filter (λ (x : ContextItem). x.tenant == t) lists.contexts) ++ [])))) i)))

  -- the rows of tables that have nothing else
  pub new_rows : (tables : Tables) → tables.registry.lists ≡ own_lists t lists → tables.numberings ≡ undrawn t ∷ [] → tables.cases ≡ [] → own_held Weighed (held_by tables) ≡ tenants_rows (new_tenancy lists t ∷ [])
  new_rows tables own drawn none =
      (λ i. list_rows Weighed (own i) (drawn i) ++ (trail_rows (map case_report (none i)) ++ sealed_rows (answers_of tables.sealed.items) (map case_report (none i))))
      ∙ (append-nil (list_rows Weighed (own_lists t lists) (undrawn t ∷ [])) ∙ own_rows)
