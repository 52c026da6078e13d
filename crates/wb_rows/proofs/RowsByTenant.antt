-- The rows of what is held are those of the tenants that are there, each with its part.
use Rattle.std.proofs.Common.{◌≡◌, inl, inr, ℕ, ◌<◌, ◌≤◌, Bool, true, false, cond, List, [], ◌∷◌, ◌++◌, append-nil, map, filter, find, Option, Some, refl, sym, ap, ◌∙◌, arith, eq-eqb}
use Rattle.std.proofs.lemmas.Cmp.{ranked}
use Rattle.std.specs.List.{AllByRecursion, list_all, list_any}
use Rattle.std.specs.Option.{option_map_or}
use Rattle.std.specs.Ordering.{nat_cmp}
use Rattle.std.specs.Prelude.{◌==◌, ◌||◌, is_some, unwrap_or}
use Rattle.std.specs.declared.cmp.Ordering.TheVariants.{Less}
use Rattle.wb_base.specs.AnswerList.{Answered}
use Rattle.wb_base.specs.FormJson.{form_in}
use Rattle.wb_base.specs.declared.rows.Row.{Row}
use Rattle.wb_custody.specs.SealedAnswers.{pair_cmp}
use Rattle.wb_row_codec.specs.declared.item.NumberingItem.{NumberingItem}
use Rattle.wb_list.specs.Keyed.{IsAscending}
use Rattle.wb_model.specs.declared.registry.ContextItem.{ContextItem}
use Rattle.wb_model.specs.declared.registry.FormItem.{FormItem}
use Rattle.wb_model.specs.declared.registry.TenantItem.{TenantItem}
use Rattle.wb_model.specs.declared.registry.UserItem.{UserItem}
use Rattle.wb_model.specs.Legal.{ascends}
use Rattle.wb_model.specs.Openings.{no_settings}
use Rattle.wb_model.specs.Rows as model_rows
use Rattle.wb_model.specs.Rows.{row, settings_data, numbering_data, user_data, context_data, entries_from, of_tenants, settings_rows, numbering_rows, user_rows, form_rows_in, context_rows, entry_rows, answer_rows}
use Rattle.wb_model.specs.Settings.{form_key}
use Rattle.wb_model.specs.SetUps.{has_tenant, tenant_ids}
use Rattle.wb_model.specs.Tenants.{Tenancy}
use Rattle.wb_model.proofs.Found.{Held as In}
use Rattle.wb_model.proofs.KindRows.{each}
use Rattle.wb_model.proofs.TurnRows.{map_held}
use Rattle.wb_rows.specs.Reports.{Report}
use Rattle.wb_rows.specs.Held.{Held}
use Rattle.wb_rows.specs.HeldRows.{settings_row, numbering_row, user_row, form_row, context_row, trail_rows, sealed_rows, own_rows}
use Rattle.wb_rows.specs.Openings.{case_of, tenancies_of, tenancy_of}
use Rattle.wb_rows.specs.Places.{report_place}
use Rattle.wb_rows.specs.ReportRules.{is_numbering_of}
use Rattle.wb_rows.proofs.Ascending.{in-map}
use Rattle.wb_rows.proofs.HeldReports.{held-true}
use Rattle.wb_rows.proofs.OwnedRows.{has_numbering}
use Rattle.wb_rows.proofs.RowsBack.{together}
use Rattle.wb_rows.proofs.TenantParts.{Rise, are-of, is_of, rises, rows-by-tenant, rows-of-one}
use Rattle.wb_setup.specs.Keys.{AreInOrder, key_cmp}
use Rattle.wb_setup.proofs.Orders.{ids_ascend}
use Rattle.wb_tenants.proofs.TenantRuns.{not_above}
use Rattle.wb_base.specs.declared.form.Format.{Format}

-- what is held is in order, and of tenants that are there, each of which has its numbering
pub record AreParted (h : Held) : Type 0 where
  pub lists : AreInOrder h.lists
  pub numberings : IsAscending nat_cmp (λ (x : NumberingItem). x.tenant) h.numberings
  pub reports : IsAscending pair_cmp report_place h.reports
  pub numbered : list_all (λ (x : TenantItem). has_numbering h.numberings x.tenant) h.lists.tenants ≡ true
  pub numberings_owned : list_all (λ (x : NumberingItem). has_tenant h.lists x.tenant) h.numberings ≡ true
  pub users_owned : list_all (λ (x : UserItem). has_tenant h.lists x.tenant) h.lists.users ≡ true
  pub forms_owned : list_all (λ (x : FormItem). has_tenant h.lists x.tenant) h.lists.forms ≡ true
  pub contexts_owned : list_all (λ (x : ContextItem). has_tenant h.lists x.tenant) h.lists.contexts ≡ true
  pub reports_owned : list_all (λ (r : Report). has_tenant h.lists r.tenant) h.reports ≡ true

-- ---- lists

all_held : {X : Type 0} (P : X → Type 0) (xs : List X) → ((x : X) → In x xs → P x) → AllByRecursion P xs
all_held P [] so = tt
all_held P (x ∷ xs) so = (so x (inl refl), all_held P xs (λ y held. so y (inr held)))

not_after : (a b : ℕ) → nat_cmp a b ≡ Less → a ≤ b
not_after a b less = let lt : a < b = ranked a b Less (sym less) in omega (arith, lt)

map_each : {X : Type 0} (f : X → Row) (xs : List X) → map f xs ≡ each (λ x. f x ∷ []) xs
map_each f [] = refl
map_each f (x ∷ xs) = ap (λ l. f x ∷ l) (map_each f xs)

pub any_found : {X : Type 0} (test : X → Bool) (xs : List X) → list_any test xs ≡ true → is_some (find test xs) ≡ true
any_found test [] any = any
any_found {X} test (x ∷ xs) any = by (test x) any (any_found test xs)
  where
    by : (b : Bool) → (b || list_any test xs) ≡ true → (list_any test xs ≡ true → is_some (find test xs) ≡ true) → is_some (cond b (Some x) (find test xs)) ≡ true
    by true e rest = refl
    by false e rest = rest e

tenant_found : (t : ℕ) (xs : List TenantItem) → In t (map (λ (x : TenantItem). x.tenant) xs) → is_some (find (λ (x : TenantItem). x.tenant == t) xs) ≡ true
tenant_found t [] there = absurd there
tenant_found t (x ∷ xs) (inl is) = let here : (x.tenant == t) ≡ true = eq-eqb x.tenant t (sym is) in rw here refl
tenant_found t (x ∷ xs) (inr there) = by (x.tenant == t) (tenant_found t xs there)
  where
    by : (b : Bool) → is_some (find (λ (y : TenantItem). y.tenant == t) xs) ≡ true → is_some (cond b (Some x) (find (λ (y : TenantItem). y.tenant == t) xs)) ≡ true
    by true rest = refl
    by false rest = rest

of_each_tenant : (h : Held) (kind : Tenancy → List Row) (ts : List ℕ) → of_tenants kind (map (tenancy_of h) ts) ≡ each (λ t. kind (tenancy_of h t)) ts
of_each_tenant h kind [] = refl
of_each_tenant h kind (t ∷ ts) = ap (λ l. kind (tenancy_of h t) ++ l) (of_each_tenant h kind ts)

-- ---- reports

trail_each : (t : ℕ) (rs : List Report) → model_rows.trail_rows t (map case_of rs) ≡ each (λ (r : Report). entries_from t r.number 1 r.trail) rs
trail_each t [] = refl
trail_each t (r ∷ rs) = ap (λ l. entries_from t r.number 1 r.trail ++ l) (trail_each t rs)

own_trails : (rs : List Report) → trail_rows rs ≡ each (λ (r : Report). entries_from r.tenant r.number 1 r.trail) rs
own_trails [] = refl
own_trails (r ∷ rs) = ap (λ l. entries_from r.tenant r.number 1 r.trail ++ l) (own_trails rs)

sealed_each : (sealed : ℕ → ℕ → Option Answered) (t : ℕ) (rs : List Report) → model_rows.sealed_rows t (sealed t) (map case_of rs) ≡ each (λ (r : Report). model_rows.sealed_row t r.number (sealed t r.number)) rs
sealed_each sealed t [] = refl
sealed_each sealed t (r ∷ rs) = ap (λ l. model_rows.sealed_row t r.number (sealed t r.number) ++ l) (sealed_each sealed t rs)

own_sealed : (sealed : ℕ → ℕ → Option Answered) (rs : List Report) → sealed_rows sealed rs ≡ each (λ (r : Report). model_rows.sealed_row r.tenant r.number (sealed r.tenant r.number)) rs
own_sealed sealed [] = refl
own_sealed sealed (r ∷ rs) = ap (λ l. model_rows.sealed_row r.tenant r.number (sealed r.tenant r.number) ++ l) (own_sealed sealed rs)

-- ---- forms

pub forms-by-tenant : (format : Format) (h : Held) → AreInOrder h.lists → list_all (λ (x : FormItem). has_tenant h.lists x.tenant) h.lists.forms ≡ true → of_tenants (form_rows_in format) (tenancies_of h) ≡ map (form_row format) h.lists.forms
forms-by-tenant format h order owned =
    of_each_tenant h (form_rows_in format) (tenant_ids h.lists)
    ∙ (rows-by-tenant (λ (x : FormItem). x.tenant) (λ t x. row 4 t x.id x.version (form_in format x.form) ∷ []) (λ t. form_rows_in format (tenancy_of h t)) (tenant_ids h.lists) h.lists.forms (ids_ascend (tenant_ids h.lists) order.tenants)
    (rises (λ (x : FormItem). x.tenant) key_cmp (λ (x : FormItem). (x.tenant, form_key x)) (λ x y less. not_above x.tenant y.tenant (nat_cmp (form_key x) (form_key y)) less) h.lists.forms order.forms)
    (are-of (λ (x : FormItem). x.tenant) h.lists h.lists.forms owned)
    (λ t held. map_each (λ (x : FormItem). row 4 t x.id x.version (form_in format x.form)) (filter (is_of (λ (x : FormItem). x.tenant) t) h.lists.forms))
    ∙ sym (map_each (form_row format) h.lists.forms))

-- ---- kind by kind

module _ (format : Format) (h : Held) (parted : AreParted h) where
  abbrev ids : List ℕ
  ids = tenant_ids h.lists

  up : ascends ids ≡ true
  up = ids_ascend ids parted.lists.tenants

  abbrev of_kind : (Tenancy → List Row) → List Row
  of_kind kind = of_tenants kind (tenancies_of h)

  -- the tenants themselves are of the tenants that are there
  tenants_there : AllByRecursion (λ (x : TenantItem). In x.tenant ids) h.lists.tenants
  tenants_there = all_held (λ (x : TenantItem). In x.tenant ids) h.lists.tenants (λ x held. in-map (λ (y : TenantItem). y.tenant) h.lists.tenants x held)

  settings_kind : of_kind settings_rows ≡ map settings_row h.lists.tenants
  settings_kind =
      of_each_tenant h settings_rows ids
      ∙ (rows-by-tenant (λ (x : TenantItem). x.tenant) (λ t x. row 1 t 0 0 (settings_data x) ∷ []) (λ t. settings_rows (tenancy_of h t)) ids h.lists.tenants up
      (rises (λ (x : TenantItem). x.tenant) nat_cmp (λ (x : TenantItem). x.tenant) (λ x y less. not_after x.tenant y.tenant less) h.lists.tenants parted.lists.tenants) tenants_there
      (λ t held. rows-of-one (λ (x : TenantItem). x.tenant) (λ o. row 1 t 0 0 (settings_data (unwrap_or o (no_settings t))) ∷ []) (λ x. row 1 t 0 0 (settings_data x) ∷ []) t h.lists.tenants parted.lists.tenants (λ x. refl) (tenant_found t h.lists.tenants held))
      ∙ sym (map_each settings_row h.lists.tenants))

  numbering_found : (t : ℕ) → In t ids → is_some (find (is_numbering_of t) h.numberings) ≡ true
  numbering_found t held =
      let own = map_held (λ (x : TenantItem). x.tenant) h.lists.tenants t held in
      any_found (is_numbering_of t) h.numberings (ap (has_numbering h.numberings) own.1.1 ∙ held-true (λ (x : TenantItem). has_numbering h.numberings x.tenant) h.lists.tenants parted.numbered own.0 own.1.0)

  numberings_kind : of_kind numbering_rows ≡ map numbering_row h.numberings
  numberings_kind =
      of_each_tenant h numbering_rows ids
      ∙ (rows-by-tenant (λ (x : NumberingItem). x.tenant) (λ t x. row 2 t 0 0 (numbering_data x.numbering) ∷ []) (λ t. numbering_rows (tenancy_of h t)) ids h.numberings up
      (rises (λ (x : NumberingItem). x.tenant) nat_cmp (λ (x : NumberingItem). x.tenant) (λ x y less. not_after x.tenant y.tenant less) h.numberings parted.numberings)
      (are-of (λ (x : NumberingItem). x.tenant) h.lists h.numberings parted.numberings_owned)
      (λ t held. rows-of-one (λ (x : NumberingItem). x.tenant) (λ o. row 2 t 0 0 (numbering_data (option_map_or (λ (x : NumberingItem). x.numbering) o (record { at = 0; drawn = 0; last = 0 }))) ∷ []) (λ x. row 2 t 0 0 (numbering_data x.numbering) ∷ []) t h.numberings parted.numberings (λ x. refl) (numbering_found t held))
      ∙ sym (map_each numbering_row h.numberings))

  users_kind : of_kind user_rows ≡ map user_row h.lists.users
  users_kind =
      of_each_tenant h user_rows ids
      ∙ (rows-by-tenant (λ (x : UserItem). x.tenant) (λ t x. row 3 t x.id 0 (user_data x) ∷ []) (λ t. user_rows (tenancy_of h t)) ids h.lists.users up
      (rises (λ (x : UserItem). x.tenant) key_cmp (λ (x : UserItem). (x.tenant, x.id)) (λ x y less. not_above x.tenant y.tenant (nat_cmp x.id y.id) less) h.lists.users parted.lists.users)
      (are-of (λ (x : UserItem). x.tenant) h.lists h.lists.users parted.users_owned)
      (λ t held. map_each (λ (x : UserItem). row 3 t x.id 0 (user_data x)) (filter (is_of (λ (x : UserItem). x.tenant) t) h.lists.users))
      ∙ sym (map_each user_row h.lists.users))

  forms_kind : of_kind (form_rows_in format) ≡ map (form_row format) h.lists.forms
  forms_kind = forms-by-tenant format h parted.lists parted.forms_owned

  contexts_kind : of_kind context_rows ≡ map context_row h.lists.contexts
  contexts_kind =
      of_each_tenant h context_rows ids
      ∙ (rows-by-tenant (λ (x : ContextItem). x.tenant) (λ t x. row 5 t x.id 0 (context_data x) ∷ []) (λ t. context_rows (tenancy_of h t)) ids h.lists.contexts up
      (rises (λ (x : ContextItem). x.tenant) key_cmp (λ (x : ContextItem). (x.tenant, x.id)) (λ x y less. not_above x.tenant y.tenant (nat_cmp x.id y.id) less) h.lists.contexts parted.lists.contexts)
      (are-of (λ (x : ContextItem). x.tenant) h.lists h.lists.contexts parted.contexts_owned)
      (λ t held. map_each (λ (x : ContextItem). row 5 t x.id 0 (context_data x)) (filter (is_of (λ (x : ContextItem). x.tenant) t) h.lists.contexts))
      ∙ sym (map_each context_row h.lists.contexts))

  reports_rise : Rise (λ (r : Report). r.tenant) h.reports
  reports_rise = rises (λ (r : Report). r.tenant) pair_cmp report_place (λ x y less. not_above x.tenant y.tenant (nat_cmp x.number y.number) less) h.reports parted.reports

  entries_kind : of_kind entry_rows ≡ trail_rows h.reports
  entries_kind =
      of_each_tenant h entry_rows ids
      ∙ (rows-by-tenant (λ (r : Report). r.tenant) (λ t r. entries_from t r.number 1 r.trail) (λ t. entry_rows (tenancy_of h t)) ids h.reports up reports_rise
      (are-of (λ (r : Report). r.tenant) h.lists h.reports parted.reports_owned)
      (λ t held. trail_each t (filter (is_of (λ (r : Report). r.tenant) t) h.reports))
      ∙ sym (own_trails h.reports))

  answers_kind : of_kind answer_rows ≡ sealed_rows h.sealed h.reports
  answers_kind =
      of_each_tenant h answer_rows ids
      ∙ (rows-by-tenant (λ (r : Report). r.tenant) (λ t r. model_rows.sealed_row t r.number (h.sealed t r.number)) (λ t. answer_rows (tenancy_of h t)) ids h.reports up reports_rise
      (are-of (λ (r : Report). r.tenant) h.lists h.reports parted.reports_owned)
      (λ t held. sealed_each h.sealed t (filter (is_of (λ (r : Report). r.tenant) t) h.reports))
      ∙ sym (own_sealed h.sealed h.reports))

  -- ---- the whole

  pub parted-rows : model_rows.own_rows_in format (tenancies_of h) ≡ own_rows format h
  parted-rows =
      (λ i. settings_kind i ++ (numberings_kind i ++ (users_kind i ++ (forms_kind i ++ (contexts_kind i ++ (entries_kind i ++ answers_last i))))))
      ∙ sym (together (map settings_row h.lists.tenants) (map numbering_row h.numberings) (map user_row h.lists.users) (map (form_row format) h.lists.forms) (map context_row h.lists.contexts) (trail_rows h.reports) (sealed_rows h.sealed h.reports))
    where
      answers_last : of_kind answer_rows ++ [] ≡ sealed_rows h.sealed h.reports
      answers_last = append-nil (of_kind answer_rows) ∙ answers_kind
