-- The rows that are put of the tenants that a setup adds.
use Rattle.std.proofs.Common.{◌≡◌, ℕ, ◌≤◌, Bool, true, false, cond, List, [], ◌∷◌, ◌++◌, map, filter, fold, not, refl, sym, ap, ◌∙◌, arith, eq-eqb}
use Rattle.std.specs.Prelude.{◌==◌, ◌||◌, All}
use Rattle.std.specs.List.{AllByRecursion, list_any}
use Rattle.std.specs.FinMap.{nat_cmp-IsAntisymmetric}
use Rattle.std.specs.Ordering.{nat_cmp, match_ordering}
use Rattle.std.specs.declared.cmp.Ordering.{Ordering}
use Rattle.std.specs.declared.cmp.Ordering.TheVariants.{Less, Equal, Greater}
use Rattle.std.proofs.lemmas.Bool.{or_left, or_right}
use Rattle.std.proofs.lemmas.List.{append-nil}
use Rattle.std.proofs.lemmas.List.Elements.{All-from_recursion}
use Rattle.wb_list.specs.Keyed.{insert_item}
use Rattle.wb_base.specs.KeptRows.{all_changed, IsGoodChange}
use Rattle.wb_base.specs.declared.form.Format.{Format}
use Rattle.wb_base.specs.declared.form.Format.TheVariants.{Plain, Weighed}
use Rattle.wb_base.specs.declared.rows.Row.{Row}
use Rattle.wb_base.specs.declared.rows.Change.TheVariants.{Put}
use Rattle.wb_model.specs.declared.registry.ContextItem.{ContextItem}
use Rattle.wb_model.specs.declared.registry.FormItem.{FormItem}
use Rattle.wb_model.specs.declared.registry.Lists.{Lists}
use Rattle.wb_model.specs.declared.registry.TenantItem.{TenantItem}
use Rattle.wb_model.specs.declared.registry.UserItem.{UserItem}
use Rattle.wb_base.specs.FormJson.{kept_data}
use Rattle.wb_model.specs.Opened.{AreOrdered, AreVersions}
use Rattle.wb_model.specs.Openings.{registry_of, empty_tables}
use Rattle.wb_model.specs.Rows.{kinds, of_kinds, of_tenants, converted, form_rows, format_row, rows_in, rows_of, tenants_rows, row, user_data, context_data}
use Rattle.wb_model.specs.SetUps.{has_tenant, tenant_ids}
use Rattle.wb_model.specs.Host.{Tables}
use Rattle.wb_model.specs.Tables.{Registry}
use Rattle.wb_model.specs.Tenants.{Tenancy}
use Rattle.wb_model.proofs.TurnRows.{changed_append}
use Rattle.wb_rows.specs.Held.{Held}
use Rattle.wb_rows.specs.Openings.{tables_of, tenancies_of, with_setup}
use Rattle.wb_rows.specs.Openings as held
use Rattle.wb_rows.specs.Puts.{tenant_put, tenant_puts}
use Rattle.wb_setup.specs.Joined.{joined}
use Rattle.wb_setup.specs.Keys.{tenant_key}
use Rattle.wb_recovery.specs.HeldPlaces.{HoldNoOthers, new_puts, new_tenancy, setup_puts}

-- ---- filters

pub map_twice : {X Y Z : Type 0} (f : Y → Z) (g : X → Y) (xs : List X) → map f (map g xs) ≡ map (λ x. f (g x)) xs
map_twice f g [] = refl
map_twice f g (x ∷ xs) = ap (λ l. f (g x) ∷ l) (map_twice f g xs)

module _ {X Y : Type 0} (f : X → Y) (p : Y → Bool) where
  pub filter_map : (xs : List X) → filter p (map f xs) ≡ map f (filter (λ x. p (f x)) xs)
  filter_map [] = refl
  filter_map (x ∷ xs) = by (p (f x)) (filter_map xs)
    where
      by : (b : Bool) → filter p (map f xs) ≡ map f (filter (λ y. p (f y)) xs) → cond b (f x ∷ filter p (map f xs)) (filter p (map f xs)) ≡ map f (cond b (x ∷ filter (λ y. p (f y)) xs) (filter (λ y. p (f y)) xs))
      by true rest = ap (λ l. f x ∷ l) rest
      by false rest = rest

-- two functions that agree on what passes make the same of it
pub same_on : {X Y : Type 0} (p : X → Bool) (f g : X → Y) → ((x : X) → p x ≡ true → f x ≡ g x) → (xs : List X) → map f (filter p xs) ≡ map g (filter p xs)
same_on p f g same [] = refl
same_on {X} {Y} p f g same (x ∷ xs) = by (p x) (same x) (same_on p f g same xs)
  where
    by : (b : Bool) → (b ≡ true → f x ≡ g x) → map f (filter p xs) ≡ map g (filter p xs) → map f (cond b (x ∷ filter p xs) (filter p xs)) ≡ map g (cond b (x ∷ filter p xs) (filter p xs))
    by true here rest = λ i. here refl i ∷ rest i
    by false here rest = rest

-- ---- which tenants are old

-- a tenant that is put among others is not seen by a test that it does not pass
unseen : (p : ℕ → Bool) (x : TenantItem) → p x.tenant ≡ false → (xs : List TenantItem) → filter p (map tenant_key (insert_item nat_cmp tenant_key xs x)) ≡ filter p (map tenant_key xs)
unseen p x none [] = rw none refl
unseen p x none (y ∷ ys) = by (nat_cmp y.tenant x.tenant) refl (unseen p x none ys)
  where
    first : (b : Bool) → filter p (map tenant_key (insert_item nat_cmp tenant_key ys x)) ≡ filter p (map tenant_key ys) → cond b (y.tenant ∷ filter p (map tenant_key (insert_item nat_cmp tenant_key ys x))) (filter p (map tenant_key (insert_item nat_cmp tenant_key ys x))) ≡ cond b (y.tenant ∷ filter p (map tenant_key ys)) (filter p (map tenant_key ys))
    first true rest = ap (λ l. y.tenant ∷ l) rest
    first false rest = rest

    by : (o : Ordering) → nat_cmp y.tenant x.tenant ≡ o → filter p (map tenant_key (insert_item nat_cmp tenant_key ys x)) ≡ filter p (map tenant_key ys)
        → filter p (map tenant_key (match_ordering o (y ∷ insert_item nat_cmp tenant_key ys x) (x ∷ ys) (x ∷ y ∷ ys))) ≡ filter p (map tenant_key (y ∷ ys))
    by Less e rest = first (p y.tenant) rest
    by Equal e rest = let same : y.tenant ≡ x.tenant = nat_cmp-IsAntisymmetric y.tenant x.tenant e in rw (none, ap p same ∙ none) refl
    by Greater e rest = rw none refl

all_unseen : (p : ℕ → Bool) (more xs : List TenantItem) → filter p (map tenant_key (fold (insert_item nat_cmp tenant_key) xs (filter (λ x. not (p x.tenant)) more))) ≡ filter p (map tenant_key xs)
all_unseen p [] xs = refl
all_unseen p (x ∷ more) xs = by (p x.tenant) refl (λ ys. all_unseen p more ys)
  where
    by : (b : Bool) → p x.tenant ≡ b → ((ys : List TenantItem) → filter p (map tenant_key (fold (insert_item nat_cmp tenant_key) ys (filter (λ y. not (p y.tenant)) more))) ≡ filter p (map tenant_key ys))
        → filter p (map tenant_key (fold (insert_item nat_cmp tenant_key) xs (cond (not b) (x ∷ filter (λ y. not (p y.tenant)) more) (filter (λ y. not (p y.tenant)) more)))) ≡ filter p (map tenant_key xs)
    by true is rest = rest xs
    by false none rest = rest (insert_item nat_cmp tenant_key xs x) ∙ unseen p x none xs

-- each of a list is one of it
all_old : (p : ℕ → Bool) (xs : List TenantItem) → AllByRecursion (λ (x : TenantItem). p x.tenant ≡ true) xs → filter p (map tenant_key xs) ≡ map tenant_key xs
all_old p [] all = refl
all_old p (x ∷ xs) all = rw all.0 (ap (λ l. x.tenant ∷ l) (all_old p xs all.1))

weaker : (x : TenantItem) (before xs : List TenantItem) → AllByRecursion (λ (y : TenantItem). list_any (λ (z : TenantItem). z.tenant == y.tenant) before ≡ true) xs → AllByRecursion (λ (y : TenantItem). list_any (λ (z : TenantItem). z.tenant == y.tenant) (x ∷ before) ≡ true) xs
weaker x before [] all = tt
weaker x before (y ∷ ys) all = (or_right (x.tenant == y.tenant) (list_any (λ (z : TenantItem). z.tenant == y.tenant) before) all.0, weaker x before ys all.1)

each_there : (xs : List TenantItem) → AllByRecursion (λ (y : TenantItem). list_any (λ (z : TenantItem). z.tenant == y.tenant) xs ≡ true) xs
each_there [] = tt
each_there (x ∷ xs) = (or_left (x.tenant == x.tenant) (list_any (λ (z : TenantItem). z.tenant == x.tenant) xs) (eq-eqb x.tenant x.tenant refl), weaker x xs xs (each_there xs))

-- of the tenants of both, those that were kept
pub old_ids : (setup kept : Lists) → filter (has_tenant kept) (tenant_ids (joined setup kept)) ≡ tenant_ids kept
old_ids setup kept = all_unseen (has_tenant kept) setup.tenants kept.tenants ∙ all_old (has_tenant kept) kept.tenants (each_there kept.tenants)

-- ---- the rows

module _ (setup : Lists) (h : Held)
    (old : (t : ℕ) → has_tenant h.lists t ≡ true → tables_of (with_setup setup h) t ≡ tables_of h t)
    (new : (t : ℕ) → has_tenant h.lists t ≡ false → tables_of (with_setup setup h) t ≡ empty_tables (registry_of (joined setup h.lists) t)) where
  abbrev whole : Held
  whole = with_setup setup h

  abbrev is_old : Tenancy → Bool
  is_old x = has_tenant h.lists x.id

  abbrev is_new : ℕ → Bool
  is_new t = not (has_tenant h.lists t)

  not_true : (b : Bool) → not b ≡ true → b ≡ false
  not_true true e = absurd (cc (e))
  not_true false e = refl

  pub old_tenancies : filter is_old (tenancies_of whole) ≡ tenancies_of h
  old_tenancies =
      filter_map (held.tenancy_of whole) is_old (tenant_ids whole.lists)
      ∙ (same_on (has_tenant h.lists) (held.tenancy_of whole) (held.tenancy_of h) (λ t there i. record { id = t; tables = old t there i }) (tenant_ids whole.lists)
      ∙ ap (map (held.tenancy_of h)) (old_ids setup h.lists))

  pub new_tenancies : filter (λ x. not (is_old x)) (tenancies_of whole) ≡ map (new_tenancy (joined setup h.lists)) (filter is_new (tenant_ids whole.lists))
  new_tenancies =
      filter_map (held.tenancy_of whole) (λ x. not (is_old x)) (tenant_ids whole.lists)
      ∙ same_on is_new (held.tenancy_of whole) (new_tenancy (joined setup h.lists)) (λ t none i. record { id = t; tables = new t (not_true (has_tenant h.lists t) none) i }) (tenant_ids whole.lists)

  -- of whom nothing is held yet, and what they are set up with is in order
  abbrev IsNew : Tenancy → Type 0
  IsNew x = is_old x ≡ false → (x.tables.plain.cases ≡ []) × AreOrdered x.tables.plain.registry × AreVersions x.tables.plain.registry.forms

  module _ (ordered : (t : ℕ) → AreOrdered (registry_of (joined setup h.lists) t)) (versions : (t : ℕ) → AreVersions (registry_of (joined setup h.lists) t).forms) where
    all_new : (ts : List ℕ) → AllByRecursion IsNew (map (held.tenancy_of whole) ts)
    all_new [] = tt
    all_new (t ∷ ts) = ((λ none. ((λ i. (new t none i).plain.cases), ordered t, versions t)), all_new ts)

    pub new_in_order : All IsNew (tenancies_of whole)
    new_in_order = All-from_recursion IsNew (tenancies_of whole) (all_new (tenant_ids whole.lists))

  -- what the rows that are put make of those that were loaded, by the law of new tenants
  rows_after : all_changed (rows_of (filter is_old (tenancies_of whole))) (tenant_puts (filter (λ x. not (is_old x)) (tenancies_of whole))) ≡ rows_of (tenancies_of whole)
      → all_changed (rows_of (tenancies_of h)) (setup_puts setup h.lists) ≡ rows_of (tenancies_of whole)
  rows_after law = (λ i. all_changed (rows_of (sym old_tenancies i)) (tenant_puts (sym new_tenancies i))) ∙ law

  -- the same of rows of any format, which become those of format 2 first
  pub rows_begun : (format : Format) (rows : List Row) → rows_in format (tenancies_of h) ≡ rows
      → all_changed (rows_in format (tenancies_of h)) (converted format (tenancies_of h)) ≡ rows_of (tenancies_of h)
      → all_changed (rows_of (filter is_old (tenancies_of whole))) (tenant_puts (filter (λ x. not (is_old x)) (tenancies_of whole))) ≡ rows_of (tenancies_of whole)
      → all_changed rows (converted format (tenancies_of h) ++ setup_puts setup h.lists) ≡ rows_of (tenancies_of whole)
  rows_begun format rows loaded becomes law =
      ap (λ rs. all_changed rs (converted format (tenancies_of h) ++ setup_puts setup h.lists)) (sym loaded)
      ∙ (changed_append (rows_in format (tenancies_of h)) (converted format (tenancies_of h)) (setup_puts setup h.lists)
      ∙ (ap (λ rs. all_changed rs (setup_puts setup h.lists)) becomes ∙ rows_after law))

pub tenancy_ids : (h : Held) (ts : List ℕ) → map (λ (x : Tenancy). x.id) (map (held.tenancy_of h) ts) ≡ ts
tenancy_ids h [] = refl
tenancy_ids h (t ∷ ts) = ap (λ l. t ∷ l) (tenancy_ids h ts)

-- those that are none of some ids are those of lists that have none of these
pub same_puts : (lists : Lists) (xs : List TenantItem) (ts : List ℕ) → new_puts lists (λ t. list_any (λ u. u == t) (map tenant_key xs)) ts ≡ new_puts lists (λ t. list_any (λ (x : TenantItem). x.tenant == t) xs) ts
same_puts lists xs ts = ap (λ (p : ℕ → Bool). new_puts lists p ts) (λ i t. any_map t xs i)
  where
    any_map : (t : ℕ) (ys : List TenantItem) → list_any (λ u. u == t) (map tenant_key ys) ≡ list_any (λ (x : TenantItem). x.tenant == t) ys
    any_map t [] = refl
    any_map t (y ∷ ys) = ap (λ b. (y.tenant == t) || b) (any_map t ys)

-- ---- they may be put

all_append : {X : Type 0} (P : X → Type 0) (a b : List X) → AllByRecursion P a → AllByRecursion P b → AllByRecursion P (a ++ b)
all_append P [] b h g = g
all_append P (x ∷ a) b h g = (h.0, all_append P a b h.1 g)

all_map : {X Y : Type 0} (f : X → Y) (P : Y → Type 0) → ((x : X) → P (f x)) → (xs : List X) → AllByRecursion P (map f xs)
all_map f P h [] = tt
all_map f P h (x ∷ xs) = (h x, all_map f P h xs)

-- of a kind of what a tenant is set up with
abbrev AreSet : List Row → Type 0
AreSet rs = AllByRecursion (λ (r : Row). r.key.kind ≤ 5) rs

-- so are a tenant's rows of some kinds
abbrev AreKindsSet : List (Tenancy → List Row) → Tenancy → Type 0
AreKindsSet [] x = Unit {0}
AreKindsSet (kind ∷ more) x = AreSet (kind x) × AreKindsSet more x

kinds_set : (some : List (Tenancy → List Row)) (x : Tenancy) → AreKindsSet some x → AreSet (of_kinds some (x ∷ []))
kinds_set [] x set = tt
kinds_set (kind ∷ more) x set = all_append (λ (r : Row). r.key.kind ≤ 5) (kind x ++ []) (of_kinds more (x ∷ [])) (all_append (λ (r : Row). r.key.kind ≤ 5) (kind x) [] set.0 tt) (kinds_set more x set.1)

new_rows_set : (lists : Lists) (t : ℕ) → AreSet (tenants_rows (new_tenancy lists t ∷ []))
new_rows_set lists t =
    let g = registry_of lists t in
    kinds_set kinds (new_tenancy lists t) (
      (omega arith, tt),
      (
        (omega arith, tt),
        (
          all_map (λ (u : UserItem). row 3 t u.id 0 (user_data u)) (λ (r : Row). r.key.kind ≤ 5) (λ u. omega arith) g.users,
          (
            all_map (λ (f : FormItem). row 4 t f.id f.version (kept_data f.form)) (λ (r : Row). r.key.kind ≤ 5) (λ f. omega arith) g.forms,
            (all_map (λ (c : ContextItem). row 5 t c.id 0 (context_data c)) (λ (r : Row). r.key.kind ≤ 5) (λ c. omega arith) g.contexts, (tt, (tt, tt))),
          ),
        ),
      ),
    )

all_good : (rs : List Row) → AreSet rs → AllByRecursion IsGoodChange (map Put rs)
all_good [] set = tt
all_good (r ∷ rs) set = ((omega (arith, set.0), (λ e. omega (arith, e, set.0))), all_good rs set.1)

puts_good : (lists : Lists) (ts : List ℕ) → AllByRecursion IsGoodChange (tenant_puts (map (new_tenancy lists) ts))
puts_good lists [] = tt
puts_good lists (t ∷ ts) = all_append IsGoodChange (tenant_put (new_tenancy lists t)) (tenant_puts (map (new_tenancy lists) ts)) (all_good (tenants_rows (new_tenancy lists t ∷ [])) (new_rows_set lists t)) (puts_good lists ts)

forms_set : (xs : List Tenancy) → AreSet (of_tenants form_rows xs)
forms_set [] = tt
forms_set (x ∷ xs) = all_append (λ (r : Row). r.key.kind ≤ 5) (form_rows x) (of_tenants form_rows xs)
    (all_map (λ (f : FormItem). row 4 x.id f.id f.version (kept_data f.form)) (λ (r : Row). r.key.kind ≤ 5) (λ f. omega arith) x.tables.plain.registry.forms) (forms_set xs)

converted_good : (format : Format) (xs : List Tenancy) → AllByRecursion IsGoodChange (converted format xs)
converted_good Plain xs = all_good (format_row ∷ of_tenants form_rows xs) (omega arith, forms_set xs)
converted_good Weighed xs = tt

pub batch_good : (format : Format) (xs : List Tenancy) (setup kept : Lists) → All IsGoodChange (converted format xs ++ setup_puts setup kept)
batch_good format xs setup kept = All-from_recursion IsGoodChange (converted format xs ++ setup_puts setup kept)
    (all_append IsGoodChange (converted format xs) (setup_puts setup kept) (converted_good format xs) (puts_good (joined setup kept) (filter (λ t. not (has_tenant kept t)) (tenant_ids (joined setup kept)))))

-- ---- one after another

-- what is put of the first, and then of the others
pub puts_step : (lists : Lists) (p : ℕ → Bool) (t : ℕ) (ts : List ℕ) → new_puts lists p (t ∷ ts) ≡ new_puts lists p (t ∷ []) ++ new_puts lists p ts
puts_step lists p t ts = by (p t)
  where
    by : (b : Bool) → tenant_puts (map (new_tenancy lists) (cond (not b) (t ∷ filter (λ u. not (p u)) ts) (filter (λ u. not (p u)) ts))) ≡ tenant_puts (map (new_tenancy lists) (cond (not b) (t ∷ []) [])) ++ new_puts lists p ts
    by true = refl
    by false = ap (λ l. l ++ new_puts lists p ts) (sym (append-nil (tenant_put (new_tenancy lists t))))

-- ---- what is known of the tables of both

-- tables with another registry
abbrev with_registry : Registry → Tables → Tables
with_registry g t = record { plain = record t.plain { registry = g }; sealed = t.sealed }

module _ (setup : Lists) (h : Held) where
  pub old-tables : ((t : ℕ) → has_tenant h.lists t ≡ true → registry_of (joined setup h.lists) t ≡ registry_of h.lists t) → (t : ℕ) → has_tenant h.lists t ≡ true → tables_of (with_setup setup h) t ≡ tables_of h t
  old-tables stays t there = ap (λ (g : Registry). with_registry g (tables_of h t)) (stays t there)

  pub new-tables : HoldNoOthers h → (t : ℕ) → has_tenant h.lists t ≡ false → tables_of (with_setup setup h) t ≡ empty_tables (registry_of (joined setup h.lists) t)
  new-tables alone t none = ap (with_registry (registry_of (joined setup h.lists) t)) (alone t none)
