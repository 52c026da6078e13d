-- The rows after the rows of tenants that are added are the rows of all of them.
use Rattle.std.proofs.Common.{◌≡◌, ◌⊎◌, inl, inr, ℕ, ◌+◌, ◌<◌, Bool, true, false, cond, not, List, [], ◌∷◌, ◌++◌, append-nil, append_assoc, map, refl, sym, ap, ◌∙◌, subst, arith}
use Rattle.std.proofs.lemmas.List.{map-append}
use Rattle.std.specs.Cmp.{nat_cmp_is}
use Rattle.std.specs.List.{AllByRecursion}
use Rattle.std.specs.Prelude.{filter}
use Rattle.std.specs.declared.cmp.Ordering.TheVariants.{Less}
use Rattle.wb_base.specs.FormJson.{kept_data}
use Rattle.wb_base.specs.KeptRows.{all_changed}
use Rattle.wb_base.specs.declared.rows.Change.TheVariants.{Put}
use Rattle.wb_base.specs.declared.rows.Key.{Key}
use Rattle.wb_base.specs.declared.rows.Row.{Row}
use Rattle.wb_model.specs.declared.registry.ContextItem.{ContextItem}
use Rattle.wb_model.specs.declared.registry.UserItem.{UserItem}
use Rattle.wb_model.specs.Legal.{ascends}
use Rattle.wb_model.specs.Opened.{AreOrdered, AreVersions}
use Rattle.wb_model.specs.Rows.{row, user_data, context_data, trail_rows, sealed_rows, kinds, of_tenants, of_kinds, tenants_rows}
use Rattle.wb_model.specs.Settings.{form_key}
use Rattle.wb_model.specs.Tenants.{Tenancy}
use Rattle.wb_model.proofs.Found.{Held, held_append, held_filter}
use Rattle.wb_model.proofs.PutLaw.{AreBefore, AreAfter, less_tenant, above_tenant, before_each, after_each, after_append}
use Rattle.wb_model.proofs.TurnRows.{changed_append}
use Rattle.wb_rows.specs.Puts.{tenant_put, tenant_puts}
use Rattle.wb_rows.proofs.Ascending.{held-above, rest-ascends}
use Rattle.wb_rows.proofs.AscendingRows.{Ascends, AllBefore, AllAfter, puts_between, puts_past, rows_ascend}
use Rattle.wb_rows.proofs.ConfiguredRows.{versions_held, versions_order}
use Rattle.wb_rows.proofs.RowPuts.{HaveKeys, IsOf, AreKinds, kinds_follow, keys_append, keys_before, keys_after, kind_before, kinds_after, number_below, numbers_order, of_each}

-- ---- keys

keys_weaker : (P Q : Key → Type 0) → ((k : Key) → P k → Q k) → (rs : List Row) → HaveKeys P rs → HaveKeys Q rs
keys_weaker P Q so [] have = tt
keys_weaker P Q so (r ∷ rs) have = (so r.key have.0, keys_weaker P Q so rs have.1)

with_keys : (P : Key → Type 0) (Q : Row → Type 0) → ((r : Row) → P r.key → Q r) → (rs : List Row) → HaveKeys P rs → AllByRecursion Q rs
with_keys P Q so [] have = tt
with_keys P Q so (r ∷ rs) have = (so r have.0, with_keys P Q so rs have.1)

-- ---- a tenant's own rows

-- the rows of each kind ascend
abbrev AscendEach : List (Tenancy → List Row) → Tenancy → Type 0
AscendEach [] x = Unit {0}
AscendEach (f ∷ fs) x = Ascends (f x) × AscendEach fs x

-- it has no report, and what it is set up with is in order
abbrev pub IsNew : Tenancy → Type 0
IsNew x = (x.tables.plain.cases ≡ []) × AreOrdered x.tables.plain.registry × AreVersions x.tables.plain.registry.forms

new_ascends : (x : Tenancy) → IsNew x → AscendEach kinds x
new_ascends x new = (
  (tt, tt),
  (
    (tt, tt),
    (
      rows_ascend (λ (u : UserItem). u.id) (λ u. row 3 x.id u.id 0 (user_data u)) x.tables.plain.registry.users (λ u v here there lt. number_below 3 x.id u.id 0 v.id 0 lt) new.1.users,
      (
        rows_ascend form_key (λ f. row 4 x.id f.id f.version (kept_data f.form)) x.tables.plain.registry.forms
            (λ f g here there lt. numbers_order 4 x.id f.id f.version g.id g.version ∙ (versions_order f.id f.version g.id g.version (versions_held x.tables.plain.registry.forms f new.2 here) (versions_held x.tables.plain.registry.forms g new.2 there) ∙ sym (nat_cmp_is (form_key f) (form_key g) Less lt))) new.1.forms,
        (
          rows_ascend (λ (c : ContextItem). c.id) (λ c. row 5 x.id c.id 0 (context_data c)) x.tables.plain.registry.contexts (λ c d here there lt. number_below 5 x.id c.id 0 d.id 0 lt) new.1.contexts,
          (subst (λ cs. Ascends (trail_rows x.id cs)) (sym new.0) tt, (subst (λ cs. Ascends (sealed_rows x.id x.tables.sealed cs)) (sym new.0) tt, tt)),
        ),
      ),
    ),
  ),
)

-- ---- one tenant

tenants_append : (f : Tenancy → List Row) (xs ys : List Tenancy) → of_tenants f (xs ++ ys) ≡ of_tenants f xs ++ of_tenants f ys
tenants_append f [] ys = refl
tenants_append f (x ∷ xs) ys = ap (λ l. f x ++ l) (tenants_append f xs ys) ∙ sym (append_assoc (f x) (of_tenants f xs) (of_tenants f ys))

module _ (before after : List Tenancy) (x : Tenancy) (below : (b : Tenancy) → Held b before → b.id < x.id) (above : (b : Tenancy) → Held b after → x.id < b.id) where
  abbrev own : List (Tenancy → List Row) → List Row
  own fs = of_kinds fs (x ∷ [])

  -- rows of a kind of those before it come before its own
  first : (kind : ℕ) (f : Tenancy → List Row) → ((b : Tenancy) → HaveKeys (IsOf kind b.id) (f b)) → AllBefore (of_tenants f before) (f x)
  first kind f of = with_keys (IsOf kind x.id) (λ r. AreBefore r.key (of_tenants f before))
      (λ r is. subst (AreBefore r.key) (sym (of_each f before)) (before_each r.key f before (λ b held. keys_before (IsOf kind b.id) r.key (f b) (λ m of_b. less_tenant m r.key (of_b.0 ∙ sym is.0) (let lower = below b held in omega (arith, lower, of_b.1, is.1))) (of b)))) (f x) (of x)

  -- and those of tenants after it, and of later kinds, after them
  last : (kind : ℕ) (f : Tenancy → List Row) (fs : List (Tenancy → List Row)) → ((b : Tenancy) → HaveKeys (IsOf kind b.id) (f b)) → AreKinds (kind + 1) fs → AllAfter (of_tenants f after ++ of_kinds fs (before ++ after)) (f x)
  last kind f fs of follow = with_keys (IsOf kind x.id) (λ r. AreAfter r.key (of_tenants f after ++ of_kinds fs (before ++ after)))
      (λ r is. after_append r.key (of_tenants f after) (of_kinds fs (before ++ after))
      (subst (AreAfter r.key) (sym (of_each f after)) (after_each r.key f after (λ b held. keys_after (IsOf kind b.id) r.key (f b) (λ m of_b. above_tenant m r.key (of_b.0 ∙ sym is.0) (let higher = above b held in omega (arith, higher, of_b.1, is.1))) (of b))))
      (kinds_after (kind + 1) fs (before ++ after) r.key follow (omega (arith, is.0)))) (f x) (of x)

  from_kind : (kind low : ℕ) (fs : List (Tenancy → List Row)) → AreKinds kind fs → low < kind → HaveKeys (λ k. low < k.kind) (own fs)
  from_kind kind low [] follow lt = tt
  from_kind kind low (f ∷ fs) follow lt =
      keys_append (λ k. low < k.kind) (f x ++ []) (own fs)
      (keys_append (λ k. low < k.kind) (f x) [] (keys_weaker (IsOf kind x.id) (λ k. low < k.kind) (λ k is. omega (arith, is.0, lt)) (f x) (follow.0 x)) tt)
      (from_kind (kind + 1) low fs follow.1 (omega (arith, lt)))

  kinds_put : (kind : ℕ) (fs : List (Tenancy → List Row)) → AreKinds kind fs → AscendEach fs x → all_changed (of_kinds fs (before ++ after)) (map Put (own fs)) ≡ of_kinds fs (before ++ (x ∷ after))
  kinds_put kind [] follow up = refl
  kinds_put kind (f ∷ fs) follow up =
      (λ i. all_changed (regrouped i) (parts i))
      ∙ (changed_append (front ++ (back ++ rest)) (map Put (f x)) (map Put (own fs))
      ∙ (ap (λ l. all_changed l (map Put (own fs))) (puts_between front (back ++ rest) (f x) (first kind f follow.0) (last kind f fs follow.0 follow.1) up.0 ∙ joined)
      ∙ (puts_past made rest (own fs) (with_keys (λ k. kind < k.kind) (λ r. AreBefore r.key made) (λ r lt. kind_before kind f (before ++ (x ∷ after)) r.key follow.0 lt) (own fs) (from_kind (kind + 1) kind fs follow.1 (omega arith)))
      ∙ ap (λ l. made ++ l) (kinds_put (kind + 1) fs follow.1 up.1))))
    where
      front : List Row
      front = of_tenants f before

      back : List Row
      back = of_tenants f after

      rest : List Row
      rest = of_kinds fs (before ++ after)

      made : List Row
      made = of_tenants f (before ++ (x ∷ after))

      regrouped : of_tenants f (before ++ after) ++ rest ≡ front ++ (back ++ rest)
      regrouped = ap (λ l. l ++ rest) (tenants_append f before after) ∙ append_assoc front back rest

      parts : map Put ((f x ++ []) ++ own fs) ≡ map Put (f x) ++ map Put (own fs)
      parts = ap (λ l. map Put (l ++ own fs)) (append-nil (f x)) ∙ map-append Put (f x) (own fs)

      joined : front ++ (f x ++ (back ++ rest)) ≡ made ++ rest
      joined = ap (λ l. front ++ l) (sym (append_assoc (f x) back rest)) ∙ (sym (append_assoc front (f x ++ back) rest) ∙ ap (λ l. l ++ rest) (sym (tenants_append f before (x ∷ after))))

  pub one_put : IsNew x → all_changed (tenants_rows (before ++ after)) (tenant_put x) ≡ tenants_rows (before ++ (x ∷ after))
  one_put new = kinds_put 1 kinds kinds_follow (new_ascends x new)

-- ---- all of them

abbrev id_of : Tenancy → ℕ
id_of x = x.id

-- THE LAW of added tenants
pub new_rows : (is_old : Tenancy → Bool) (done rest : List Tenancy) → ((b : Tenancy) → Held b done → (a : Tenancy) → Held a rest → b.id < a.id) → ascends (map id_of rest) ≡ true → ((x : Tenancy) → Held x rest → is_old x ≡ false → IsNew x)
    → all_changed (tenants_rows (done ++ filter is_old rest)) (tenant_puts (filter (λ x. not (is_old x)) rest)) ≡ tenants_rows (done ++ rest)
new_rows is_old done [] below up new = refl
new_rows is_old done (x ∷ rest) below up new =
    by (is_old x) refl
    (ap (λ l. all_changed (tenants_rows l) (tenant_puts added)) (sym (append_assoc done (x ∷ []) old))
    ∙ (new_rows is_old (done ++ x ∷ []) rest (λ b held. more_below b (held_append done (x ∷ []) b held)) (rest-ascends x.id (map id_of rest) up) (λ y held. new y (inr held))
    ∙ ap tenants_rows (append_assoc done (x ∷ []) rest)))
  where
    old : List Tenancy
    old = filter is_old rest

    added : List Tenancy
    added = filter (λ y. not (is_old y)) rest

    above : (a : Tenancy) → Held a rest → x.id < a.id
    above a held = held-above id_of x.id rest a up held

    more_below : (b : Tenancy) → Held b done ⊎ Held b (x ∷ []) → (a : Tenancy) → Held a rest → b.id < a.id
    more_below b (inl here) a held = below b here a (inr held)
    more_below b (inr (inl is)) a held = let same : b.id ≡ x.id = ap id_of is in let lt = above a held in omega (arith, same, lt)
    more_below b (inr (inr none)) a held = absurd none

    by : (b : Bool) → is_old x ≡ b → all_changed (tenants_rows (done ++ (x ∷ old))) (tenant_puts added) ≡ tenants_rows (done ++ (x ∷ rest)) → all_changed (tenants_rows (done ++ cond b (x ∷ old) old)) (tenant_puts (cond (not b) (x ∷ added) added)) ≡ tenants_rows (done ++ (x ∷ rest))
    by true is more = more
    by false is more =
        changed_append (tenants_rows (done ++ old)) (tenant_put x) (tenant_puts added)
        ∙ (ap (λ l. all_changed l (tenant_puts added)) (one_put done old x (λ b held. below b held x (inl refl)) (λ a held. above a (held_filter is_old rest a held).0) (new x (inl refl) is))
        ∙ more)
