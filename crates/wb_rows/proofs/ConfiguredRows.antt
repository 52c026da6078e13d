-- The rows after a setting's row are the rows of the changed tables.
use Rattle.std.proofs.Common.{◌≡◌, inl, inr, ℕ, ◌+◌, ◌*◌, ◌<◌, ◌≤◌, List, [], ◌∷◌, ◌++◌, map, Option, refl, ap, ◌∙◌, arith}
use Rattle.std.specs.declared.cmp.Ordering.{Ordering}
use Rattle.std.specs.declared.cmp.Ordering.TheVariants.{Less, Equal, Greater}
use Rattle.std.specs.Ordering.{nat_cmp, ordering_then}
use Rattle.std.proofs.lemmas.Bool.Decides.{nat_tests}
use Rattle.wb_list.specs.Keyed.{insert_item}
use Rattle.wb_base.specs.AnswerList.{Answered}
use Rattle.wb_base.specs.FormJson.{kept_data}
use Rattle.wb_base.specs.KeptRows.{key_cmp, all_changed}
use Rattle.wb_base.specs.declared.rows.Change.TheVariants.{Put}
use Rattle.wb_base.specs.declared.rows.Row.{Row}
use Rattle.wb_model.specs.declared.registry.ContextItem.{ContextItem}
use Rattle.wb_model.specs.declared.registry.FormItem.{FormItem}
use Rattle.wb_model.specs.declared.registry.UserItem.{UserItem}
use Rattle.wb_model.specs.Changes.{Configures}
use Rattle.wb_model.specs.Host.{changed}
use Rattle.wb_model.specs.Opened.{AreVersions}
use Rattle.wb_model.specs.Rows.{row, user_data, context_data, tenants_rows}
use Rattle.wb_model.specs.Settings.{Setting, OfTenant, OfUser, OfContext, OfForm, form_key}
use Rattle.wb_model.specs.Tenants.{Tenancy}
use Rattle.wb_model.proofs.Found.{Held}
use Rattle.wb_model.proofs.PutLaw.{put, same_key}
use Rattle.wb_rows.specs.Puts.{setting_row, IsVersion}
use Rattle.wb_rows.proofs.RowPuts.{key, numbers_order, put_item, put_rows}

-- ---- the order of keys

ids_order : (kind t a c : ℕ) → key_cmp (key kind t a 0) (key kind t c 0) ≡ nat_cmp a c
ids_order kind t a c = numbers_order kind t a 0 c 0 ∙ by (nat_cmp a c)
  where
    by : (o : Ordering) → ordering_then o Equal ≡ o
    by Less = refl
    by Equal = refl
    by Greater = refl

-- a form's id and version have the order of the form's key
pub versions_order : (a b c d : ℕ) → b ≤ 99 → d ≤ 99 → ordering_then (nat_cmp a c) (nat_cmp b d) ≡ nat_cmp (a * 100 + b) (c * 100 + d)
versions_order a b c d low high = grind (arith, nat_tests)

pub versions_held : (forms : List FormItem) (x : FormItem) → AreVersions forms → Held x forms → x.version ≤ 99
versions_held [] x all held = absurd held
versions_held (y ∷ ys) x all (inl e) = let same : x.version ≡ y.version = ap (λ (z : FormItem). z.version) e in omega (arith, same, all.0.1)
versions_held (y ∷ ys) x all (inr held) = versions_held ys x all.1 held

-- ---- the rows of one kind

abbrev user_row : ℕ → UserItem → Row
user_row t u = row 3 t u.id 0 (user_data u)

users_made : (t : ℕ) (users : List UserItem) (item : UserItem) → put (map (user_row t) users) (user_row t item) ≡ map (user_row t) (insert_item nat_cmp (λ (u : UserItem). u.id) users item)
users_made t users item = put_item (λ (u : UserItem). u.id) (user_row t) users item (λ u held. ids_order 3 t u.id item.id)

abbrev context_row : ℕ → ContextItem → Row
context_row t c = row 5 t c.id 0 (context_data c)

contexts_made : (t : ℕ) (contexts : List ContextItem) (item : ContextItem) → put (map (context_row t) contexts) (context_row t item) ≡ map (context_row t) (insert_item nat_cmp (λ (c : ContextItem). c.id) contexts item)
contexts_made t contexts item = put_item (λ (c : ContextItem). c.id) (context_row t) contexts item (λ c held. ids_order 5 t c.id item.id)

abbrev form_row : ℕ → FormItem → Row
form_row t f = row 4 t f.id f.version (kept_data f.form)

forms_made : (t : ℕ) (forms : List FormItem) (item : FormItem) → AreVersions forms → item.version ≤ 99 → put (map (form_row t) forms) (form_row t item) ≡ map (form_row t) (insert_item nat_cmp form_key forms item)
forms_made t forms item versions version =
    put_item form_key (form_row t) forms item
    (λ f held. numbers_order 4 t f.id f.version item.id item.version ∙ versions_order f.id f.version item.id item.version (versions_held forms f versions held) version)

-- ---- the whole

-- THE LAW of a setting: the rows after its row are the rows of the changed tables
pub configured_rows : (before after : List Tenancy) (y : Tenancy) → ((x : Tenancy) → Held x before → x.id < y.id) → ((x : Tenancy) → Held x after → y.id < x.id) → AreVersions y.tables.plain.registry.forms
    → (setting : Setting) → IsVersion setting → (now : ℕ) (secret : Option Answered)
    → all_changed (tenants_rows (before ++ (y ∷ after))) (Put (setting_row y.id y.tables.plain.registry setting) ∷ []) ≡ tenants_rows (before ++ (record { id = y.id; tables = changed now (Configures setting) secret y.tables } ∷ after))
configured_rows before after y below above versions (OfTenant next) version now secret =
    put_rows before after y _ below above 0 (setting_row y.id y.tables.plain.registry (OfTenant next)) refl refl
    (rw (same_key y.id 0 0 1) refl, (refl, (refl, (refl, (refl, (refl, (refl, tt)))))))
configured_rows before after y below above versions (OfUser item ends) version now secret =
    put_rows before after y _ below above 2 (setting_row y.id y.tables.plain.registry (OfUser item ends)) refl refl
    (refl, (refl, (users_made y.id y.tables.plain.registry.users item, (refl, (refl, (refl, (refl, tt)))))))
configured_rows before after y below above versions (OfForm item) version now secret =
    put_rows before after y _ below above 3 (setting_row y.id y.tables.plain.registry (OfForm item)) refl refl
    (refl, (refl, (refl, (forms_made y.id y.tables.plain.registry.forms item versions version, (refl, (refl, (refl, tt)))))))
configured_rows before after y below above versions (OfContext item) version now secret =
    put_rows before after y _ below above 4 (setting_row y.id y.tables.plain.registry (OfContext item)) refl refl
    (refl, (refl, (refl, (refl, (contexts_made y.id y.tables.plain.registry.contexts item, (refl, (refl, tt)))))))
