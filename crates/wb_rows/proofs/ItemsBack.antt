-- The rows of tables are those of the items that they hold, and are read as these items, kind by kind.
use Rattle.std.proofs.Common.{◌≡◌, ℕ, true, List, [], ◌∷◌, ◌++◌, append-nil, map, Option, Some, None, Ok, refl, sym, ap, ◌∙◌}
use Rattle.std.proofs.lemmas.Bool.{and_parts}
use Rattle.std.proofs.lemmas.List.{map-append}
use Rattle.std.specs.List.{list_all}
use Rattle.wb_base.specs.AnswerList.{Answered}
use Rattle.wb_base.specs.declared.rows.Row.{Row}
use Rattle.wb_custody.specs.declared.sealed.SealedItem.{SealedItem}
use Rattle.wb_row_codec.specs.declared.item.EntryItem.{EntryItem}
use Rattle.wb_row_codec.specs.declared.item.Item.{Item}
use Rattle.wb_row_codec.specs.declared.item.Item.TheVariants as items
use Rattle.wb_row_codec.specs.declared.item.NumberingItem.{NumberingItem}
use Rattle.wb_row_codec.specs.Good.{is_good}
use Rattle.wb_row_codec.specs.Items.{item_row, is_kept_in}
use Rattle.wb_row_codec.proofs.GoodRows.{item-back}
use Rattle.wb_model.specs.declared.registry.ContextItem.{ContextItem}
use Rattle.wb_model.specs.declared.registry.FormItem.{FormItem}
use Rattle.wb_model.specs.declared.registry.TenantItem.{TenantItem}
use Rattle.wb_model.specs.declared.registry.UserItem.{UserItem}
use Rattle.wb_model.specs.Rows.{sealed_row as answers_row}
use Rattle.wb_rows.specs.declared.items.ItemsByKind.{ItemsByKind}
use Rattle.wb_rows.specs.Reports.{Report}
use Rattle.wb_rows.specs.Held.{Held}
use Rattle.wb_rows.specs.HeldItems.{entry_items, items_of, sealed_item, sealed_items}
use Rattle.wb_rows.specs.HeldRows.{settings_row, numbering_row, user_row, form_row, context_row, trail_rows, sealed_rows, own_rows}
use Rattle.wb_rows.specs.KeptItems.{kept_of}
use Rattle.wb_rows.specs.ReadItems.{items_in}
use Rattle.wb_rows.proofs.ItemKinds.{entry_row, sealed_row}
use Rattle.wb_rows.proofs.RowsBack.{together}
use Rattle.wb_rows.proofs.TrailRows.{rows_of_items}
use Rattle.wb_base.specs.declared.form.Format.{Format}

-- ---- rows

of_kind : {X : Type 0} (format : Format) (kind : X → Item) (row : X → Row) → ((x : X) → item_row format (kind x) ≡ row x) → (xs : List X) → map (item_row format) (map kind xs) ≡ map row xs
of_kind format kind row same [] = refl
of_kind format kind row same (x ∷ xs) = λ i. same x i ∷ of_kind format kind row same xs i

sealed_one : (t n : ℕ) (o : Option Answered) → map sealed_row (sealed_item t n o) ≡ answers_row t n o
sealed_one t n None = refl
sealed_one t n (Some answers) = refl

rows_of_sealed : (sealed : ℕ → ℕ → Option Answered) (rs : List Report) → map sealed_row (sealed_items sealed rs) ≡ sealed_rows sealed rs
rows_of_sealed sealed [] = refl
rows_of_sealed sealed (r ∷ rs) =
    map-append sealed_row (sealed_item r.tenant r.number (sealed r.tenant r.number)) (sealed_items sealed rs)
    ∙ (λ i. sealed_one r.tenant r.number (sealed r.tenant r.number) i ++ rows_of_sealed sealed rs i)

joined : (format : Format) (xs ys : List Item) (us vs : List Row) → map (item_row format) xs ≡ us → map (item_row format) ys ≡ vs → map (item_row format) (xs ++ ys) ≡ us ++ vs
joined format xs ys us vs p q = map-append (item_row format) xs ys ∙ (λ i. p i ++ q i)

pub rows-of-items : (format : Format) (h : Held) → map (item_row format) (items_of h) ≡ own_rows format h
rows-of-items format h =
    let tenants = of_kind format items.Settings settings_row (λ x. refl) h.lists.tenants in
    let numberings = of_kind format items.Numbering numbering_row (λ x. refl) h.numberings in
    let users = of_kind format items.User user_row (λ x. refl) h.lists.users in
    let forms = of_kind format items.Form (form_row format) (λ x. refl) h.lists.forms in
    let contexts = of_kind format items.Context context_row (λ x. refl) h.lists.contexts in
    let entries = of_kind format items.Entry entry_row (λ x. refl) (entry_items h.reports) ∙ rows_of_items h.reports in
    let sealed = of_kind format items.Sealed sealed_row (λ x. refl) (sealed_items h.sealed h.reports) ∙ rows_of_sealed h.sealed h.reports in
    joined format _ _ _ _ tenants (joined format _ _ _ _ numberings (joined format _ _ _ _ users (joined format _ _ _ _ forms (joined format _ _ _ _ contexts (joined format _ _ _ _ entries sealed)))))
    ∙ sym (together (map settings_row h.lists.tenants) (map numbering_row h.numberings) (map user_row h.lists.users) (map (form_row format) h.lists.forms) (map context_row h.lists.contexts) (trail_rows h.reports) (sealed_rows h.sealed h.reports))

-- good rows are read as the items
pub items-read : (format : Format) (all : List Item) → list_all is_good all ≡ true → list_all (is_kept_in format) all ≡ true → items_in format (map (item_row format) all) ≡ Ok all
items-read format [] good kept = refl
items-read format (x ∷ xs) good kept =
    let parts = and_parts (is_good x) (list_all is_good xs) good in
    let own = and_parts (is_kept_in format x) (list_all (is_kept_in format) xs) kept in
    rw (item-back format x parts.0 own.0, items-read format xs parts.1 own.1) refl

-- ---- kinds

with_tenants : (xs : List TenantItem) (more : List Item) → kept_of (map items.Settings xs ++ more) ≡ (let k = kept_of more in record k { lists = record k.lists { tenants = xs ++ k.lists.tenants } })
with_tenants [] more = refl
with_tenants (x ∷ xs) more = ap (λ (k : ItemsByKind). record k { lists = record k.lists { tenants = x ∷ k.lists.tenants } }) (with_tenants xs more)

with_numberings : (xs : List NumberingItem) (more : List Item) → kept_of (map items.Numbering xs ++ more) ≡ (let k = kept_of more in record k { numberings = xs ++ k.numberings })
with_numberings [] more = refl
with_numberings (x ∷ xs) more = ap (λ (k : ItemsByKind). record k { numberings = x ∷ k.numberings }) (with_numberings xs more)

with_users : (xs : List UserItem) (more : List Item) → kept_of (map items.User xs ++ more) ≡ (let k = kept_of more in record k { lists = record k.lists { users = xs ++ k.lists.users } })
with_users [] more = refl
with_users (x ∷ xs) more = ap (λ (k : ItemsByKind). record k { lists = record k.lists { users = x ∷ k.lists.users } }) (with_users xs more)

with_forms : (xs : List FormItem) (more : List Item) → kept_of (map items.Form xs ++ more) ≡ (let k = kept_of more in record k { lists = record k.lists { forms = xs ++ k.lists.forms } })
with_forms [] more = refl
with_forms (x ∷ xs) more = ap (λ (k : ItemsByKind). record k { lists = record k.lists { forms = x ∷ k.lists.forms } }) (with_forms xs more)

with_contexts : (xs : List ContextItem) (more : List Item) → kept_of (map items.Context xs ++ more) ≡ (let k = kept_of more in record k { lists = record k.lists { contexts = xs ++ k.lists.contexts } })
with_contexts [] more = refl
with_contexts (x ∷ xs) more = ap (λ (k : ItemsByKind). record k { lists = record k.lists { contexts = x ∷ k.lists.contexts } }) (with_contexts xs more)

with_entries : (xs : List EntryItem) (more : List Item) → kept_of (map items.Entry xs ++ more) ≡ (let k = kept_of more in record k { entries = xs ++ k.entries })
with_entries [] more = refl
with_entries (x ∷ xs) more = ap (λ (k : ItemsByKind). record k { entries = x ∷ k.entries }) (with_entries xs more)

with_sealed : (xs : List SealedItem) → kept_of (map items.Sealed xs) ≡ record (kept_of []) { sealed = xs }
with_sealed [] = refl
with_sealed (x ∷ xs) = ap (λ (k : ItemsByKind). record k { sealed = x ∷ k.sealed }) (with_sealed xs)

-- what tables hold, kind by kind
abbrev pub kept_by : Held → ItemsByKind
kept_by h = record { lists = h.lists; numberings = h.numberings; entries = entry_items h.reports; sealed = sealed_items h.sealed h.reports }

pub kinds-of-items : (h : Held) → kept_of (items_of h) ≡ kept_by h
kinds-of-items h =
    let ss = sealed_items h.sealed h.reports in
    let es = entry_items h.reports in
    let cs = h.lists.contexts in
    let fs = h.lists.forms in
    let us = h.lists.users in
    let ns = h.numberings in
    let ts = h.lists.tenants in
    let six : List Item = map items.Sealed ss in
    let five : List Item = map items.Entry es ++ six in
    let four : List Item = map items.Context cs ++ five in
    let three : List Item = map items.Form fs ++ four in
    let two : List Item = map items.User us ++ three in
    let one : List Item = map items.Numbering ns ++ two in
    with_tenants ts one
    ∙ ap (λ (k : ItemsByKind). record k { lists = record k.lists { tenants = ts ++ k.lists.tenants } }) (with_numberings ns two
    ∙ ap (λ (k : ItemsByKind). record k { numberings = ns ++ k.numberings }) (with_users us three
    ∙ ap (λ (k : ItemsByKind). record k { lists = record k.lists { users = us ++ k.lists.users } }) (with_forms fs four
    ∙ ap (λ (k : ItemsByKind). record k { lists = record k.lists { forms = fs ++ k.lists.forms } }) (with_contexts cs five
    ∙ ap (λ (k : ItemsByKind). record k { lists = record k.lists { contexts = cs ++ k.lists.contexts } }) (with_entries es six
    ∙ ap (λ (k : ItemsByKind). record k { entries = es ++ k.entries }) (with_sealed ss))))))
    ∙ (λ i. record {
      lists = record { tenants = append-nil ts i; users = append-nil us i; forms = append-nil fs i; contexts = append-nil cs i };
      numberings = append-nil ns i;
      entries = append-nil es i;
      sealed = ss;
    })
