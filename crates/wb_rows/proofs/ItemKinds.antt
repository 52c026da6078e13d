-- Items whose keys ascend stand kind by kind, so their rows are those of each kind, one after another.
use Rattle.std.proofs.Common.{◌≡◌, ℕ, ◌+◌, ◌≤◌, List, [], ◌∷◌, ◌++◌, map, Option, Some, None, refl, ap, arith}
use Rattle.std.proofs.lemmas.Cmp.{ranked}
use Rattle.std.specs.List.{cons_option, filter_map, AllByRecursion}
use Rattle.std.specs.List.Sorted.{IsStrictlySortedBy}
use Rattle.std.specs.Ordering.{nat_cmp, ordering_then}
use Rattle.std.specs.declared.cmp.Ordering.{Ordering}
use Rattle.std.specs.declared.cmp.Ordering.TheVariants.{Less, Equal, Greater}
use Rattle.wb_base.specs.KeptRows.{key_cmp}
use Rattle.wb_base.specs.declared.rows.Key.{Key}
use Rattle.wb_base.specs.declared.rows.Row.{Row}
use Rattle.wb_custody.specs.declared.sealed.SealedItem.{SealedItem}
use Rattle.wb_row_codec.specs.declared.item.EntryItem.{EntryItem}
use Rattle.wb_row_codec.specs.declared.item.Item.{Item}
use Rattle.wb_row_codec.specs.declared.item.Item.TheVariants as items
use Rattle.wb_row_codec.specs.Items.{item_row}
use Rattle.wb_model.specs.Json.{answers_data}
use Rattle.wb_model.specs.Rows.{row, entry_data}
use Rattle.wb_rows.specs.declared.items.ItemsByKind.{ItemsByKind}
use Rattle.wb_rows.specs.HeldRows.{settings_row, numbering_row, user_row, form_row, context_row}
use Rattle.wb_rows.specs.KeptItems.{tenant_in, numbering_in, user_in, form_in, context_in, entry_in, kept_of}
use Rattle.wb_rows.proofs.ItemOrder.{item_key, tenant_key, numbering_key, user_key, form_key, context_key, entry_item_key}
use Rattle.wb_base.specs.declared.form.Format.{Format}

abbrev pub entry_row : EntryItem → Row
entry_row x = row 6 x.tenant x.number x.place (entry_data x.entry)

abbrev pub sealed_row : SealedItem → Row
sealed_row x = row 7 x.tenant x.number 0 (answers_data x.answers)

-- the rows of what is kept, kind by kind
abbrev pub kind_rows : Format → ItemsByKind → List Row
kind_rows format k = map settings_row k.lists.tenants ++ (map numbering_row k.numberings ++ (map user_row k.lists.users ++ (map (form_row format) k.lists.forms ++ (map context_row k.lists.contexts ++ (map entry_row k.entries ++ map sealed_row k.sealed)))))

-- no item is of a kind below
abbrev AreFrom : ℕ → List Item → Type 0
AreFrom k [] = Unit {0}
AreFrom k (x ∷ xs) = (k ≤ (item_key x).kind) × AreFrom k xs

lower : (k m : ℕ) → k ≤ m → (xs : List Item) → AreFrom m xs → AreFrom k xs
lower k m le [] from = tt
lower k m le (x ∷ xs) from = (omega (arith, le, from.0), lower k m le xs from.1)

kind_upto : (k m : Key) → key_cmp k m ≡ Less → k.kind ≤ m.kind
kind_upto k m less = by (nat_cmp k.kind m.kind) (ordering_then (nat_cmp k.tenant m.tenant) (ordering_then (nat_cmp k.a m.a) (nat_cmp k.b m.b))) refl less
  where
    by : (o rest : Ordering) → o ≡ nat_cmp k.kind m.kind → ordering_then o rest ≡ Less → k.kind ≤ m.kind
    by Less rest is e = let lt = ranked k.kind m.kind Less is in omega (arith, lt)
    by Equal rest is e = let same = ranked k.kind m.kind Equal is in omega (arith, same)
    by Greater rest is e = absurd (cc (e))

after : (k : Key) (xs : List Item) → AllByRecursion (λ m. key_cmp k m ≡ Less) (map item_key xs) → AreFrom k.kind xs
after k [] above = tt
after k (x ∷ xs) above = (kind_upto k (item_key x) above.0, after k xs above.1)

-- of a kind below there is none
none_of : {X : Type 0} (pick : Item → Option X) (kind : ℕ) → ((i : Item) (x : X) → pick i ≡ Some x → (item_key i).kind ≡ kind) → (xs : List Item) → AreFrom (kind + 1) xs → filter_map pick xs ≡ []
none_of pick kind has [] from = refl
none_of {X} pick kind has (x ∷ xs) from = by (pick x) (has x) from.0 (none_of pick kind has xs from.1)
  where
    by : (o : Option X) → ((y : X) → o ≡ Some y → (item_key x).kind ≡ kind) → kind + 1 ≤ (item_key x).kind → filter_map pick xs ≡ [] → cons_option o (filter_map pick xs) ≡ []
    by None is above rest = rest
    by (Some y) is above rest = absurd (let same = is y refl in omega (arith, same, above))

no_tenants : (xs : List Item) → AreFrom 2 xs → filter_map tenant_in xs ≡ []
no_tenants xs from = none_of tenant_in 1 (λ i x e. ap (λ (k : Key). k.kind) (tenant_key i x e)) xs from

no_numberings : (xs : List Item) → AreFrom 3 xs → filter_map numbering_in xs ≡ []
no_numberings xs from = none_of numbering_in 2 (λ i x e. ap (λ (k : Key). k.kind) (numbering_key i x e)) xs from

no_users : (xs : List Item) → AreFrom 4 xs → filter_map user_in xs ≡ []
no_users xs from = none_of user_in 3 (λ i x e. ap (λ (k : Key). k.kind) (user_key i x e)) xs from

no_forms : (xs : List Item) → AreFrom 5 xs → filter_map form_in xs ≡ []
no_forms xs from = none_of form_in 4 (λ i x e. ap (λ (k : Key). k.kind) (form_key i x e)) xs from

no_contexts : (xs : List Item) → AreFrom 6 xs → filter_map context_in xs ≡ []
no_contexts xs from = none_of context_in 5 (λ i x e. ap (λ (k : Key). k.kind) (context_key i x e)) xs from

no_entries : (xs : List Item) → AreFrom 7 xs → filter_map entry_in xs ≡ []
no_entries xs from = none_of entry_in 6 (λ i x e. ap (λ (k : Key). k.kind) (entry_item_key i x e)) xs from

-- the rows of ascending items are those of each kind, one after another
pub by_kinds : (format : Format) (xs : List Item) → IsStrictlySortedBy key_cmp (map item_key xs) → kind_rows format (kept_of xs) ≡ map (item_row format) xs
unfolding IsStrictlySortedBy
by_kinds format [] order = refl
by_kinds format (items.Settings x ∷ xs) order = ap (λ l. settings_row x ∷ l) (by_kinds format xs order.1)
by_kinds format (items.Numbering x ∷ xs) order =
    let from : AreFrom 2 xs = after (item_key (items.Numbering x)) xs order.0 in
    let t = no_tenants xs from in
    let rest = by_kinds format xs order.1 in
    rw t (ap (λ l. numbering_row x ∷ l) (rw t at rest))
by_kinds format (items.User x ∷ xs) order =
    let from : AreFrom 3 xs = after (item_key (items.User x)) xs order.0 in
    let t = no_tenants xs (lower 2 3 (omega arith) xs from) in
    let n = no_numberings xs from in
    let rest = by_kinds format xs order.1 in
    rw (t, n) (ap (λ l. user_row x ∷ l) (rw (t, n) at rest))
by_kinds format (items.Form x ∷ xs) order =
    let from : AreFrom 4 xs = after (item_key (items.Form x)) xs order.0 in
    let t = no_tenants xs (lower 2 4 (omega arith) xs from) in
    let n = no_numberings xs (lower 3 4 (omega arith) xs from) in
    let u = no_users xs from in
    let rest = by_kinds format xs order.1 in
    rw (t, n, u) (ap (λ l. form_row format x ∷ l) (rw (t, n, u) at rest))
by_kinds format (items.Context x ∷ xs) order =
    let from : AreFrom 5 xs = after (item_key (items.Context x)) xs order.0 in
    let t = no_tenants xs (lower 2 5 (omega arith) xs from) in
    let n = no_numberings xs (lower 3 5 (omega arith) xs from) in
    let u = no_users xs (lower 4 5 (omega arith) xs from) in
    let f = no_forms xs from in
    let rest = by_kinds format xs order.1 in
    rw (t, n, u, f) (ap (λ l. context_row x ∷ l) (rw (t, n, u, f) at rest))
by_kinds format (items.Entry x ∷ xs) order =
    let from : AreFrom 6 xs = after (item_key (items.Entry x)) xs order.0 in
    let t = no_tenants xs (lower 2 6 (omega arith) xs from) in
    let n = no_numberings xs (lower 3 6 (omega arith) xs from) in
    let u = no_users xs (lower 4 6 (omega arith) xs from) in
    let f = no_forms xs (lower 5 6 (omega arith) xs from) in
    let c = no_contexts xs from in
    let rest = by_kinds format xs order.1 in
    rw (t, n, u, f, c) (ap (λ l. entry_row x ∷ l) (rw (t, n, u, f, c) at rest))
by_kinds format (items.Sealed x ∷ xs) order =
    let from : AreFrom 7 xs = after (item_key (items.Sealed x)) xs order.0 in
    let t = no_tenants xs (lower 2 7 (omega arith) xs from) in
    let n = no_numberings xs (lower 3 7 (omega arith) xs from) in
    let u = no_users xs (lower 4 7 (omega arith) xs from) in
    let f = no_forms xs (lower 5 7 (omega arith) xs from) in
    let c = no_contexts xs (lower 6 7 (omega arith) xs from) in
    let e = no_entries xs from in
    let rest = by_kinds format xs order.1 in
    rw (t, n, u, f, c, e) (ap (λ l. sealed_row x ∷ l) (rw (t, n, u, f, c, e) at rest))
