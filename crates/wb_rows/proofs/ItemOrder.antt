-- Items whose rows ascend by their keys: those of each kind ascend by their own.
use Rattle.std.proofs.Common.{◌≡◌, ℕ, ◌*◌, ◌+◌, ◌≤◌, Bool, true, false, List, [], ◌∷◌, map, Option, Some, None, Result, Ok, Err, refl, sym, ap, ◌∙◌, subst}
use Rattle.std.proofs.lemmas.Bool.{and_parts, eqb-true, leb-true, false≢true}
use Rattle.std.specs.List.{filter_map, list_all, AllByRecursion}
use Rattle.std.specs.List.Sorted.{IsStrictlySortedBy}
use Rattle.std.specs.Cmp.{nat_cmp_is}
use Rattle.std.specs.Ordering.{nat_cmp, ordering_then}
use Rattle.std.specs.Prelude.{◌==◌, ◌&&◌, nat_le, if◌then◌else◌, option_and_then}
use Rattle.std.specs.declared.cmp.Ordering.{Ordering}
use Rattle.std.specs.declared.cmp.Ordering.TheVariants.{Less, Equal, Greater}
use Rattle.wb_base.specs.AnswerList.{is_text}
use Rattle.wb_base.specs.FormFaults.{is_good}
use Rattle.wb_base.specs.FormShape.{keep}
use Rattle.wb_base.specs.KeptRows.{key_cmp, key_of}
use Rattle.wb_base.specs.declared.rows.Row.{Row}
use Rattle.wb_custody.specs.SealedAnswers.{pair_cmp, sealed_place}
use Rattle.wb_model.specs.Fits.{is_between}
use Rattle.wb_model.proofs.Receipts.{same_text}
use Rattle.wb_rows.specs.declared.faults.RowFault.{RowFault}
use Rattle.wb_rows.specs.Places.{entry_key}
use Rattle.wb_rows.specs.ReadItems.{items_in, with_first}
use Rattle.wb_base.specs.declared.rows.Key.{Key}
use Rattle.wb_custody.specs.declared.sealed.SealedItem.{SealedItem}
use Rattle.wb_row_codec.specs.declared.item.EntryItem.{EntryItem}
use Rattle.wb_row_codec.specs.declared.item.Item.{Item}
use Rattle.wb_row_codec.specs.declared.item.Item.TheVariants as items
use Rattle.wb_row_codec.specs.declared.item.NumberingItem.{NumberingItem}
use Rattle.wb_row_codec.specs.Items.{item_row, item_of, is_key, is_row, is_in_range}
use Rattle.wb_list.specs.Keyed.{IsAscending}
use Rattle.wb_model.specs.declared.registry.ContextItem.{ContextItem}
use Rattle.wb_model.specs.declared.registry.FormItem.{FormItem}
use Rattle.wb_model.specs.declared.registry.TenantItem.{TenantItem}
use Rattle.wb_model.specs.declared.registry.UserItem.{UserItem}
use Rattle.wb_rows.specs.KeptItems.{tenant_in, numbering_in, user_in, form_in, context_in, entry_in, sealed_in, kept_of}
use Rattle.wb_rows.proofs.ConfiguredRows.{versions_order}
use Rattle.wb_rows.proofs.RowPuts.{key}
use Rattle.wb_setup.specs.Keys as keys
use Rattle.wb_base.specs.declared.form.Format.{Format}
use Rattle.wb_base.specs.declared.form.Format.TheVariants.{Weighed}

abbrev pub item_key : Item → Key
item_key i = (item_row Weighed i).key

-- it is the same in each format
pub key_in : (format : Format) (i : Item) → (item_row format i).key ≡ item_key i
key_in format (items.Settings x) = refl
key_in format (items.Numbering x) = refl
key_in format (items.User x) = refl
key_in format (items.Form x) = refl
key_in format (items.Context x) = refl
key_in format (items.Entry x) = refl
key_in format (items.Sealed x) = refl

-- ---- of one kind

module _ {X K : Type 0} (pick : Item → Option X) (cmp : K → K → Ordering) (place : X → K) (less : (i j : Item) (x y : X) → is_in_range i ≡ true → is_in_range j ≡ true → pick i ≡ Some x → pick j ≡ Some y → key_cmp (item_key i) (item_key j) ≡ Less → cmp (place x) (place y) ≡ Less) where
  below : (i : Item) (x : X) (all : List Item) → is_in_range i ≡ true → list_all is_in_range all ≡ true → pick i ≡ Some x → AllByRecursion (λ k. key_cmp (item_key i) k ≡ Less) (map item_key all) → AllByRecursion (λ k. cmp (place x) k ≡ Less) (map place (filter_map pick all))
  below i x [] fit fits is under = tt
  below i x (j ∷ js) fit fits is under =
      let parts = and_parts (is_in_range j) (list_all is_in_range js) fits in
      by (pick j) refl parts.0 (below i x js fit parts.1 is under.1)
    where
      by : (o : Option X) → pick j ≡ o → is_in_range j ≡ true → AllByRecursion (λ k. cmp (place x) k ≡ Less) (map place (filter_map pick js)) → AllByRecursion (λ k. cmp (place x) k ≡ Less) (map place (filter_map pick (j ∷ js)))
      by None none own rest = rw none rest
      by (Some y) some own rest = rw some (less i j x y fit own is some under.0, rest)

  pub picked : (all : List Item) → list_all is_in_range all ≡ true → IsStrictlySortedBy key_cmp (map item_key all) → IsAscending cmp place (filter_map pick all)
  unfolding IsStrictlySortedBy
  picked [] fits order = tt
  picked (i ∷ is) fits order =
      let parts = and_parts (is_in_range i) (list_all is_in_range is) fits in
      by (pick i) refl (λ x some. below i x is parts.0 parts.1 some order.0) (picked is parts.1 order.1)
    where
      by : (o : Option X) → pick i ≡ o → ((x : X) → pick i ≡ Some x → AllByRecursion (λ k. cmp (place x) k ≡ Less) (map place (filter_map pick is))) → IsAscending cmp place (filter_map pick is) → IsAscending cmp place (filter_map pick (i ∷ is))
      by None none under rest = rw none rest
      by (Some x) some under rest = rw some (under x some, rest)

-- ---- which key an item of a kind has

pub tenant_key : (i : Item) (x : TenantItem) → tenant_in i ≡ Some x → item_key i ≡ key 1 x.tenant 0 0
tenant_key (items.Settings y) x e = let same : y ≡ x = cc (e) in ap (λ (z : TenantItem). key 1 z.tenant 0 0) same
tenant_key _ x e = absurd (cc (e))

pub numbering_key : (i : Item) (x : NumberingItem) → numbering_in i ≡ Some x → item_key i ≡ key 2 x.tenant 0 0
numbering_key (items.Numbering y) x e = let same : y ≡ x = cc (e) in ap (λ (z : NumberingItem). key 2 z.tenant 0 0) same
numbering_key _ x e = absurd (cc (e))

pub user_key : (i : Item) (x : UserItem) → user_in i ≡ Some x → item_key i ≡ key 3 x.tenant x.id 0
user_key (items.User y) x e = let same : y ≡ x = cc (e) in ap (λ (z : UserItem). key 3 z.tenant z.id 0) same
user_key _ x e = absurd (cc (e))

pub form_key : (i : Item) (x : FormItem) → form_in i ≡ Some x → item_key i ≡ key 4 x.tenant x.id x.version
form_key (items.Form y) x e = let same : y ≡ x = cc (e) in ap (λ (z : FormItem). key 4 z.tenant z.id z.version) same
form_key _ x e = absurd (cc (e))

pub context_key : (i : Item) (x : ContextItem) → context_in i ≡ Some x → item_key i ≡ key 5 x.tenant x.id 0
context_key (items.Context y) x e = let same : y ≡ x = cc (e) in ap (λ (z : ContextItem). key 5 z.tenant z.id 0) same
context_key _ x e = absurd (cc (e))

pub entry_item_key : (i : Item) (x : EntryItem) → entry_in i ≡ Some x → item_key i ≡ entry_key x
entry_item_key (items.Entry y) x e = let same : y ≡ x = cc (e) in ap entry_key same
entry_item_key _ x e = absurd (cc (e))

pub sealed_key : (i : Item) (x : SealedItem) → sealed_in i ≡ Some x → item_key i ≡ key 7 x.tenant x.number 0
sealed_key (items.Sealed y) x e = let same : y ≡ x = cc (e) in ap (λ (z : SealedItem). key 7 z.tenant z.number 0) same
sealed_key _ x e = absurd (cc (e))

-- ---- the order of each kind

then_equal : (o : Ordering) → ordering_then o Equal ≡ o
then_equal Less = refl
then_equal Equal = refl
then_equal Greater = refl

-- the order of the items is that of their keys
carried : (i j : Item) (k m : Key) → item_key i ≡ k → item_key j ≡ m → key_cmp (item_key i) (item_key j) ≡ Less → key_cmp k m ≡ Less
carried i j k m is js less = sym (λ p. key_cmp (is p) (js p)) ∙ less

by_tenant : (kind t u : ℕ) → key_cmp (key kind t 0 0) (key kind u 0 0) ≡ nat_cmp t u
by_tenant kind t u = rw (sym (nat_cmp_is kind kind Equal refl)) (then_equal (nat_cmp t u))

by_id : (kind t u a b : ℕ) → key_cmp (key kind t a 0) (key kind u b 0) ≡ ordering_then (nat_cmp t u) (nat_cmp a b)
by_id kind t u a b = rw (sym (nat_cmp_is kind kind Equal refl)) (ap (ordering_then (nat_cmp t u)) (then_equal (nat_cmp a b)))

by_version : (t u a b v w : ℕ) → v ≤ 99 → w ≤ 99 → key_cmp (key 4 t a v) (key 4 u b w) ≡ ordering_then (nat_cmp t u) (nat_cmp (a * 100 + v) (b * 100 + w))
by_version t u a b v w low high = ap (ordering_then (nat_cmp t u)) (versions_order a v b w low high)

three : (a b c : Bool) → (a && b && c) ≡ true → (a ≡ true) × (b ≡ true) × (c ≡ true)
three true true true e = (refl, refl, refl)
three true true false e = absurd (false≢true e)
three true false c e = absurd (false≢true e)
three false b c e = absurd (false≢true e)

version_fits : (i : Item) (x : FormItem) → is_in_range i ≡ true → form_in i ≡ Some x → x.version ≤ 99
version_fits (items.Form y) x fit e =
    let same : y ≡ x = cc (e) in
    let between : is_between 1 99 y.version ≡ true = (three (is_between 1 16 y.id) (is_between 1 99 y.version) (is_good y.form) fit).1 in
    subst (λ (z : FormItem). z.version ≤ 99) same (leb-true y.version 99 (and_parts (nat_le 1 y.version) (nat_le y.version 99) between).1)
version_fits _ x fit e = absurd (cc (e))

module _ (all : List Item) (fits : list_all is_in_range all ≡ true) (order : IsStrictlySortedBy key_cmp (map item_key all)) where
  pub lists-order : keys.AreInOrder (kept_of all).lists
  lists-order = record {
    tenants = picked tenant_in nat_cmp keys.tenant_key (λ i j x y fi fj is js less. sym (by_tenant 1 x.tenant y.tenant) ∙ carried i j _ _ (tenant_key i x is) (tenant_key j y js) less) all fits order;
    users = picked user_in keys.key_cmp keys.user_key (λ i j x y fi fj is js less. sym (by_id 3 x.tenant y.tenant x.id y.id) ∙ carried i j _ _ (user_key i x is) (user_key j y js) less) all fits order;
    forms = picked form_in keys.key_cmp keys.version_key (λ i j x y fi fj is js less. sym (by_version x.tenant y.tenant x.id y.id x.version y.version (version_fits i x fi is) (version_fits j y fj js)) ∙ carried i j _ _ (form_key i x is) (form_key j y js) less) all fits order;
    contexts = picked context_in keys.key_cmp keys.context_key (λ i j x y fi fj is js less. sym (by_id 5 x.tenant y.tenant x.id y.id) ∙ carried i j _ _ (context_key i x is) (context_key j y js) less) all fits order;
  }

  pub numberings-order : IsAscending nat_cmp (λ (x : NumberingItem). x.tenant) (kept_of all).numberings
  numberings-order = picked numbering_in nat_cmp (λ (x : NumberingItem). x.tenant) (λ i j x y fi fj is js less. sym (by_tenant 2 x.tenant y.tenant) ∙ carried i j _ _ (numbering_key i x is) (numbering_key j y js) less) all fits order

  pub entries-order : IsAscending key_cmp entry_key (kept_of all).entries
  entries-order = picked entry_in key_cmp entry_key (λ i j x y fi fj is js less. carried i j _ _ (entry_item_key i x is) (entry_item_key j y js) less) all fits order

  pub sealed-order : IsAscending pair_cmp sealed_place (kept_of all).sealed
  sealed-order = picked sealed_in pair_cmp sealed_place (λ i j x y fi fj is js less. sym (by_id 7 x.tenant y.tenant x.number y.number) ∙ carried i j _ _ (sealed_key i x is) (sealed_key j y js) less) all fits order

-- ---- rows that are read

is_same_key : (k m : Key) → is_key k m ≡ true → k ≡ m
is_same_key k m e =
    let parts = four (k.kind == m.kind) (k.tenant == m.tenant) (k.a == m.a) (k.b == m.b) e in
    λ i. record { kind = eqb-true k.kind m.kind parts.0 i; tenant = eqb-true k.tenant m.tenant parts.1 i; a = eqb-true k.a m.a parts.2 i; b = eqb-true k.b m.b parts.3 i }
  where
    four : (a b c d : Bool) → (a && b && c && d) ≡ true → (a ≡ true) × (b ≡ true) × (c ≡ true) × (d ≡ true)
    four true true true true e = (refl, refl, refl, refl)
    four true true true false e = absurd (false≢true e)
    four true true false d e = absurd (false≢true e)
    four true false c d e = absurd (false≢true e)
    four false b c d e = absurd (false≢true e)

pub is_same_row : (x y : Row) → is_row x y ≡ true → x ≡ y
is_same_row x y e =
    let parts = and_parts (is_key x.key y.key) (is_text x.text y.text) e in
    λ i. record { key = is_same_key x.key y.key parts.0 i; text = same_text x.text y.text parts.1 i }

-- what is read as an item is the row of the item
row_of_item : (format : Format) (row : Row) (item : Item) → item_of format row ≡ Some item → item_row format item ≡ row
unfolding item_of
row_of_item format row item is = by _ is
  where
    kept : (x : Item) (b : Bool) → is_row (item_row format x) row ≡ b → (if b then Some x else None) ≡ Some item → item_row format item ≡ row
    kept x true same e = let own : x ≡ item = cc (e) in subst (λ z. item_row format z ≡ row) own (is_same_row (item_row format x) row same)
    kept x false same e = absurd (cc (e))

    by : (o : Option Item) → option_and_then (keep (λ x. is_row (item_row format x) row)) o ≡ Some item → item_row format item ≡ row
    by None e = absurd (cc (e))
    by (Some x) e = kept x (is_row (item_row format x) row) refl e

pub rows_of_items : (format : Format) (rows : List Row) (all : List Item) → items_in format rows ≡ Ok all → map (item_row format) all ≡ rows
rows_of_items format [] all e = let none : [] ≡ all = cc (e) in subst (λ l. map (item_row format) l ≡ []) none refl
rows_of_items format (row ∷ rows) all e = by (item_of format row) (items_in format rows) refl (λ more rest. rows_of_items format rows more rest) e
  where
    by : (o : Option Item) (r : Result (List Item) RowFault) → item_of format row ≡ o → ((more : List Item) → r ≡ Ok more → map (item_row format) more ≡ rows) → with_first o row.key r ≡ Ok all → map (item_row format) all ≡ row ∷ rows
    by None r is rest e = absurd (cc (e))
    by (Some x) (Err fault) is rest e = absurd (cc (e))
    by (Some x) (Ok more) is rest e =
        let whole : x ∷ more ≡ all = cc (e) in
        subst (λ l. map (item_row format) l ≡ row ∷ rows) whole (λ i. row_of_item format row x is i ∷ rest more refl i)

-- the items of ascending rows ascend
pub items_ascend : (format : Format) (rows : List Row) (all : List Item) → items_in format rows ≡ Ok all → IsStrictlySortedBy key_cmp (map key_of rows) → IsStrictlySortedBy key_cmp (map item_key all)
items_ascend format rows all e order = subst (IsStrictlySortedBy key_cmp) (ap (map key_of) (sym (rows_of_items format rows all e)) ∙ keys_of all) order
  where
    keys_of : (xs : List Item) → map key_of (map (item_row format) xs) ≡ map item_key xs
    keys_of [] = refl
    keys_of (x ∷ xs) = λ i. key_in format x i ∷ keys_of xs i
