-- What is so of all items is so of those of a kind; and items in their ranges are that in each kind.
use Rattle.std.proofs.Common.{◌≡◌, Bool, true, List, [], ◌∷◌, Option, Some, None, refl, subst}
use Rattle.std.proofs.lemmas.Bool.{and_from, and_parts}
use Rattle.std.specs.List.{cons_option, filter_map, list_all}
use Rattle.std.specs.Prelude.{nat_le}
use Rattle.wb_row_codec.specs.declared.item.EntryItem.{EntryItem}
use Rattle.wb_row_codec.specs.declared.item.Item.{Item}
use Rattle.wb_row_codec.specs.declared.item.Item.TheVariants as items
use Rattle.wb_row_codec.specs.Items.{is_in_range}
use Rattle.wb_model.specs.declared.registry.ContextItem.{ContextItem}
use Rattle.wb_model.specs.declared.registry.FormItem.{FormItem}
use Rattle.wb_model.specs.declared.registry.TenantItem.{TenantItem}
use Rattle.wb_model.specs.declared.registry.UserItem.{UserItem}
use Rattle.wb_model.specs.SetUps.{is_context_item, is_form_item, is_tenant_item, is_user_item}
use Rattle.wb_rows.specs.KeptItems.{context_in, entry_in, form_in, tenant_in, user_in}

pub picked : {X : Type 0} (given : Item → Bool) (pick : Item → Option X) (test : X → Bool) → ((i : Item) (x : X) → given i ≡ true → pick i ≡ Some x → test x ≡ true) → (all : List Item) → list_all given all ≡ true → list_all test (filter_map pick all) ≡ true
picked given pick test so [] holds = refl
picked {X} given pick test so (i ∷ is) holds =
    let parts = and_parts (given i) (list_all given is) holds in
    by (pick i) (so i) parts.0 (picked given pick test so is parts.1)
  where
    by : (o : Option X) → ((x : X) → given i ≡ true → o ≡ Some x → test x ≡ true) → given i ≡ true → list_all test (filter_map pick is) ≡ true → list_all test (cons_option o (filter_map pick is)) ≡ true
    by None one own rest = rest
    by (Some x) one own rest = and_from (test x) (list_all test (filter_map pick is)) (one x own refl) rest

pub tenants-fit : (all : List Item) → list_all is_in_range all ≡ true → list_all is_tenant_item (filter_map tenant_in all) ≡ true
tenants-fit = picked is_in_range tenant_in is_tenant_item fit
  where
    fit : (i : Item) (x : TenantItem) → is_in_range i ≡ true → tenant_in i ≡ Some x → is_tenant_item x ≡ true
    fit (items.Settings y) x own is = let same : y ≡ x = cc (is) in subst (λ z. is_tenant_item z ≡ true) same own
    fit _ x own is = absurd (cc (is))

pub users-fit : (all : List Item) → list_all is_in_range all ≡ true → list_all is_user_item (filter_map user_in all) ≡ true
users-fit = picked is_in_range user_in is_user_item fit
  where
    fit : (i : Item) (x : UserItem) → is_in_range i ≡ true → user_in i ≡ Some x → is_user_item x ≡ true
    fit (items.User y) x own is = let same : y ≡ x = cc (is) in subst (λ z. is_user_item z ≡ true) same own
    fit _ x own is = absurd (cc (is))

pub forms-fit : (all : List Item) → list_all is_in_range all ≡ true → list_all is_form_item (filter_map form_in all) ≡ true
forms-fit = picked is_in_range form_in is_form_item fit
  where
    fit : (i : Item) (x : FormItem) → is_in_range i ≡ true → form_in i ≡ Some x → is_form_item x ≡ true
    fit (items.Form y) x own is = let same : y ≡ x = cc (is) in subst (λ z. is_form_item z ≡ true) same own
    fit _ x own is = absurd (cc (is))

pub contexts-fit : (all : List Item) → list_all is_in_range all ≡ true → list_all is_context_item (filter_map context_in all) ≡ true
contexts-fit = picked is_in_range context_in is_context_item fit
  where
    fit : (i : Item) (x : ContextItem) → is_in_range i ≡ true → context_in i ≡ Some x → is_context_item x ≡ true
    fit (items.Context y) x own is = let same : y ≡ x = cc (is) in subst (λ z. is_context_item z ≡ true) same own
    fit _ x own is = absurd (cc (is))

-- a report's number is 1 at least
pub entries-fit : (all : List Item) → list_all is_in_range all ≡ true → list_all (λ (x : EntryItem). nat_le 1 x.number) (filter_map entry_in all) ≡ true
entries-fit = picked is_in_range entry_in (λ (x : EntryItem). nat_le 1 x.number) fit
  where
    fit : (i : Item) (x : EntryItem) → is_in_range i ≡ true → entry_in i ≡ Some x → nat_le 1 x.number ≡ true
    fit (items.Entry y) x own is = let same : y ≡ x = cc (is) in subst (λ (z : EntryItem). nat_le 1 z.number ≡ true) same own
    fit _ x own is = absurd (cc (is))
