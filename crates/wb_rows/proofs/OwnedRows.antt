-- Where the rule of tenants is not broken, each row is of a tenant that is there, and each tenant has its numbering.
use Rattle.std.proofs.Common.{◌≡◌, ℕ, Bool, true, List, [], ◌∷◌, map, Option, Some, None, refl, sym, ap, ◌∙◌}
use Rattle.std.proofs.lemmas.Bool.{and_from, and_parts}
use Rattle.std.proofs.lemmas.List.Folds.{list_all-map}
use Rattle.std.specs.List.{filter_map, list_all, list_any}
use Rattle.std.specs.Prelude.{◌==◌, ◌&&◌}
use Rattle.wb_base.specs.KeptRows.{key_of}
use Rattle.wb_base.specs.declared.rows.Key.{Key}
use Rattle.wb_base.specs.declared.rows.Row.{Row}
use Rattle.wb_custody.specs.declared.sealed.SealedItem.{SealedItem}
use Rattle.wb_row_codec.specs.declared.item.EntryItem.{EntryItem}
use Rattle.wb_row_codec.specs.declared.item.Item.{Item}
use Rattle.wb_row_codec.specs.declared.item.NumberingItem.{NumberingItem}
use Rattle.wb_row_codec.specs.Items.{item_row}
use Rattle.wb_model.specs.declared.registry.ContextItem.{ContextItem}
use Rattle.wb_model.specs.declared.registry.FormItem.{FormItem}
use Rattle.wb_model.specs.declared.registry.Lists.{Lists}
use Rattle.wb_model.specs.declared.registry.TenantItem.{TenantItem}
use Rattle.wb_model.specs.declared.registry.UserItem.{UserItem}
use Rattle.wb_model.specs.SetUps.{has_tenant}
use Rattle.wb_rows.specs.declared.items.ItemsByKind.{ItemsByKind}
use Rattle.wb_rows.specs.Blame.{first_breaking}
use Rattle.wb_rows.specs.KeptItems.{context_in, entry_in, form_in, kept_of, numbering_in, sealed_in, tenant_in, user_in}
use Rattle.wb_rows.specs.ListRules.{has_tenant_rows}
use Rattle.wb_rows.proofs.FitItems.{picked}
use Rattle.wb_rows.proofs.ItemOrder.{key_in, context_key, entry_item_key, form_key, item_key, numbering_key, sealed_key, tenant_key, user_key}
use Rattle.wb_rows.proofs.RulesHold.{none-breaking}
use Rattle.wb_base.specs.declared.form.Format.{Format}
use Rattle.wb_base.specs.declared.form.Format.TheVariants.{Weighed}

pub all_from : {X : Type 0} (f g : X → Bool) → ((x : X) → f x ≡ true → g x ≡ true) → (xs : List X) → list_all f xs ≡ true → list_all g xs ≡ true
all_from f g so [] holds = refl
all_from f g so (x ∷ xs) holds = let parts = and_parts (f x) (list_all f xs) holds in and_from (g x) (list_all g xs) (so x parts.0) (all_from f g so xs parts.1)

-- ---- what is kept

abbrev pub has_numbering : List NumberingItem → ℕ → Bool
has_numbering numberings t = list_any (λ (x : NumberingItem). x.tenant == t) numberings

-- all that is kept is of tenants that are there, each of which has its numbering
pub record AreOwned (k : ItemsByKind) : Type 0 where
  pub numbered : list_all (λ (x : TenantItem). has_numbering k.numberings x.tenant) k.lists.tenants ≡ true
  pub numberings : list_all (λ (x : NumberingItem). has_tenant k.lists x.tenant) k.numberings ≡ true
  pub users : list_all (λ (x : UserItem). has_tenant k.lists x.tenant) k.lists.users ≡ true
  pub forms : list_all (λ (x : FormItem). has_tenant k.lists x.tenant) k.lists.forms ≡ true
  pub contexts : list_all (λ (x : ContextItem). has_tenant k.lists x.tenant) k.lists.contexts ≡ true
  pub entries : list_all (λ (x : EntryItem). has_tenant k.lists x.tenant) k.entries ≡ true
  pub sealed : list_all (λ (x : SealedItem). has_tenant k.lists x.tenant) k.sealed ≡ true

abbrev has_both : Lists → List NumberingItem → ℕ → Bool
has_both lists numberings t = has_tenant lists t && has_numbering numberings t

row_owned : (lists : Lists) (numberings : List NumberingItem) (row : Row) → has_tenant_rows lists numberings row ≡ true → has_both lists numberings row.key.tenant ≡ true
unfolding has_tenant_rows
row_owned lists numberings row holds = holds

tenant_of : (k m : Key) → k ≡ m → k.tenant ≡ m.tenant
tenant_of k m e = ap (λ (q : Key). q.tenant) e

module _ (lists : Lists) (numberings : List NumberingItem) (all : List Item) (there : list_all (λ i. has_tenant_rows lists numberings (item_row Weighed i)) all ≡ true) {X : Type 0} (pick : Item → Option X) (tenant : X → ℕ) (own : (i : Item) (x : X) → pick i ≡ Some x → (item_key i).tenant ≡ tenant x) where
  have_both : list_all (λ x. has_both lists numberings (tenant x)) (filter_map pick all) ≡ true
  have_both = picked (λ i. has_tenant_rows lists numberings (item_row Weighed i)) pick (λ x. has_both lists numberings (tenant x)) (λ i x given is. ap (has_both lists numberings) (sym (own i x is)) ∙ row_owned lists numberings (item_row Weighed i) given) all there

  have_tenant : list_all (λ x. has_tenant lists (tenant x)) (filter_map pick all) ≡ true
  have_tenant = all_from (λ x. has_both lists numberings (tenant x)) (λ x. has_tenant lists (tenant x)) (λ x both. (and_parts (has_tenant lists (tenant x)) (has_numbering numberings (tenant x)) both).0) (filter_map pick all) have_both

  have_numbering : list_all (λ x. has_numbering numberings (tenant x)) (filter_map pick all) ≡ true
  have_numbering = all_from (λ x. has_both lists numberings (tenant x)) (λ x. has_numbering numberings (tenant x)) (λ x both. (and_parts (has_tenant lists (tenant x)) (has_numbering numberings (tenant x)) both).1) (filter_map pick all) have_both

-- a row's key says of whom it is, in each format
same_owned : (lists : Lists) (numberings : List NumberingItem) (format : Format) (i : Item) → has_tenant_rows lists numberings (item_row format i) ≡ has_tenant_rows lists numberings (item_row Weighed i)
unfolding has_tenant_rows
same_owned lists numberings format i = ap (λ (k : Key). has_tenant lists k.tenant && list_any (λ x. x.tenant == k.tenant) numberings) (key_in format i)

all_owned : (lists : Lists) (numberings : List NumberingItem) (format : Format) (all : List Item) → list_all (λ i. has_tenant_rows lists numberings (item_row Weighed i)) all ≡ list_all (λ i. has_tenant_rows lists numberings (item_row format i)) all
all_owned lists numberings format [] = refl
all_owned lists numberings format (i ∷ is) = rw (same_owned lists numberings format i, all_owned lists numberings format is) refl

pub owned-rows : (format : Format) (rows : List Row) (all : List Item) → map (item_row format) all ≡ rows → first_breaking (has_tenant_rows (kept_of all).lists (kept_of all).numberings) key_of rows ≡ None → AreOwned (kept_of all)
owned-rows format rows all are none =
    let lists = (kept_of all).lists in
    let numberings = (kept_of all).numberings in
    let there = all_owned lists numberings format all ∙ sym (list_all-map (has_tenant_rows lists numberings) (item_row format) all) ∙ (ap (list_all (has_tenant_rows lists numberings)) are ∙ none-breaking (has_tenant_rows lists numberings) key_of rows none) in
    record {
      numbered = have_numbering lists numberings all there tenant_in (λ (x : TenantItem). x.tenant) (λ i x e. tenant_of _ _ (tenant_key i x e));
      numberings = have_tenant lists numberings all there numbering_in (λ (x : NumberingItem). x.tenant) (λ i x e. tenant_of _ _ (numbering_key i x e));
      users = have_tenant lists numberings all there user_in (λ (x : UserItem). x.tenant) (λ i x e. tenant_of _ _ (user_key i x e));
      forms = have_tenant lists numberings all there form_in (λ (x : FormItem). x.tenant) (λ i x e. tenant_of _ _ (form_key i x e));
      contexts = have_tenant lists numberings all there context_in (λ (x : ContextItem). x.tenant) (λ i x e. tenant_of _ _ (context_key i x e));
      entries = have_tenant lists numberings all there entry_in (λ (x : EntryItem). x.tenant) (λ i x e. tenant_of _ _ (entry_item_key i x e));
      sealed = have_tenant lists numberings all there sealed_in (λ (x : SealedItem). x.tenant) (λ i x e. tenant_of _ _ (sealed_key i x e));
    }
