-- What rows stand for, kind by kind.
use Rattle.std.specs.Prelude.{List, [], ◌∷◌, ◌++◌, Option, Some, None}
use Rattle.std.specs.List.{filter_map}
use Rattle.wb_custody.specs.declared.sealed.SealedItem.{SealedItem}
use Rattle.wb_row_codec.specs.declared.item.EntryItem.{EntryItem}
use Rattle.wb_row_codec.specs.declared.item.Item.{Item}
use Rattle.wb_row_codec.specs.declared.item.Item.TheVariants as items
use Rattle.wb_row_codec.specs.declared.item.NumberingItem.{NumberingItem}
use Rattle.wb_model.specs.declared.registry.ContextItem.{ContextItem}
use Rattle.wb_model.specs.declared.registry.FormItem.{FormItem}
use Rattle.wb_model.specs.declared.registry.TenantItem.{TenantItem}
use Rattle.wb_model.specs.declared.registry.UserItem.{UserItem}
use Rattle.wb_rows.specs.declared.items.ItemsByKind.{ItemsByKind}

abbrev pub tenant_in : Item → Option TenantItem
tenant_in (items.Settings x) = Some x
tenant_in _ = None

abbrev pub numbering_in : Item → Option NumberingItem
numbering_in (items.Numbering x) = Some x
numbering_in _ = None

abbrev pub user_in : Item → Option UserItem
user_in (items.User x) = Some x
user_in _ = None

abbrev pub form_in : Item → Option FormItem
form_in (items.Form x) = Some x
form_in _ = None

abbrev pub context_in : Item → Option ContextItem
context_in (items.Context x) = Some x
context_in _ = None

abbrev pub entry_in : Item → Option EntryItem
entry_in (items.Entry x) = Some x
entry_in _ = None

abbrev pub sealed_in : Item → Option SealedItem
sealed_in (items.Sealed x) = Some x
sealed_in _ = None

-- items kind by kind, in their order
abbrev pub kept_of : List Item → ItemsByKind
kept_of all = record {
  lists = record { tenants = filter_map tenant_in all; users = filter_map user_in all; forms = filter_map form_in all; contexts = filter_map context_in all };
  numberings = filter_map numbering_in all;
  entries = filter_map entry_in all;
  sealed = filter_map sealed_in all;
}

-- ---- one after another

-- one more item, at the end of its kind
abbrev pub with_item : ItemsByKind → Item → ItemsByKind
with_item k (items.Settings x) = record k { lists = record k.lists { tenants = k.lists.tenants ++ x ∷ [] } }
with_item k (items.Numbering x) = record k { numberings = k.numberings ++ x ∷ [] }
with_item k (items.User x) = record k { lists = record k.lists { users = k.lists.users ++ x ∷ [] } }
with_item k (items.Form x) = record k { lists = record k.lists { forms = k.lists.forms ++ x ∷ [] } }
with_item k (items.Context x) = record k { lists = record k.lists { contexts = k.lists.contexts ++ x ∷ [] } }
with_item k (items.Entry x) = record k { entries = k.entries ++ x ∷ [] }
with_item k (items.Sealed x) = record k { sealed = k.sealed ++ x ∷ [] }

-- what was sorted, and then what is sorted of the rest
abbrev pub kept_with : ItemsByKind → ItemsByKind → ItemsByKind
kept_with k m = record {
  lists = record { tenants = k.lists.tenants ++ m.lists.tenants; users = k.lists.users ++ m.lists.users; forms = k.lists.forms ++ m.lists.forms; contexts = k.lists.contexts ++ m.lists.contexts };
  numberings = k.numberings ++ m.numberings;
  entries = k.entries ++ m.entries;
  sealed = k.sealed ++ m.sealed;
}
