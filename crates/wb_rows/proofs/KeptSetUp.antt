-- Where no rule of what tenants are set up with is broken, the lists that are read are such as an opening asks for.
use Rattle.std.proofs.Common.{◌≡◌, ℕ, ◌+◌, ◌-◌, Bool, true, false, cond, List, [], ◌∷◌, map, find, filter, Some, None, Ok, refl, sym, ap, ◌∙◌, subst, arith}
use Rattle.std.proofs.lemmas.Bool.{and_from, and_parts, eq-eqb, eqb-true, false≢true}
use Rattle.std.proofs.lemmas.Bool.Decides.{nat_tests}
use Rattle.std.specs.List.{list_all, list_any}
use Rattle.std.specs.List.Sorted.{IsStrictlySortedBy}
use Rattle.std.specs.Option.{is_some, option_map_or}
use Rattle.std.specs.Prelude.{◌==◌, ◌&&◌, ◌||◌, nat_le}
use Rattle.wb_base.specs.KeptRows.{key_cmp, key_of}
use Rattle.wb_base.specs.declared.callers.Role.TheVariants.{Recipient}
use Rattle.wb_base.specs.declared.rows.Row.{Row}
use Rattle.wb_row_codec.specs.declared.item.Item.{Item}
use Rattle.wb_row_codec.specs.Items.{is_in_range, item_row}
use Rattle.wb_model.specs.declared.registry.ContextItem.{ContextItem}
use Rattle.wb_model.specs.declared.registry.FormItem.{FormItem}
use Rattle.wb_model.specs.declared.registry.Lists.{Lists}
use Rattle.wb_model.specs.declared.registry.UserItem.{UserItem}
use Rattle.wb_model.specs.Openings.{registry_of}
use Rattle.wb_model.specs.Settings.{is_recipient, form_key as version_place}
use Rattle.wb_model.specs.SetUps.{AreSetUp, has_form, has_recipients, is_recipient_of, same_user_name}
use Rattle.wb_model.specs.SetUps as set_ups
use Rattle.wb_model.specs.Tables.{same_role}
use Rattle.wb_model.proofs.Found.{find_passing}
use Rattle.wb_rows.specs.declared.items.ItemsByKind.{ItemsByKind}
use Rattle.wb_rows.specs.Blame.{first_breaking, first_repeated}
use Rattle.wb_rows.specs.Held.{Held}
use Rattle.wb_rows.specs.Judged.{judged_in}
use Rattle.wb_rows.specs.ReadItems.{items_in}
use Rattle.wb_rows.specs.KeptItems.{kept_of}
use Rattle.wb_rows.specs.ListRules.{follows, has_tenant_rows, has_version, is_right_context, list_fault}
use Rattle.wb_rows.specs.Places.{context_key, form_key, user_key}
use Rattle.wb_rows.proofs.FitItems.{contexts-fit, forms-fit, tenants-fit, users-fit}
use Rattle.wb_rows.proofs.ItemOrder.{item_key, items_ascend, lists-order, rows_of_items}
use Rattle.wb_rows.proofs.OwnedRows.{all_from, owned-rows}
use Rattle.wb_rows.proofs.RowsBack.{is-read}
use Rattle.wb_rows.proofs.RulesHold.{apart, none-blamed, none-breaking}
use Rattle.wb_tenants.specs.Sets.{is_version}
use Rattle.wb_setup.proofs.Orders.{ids_ascend, ordered}
use Rattle.wb_base.specs.declared.form.Format.{Format}

-- ---- lists

either : (b : Bool) → (b || true) ≡ true
either true = refl
either false = refl

-- what is found among some of a list is in the list
found_any : {X : Type 0} (among wanted test : X → Bool) → ((x : X) → among x ≡ true → wanted x ≡ true → test x ≡ true) → (xs : List X) → is_some (find wanted (filter among xs)) ≡ true → list_any test xs ≡ true
found_any among wanted test so [] found = absurd (false≢true found)
found_any {X} among wanted test so (x ∷ xs) found = by (among x) (so x) found (λ e. found_any among wanted test so xs e)
  where
    here : (w : Bool) → (w ≡ true → test x ≡ true) → is_some (cond w (Some x) (find wanted (filter among xs))) ≡ true → (is_some (find wanted (filter among xs)) ≡ true → list_any test xs ≡ true) → (test x || list_any test xs) ≡ true
    here true holds e rest = rw (holds refl) refl
    here false holds e rest = rw (rest e) (either (test x))

    by : (a : Bool) → (a ≡ true → wanted x ≡ true → test x ≡ true) → is_some (find wanted (cond a (x ∷ filter among xs) (filter among xs))) ≡ true → (is_some (find wanted (filter among xs)) ≡ true → list_any test xs ≡ true) → (test x || list_any test xs) ≡ true
    by true holds e rest = here (wanted x) (holds refl) e rest
    by false holds e rest = rw (rest e) (either (test x))

-- ---- the rules

three_yes : (a b c : Bool) → a ≡ true → b ≡ true → c ≡ true → (a && b && c) ≡ true
three_yes a b c p q r = rw (p, q, r) refl

earlier : (v w : ℕ) → nat_le w 1 ≡ false → (v == (w - 1)) ≡ true → v + 1 ≡ w
earlier v w low is = let same = eqb-true v (w - 1) is in grind (arith, nat_tests, low, same)

follows_on : (lists : Lists) (x : FormItem) → follows lists x ≡ true → set_ups.follows lists x ≡ true
unfolding follows
follows_on lists x holds = by (nat_le x.version 1) refl holds
  where
    by : (b : Bool) → nat_le x.version 1 ≡ b → (b || has_version lists x.tenant x.id (x.version - 1)) ≡ true → (b || list_any (λ (y : FormItem). (y.tenant == x.tenant) && (y.id == x.id) && (y.version + 1 == x.version)) lists.forms) ≡ true
    by true low e = refl
    by false low e = found_any (λ (y : FormItem). y.tenant == x.tenant) (is_version x.id (x.version - 1)) (λ (y : FormItem). (y.tenant == x.tenant) && (y.id == x.id) && (y.version + 1 == x.version))
        (λ y t v. (let parts = and_parts (y.id == x.id) (y.version == (x.version - 1)) v in
        three_yes (y.tenant == x.tenant) (y.id == x.id) (y.version + 1 == x.version) t parts.0 (eq-eqb (y.version + 1) x.version (earlier y.version x.version low parts.1)))) lists.forms e

asks_on : (lists : Lists) (c : ContextItem) → is_right_context lists c ≡ true → has_form lists c ≡ true
unfolding is_right_context
asks_on lists c holds =
    let parts = and_parts (has_version lists c.tenant c.form 1) (list_all (is_recipient (registry_of lists c.tenant).users) c.recipients) holds in
    found_any (λ (y : FormItem). y.tenant == c.tenant) (is_version c.form 1) (λ (y : FormItem). (y.tenant == c.tenant) && (y.id == c.form))
    (λ y t v. and_from (y.tenant == c.tenant) (y.id == c.form) t (and_parts (y.id == c.form) (y.version == 1) v).0) lists.forms parts.0

reads_on : (lists : Lists) (c : ContextItem) → is_right_context lists c ≡ true → has_recipients lists c ≡ true
unfolding is_right_context
reads_on lists c holds =
    let parts = and_parts (has_version lists c.tenant c.form 1) (list_all (is_recipient (registry_of lists c.tenant).users) c.recipients) holds in
    all_from (is_recipient (registry_of lists c.tenant).users) (is_recipient_of lists c.tenant)
    (λ u is. ap (λ o. option_map_or (λ (x : UserItem). same_role x.role Recipient) o false) (sym (find_passing (λ (x : UserItem). x.id == u) (λ (x : UserItem). x.tenant == c.tenant) lists.users)) ∙ is) c.recipients parts.1

-- ---- the whole

-- the lists that are read, where none of their rules is broken
pub set-up : (format : Format) (rows : List Row) (all : List Item) → map (item_row format) all ≡ rows → list_all is_in_range all ≡ true → IsStrictlySortedBy key_cmp (map item_key all) → list_fault rows (kept_of all).lists (kept_of all).numberings ≡ None → AreSetUp (kept_of all).lists
set-up format rows all are fits sorted none =
    let k : ItemsByKind = kept_of all in
    let lists = k.lists in
    let one = none-blamed 1 (first_breaking (has_tenant_rows lists k.numberings) key_of rows) _ none in
    let two = none-blamed 2 (first_repeated same_user_name user_key lists.users) _ one.1 in
    let three = none-blamed 3 (first_breaking (follows lists) form_key lists.forms) _ two.1 in
    let four = none-blamed 4 (first_breaking (is_right_context lists) context_key lists.contexts) _ three.1 in
    let there = owned-rows format rows all are one.0 in
    let right = none-breaking (is_right_context lists) context_key lists.contexts four.0 in
    let in_order = lists-order all fits sorted in
    record {
      tenants = tenants-fit all fits;
      users = users-fit all fits;
      forms = forms-fit all fits;
      contexts = contexts-fit all fits;
      order = ids_ascend _ in_order.tenants;
      user_ids = ordered (λ (x : UserItem). x.tenant) (λ (x : UserItem). x.id) lists.users in_order.users;
      user_names = apart same_user_name user_key lists.users two.0;
      versions = ordered (λ (x : FormItem). x.tenant) version_place lists.forms in_order.forms;
      context_ids = ordered (λ (x : ContextItem). x.tenant) (λ (x : ContextItem). x.id) lists.contexts in_order.contexts;
      owned = three_yes _ _ _ there.users there.forms there.contexts;
      gapless = all_from (follows lists) (set_ups.follows lists) (follows_on lists) lists.forms (none-breaking (follows lists) form_key lists.forms three.0);
      asked = all_from (is_right_context lists) (has_form lists) (asks_on lists) lists.contexts right;
      recipients = all_from (is_right_context lists) (has_recipients lists) (reads_on lists) lists.contexts right;
    }

-- so are those of rows that are read as tables
pub read-set-up : (format : Format) (rows : List Row) (h : Held) → IsStrictlySortedBy key_cmp (map key_of rows) → ((all : List Item) → items_in format rows ≡ Ok all → list_all is_in_range all ≡ true) → judged_in format rows ≡ Ok h → AreSetUp h.lists
read-set-up format rows h sorted fits is =
    let parts = is-read format rows h is in
    let how = parts.1.1 in
    subst (λ (x : Held). AreSetUp x.lists) how.held (set-up format rows parts.0 (rows_of_items format rows parts.0 how.items) (fits parts.0 how.items) (items_ascend format rows parts.0 how.items sorted) how.lists)
