-- Lists that are set up break none of their rules.
use Rattle.std.proofs.Common.{◌≡◌, inl, inr, ℕ, zero, suc, ◌+◌, ◌-◌, Bool, true, false, List, [], ◌∷◌, Option, None, refl, sym, ap, ◌∙◌, arith}
use Rattle.std.proofs.lemmas.Bool.{and_from, and_parts, eq-eqb, eqb-true, leb-true, false≢true}
use Rattle.std.specs.List.{list_all, list_any}
use Rattle.std.specs.Option.{is_some, option_map_or}
use Rattle.std.specs.Prelude.{◌==◌, ◌&&◌, ◌||◌, nat_le, not}
use Rattle.wb_base.specs.KeptRows.{key_of}
use Rattle.wb_base.specs.declared.callers.Role.TheVariants.{Recipient}
use Rattle.wb_base.specs.declared.rows.Key.{Key}
use Rattle.wb_base.specs.declared.rows.Row.{Row}
use Rattle.wb_row_codec.specs.declared.item.NumberingItem.{NumberingItem}
use Rattle.wb_model.specs.declared.registry.ContextItem.{ContextItem}
use Rattle.wb_model.specs.declared.registry.FormItem.{FormItem}
use Rattle.wb_model.specs.declared.registry.Lists.{Lists}
use Rattle.wb_model.specs.declared.registry.UserItem.{UserItem}
use Rattle.wb_model.specs.Fits.{is_between}
use Rattle.wb_model.specs.Openings.{registry_of}
use Rattle.wb_model.specs.Settings.{is_recipient}
use Rattle.wb_model.specs.SetUps.{AreSetUp, are_apart, has_form, has_recipients, is_form_item, is_recipient_of, same_user_name}
use Rattle.wb_model.specs.SetUps as set_ups
use Rattle.wb_model.specs.Tables.{same_role}
use Rattle.wb_model.proofs.Found.{find_passing, Held as In}
use Rattle.wb_rows.specs.Blame.{first_breaking, first_repeated, blamed}
use Rattle.wb_rows.specs.ListRules.{follows, has_tenant_rows, has_version, is_right_context, list_fault}
use Rattle.wb_rows.specs.Places.{context_key, form_key, user_key}
use Rattle.wb_rows.proofs.HeldReports.{held-true}
use Rattle.wb_rows.proofs.OwnedRows.{all_from}
use Rattle.wb_rows.proofs.RowsByTenant.{any_found}
use Rattle.wb_tenants.specs.Sets.{is_version}

-- ---- where all keep a rule, none breaks it

pub none_breaks : {X : Type 0} (rule : X → Bool) (key : X → Key) (xs : List X) → list_all rule xs ≡ true → first_breaking rule key xs ≡ None
none_breaks rule key [] all = refl
none_breaks rule key (x ∷ xs) all = let parts = and_parts (rule x) (list_all rule xs) all in rw parts.0 (none_breaks rule key xs parts.1)

pub none_repeats : {X : Type 0} (same : X → X → Bool) (key : X → Key) (xs : List X) → are_apart same xs ≡ true → first_repeated same key xs ≡ None
none_repeats same key [] apart = refl
none_repeats same key (x ∷ xs) apart =
    let parts = and_parts (not (list_any (same x) xs)) (are_apart same xs) apart in
    by (list_any (same x) xs) refl parts.0 (none_repeats same key xs parts.1)
  where
    by : (b : Bool) → list_any (same x) xs ≡ b → not b ≡ true → first_repeated same key xs ≡ None → first_repeated same key (x ∷ xs) ≡ None
    by true is none rest = absurd (false≢true none)
    by false is none rest = rw is rest

-- ---- lists

either : (a b : Bool) → b ≡ true → (a || b) ≡ true
either true b e = refl
either false b e = e

pub any_from : {X : Type 0} (f g : X → Bool) → ((x : X) → f x ≡ true → g x ≡ true) → (xs : List X) → list_any f xs ≡ true → list_any g xs ≡ true
any_from f g so [] any = any
any_from {X} f g so (x ∷ xs) any = by (f x) (so x) any (any_from f g so xs)
  where
    by : (b : Bool) → (b ≡ true → g x ≡ true) → (b || list_any f xs) ≡ true → (list_any f xs ≡ true → list_any g xs ≡ true) → (g x || list_any g xs) ≡ true
    by true own e rest = rw (own refl) refl
    by false own e rest = either (g x) (list_any g xs) (rest e)

pub held_any : {X : Type 0} (f : X → Bool) (xs : List X) (x : X) → In x xs → f x ≡ true → list_any f xs ≡ true
held_any f [] x held is = absurd held
held_any f (y ∷ ys) x (inl same) is = rw (sym (ap f same) ∙ is) refl
held_any f (y ∷ ys) x (inr held) is = either (f y) (list_any f ys) (held_any f ys x held is)

any_held : {X : Type 0} (f : X → Bool) (xs : List X) → list_any f xs ≡ true → (x : X) × (In x xs × (f x ≡ true))
any_held f [] any = absurd (false≢true any)
any_held {X} f (y ∷ ys) any = by (f y) refl any (any_held f ys)
  where
    by : (b : Bool) → f y ≡ b → (b || list_any f ys) ≡ true → (list_any f ys ≡ true → (x : X) × (In x ys × (f x ≡ true))) → (x : X) × (In x (y ∷ ys) × (f x ≡ true))
    by true is e rest = (y, (inl refl, is))
    by false is e rest = let more = rest e in (more.0, (inr more.1.0, more.1.1))

-- ---- the rules of forms and contexts

-- a version of a form of a tenant
abbrev is_form : ℕ → ℕ → ℕ → FormItem → Bool
is_form t id v y = (y.tenant == t) && is_version id v y

version_there : (lists : Lists) (t id v : ℕ) → list_any (is_form t id v) lists.forms ≡ true → has_version lists t id v ≡ true
version_there lists t id v any = ap (λ (o : Option FormItem). is_some o) (find_passing (is_version id v) (λ (y : FormItem). y.tenant == t) lists.forms) ∙ any_found (is_form t id v) lists.forms any

three : (a b c : Bool) → (a && b && c) ≡ true → (a ≡ true) × (b ≡ true) × (c ≡ true)
three a b c e = let last = and_parts (a && b) c e in let first = and_parts a b last.0 in (first.0, first.1, last.1)

-- the version before another
before : (t id v : ℕ) (y : FormItem) → ((y.tenant == t) && (y.id == id) && (y.version + 1 == v)) ≡ true → is_form t id (v - 1) y ≡ true
before t id v y e =
    let parts = three (y.tenant == t) (y.id == id) (y.version + 1 == v) e in
    let next = eqb-true (y.version + 1) v parts.2 in
    and_from (y.tenant == t) (is_version id (v - 1) y) parts.0 (and_from (y.id == id) (y.version == (v - 1)) parts.1 (eq-eqb y.version (v - 1) (omega (arith, next))))

follows_back : (lists : Lists) (x : FormItem) → set_ups.follows lists x ≡ true → follows lists x ≡ true
unfolding follows
follows_back lists x holds = by (nat_le x.version 1) holds
  where
    by : (b : Bool) → (b || list_any (λ (y : FormItem). (y.tenant == x.tenant) && (y.id == x.id) && (y.version + 1 == x.version)) lists.forms) ≡ true → (b || has_version lists x.tenant x.id (x.version - 1)) ≡ true
    by true e = refl
    by false e = version_there lists x.tenant x.id (x.version - 1) (any_from (λ (y : FormItem). (y.tenant == x.tenant) && (y.id == x.id) && (y.version + 1 == x.version)) (is_form x.tenant x.id (x.version - 1)) (before x.tenant x.id x.version) lists.forms e)

module _ (lists : Lists) (up : AreSetUp lists) where
  -- where a version is there, the first is
  first_there : (t id n : ℕ) → list_any (is_form t id (suc n)) lists.forms ≡ true → list_any (is_form t id 1) lists.forms ≡ true
  first_there t id zero any = any
  first_there t id (suc n) any =
      let found = any_held (is_form t id (suc (suc n))) lists.forms any in
      let y : FormItem = found.0 in
      let own = and_parts (y.tenant == t) (is_version id (suc (suc n)) y) found.1.1 in
      let version = and_parts (y.id == id) (y.version == suc (suc n)) own.1 in
      let at = eqb-true y.version (suc (suc n)) version.1 in
      by y (eqb-true y.tenant t own.0) (eqb-true y.id id version.0) at (nat_le y.version 1) refl (held-true (set_ups.follows lists) lists.forms up.gapless y found.1.0) (first_there t id n)
    where
      by : (y : FormItem) → y.tenant ≡ t → y.id ≡ id → y.version ≡ suc (suc n) → (b : Bool) → nat_le y.version 1 ≡ b → (b || list_any (λ (z : FormItem). (z.tenant == y.tenant) && (z.id == y.id) && (z.version + 1 == y.version)) lists.forms) ≡ true → (list_any (is_form t id (suc n)) lists.forms ≡ true → list_any (is_form t id 1) lists.forms ≡ true) → list_any (is_form t id 1) lists.forms ≡ true
      by y tenant number version true low e rest = let le = leb-true y.version 1 low in absurd (omega (arith, le, version))
      by y tenant number version false low e rest =
          let one : list_any (is_form y.tenant y.id (y.version - 1)) lists.forms ≡ true = any_from (λ (z : FormItem). (z.tenant == y.tenant) && (z.id == y.id) && (z.version + 1 == y.version)) (is_form y.tenant y.id (y.version - 1)) (before y.tenant y.id y.version) lists.forms e in
          let less : y.version - 1 ≡ suc n = omega (arith, version) in
          rest ((λ i. list_any (is_form (sym tenant i) (sym number i) (sym less i)) lists.forms) ∙ one)

  from_some : (c : ContextItem) → has_form lists c ≡ true → has_version lists c.tenant c.form 1 ≡ true
  from_some c has =
      let found = any_held (λ (y : FormItem). (y.tenant == c.tenant) && (y.id == c.form)) lists.forms has in
      let y : FormItem = found.0 in
      let item = held-true is_form_item lists.forms up.forms y found.1.0 in
      let fits : is_between 1 99 y.version ≡ true = (three (is_between 1 16 y.id) (is_between 1 99 y.version) _ item).1 in
      let least = leb-true 1 y.version (and_parts (nat_le 1 y.version) (nat_le y.version 99) fits).0 in
      let least_version : y.version ≡ suc (y.version - 1) = omega (arith, least) in
      let same = and_parts (y.tenant == c.tenant) (y.id == c.form) found.1.1 in
      let any : list_any (is_form c.tenant c.form (suc (y.version - 1))) lists.forms ≡ true =
      held_any (is_form c.tenant c.form (suc (y.version - 1))) lists.forms y found.1.0 (and_from (y.tenant == c.tenant) (is_version c.form (suc (y.version - 1)) y) same.0 (and_from (y.id == c.form) (y.version == suc (y.version - 1)) same.1 (eq-eqb y.version (suc (y.version - 1)) least_version))) in
      version_there lists c.tenant c.form 1 (first_there c.tenant c.form (y.version - 1) any)

  context_back : (c : ContextItem) → has_form lists c ≡ true → has_recipients lists c ≡ true → is_right_context lists c ≡ true
  unfolding is_right_context
  context_back c form recipients =
      and_from (has_version lists c.tenant c.form 1) (list_all (is_recipient (registry_of lists c.tenant).users) c.recipients) (from_some c form)
      (all_from (is_recipient_of lists c.tenant) (is_recipient (registry_of lists c.tenant).users)
      (λ u is. ap (λ o. option_map_or (λ (x : UserItem). same_role x.role Recipient) o false) (find_passing (λ (x : UserItem). x.id == u) (λ (x : UserItem). x.tenant == c.tenant) lists.users) ∙ is) c.recipients recipients)

  contexts_right : (cs : List ContextItem) → list_all (has_form lists) cs ≡ true → list_all (has_recipients lists) cs ≡ true → list_all (is_right_context lists) cs ≡ true
  contexts_right [] forms recipients = refl
  contexts_right (c ∷ cs) forms recipients =
      let f = and_parts (has_form lists c) (list_all (has_form lists) cs) forms in
      let r = and_parts (has_recipients lists c) (list_all (has_recipients lists) cs) recipients in
      and_from (is_right_context lists c) (list_all (is_right_context lists) cs) (context_back c f.0 r.0) (contexts_right cs f.1 r.1)

  -- no rule is broken where each row is of a tenant that has its settings and its numbering
  pub none-at-fault : (rows : List Row) (numberings : List NumberingItem) → list_all (has_tenant_rows lists numberings) rows ≡ true → list_fault rows lists numberings ≡ None
  none-at-fault rows numberings there =
      let one = none_breaks (has_tenant_rows lists numberings) key_of rows there in
      let two = none_repeats same_user_name user_key lists.users up.user_names in
      let three = none_breaks (follows lists) form_key lists.forms (all_from (set_ups.follows lists) (follows lists) (follows_back lists) lists.forms up.gapless) in
      let four = none_breaks (is_right_context lists) context_key lists.contexts (contexts_right lists.contexts up.asked up.recipients) in
      λ i. blamed 1 (one i) (blamed 2 (two i) (blamed 3 (three i) (blamed 4 (four i) None)))
