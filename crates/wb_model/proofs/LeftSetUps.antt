-- What tenants that keep the rules are set up with keeps them as the lists of all tenants.
use Rattle.std.proofs.Common.{◌≡◌, ◌⊎◌, inl, inr, ℕ, ◌+◌, Bool, true, false, cond, not, List, [], ◌∷◌, ◌++◌, append-nil, Option, Some, refl, sym, ap, ◌∙◌, subst, arith}
use Rattle.std.specs.Prelude.{map, find, filter, unwrap_or, nat_le, nat_lt, ◌<◌, ◌&&◌, ◌||◌, ◌==◌}
use Rattle.std.specs.List.{list_all, list_any}
use Rattle.std.specs.Option.{option_map_or}
use Rattle.std.proofs.lemmas.Bool.{and_parts, and_from, or_parts}
use Rattle.std.proofs.lemmas.Bool.Decides.{nat_tests}
use Rattle.std.proofs.lemmas.List.Elements.{filter-append}
use Rattle.std.proofs.lemmas.List.Folds.{list_all-append}
use Rattle.wb_base.specs.AnswerList.{is_text}
use Rattle.wb_base.specs.declared.callers.Role.TheVariants.{Recipient}
use Rattle.wb_model.specs.declared.registry.ContextItem.{ContextItem}
use Rattle.wb_model.specs.declared.registry.FormItem.{FormItem}
use Rattle.wb_model.specs.declared.registry.Lists.{Lists}
use Rattle.wb_model.specs.declared.registry.TenantItem.{TenantItem}
use Rattle.wb_model.specs.declared.registry.UserItem.{UserItem}
use Rattle.wb_model.specs.Tables.{same_role}
use Rattle.wb_model.specs.Settings.{form_key, is_recipient}
use Rattle.wb_model.specs.SetUps.{is_tenant_item, is_user_item, is_form_item, is_context_item, are_apart, same_user_name, is_user_before, is_version_before, is_context_before, has_tenant, has_form, is_recipient_of, has_recipients, follows, AreSetUp}
use Rattle.wb_model.specs.Ordered.{are_ordered}
use Rattle.wb_model.specs.Openings.{no_settings, registry_of}
use Rattle.wb_model.specs.Legal.{ascends_from, ascends}
use Rattle.wb_model.specs.Opened.{AreOrdered}
use Rattle.wb_model.specs.Tenants.{Tenancy}
use Rattle.wb_model.specs.Readable.{is_stored_tenant, are_bytes, is_own_user, is_own_form, is_own_context, same_name, follows_in, has_id_of, IsOwn}
use Rattle.wb_model.specs.LeftLists.{of_each, lists_of}
use Rattle.wb_model.proofs.Found.{Held, held_append, find_passing, same_number, other_number}
use Rattle.wb_model.proofs.ItemPuts.{held_all, all_held}

-- ---- lists

pub each_held : {Y : Type 0} (f : Tenancy → List Y) (xs : List Tenancy) (y : Y) → Held y (of_each f xs) → (x : Tenancy) × Held x xs × Held y (f x)
each_held f [] y h = absurd h
each_held {Y} f (x ∷ xs) y h = by (held_append (f x) (of_each f xs) y h) (each_held f xs y)
  where
    by : Held y (f x) ⊎ Held y (of_each f xs) → (Held y (of_each f xs) → (z : Tenancy) × Held z xs × Held y (f z)) → (z : Tenancy) × ((z ≡ x) ⊎ Held z xs) × Held y (f z)
    by (inl k) ih = (x, inl refl, k)
    by (inr k) ih = let z = ih k in (z.0, inr z.1, z.2)

pub each_all : {Y : Type 0} (p : Y → Bool) (f : Tenancy → List Y) (xs : List Tenancy) → ((x : Tenancy) → Held x xs → list_all p (f x) ≡ true) → list_all p (of_each f xs) ≡ true
each_all p f xs all = all_held p (of_each f xs) (λ y h. let z = each_held f xs y h in held_all p (f z.0) y (all z.0 z.1) z.2)

pub map_all : {X Y : Type 0} (p : Y → Bool) (f : X → Y) (xs : List X) → ((x : X) → Held x xs → p (f x) ≡ true) → list_all p (map f xs) ≡ true
map_all p f [] all = refl
map_all p f (x ∷ xs) all = and_from _ _ (all x (inl refl)) (map_all p f xs (λ z h. all z (inr h)))

pub any_none : {Y : Type 0} (q : Y → Bool) (ys : List Y) (y : Y) → list_any q ys ≡ false → Held y ys → q y ≡ false
any_none q [] y none h = absurd h
any_none q (z ∷ ys) y none (inl e) = ap q e ∙ (or_parts (q z) (list_any q ys) none).0
any_none q (z ∷ ys) y none (inr h) = any_none q ys y (or_parts (q z) (list_any q ys) none).1 h

pub none_any : {Y : Type 0} (q : Y → Bool) (ys : List Y) → ((y : Y) → Held y ys → q y ≡ false) → list_any q ys ≡ false
none_any q [] all = refl
none_any q (y ∷ ys) all = ap (λ b. b || list_any q ys) (all y (inl refl)) ∙ none_any q ys (λ z h. all z (inr h))

pub any_held : {Y : Type 0} (q : Y → Bool) (ys : List Y) (y : Y) → Held y ys → q y ≡ true → list_any q ys ≡ true
any_held q [] y h is = absurd h
any_held q (z ∷ ys) y (inl e) is = ap (λ b. b || list_any q ys) (ap q (sym e) ∙ is)
any_held {Y} q (z ∷ ys) y (inr h) is = by (q z) (any_held q ys y h is)
  where
    by : (b : Bool) → list_any q ys ≡ true → (b || list_any q ys) ≡ true
    by true ih = refl
    by false ih = ih

-- one of which a test is true
pub some_of : {Y : Type 0} (q : Y → Bool) (ys : List Y) → list_any q ys ≡ true → (y : Y) × Held y ys × (q y ≡ true)
some_of q [] is = absurd (grind (arith, is))
some_of {Y} q (z ∷ ys) is = by (q z) refl is (some_of q ys)
  where
    by : (b : Bool) → q z ≡ b → (b || list_any q ys) ≡ true → (list_any q ys ≡ true → (y : Y) × Held y ys × (q y ≡ true)) → (y : Y) × ((y ≡ z) ⊎ Held y ys) × (q y ≡ true)
    by true k f ih = (z, inl refl, k)
    by false k f ih = let y = ih f in (y.0, inr y.1, y.2)

pub in_each : {Y : Type 0} (f : Tenancy → List Y) (xs : List Tenancy) (x : Tenancy) (y : Y) → Held x xs → Held y (f x) → Held y (of_each f xs)
in_each f [] x y h k = absurd h
in_each {Y} f (z ∷ xs) x y (inl e) k = first (f z) (subst (λ (w : Tenancy). Held y (f w)) e k)
  where
    first : (ys : List Y) → Held y ys → Held y (ys ++ of_each f xs)
    first [] a = absurd a
    first (w ∷ ys) (inl b) = inl b
    first (w ∷ ys) (inr b) = inr (first ys b)
in_each {Y} f (z ∷ xs) x y (inr h) k = last (f z) (in_each f xs x y h k)
  where
    last : (ys : List Y) → Held y (of_each f xs) → Held y (ys ++ of_each f xs)
    last [] a = a
    last (w ∷ ys) a = inr (last ys a)

pub filter_none : {Y : Type 0} (p : Y → Bool) (ys : List Y) → ((y : Y) → Held y ys → p y ≡ false) → filter p ys ≡ []
filter_none p [] all = refl
filter_none p (y ∷ ys) all = ap (λ b. cond b (y ∷ filter p ys) (filter p ys)) (all y (inl refl)) ∙ filter_none p ys (λ z h. all z (inr h))

filter_whole : {Y : Type 0} (p : Y → Bool) (ys : List Y) → ((y : Y) → Held y ys → p y ≡ true) → filter p ys ≡ ys
filter_whole p [] all = refl
filter_whole p (y ∷ ys) all = ap (λ b. cond b (y ∷ filter p ys) (filter p ys)) (all y (inl refl)) ∙ ap (λ zs. y ∷ zs) (filter_whole p ys (λ z h. all z (inr h)))

-- ---- tenants in the order of their ids

abbrev pub ids : List Tenancy → List ℕ
ids xs = map (λ (x : Tenancy). x.id) xs

pub above : (k : ℕ) (xs : List Tenancy) (x : Tenancy) → ascends_from k (ids xs) ≡ true → Held x xs → k < x.id
above k [] x up h = absurd h
above k (z ∷ xs) x up (inl e) = let lt : nat_lt k z.id ≡ true = (and_parts (nat_lt k z.id) (ascends_from z.id (ids xs)) up).0 in let same : x.id ≡ z.id = ap (λ (w : Tenancy). w.id) e in grind (arith, nat_tests, lt, same)
above k (z ∷ xs) x up (inr h) =
    let parts = and_parts (nat_lt k z.id) (ascends_from z.id (ids xs)) up in
    let more : z.id < x.id = above z.id xs x parts.1 h in let lt : nat_lt k z.id ≡ true = parts.0 in grind (arith, nat_tests, lt, more)

pub rest_up : (k : ℕ) (ks : List ℕ) → ascends_from k ks ≡ true → ascends ks ≡ true
rest_up k [] e = refl
rest_up k (n ∷ ns) e = (and_parts (nat_lt k n) (ascends_from n ns) e).1

-- of what each tenant has, those of one tenant are its own
pub own_part : {Y : Type 0} (tenant : Y → ℕ) (f : Tenancy → List Y) (xs : List Tenancy) → ascends (ids xs) ≡ true → ((x : Tenancy) → Held x xs → (y : Y) → Held y (f x) → tenant y ≡ x.id) → (x : Tenancy) → Held x xs → filter (λ y. tenant y == x.id) (of_each f xs) ≡ f x
own_part tenant f [] up own x h = absurd h
own_part tenant f (z ∷ xs) up own x (inl e) =
    let here : x.id ≡ z.id = ap (λ (w : Tenancy). w.id) e in
    filter-append (λ y. tenant y == x.id) (f z) (of_each f xs)
    ∙ (ap (λ ys. ys ++ filter (λ y. tenant y == x.id) (of_each f xs)) (filter_whole (λ y. tenant y == x.id) (f z) (λ y k. same_number (tenant y) x.id (own z (inl refl) y k ∙ sym here)))
    ∙ (ap (λ ys. f z ++ ys) (filter_none (λ y. tenant y == x.id) (of_each f xs) (λ y k. let w = each_held f xs y k in other_number (tenant y) x.id (λ same. let lt : z.id < w.0.id = above z.id xs w.0 up w.1 in let is : tenant y ≡ w.0.id = own w.0 (inr w.1) y w.2 in omega (arith, lt, is, here, same))))
    ∙ (append-nil (f z) ∙ ap f (sym e))))
own_part tenant f (z ∷ xs) up own x (inr h) =
    let lt : z.id < x.id = above z.id xs x up h in
    filter-append (λ y. tenant y == x.id) (f z) (of_each f xs)
    ∙ (ap (λ ys. ys ++ filter (λ y. tenant y == x.id) (of_each f xs)) (filter_none (λ y. tenant y == x.id) (f z) (λ y k. other_number (tenant y) x.id (λ same. let is : tenant y ≡ z.id = own z (inl refl) y k in omega (arith, lt, is, same))))
    ∙ own_part tenant f xs (rest_up z.id (ids xs) up) (λ w k. own w (inr k)) x h)

-- ---- order

ordered_append : {Y : Type 0} (before : Y → Y → Bool) (ys zs : List Y) → are_ordered before ys ≡ true → are_ordered before zs ≡ true → ((y z : Y) → Held y ys → Held z zs → before y z ≡ true) → are_ordered before (ys ++ zs) ≡ true
ordered_append before [] zs up more cross = more
ordered_append before (y ∷ ys) zs up more cross =
    let parts = and_parts (list_all (before y) ys) (are_ordered before ys) up in
    and_from _ _ (list_all-append (before y) ys zs ∙ and_from _ _ parts.0 (all_held (before y) zs (λ z h. cross y z (inl refl) h)))
    (ordered_append before ys zs parts.1 more (λ w z h k. cross w z (inr h) k))

pub ordered_each : {Y : Type 0} (before : Y → Y → Bool) (f : Tenancy → List Y) (xs : List Tenancy) → ascends (ids xs) ≡ true → ((x : Tenancy) → Held x xs → are_ordered before (f x) ≡ true) → ((x z : Tenancy) → Held x xs → Held z xs → x.id < z.id → (y w : Y) → Held y (f x) → Held w (f z) → before y w ≡ true) →
    are_ordered before (of_each f xs) ≡ true
ordered_each before f [] up within cross = refl
ordered_each before f (x ∷ xs) up within cross =
    ordered_append before (f x) (of_each f xs) (within x (inl refl)) (ordered_each before f xs (rest_up x.id (ids xs) up) (λ z h. within z (inr h)) (λ a b h k lt. cross a b (inr h) (inr k) lt))
    (λ y w h k. let z = each_held f xs w k in cross x z.0 (inl refl) (inr z.1) (above x.id xs z.0 up z.1) y w h z.2)

key_above : {Y : Type 0} (key : Y → ℕ) (k : ℕ) (ys : List Y) (y : Y) → ascends_from k (map key ys) ≡ true → Held y ys → nat_lt k (key y) ≡ true
key_above key k [] y up h = absurd h
key_above key k (z ∷ ys) y up (inl e) = ap (λ w. nat_lt k (key w)) e ∙ (and_parts (nat_lt k (key z)) (ascends_from (key z) (map key ys)) up).0
key_above key k (z ∷ ys) y up (inr h) = let parts = and_parts (nat_lt k (key z)) (ascends_from (key z) (map key ys)) up in let a : nat_lt k (key z) ≡ true = parts.0 in let b : nat_lt (key z) (key y) ≡ true = key_above key (key z) ys y parts.1 h in grind (arith, nat_tests, a, b)

abbrev pub comes_before : {Y : Type 0} → (Y → ℕ) → (Y → ℕ) → Y → Y → Bool
comes_before tenant key y z = nat_lt (tenant y) (tenant z) || ((tenant y == tenant z) && nat_lt (key y) (key z))

pub ordered_within : {Y : Type 0} (tenant key : Y → ℕ) (t : ℕ) (ys : List Y) → ((y : Y) → Held y ys → tenant y ≡ t) → ascends (map key ys) ≡ true → are_ordered (comes_before tenant key) ys ≡ true
ordered_within tenant key t [] own up = refl
ordered_within tenant key t (y ∷ ys) own up = and_from _ _
    (all_held (comes_before tenant key y) ys (λ z h. let lt : nat_lt (key y) (key z) ≡ true = key_above key (key y) ys z up h in let a : tenant y ≡ t = own y (inl refl) in let b : tenant z ≡ t = own z (inr h) in grind (arith, nat_tests, lt, a, b)))
    (ordered_within tenant key t ys (λ z h. own z (inr h)) (rest_up (key y) (map key ys) up))

pub ordered_across : {Y : Type 0} (tenant key : Y → ℕ) (m n : ℕ) (y w : Y) → m < n → tenant y ≡ m → tenant w ≡ n → comes_before tenant key y w ≡ true
ordered_across tenant key m n y w lt a b = grind (arith, nat_tests, lt, a, b)

-- ---- names

apart_append : (ys zs : List UserItem) → are_apart same_user_name ys ≡ true → are_apart same_user_name zs ≡ true → ((y z : UserItem) → Held y ys → Held z zs → same_user_name y z ≡ false) → are_apart same_user_name (ys ++ zs) ≡ true
apart_append [] zs apart more cross = more
apart_append (y ∷ ys) zs apart more cross =
    let parts = and_parts (not (list_any (same_user_name y) ys)) (are_apart same_user_name ys) apart in
    and_from _ _ (ap not (none_any (same_user_name y) (ys ++ zs) (λ z h. by z (held_append ys zs z h) parts.0))) (apart_append ys zs parts.1 more (λ w z h k. cross w z (inr h) k))
  where
    by : (z : UserItem) → Held z ys ⊎ Held z zs → not (list_any (same_user_name y) ys) ≡ true → same_user_name y z ≡ false
    by z (inl h) none = any_none (same_user_name y) ys z (grind (arith, none)) h
    by z (inr h) none = cross y z (inl refl) h

apart_within : (ys : List UserItem) → are_apart same_name ys ≡ true → are_apart same_user_name ys ≡ true
apart_within [] apart = refl
apart_within (y ∷ ys) apart =
    let parts = and_parts (not (list_any (same_name y) ys)) (are_apart same_name ys) apart in
    and_from _ _ (ap not (none_any (same_user_name y) ys (λ z h. by z (any_none (same_name y) ys z (let k = parts.0 in grind (arith, k)) h)))) (apart_within ys parts.1)
  where
    off : (a b : Bool) → b ≡ false → (a && b) ≡ false
    off true b e = e
    off false b e = refl

    by : (z : UserItem) → same_name y z ≡ false → same_user_name y z ≡ false
    by z no_name = off (y.tenant == z.tenant) (same_name y z) no_name

apart_each : (xs : List Tenancy) → ascends (ids xs) ≡ true → ((x : Tenancy) → Held x xs → are_apart same_name x.tables.plain.registry.users ≡ true) → ((x : Tenancy) → Held x xs → (y : UserItem) → Held y x.tables.plain.registry.users → y.tenant ≡ x.id) →
    are_apart same_user_name (of_each (λ (x : Tenancy). x.tables.plain.registry.users) xs) ≡ true
apart_each [] up within own = refl
apart_each (x ∷ xs) up within own =
    apart_append x.tables.plain.registry.users (of_each (λ (w : Tenancy). w.tables.plain.registry.users) xs) (apart_within x.tables.plain.registry.users (within x (inl refl)))
    (apart_each xs (rest_up x.id (ids xs) up) (λ z h. within z (inr h)) (λ z h. own z (inr h)))
    (λ y z h k. let w = each_held (λ (v : Tenancy). v.tables.plain.registry.users) xs z k in
    let lt : x.id < w.0.id = above x.id xs w.0 up w.1 in
    let a : y.tenant ≡ x.id = own x (inl refl) y h in
    let b : z.tenant ≡ w.0.id = own w.0 (inr w.1) z w.2 in
    ap (λ e. e && is_text y.name z.name) (other_number y.tenant z.tenant (λ same. omega (arith, lt, a, b, same))))

-- ---- the whole

module _ (xs : List Tenancy) (up : ascends (ids xs) ≡ true) (own : (x : Tenancy) → Held x xs → IsOwn x.id x.tables.plain.registry) (order : (x : Tenancy) → Held x xs → AreOrdered x.tables.plain.registry) where
  abbrev lists : Lists
  lists = lists_of xs

  is_number : (a b : ℕ) → (a == b) ≡ true → a ≡ b
  is_number a b e = grind (arith, nat_tests, e)

  pub user_parts : (x : Tenancy) → Held x xs → (y : UserItem) → Held y x.tables.plain.registry.users → (y.tenant ≡ x.id) × (is_user_item y ≡ true) × (are_bytes 32 y.secret.0 ≡ true)
  user_parts x h y k =
      let a = and_parts ((y.tenant == x.id) && is_user_item y) (are_bytes 32 y.secret.0) (held_all (is_own_user x.id) x.tables.plain.registry.users y (own x h).users k) in
      let b = and_parts (y.tenant == x.id) (is_user_item y) a.0 in (is_number y.tenant x.id b.0, b.1, a.1)

  pub form_parts : (x : Tenancy) → Held x xs → (y : FormItem) → Held y x.tables.plain.registry.forms → (y.tenant ≡ x.id) × (is_form_item y ≡ true)
  form_parts x h y k = let a = and_parts (y.tenant == x.id) (is_form_item y) (held_all (is_own_form x.id) x.tables.plain.registry.forms y (own x h).forms k) in (is_number y.tenant x.id a.0, a.1)

  pub context_parts : (x : Tenancy) → Held x xs → (y : ContextItem) → Held y x.tables.plain.registry.contexts → (y.tenant ≡ x.id) × (is_context_item y ≡ true) × (list_any (has_id_of y.form) x.tables.plain.registry.forms ≡ true) × (list_all (is_recipient x.tables.plain.registry.users) y.recipients ≡ true)
  context_parts x h y k =
      let a = and_parts ((y.tenant == x.id) && is_context_item y && list_any (has_id_of y.form) x.tables.plain.registry.forms) (list_all (is_recipient x.tables.plain.registry.users) y.recipients) (held_all (is_own_context x.id x.tables.plain.registry.users x.tables.plain.registry.forms) x.tables.plain.registry.contexts y (own x h).contexts k) in
      let b = and_parts ((y.tenant == x.id) && is_context_item y) (list_any (has_id_of y.form) x.tables.plain.registry.forms) a.0 in
      let c = and_parts (y.tenant == x.id) (is_context_item y) b.0 in
      (is_number y.tenant x.id c.0, c.1, b.1, a.1)

  pub settings_parts : (x : Tenancy) → Held x xs → (x.tables.plain.registry.settings.tenant ≡ x.id) × (is_tenant_item x.tables.plain.registry.settings ≡ true) × (is_stored_tenant x.tables.plain.registry.settings ≡ true)
  settings_parts x h =
      let a = and_parts ((x.tables.plain.registry.settings.tenant == x.id) && is_tenant_item x.tables.plain.registry.settings) (is_stored_tenant x.tables.plain.registry.settings) (own x h).settings in
      let b = and_parts (x.tables.plain.registry.settings.tenant == x.id) (is_tenant_item x.tables.plain.registry.settings) a.0 in (is_number _ x.id b.0, b.1, a.1)

  pub same_ids : (zs : List Tenancy) → ((z : Tenancy) → Held z zs → Held z xs) → map (λ (y : TenantItem). y.tenant) (map (λ (x : Tenancy). x.tables.plain.registry.settings) zs) ≡ ids zs
  same_ids [] in_xs = refl
  same_ids (z ∷ zs) in_xs = (λ i. (settings_parts z (in_xs z (inl refl))).0 i ∷ same_ids zs (λ w h. in_xs w (inr h)) i)

  pub there : (x : Tenancy) → Held x xs → has_tenant (lists_of xs) x.id ≡ true
  there x h = of xs (λ z k. k) h
    where
      of : (zs : List Tenancy) → ((z : Tenancy) → Held z zs → Held z xs) → Held x zs → list_any (λ (y : TenantItem). y.tenant == x.id) (map (λ (w : Tenancy). w.tables.plain.registry.settings) zs) ≡ true
      of [] in_xs k = absurd k
      of (z ∷ zs) in_xs (inl e) = ap (λ b. b || list_any (λ (y : TenantItem). y.tenant == x.id) (map (λ (w : Tenancy). w.tables.plain.registry.settings) zs)) (same_number z.tables.plain.registry.settings.tenant x.id ((settings_parts z (in_xs z (inl refl))).0 ∙ ap (λ (w : Tenancy). w.id) (sym e)))
      of (z ∷ zs) in_xs (inr k) = by (z.tables.plain.registry.settings.tenant == x.id) (of zs (λ w m. in_xs w (inr m)) k)
        where
          by : (b : Bool) → list_any (λ (y : TenantItem). y.tenant == x.id) (map (λ (w : Tenancy). w.tables.plain.registry.settings) zs) ≡ true → (b || list_any (λ (y : TenantItem). y.tenant == x.id) (map (λ (w : Tenancy). w.tables.plain.registry.settings) zs)) ≡ true
          by true ih = refl
          by false ih = ih

  users_of : (x : Tenancy) → Held x xs → filter (λ (y : UserItem). y.tenant == x.id) (lists_of xs).users ≡ x.tables.plain.registry.users
  users_of x h = own_part (λ (y : UserItem). y.tenant) (λ (z : Tenancy). z.tables.plain.registry.users) xs up (λ z k y m. (user_parts z k y m).0) x h

  forms_of : (x : Tenancy) → Held x xs → filter (λ (y : FormItem). y.tenant == x.id) (lists_of xs).forms ≡ x.tables.plain.registry.forms
  forms_of x h = own_part (λ (y : FormItem). y.tenant) (λ (z : Tenancy). z.tables.plain.registry.forms) xs up (λ z k y m. (form_parts z k y m).0) x h

  contexts_of : (x : Tenancy) → Held x xs → filter (λ (y : ContextItem). y.tenant == x.id) (lists_of xs).contexts ≡ x.tables.plain.registry.contexts
  contexts_of x h = own_part (λ (y : ContextItem). y.tenant) (λ (z : Tenancy). z.tables.plain.registry.contexts) xs up (λ z k y m. (context_parts z k y m).0) x h

  settings_of : (x : Tenancy) → Held x xs → find (λ (y : TenantItem). y.tenant == x.id) (lists_of xs).tenants ≡ Some x.tables.plain.registry.settings
  settings_of x h = of xs up (λ z k. k) h
    where
      of : (zs : List Tenancy) → ascends (ids zs) ≡ true → ((z : Tenancy) → Held z zs → Held z xs) → Held x zs → find (λ (y : TenantItem). y.tenant == x.id) (map (λ (w : Tenancy). w.tables.plain.registry.settings) zs) ≡ Some x.tables.plain.registry.settings
      of [] u in_xs k = absurd k
      of (z ∷ zs) u in_xs (inl e) = ap (λ b. cond b (Some z.tables.plain.registry.settings) (find (λ (y : TenantItem). y.tenant == x.id) (map (λ (w : Tenancy). w.tables.plain.registry.settings) zs))) (same_number z.tables.plain.registry.settings.tenant x.id ((settings_parts z (in_xs z (inl refl))).0 ∙ ap (λ (w : Tenancy). w.id) (sym e))) ∙ ap (λ (w : Tenancy). Some w.tables.plain.registry.settings) (sym e)
      of (z ∷ zs) u in_xs (inr k) = ap (λ b. cond b (Some z.tables.plain.registry.settings) (find (λ (y : TenantItem). y.tenant == x.id) (map (λ (w : Tenancy). w.tables.plain.registry.settings) zs)))
          (other_number z.tables.plain.registry.settings.tenant x.id (λ same. let lt : z.id < x.id = above z.id zs x u k in let is : z.tables.plain.registry.settings.tenant ≡ z.id = (settings_parts z (in_xs z (inl refl))).0 in omega (arith, lt, is, same)))
          ∙ of zs (rest_up z.id (ids zs) u) (λ w m. in_xs w (inr m)) k

  -- the lists' part of a tenant is its registry
  pub registry_back : (x : Tenancy) → Held x xs → registry_of (lists_of xs) x.id ≡ x.tables.plain.registry
  registry_back x h = λ i. record { settings = unwrap_or (settings_of x h i) (no_settings x.id); users = users_of x h i; forms = forms_of x h i; contexts = contexts_of x h i }

  followed : (x : Tenancy) → Held x xs → (y : FormItem) → Held y x.tables.plain.registry.forms → follows (lists_of xs) y ≡ true
  followed x h y k = by (nat_le y.version 1) (held_all (follows_in x.tables.plain.registry.forms) x.tables.plain.registry.forms y (own x h).gapless k)
    where
      by : (b : Bool) → (b || list_any (λ (z : FormItem). (z.id == y.id) && (z.version + 1 == y.version)) x.tables.plain.registry.forms) ≡ true → (b || list_any (λ (z : FormItem). (z.tenant == y.tenant) && (z.id == y.id) && (z.version + 1 == y.version)) (lists_of xs).forms) ≡ true
      by true e = refl
      by false e =
          let z = some_of (λ (z : FormItem). (z.id == y.id) && (z.version + 1 == y.version)) x.tables.plain.registry.forms e in
          let parts = and_parts (z.0.id == y.id) (z.0.version + 1 == y.version) z.2 in
          any_held (λ (w : FormItem). (w.tenant == y.tenant) && (w.id == y.id) && (w.version + 1 == y.version)) (lists_of xs).forms z.0 (in_each (λ (w : Tenancy). w.tables.plain.registry.forms) xs x z.0 h z.1)
          (and_from _ _ (and_from _ _ (same_number z.0.tenant y.tenant ((form_parts x h z.0 z.1).0 ∙ sym (form_parts x h y k).0)) parts.0) parts.1)

  asked : (x : Tenancy) → Held x xs → (c : ContextItem) → Held c x.tables.plain.registry.contexts → has_form (lists_of xs) c ≡ true
  asked x h c k =
      let z = some_of (has_id_of c.form) x.tables.plain.registry.forms (context_parts x h c k).2 in
      any_held (λ (w : FormItem). (w.tenant == c.tenant) && (w.id == c.form)) (lists_of xs).forms z.0 (in_each (λ (w : Tenancy). w.tables.plain.registry.forms) xs x z.0 h z.1)
      (and_from _ _ (same_number z.0.tenant c.tenant ((form_parts x h z.0 z.1).0 ∙ sym (context_parts x h c k).0)) z.2)

  received : (x : Tenancy) → Held x xs → (c : ContextItem) → Held c x.tables.plain.registry.contexts → has_recipients (lists_of xs) c ≡ true
  received x h c k = all_held (is_recipient_of (lists_of xs) c.tenant) c.recipients (λ u m.
      ap (λ (o : Option UserItem). option_map_or (λ (z : UserItem). same_role z.role Recipient) o false)
      ((λ i. find (λ (z : UserItem). (z.tenant == (context_parts x h c k).0 i) && (z.id == u)) (lists_of xs).users) ∙ (sym (find_passing (λ (z : UserItem). z.id == u) (λ (z : UserItem). z.tenant == x.id) (lists_of xs).users) ∙ ap (find (λ (z : UserItem). z.id == u)) (users_of x h)))
      ∙ held_all (is_recipient x.tables.plain.registry.users) c.recipients u (context_parts x h c k).3 m)

  pub lists_set_up : AreSetUp (lists_of xs)
  lists_set_up = record {
    tenants = map_all is_tenant_item (λ (x : Tenancy). x.tables.plain.registry.settings) xs (λ x h. (settings_parts x h).1);
    users = each_all is_user_item (λ (x : Tenancy). x.tables.plain.registry.users) xs (λ x h. all_held is_user_item x.tables.plain.registry.users (λ y k. (user_parts x h y k).1));
    forms = each_all is_form_item (λ (x : Tenancy). x.tables.plain.registry.forms) xs (λ x h. all_held is_form_item x.tables.plain.registry.forms (λ y k. (form_parts x h y k).1));
    contexts = each_all is_context_item (λ (x : Tenancy). x.tables.plain.registry.contexts) xs (λ x h. all_held is_context_item x.tables.plain.registry.contexts (λ y k. (context_parts x h y k).1));
    order = ap ascends (same_ids xs (λ z h. h)) ∙ up;
    user_ids = ordered_each is_user_before (λ (x : Tenancy). x.tables.plain.registry.users) xs up (λ x h. ordered_within (λ (y : UserItem). y.tenant) (λ (y : UserItem). y.id) x.id x.tables.plain.registry.users (λ y k. (user_parts x h y k).0) (order x h).users)
        (λ x z h k lt y w a b. ordered_across (λ (v : UserItem). v.tenant) (λ (v : UserItem). v.id) x.id z.id y w lt (user_parts x h y a).0 (user_parts z k w b).0);
    user_names = apart_each xs up (λ x h. (own x h).names) (λ x h y k. (user_parts x h y k).0);
    versions = ordered_each is_version_before (λ (x : Tenancy). x.tables.plain.registry.forms) xs up (λ x h. ordered_within (λ (y : FormItem). y.tenant) form_key x.id x.tables.plain.registry.forms (λ y k. (form_parts x h y k).0) (order x h).forms)
        (λ x z h k lt y w a b. ordered_across (λ (v : FormItem). v.tenant) form_key x.id z.id y w lt (form_parts x h y a).0 (form_parts z k w b).0);
    context_ids = ordered_each is_context_before (λ (x : Tenancy). x.tables.plain.registry.contexts) xs up (λ x h. ordered_within (λ (y : ContextItem). y.tenant) (λ (y : ContextItem). y.id) x.id x.tables.plain.registry.contexts (λ y k. (context_parts x h y k).0) (order x h).contexts)
        (λ x z h k lt y w a b. ordered_across (λ (v : ContextItem). v.tenant) (λ (v : ContextItem). v.id) x.id z.id y w lt (context_parts x h y a).0 (context_parts z k w b).0);
    owned = and_from _ _ (and_from _ _
        (each_all (λ (y : UserItem). has_tenant (lists_of xs) y.tenant) (λ (x : Tenancy). x.tables.plain.registry.users) xs (λ x h. all_held (λ (y : UserItem). has_tenant (lists_of xs) y.tenant) x.tables.plain.registry.users (λ y k. ap (has_tenant (lists_of xs)) (user_parts x h y k).0 ∙ there x h)))
        (each_all (λ (y : FormItem). has_tenant (lists_of xs) y.tenant) (λ (x : Tenancy). x.tables.plain.registry.forms) xs (λ x h. all_held (λ (y : FormItem). has_tenant (lists_of xs) y.tenant) x.tables.plain.registry.forms (λ y k. ap (has_tenant (lists_of xs)) (form_parts x h y k).0 ∙ there x h))))
        (each_all (λ (y : ContextItem). has_tenant (lists_of xs) y.tenant) (λ (x : Tenancy). x.tables.plain.registry.contexts) xs (λ x h. all_held (λ (y : ContextItem). has_tenant (lists_of xs) y.tenant) x.tables.plain.registry.contexts (λ y k. ap (has_tenant (lists_of xs)) (context_parts x h y k).0 ∙ there x h)));
    gapless = each_all (follows (lists_of xs)) (λ (x : Tenancy). x.tables.plain.registry.forms) xs (λ x h. all_held (follows (lists_of xs)) x.tables.plain.registry.forms (λ y k. followed x h y k));
    asked = each_all (has_form (lists_of xs)) (λ (x : Tenancy). x.tables.plain.registry.contexts) xs (λ x h. all_held (has_form (lists_of xs)) x.tables.plain.registry.contexts (λ c k. asked x h c k));
    recipients = each_all (has_recipients (lists_of xs)) (λ (x : Tenancy). x.tables.plain.registry.contexts) xs (λ x h. all_held (has_recipients (lists_of xs)) x.tables.plain.registry.contexts (λ c k. received x h c k));
  }
