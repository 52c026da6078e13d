-- The notices that are owed stand in the order of their rows' keys.
use Rattle.std.proofs.Common.{◌≡◌, inl, inr, ℕ, ◌+◌, ◌*◌, ◌<◌, ◌++◌, Bool, true, false, cond, List, [], ◌∷◌, map, filter, ℤ, refl, sym, ◌∙◌, arith}
use Rattle.std.specs.Cmp.{nat_cmp_is}
use Rattle.std.specs.List.{AllByRecursion, flat_map}
use Rattle.std.specs.List.Sorted.{IsStrictlySortedBy}
use Rattle.std.specs.Ordering.{nat_cmp}
use Rattle.std.specs.declared.cmp.Ordering.TheVariants.{Less, Equal}
use Rattle.wb_base.specs.KeptRows.{key_cmp, key_of}
use Rattle.wb_base.specs.Days.{day_of}
use Rattle.wb_list.specs.Keyed.{IsAscending}
use Rattle.wb_model.specs.declared.registry.Lists.{Lists}
use Rattle.wb_model.specs.declared.registry.TenantItem.{TenantItem}
use Rattle.wb_model.specs.declared.registry.UserItem.{UserItem}
use Rattle.wb_model.specs.KeptRules.{AreKept}
use Rattle.wb_model.specs.Legal.{ascends}
use Rattle.wb_model.specs.Opened.{Ascend}
use Rattle.wb_model.specs.Openings.{registry_of}
use Rattle.wb_model.specs.SetUps.{AreSetUp, tenant_ids}
use Rattle.wb_model.specs.Tables.{Case, Registry, is_live}
use Rattle.wb_model.proofs.Found.{Held}
use Rattle.wb_model.proofs.OpeningsOf.{kept_opened}
use Rattle.wb_rows.specs.Held.{Held as Tables}
use Rattle.wb_rows.specs.Openings.{cases_of, tables_of, time_of}
use Rattle.wb_rows.proofs.Ascending.{held-above, rest-ascends}
use Rattle.wb_notice.specs.declared.notice.Notice.{Notice}
use Rattle.wb_notice.specs.declared.notice.NoticeKind.{NoticeKind}
use Rattle.wb_notice.specs.declared.notice.NoticeKind.TheVariants.{New, AckOver, FeedbackOver, Expiring, Asked}
use Rattle.wb_notice.specs.declared.users.Addressee.{Addressee}
use Rattle.wb_notice.specs.Notices.{kind_code, kinds, notice_row}
use Rattle.wb_notice.specs.Owed.{addressee, addressees, arises, arising, is_asked, is_for, live, notices_of, notices_on, notices_to, owed, unsealed}

-- ---- the order of two notices

abbrev IsBefore : Notice → Notice → Type 0
IsBefore n m = key_cmp (notice_row n).key (notice_row m).key ≡ Less

less : (a b : ℕ) → a < b → nat_cmp a b ≡ Less
less a b lt = sym (nat_cmp_is a b Less lt)

same : (a b : ℕ) → a ≡ b → nat_cmp a b ≡ Equal
same a b e = sym (nat_cmp_is a b Equal e)

by_tenant : (n m : Notice) → n.tenant < m.tenant → IsBefore n m
by_tenant n m lt = rw (less n.tenant m.tenant lt) refl

by_number : (n m : Notice) → n.tenant ≡ m.tenant → n.number < m.number → IsBefore n m
by_number n m t lt = rw (same n.tenant m.tenant t, less n.number m.number lt) refl

by_last : (n m : Notice) → n.tenant ≡ m.tenant → n.number ≡ m.number → 8 * n.user + kind_code n.kind < 8 * m.user + kind_code m.kind → IsBefore n m
by_last n m t r lt = rw (same n.tenant m.tenant t, same n.number m.number r, less _ _ lt) refl

small : (kind : NoticeKind) → kind_code kind < 8
small New = omega arith
small AckOver = omega arith
small FeedbackOver = omega arith
small Expiring = omega arith
small Asked = omega arith

by_user : (n m : Notice) → n.tenant ≡ m.tenant → n.number ≡ m.number → n.user < m.user → IsBefore n m
by_user n m t r lt = let few = small n.kind in by_last n m t r (omega (arith, few))

by_kind : (n m : Notice) → n.tenant ≡ m.tenant → n.number ≡ m.number → n.user ≡ m.user → kind_code n.kind < kind_code m.kind → IsBefore n m
by_kind n m t r u lt = by_last n m t r (omega (arith, u))

-- ---- lists in an order

-- each is before all that follow it
abbrev Rises : List Notice → Type 0
Rises [] = Unit {0}
Rises (n ∷ ns) = AllByRecursion (IsBefore n) ns × Rises ns

abbrev Up : {X : Type 0} → (X → ℕ) → List X → Type 0
Up place [] = Unit {0}
Up place (x ∷ xs) = AllByRecursion (λ y. place x < place y) xs × Up place xs

all_held : {X : Type 0} (P : X → Type 0) (xs : List X) → ((x : X) → Held x xs → P x) → AllByRecursion P xs
all_held P [] each = tt
all_held P (x ∷ xs) each = (each x (inl refl), all_held P xs (λ y held. each y (inr held)))

pub all_at : {X : Type 0} (P : X → Type 0) (xs : List X) (x : X) → AllByRecursion P xs → Held x xs → P x
all_at P [] x all held = absurd held
all_at P (y ∷ ys) x all (inl is) = rw is all.0
all_at P (y ∷ ys) x all (inr held) = all_at P ys x all.1 held

pub all_filtered : {X : Type 0} (P : X → Type 0) (p : X → Bool) (xs : List X) → AllByRecursion P xs → AllByRecursion P (filter p xs)
all_filtered P p [] all = tt
all_filtered P p (x ∷ xs) all = by (p x) (all_filtered P p xs all.1)
  where
    by : (b : Bool) → AllByRecursion P (filter p xs) → AllByRecursion P (cond b (x ∷ filter p xs) (filter p xs))
    by true rest = (all.0, rest)
    by false rest = rest

up_filtered : {X : Type 0} (place : X → ℕ) (p : X → Bool) (xs : List X) → Up place xs → Up place (filter p xs)
up_filtered place p [] up = tt
up_filtered place p (x ∷ xs) up = by (p x) (up_filtered place p xs up.1)
  where
    by : (b : Bool) → Up place (filter p xs) → Up place (cond b (x ∷ filter p xs) (filter p xs))
    by true rest = (all_filtered (λ y. place x < place y) p xs up.0, rest)
    by false rest = rest

up_of : {X : Type 0} (place : X → ℕ) (xs : List X) → ascends (map place xs) ≡ true → Up place xs
up_of place [] up = tt
up_of place (x ∷ xs) up = (all_held (λ y. place x < place y) xs (λ y held. held-above place (place x) xs y up held), up_of place xs (rest-ascends (place x) (map place xs) up))

up_map : {X Z : Type 0} (place : Z → ℕ) (h : X → Z) (xs : List X) → Up (λ x. place (h x)) xs → Up place (map h xs)
up_map place h [] up = tt
up_map {X} place h (x ∷ xs) up = (above xs up.0, up_map place h xs up.1)
  where
    above : (ys : List X) → AllByRecursion (λ y. place (h x) < place (h y)) ys → AllByRecursion (λ z. place (h x) < place z) (map h ys)
    above [] all = tt
    above (y ∷ ys) all = (all.0, above ys all.1)

rises_filtered : (p : Notice → Bool) (ns : List Notice) → Rises ns → Rises (filter p ns)
rises_filtered p [] up = tt
rises_filtered p (n ∷ ns) up = by (p n) (rises_filtered p ns up.1)
  where
    by : (b : Bool) → Rises (filter p ns) → Rises (cond b (n ∷ filter p ns) (filter p ns))
    by true rest = (all_filtered (IsBefore n) p ns up.0, rest)
    by false rest = rest

rows_ascend : (ns : List Notice) → Rises ns → IsAscending key_cmp key_of (map notice_row ns)
unfolding IsStrictlySortedBy
rows_ascend [] up = tt
rows_ascend (n ∷ ns) up = (above ns up.0, rows_ascend ns up.1)
  where
    above : (ms : List Notice) → AllByRecursion (IsBefore n) ms → AllByRecursion (λ k. key_cmp (notice_row n).key k ≡ Less) (map key_of (map notice_row ms))
    above [] all = tt
    above (m ∷ ms) all = (all.0, above ms all.1)

-- ---- what comes of items in their order

pub all_weaker : {X : Type 0} (P Q : X → Type 0) → ((x : X) → P x → Q x) → (xs : List X) → AllByRecursion P xs → AllByRecursion Q xs
all_weaker P Q weaker [] all = tt
all_weaker P Q weaker (x ∷ xs) all = (weaker x all.0, all_weaker P Q weaker xs all.1)

all_append : {X : Type 0} (P : X → Type 0) (xs ys : List X) → AllByRecursion P xs → AllByRecursion P ys → AllByRecursion P (xs ++ ys)
all_append P [] ys all more = more
all_append P (x ∷ xs) ys all more = (all.0, all_append P xs ys all.1 more)

pub all_flat : {X Y : Type 0} (P : Y → Type 0) (f : X → List Y) (xs : List X) → ((x : X) → Held x xs → AllByRecursion P (f x)) → AllByRecursion P (flat_map f xs)
all_flat P f [] each = tt
all_flat P f (x ∷ xs) each = all_append P (f x) (flat_map f xs) (each x (inl refl)) (all_flat P f xs (λ y held. each y (inr held)))

rises_append : (ns ms : List Notice) → Rises ns → Rises ms → AllByRecursion (λ n. AllByRecursion (IsBefore n) ms) ns → Rises (ns ++ ms)
rises_append [] ms up more all = more
rises_append (n ∷ ns) ms up more all = (all_append (IsBefore n) ns ms up.0 all.0, rises_append ns ms up.1 more all.1)

-- notices that are of the same, but for a part by which they are in order
module _ {X : Type 0} (place : X → ℕ) (f : X → List Notice) (part : Notice → ℕ) (IsOf : Notice → Type 0) (before : (n m : Notice) → IsOf n → IsOf m → part n < part m → IsBefore n m) where
  later : (x : X) (xs : List X) → AllByRecursion (λ y. place x < place y) xs → ((y : X) → Held y xs → AllByRecursion (λ n. IsOf n × (part n ≡ place y)) (f y)) → AllByRecursion (λ n. IsOf n × (place x < part n)) (flat_map f xs)
  later x xs above own = all_flat (λ n. IsOf n × (place x < part n)) f xs (λ y held. let lt = all_at (λ z. place x < place z) xs y above held in all_weaker (λ n. IsOf n × (part n ≡ place y)) (λ n. IsOf n × (place x < part n)) (λ n is. let e = is.1 in (is.0, omega (arith, lt, e))) (f y) (own y held))

  rises_flat : (xs : List X) → Up place xs → ((x : X) → Held x xs → Rises (f x)) → ((x : X) → Held x xs → AllByRecursion (λ n. IsOf n × (part n ≡ place x)) (f x)) → Rises (flat_map f xs)
  rises_flat [] up each own = tt
  rises_flat (x ∷ xs) up each own =
      let above = later x xs up.0 (λ y held. own y (inr held)) in
      rises_append (f x) (flat_map f xs) (each x (inl refl)) (rises_flat xs up.1 (λ y held. each y (inr held)) (λ y held. own y (inr held)))
      (all_weaker (λ n. IsOf n × (part n ≡ place x)) (λ n. AllByRecursion (IsBefore n) (flat_map f xs)) (λ n is. all_weaker (λ m. IsOf m × (place x < part m)) (IsBefore n) (λ m lt. let e = is.1 in let l = lt.1 in before n m is.0 lt.0 (omega (arith, e, l))) (flat_map f xs) above) (f x) (own x (inl refl)))

-- ---- what is owed

module _ (t : ℕ) (today : ℤ) (c : Case) where
  abbrev told : Addressee → NoticeKind → Notice
  told x kind = record { tenant = t; number = c.number; user = x.user; kind = kind; day = today }

  told_rises : (x : Addressee) (ks : List NoticeKind) → Up kind_code ks → Rises (map (told x) ks)
  told_rises x [] up = tt
  told_rises x (k ∷ ks) up = (above ks up.0, told_rises x ks up.1)
    where
      above : (ls : List NoticeKind) → AllByRecursion (λ l. kind_code k < kind_code l) ls → AllByRecursion (IsBefore (told x k)) (map (told x) ls)
      above [] all = tt
      above (l ∷ ls) all = (by_kind (told x k) (told x l) refl refl refl all.0, above ls all.1)

  told_own : (x : Addressee) (ks : List NoticeKind) → AllByRecursion (λ n. ((n.tenant ≡ t) × (n.number ≡ c.number)) × (n.user ≡ x.user)) (map (told x) ks)
  told_own x [] = tt
  told_own x (k ∷ ks) = (((refl, refl), refl), told_own x ks)

  pub on_own : (g : Registry) → AllByRecursion (λ n. (n.tenant ≡ t) × (n.number ≡ c.number)) (notices_on t g today c)
  on_own g = all_flat (λ n. (n.tenant ≡ t) × (n.number ≡ c.number)) (notices_to t today (arising g.users today c.trail) c) (addressees g.users)
      (λ x held. all_weaker (λ n. ((n.tenant ≡ t) × (n.number ≡ c.number)) × (n.user ≡ x.user)) (λ n. (n.tenant ≡ t) × (n.number ≡ c.number)) (λ n is. is.0) _ (told_own x (filter (is_for c.trail x) (arising g.users today c.trail))))

  module _ (g : Registry) (up : Up (λ (u : UserItem). u.id) g.users) where
    arising_up : Up kind_code (arising g.users today c.trail)
    arising_up = up_filtered kind_code (arises (is_asked g.users c.trail) today c.trail) kinds (up_of kind_code kinds refl)

    addressees_up : Up (λ (x : Addressee). x.user) (addressees g.users)
    addressees_up = up_map (λ (x : Addressee). x.user) addressee (filter (λ (u : UserItem). u.enabled) g.users) (up_filtered (λ (u : UserItem). u.id) (λ (u : UserItem). u.enabled) g.users up)

    on_rises : Rises (notices_on t g today c)
    on_rises = rises_flat (λ (x : Addressee). x.user) (notices_to t today (arising g.users today c.trail) c) (λ (n : Notice). n.user) (λ (n : Notice). (n.tenant ≡ t) × (n.number ≡ c.number))
        (λ n m a b lt. by_user n m (a.0 ∙ sym b.0) (a.1 ∙ sym b.1) lt) (addressees g.users) addressees_up
        (λ x held. told_rises x (filter (is_for c.trail x) (arising g.users today c.trail)) (up_filtered kind_code (is_for c.trail x) (arising g.users today c.trail) arising_up))
        (λ x held. told_own x (filter (is_for c.trail x) (arising g.users today c.trail)))

module _ (h : Tables) (now : ℕ) (kept : (t : ℕ) → AreKept (time_of h) h.lists t (tables_of h t)) where
  users_up : (t : ℕ) → Up (λ (u : UserItem). u.id) (registry_of h.lists t).users
  users_up t = up_of (λ (u : UserItem). u.id) (registry_of h.lists t).users (kept_opened (time_of h) h.lists t (tables_of h t) (kept t)).ordered.users

  cases_up : (t : ℕ) → Up (λ (c : Case). c.number) (live (unsealed h) now t)
  cases_up t = up_filtered (λ (c : Case). c.number) (is_live (registry_of h.lists t).settings now) (cases_of h.reports t) (by 0 (cases_of h.reports t) (kept_opened (time_of h) h.lists t (tables_of h t) (kept t)).ascend)
    where
      above : (k : ℕ) (cs : List Case) → Ascend k cs → AllByRecursion (λ (c : Case). k < c.number) cs
      above k [] up = tt
      above k (c ∷ cs) up = (up.0, all_weaker (λ (d : Case). c.number < d.number) (λ (d : Case). k < d.number) (λ d lt. let first = up.0 in omega (arith, first, lt)) cs (above c.number cs up.1))

      by : (k : ℕ) (cs : List Case) → Ascend k cs → Up (λ (c : Case). c.number) cs
      by k [] up = tt
      by k (c ∷ cs) up = (above c.number cs up.1, by c.number cs up.1)

  of_rises : (t : ℕ) → Rises (notices_of (unsealed h) now t)
  of_rises t =
      let g = registry_of h.lists t in
      let today = day_of now g.settings.offset in
      rises_flat (λ (c : Case). c.number) (notices_on t g today) (λ (n : Notice). n.number) (λ (n : Notice). n.tenant ≡ t)
      (λ n m a b lt. by_number n m (a ∙ sym b) lt) (live (unsealed h) now t) (cases_up t)
      (λ c held. on_rises t today c g (users_up t))
      (λ c held. on_own t today c g)

  of_own : (t : ℕ) → AllByRecursion (λ n. n.tenant ≡ t) (notices_of (unsealed h) now t)
  of_own t =
      let g = registry_of h.lists t in
      let today = day_of now g.settings.offset in
      all_flat (λ n. n.tenant ≡ t) (notices_on t g today) (live (unsealed h) now t)
      (λ c held. all_weaker (λ n. (n.tenant ≡ t) × (n.number ≡ c.number)) (λ n. n.tenant ≡ t) (λ n is. is.0) (notices_on t g today c) (on_own t today c g))

  owed_rises : Rises (owed (unsealed h) now)
  owed_rises = rises_flat (λ t. t) (notices_of (unsealed h) now) (λ (n : Notice). n.tenant) (λ n. Unit {0})
      (λ n m a b lt. by_tenant n m lt) (tenant_ids h.lists) (tenants_up h.lists (kept 0).set_up)
      (λ t held. of_rises t)
      (λ t held. all_weaker (λ n. n.tenant ≡ t) (λ n. Unit {0} × (n.tenant ≡ t)) (λ n is. (tt, is)) (notices_of (unsealed h) now t) (of_own t))
    where
      tenants_up : (lists : Lists) → AreSetUp lists → Up (λ t. t) (tenant_ids lists)
      tenants_up lists set_up = up_map (λ t. t) (λ (x : TenantItem). x.tenant) lists.tenants (up_of (λ (x : TenantItem). x.tenant) lists.tenants set_up.order)

  -- so do their rows, and the rows of some of them
  pub owed_ascend : (p : Notice → Bool) → IsAscending key_cmp key_of (map notice_row (filter p (owed (unsealed h) now)))
  owed_ascend p = rows_ascend (filter p (owed (unsealed h) now)) (rises_filtered p (owed (unsealed h) now) owed_rises)

  pub all_ascend : IsAscending key_cmp key_of (map notice_row (owed (unsealed h) now))
  all_ascend = rows_ascend (owed (unsealed h) now) owed_rises
