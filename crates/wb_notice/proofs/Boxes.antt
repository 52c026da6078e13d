-- What a delivery makes of an outbox, and what another after it.
use Rattle.std.proofs.Common.{◌≡◌, inl, inr, ℕ, Bool, true, false, cond, not, List, [], ◌∷◌, map, filter, find, is_some, Some, refl, sym, ap, ◌∙◌}
use Rattle.std.proofs.lemmas.Bool.{and_from, and_parts, eq-eqb, eqb-true, false≢true}
use Rattle.std.proofs.lemmas.Cmp.{tied_itself}
use Rattle.std.specs.Cmp.{both_tied, unsigned_ties}
use Rattle.std.specs.List.{AllByRecursion, list_all, list_any}
use Rattle.std.specs.Ordering.{is_eq, match_ordering}
use Rattle.std.specs.Prelude.{◌==◌, ◌&&◌, ◌||◌, ◌⊎◌, fold, if◌then◌else◌}
use Rattle.std.specs.declared.cmp.Ordering.TheVariants.{Less, Equal, Greater}
use Rattle.wb_base.specs.declared.rows.Change.TheVariants.{Put}
use Rattle.wb_base.specs.declared.rows.Key.{Key}
use Rattle.wb_base.specs.declared.rows.Row.{Row}
use Rattle.wb_base.specs.KeptRows.{all_changed, key_cmp, key_of}
use Rattle.wb_list.specs.Keyed.{IsAscending, has_key, insert_item}
use Rattle.wb_list.proofs.KeyedLemmas.{ascending-filter, ascending-insert_item}
use Rattle.wb_list.proofs.KeyedLookups.{find-after, find-inserted}
use Rattle.wb_model.specs.declared.registry.TenantItem.{TenantItem}
use Rattle.wb_model.specs.Openings.{registry_of}
use Rattle.wb_model.specs.SetUps.{has_tenant, tenant_ids}
use Rattle.wb_model.specs.Tables.{Case, is_there}
use Rattle.wb_model.proofs.Found.{Held, held_filter}
use Rattle.wb_base.specs.Days.{day_of}
use Rattle.wb_notice.specs.declared.notice.Notice.{Notice}
use Rattle.wb_notice.specs.Calls.{Call, delivered, left_after, made, try}
use Rattle.wb_notice.specs.Notices.{notice_row}
use Rattle.wb_notice.specs.Outbox.{box, is_of_live, lives, new_notices, new_rows, stands}
use Rattle.wb_notice.specs.Owed.{Unsealed, live, notices_of, notices_on, owed}
use Rattle.wb_notice.proofs.OwedOrder.{all_at, all_flat, all_weaker, on_own}
use Rattle.wb_base.proofs.RowKeys.{key_total}

-- ---- keys

key_ties : (k m : Key) → ((k.kind == m.kind) && ((k.tenant == m.tenant) && ((k.a == m.a) && (k.b == m.b)))) ≡ is_eq (key_cmp k m)
key_ties k m = both_tied _ _ _ _ (unsigned_ties k.kind m.kind) (both_tied _ _ _ _ (unsigned_ties k.tenant m.tenant) (both_tied _ _ _ _ (unsigned_ties k.a m.a) (unsigned_ties k.b m.b)))

same_key : (k m : Key) → is_eq (key_cmp k m) ≡ true → k ≡ m
same_key k m e =
    let kind = and_parts (k.kind == m.kind) ((k.tenant == m.tenant) && ((k.a == m.a) && (k.b == m.b))) (key_ties k m ∙ e) in
    let tenant = and_parts (k.tenant == m.tenant) ((k.a == m.a) && (k.b == m.b)) kind.1 in
    let last = and_parts (k.a == m.a) (k.b == m.b) tenant.1 in
    by k.kind m.kind k.tenant m.tenant k.a m.a k.b m.b (eqb-true k.kind m.kind kind.0) (eqb-true k.tenant m.tenant tenant.0) (eqb-true k.a m.a last.0) (eqb-true k.b m.b last.1)
  where
    by : (i j t u a b c d : ℕ) → i ≡ j → t ≡ u → a ≡ b → c ≡ d → ◌≡◌ {A = Key} (record { kind = i; tenant = t; a = a; b = c }) (record { kind = j; tenant = u; a = b; b = d })
    by i j t u a b c d p q r s = rw (p, q, r, s) refl

-- ---- lists

all_passes : {X : Type 0} (p : X → Bool) (xs : List X) → ((x : X) → Held x xs → p x ≡ true) → list_all p xs ≡ true
all_passes p [] each = refl
all_passes p (x ∷ xs) each = and_from (p x) (list_all p xs) (each x (inl refl)) (all_passes p xs (λ y held. each y (inr held)))

filter_all : {X : Type 0} (p : X → Bool) (xs : List X) → list_all p xs ≡ true → filter p xs ≡ xs
filter_all p [] all = refl
filter_all p (x ∷ xs) all = let parts = and_parts (p x) (list_all p xs) all in rw (parts.0, filter_all p xs parts.1) refl

filter_none : {X : Type 0} (p : X → Bool) (xs : List X) → list_all p xs ≡ true → filter (λ x. not (p x)) xs ≡ []
filter_none p [] all = refl
filter_none p (x ∷ xs) all = let parts = and_parts (p x) (list_all p xs) all in rw parts.0 (filter_none p xs parts.1)

find_kept : {X : Type 0} (p q : X → Bool) → ((x : X) → p x ≡ true → q x ≡ true) → (xs : List X) → find p (filter q xs) ≡ find p xs
find_kept p q kept [] = refl
find_kept p q kept (x ∷ xs) = by (p x) refl (q x) refl (find_kept p q kept xs)
  where
    by : (a : Bool) → p x ≡ a → (b : Bool) → q x ≡ b → find p (filter q xs) ≡ find p xs → find p (cond b (x ∷ filter q xs) (filter q xs)) ≡ cond a (Some x) (find p xs)
    by true is true own ih = rw is refl
    by true is false own ih = absurd (false≢true (sym own ∙ kept x is))
    by false is true own ih = rw is ih
    by false is false own ih = ih

filter_passing : {X : Type 0} (p : X → Bool) (xs : List X) → list_all p (filter p xs) ≡ true
filter_passing p [] = refl
filter_passing p (x ∷ xs) = by (p x) refl (filter_passing p xs)
  where
    by : (b : Bool) → p x ≡ b → list_all p (filter p xs) ≡ true → list_all p (cond b (x ∷ filter p xs) (filter p xs)) ≡ true
    by true is ih = and_from (p x) (list_all p (filter p xs)) is ih
    by false is ih = ih

held_kept : {X : Type 0} (p : X → Bool) (xs : List X) (x : X) → Held x xs → p x ≡ true → Held x (filter p xs)
held_kept p [] x held own = absurd held
held_kept p (y ∷ ys) x held own = by (p y) refl held (λ more. held_kept p ys x more own)
  where
    by : (b : Bool) → p y ≡ b → (x ≡ y) ⊎ Held x ys → (Held x ys → Held x (filter p ys)) → Held x (cond b (y ∷ filter p ys) (filter p ys))
    by true is (inl e) more = inl e
    by true is (inr h) more = inr (more h)
    by false is (inl e) more = absurd (false≢true (sym is ∙ (ap p (sym e) ∙ own)))
    by false is (inr h) more = more h

-- ---- rows that are put

all_inserted : (p : Row → Bool) (rows : List Row) (r : Row) → list_all p rows ≡ true → p r ≡ true → list_all p (insert_item key_cmp key_of rows r) ≡ true
all_inserted p [] r all own = and_from (p r) true own refl
all_inserted p (y ∷ ys) r all own =
    let parts = and_parts (p y) (list_all p ys) all in
    let rest = all_inserted p ys r parts.1 own in
    elim (key_cmp y.key r.key) as (λ o. list_all p (match_ordering o (y ∷ insert_item key_cmp key_of ys r) (r ∷ ys) (r ∷ y ∷ ys)) ≡ true) [
      | Less ↦ and_from (p y) (list_all p (insert_item key_cmp key_of ys r)) parts.0 rest
      | Equal ↦ and_from (p r) (list_all p ys) own parts.1
      | Greater ↦ and_from (p r) (p y && list_all p ys) own all
    ]

pub all_put : (p : Row → Bool) (rows rs : List Row) → list_all p rows ≡ true → list_all p rs ≡ true → list_all p (all_changed rows (map Put rs)) ≡ true
all_put p rows [] all own = all
all_put p rows (r ∷ rs) all own =
    let parts = and_parts (p r) (list_all p rs) own in
    all_put p (insert_item key_cmp key_of rows r) rs (all_inserted p rows r all parts.0) parts.1

ascend_put : (rows rs : List Row) → IsAscending key_cmp key_of rows → IsAscending key_cmp key_of (all_changed rows (map Put rs))
ascend_put rows [] up = up
ascend_put rows (r ∷ rs) up = ascend_put (insert_item key_cmp key_of rows r) rs (ascending-insert_item key_total key_of rows r up)

stands_still : (rows rs : List Row) (k : Key) → stands rows k ≡ true → stands (all_changed rows (map Put rs)) k ≡ true
stands_still rows [] k there = there
stands_still rows (r ∷ rs) k there = stands_still (insert_item key_cmp key_of rows r) rs k (ap (λ o. is_some o) (find-after key_total key_of rows r k) ∙ by (has_key key_cmp key_of k r))
  where
    by : (b : Bool) → is_some (cond b (Some r) (find (has_key key_cmp key_of k) rows)) ≡ true
    by true = refl
    by false = there

stands_put : (rows rs : List Row) (r : Row) → Held r rs → stands (all_changed rows (map Put rs)) r.key ≡ true
stands_put rows [] r held = absurd held
stands_put rows (s ∷ rs) r (inl is) = stands_still (insert_item key_cmp key_of rows s) rs r.key (ap (λ o. is_some o) (find-inserted key_total key_of rows s r.key (ap (λ (x : Row). key_cmp s.key x.key) is ∙ tied_itself key_total s.key)))
stands_put rows (s ∷ rs) r (inr held) = stands_put (insert_item key_cmp key_of rows s) rs r held

-- rows of other keys leave what a look-up finds
found_beside : (rows rs : List Row) (k : Key) → list_all (λ (r : Row). not (has_key key_cmp key_of k r)) rs ≡ true → find (has_key key_cmp key_of k) (all_changed rows (map Put rs)) ≡ find (has_key key_cmp key_of k) rows
found_beside rows [] k others = refl
found_beside rows (r ∷ rs) k others =
    let parts = and_parts (not (has_key key_cmp key_of k r)) (list_all (λ (s : Row). not (has_key key_cmp key_of k s)) rs) others in
    found_beside (insert_item key_cmp key_of rows r) rs k parts.1 ∙ (find-after key_total key_of rows r k ∙ by (has_key key_cmp key_of k r) parts.0)
  where
    by : (b : Bool) → not b ≡ true → cond b (Some r) (find (has_key key_cmp key_of k) rows) ≡ find (has_key key_cmp key_of k) rows
    by true e = absurd (false≢true e)
    by false e = refl

-- ---- what is owed is of live reports

listed : (xs : List TenantItem) (t : ℕ) → Held t (map (λ (x : TenantItem). x.tenant) xs) → list_any (λ (x : TenantItem). x.tenant == t) xs ≡ true
listed [] t held = absurd held
listed (x ∷ xs) t (inl is) = rw (eq-eqb x.tenant t (sym is)) refl
listed (x ∷ xs) t (inr held) = rw (listed xs t held) (by (x.tenant == t))
  where
    by : (b : Bool) → (b || true) ≡ true
    by true = refl
    by false = refl

numbered : (cs : List Case) (c : Case) → Held c cs → is_there c.number cs ≡ true
numbered [] c held = absurd held
numbered (d ∷ cs) c (inl is) = rw (eq-eqb d.number c.number (ap (λ (x : Case). x.number) (sym is))) refl
numbered (d ∷ cs) c (inr held) = rw (numbered cs c held) (by (d.number == c.number))
  where
    by : (b : Bool) → (b || true) ≡ true
    by true = refl
    by false = refl

module _ (x : Unsealed) (now : ℕ) where
  owed_lives : AllByRecursion (λ (n : Notice). lives x now n.tenant n.number ≡ true) (owed x now)
  owed_lives = all_flat (λ (n : Notice). lives x now n.tenant n.number ≡ true) (notices_of x now) (tenant_ids x.lists) (λ t there.
      let g = registry_of x.lists t in
      let today = day_of now g.settings.offset in
      all_flat (λ (n : Notice). lives x now n.tenant n.number ≡ true) (notices_on t g today) (live x now t) (λ c held.
      all_weaker (λ (n : Notice). (n.tenant ≡ t) × (n.number ≡ c.number)) (λ (n : Notice). lives x now n.tenant n.number ≡ true)
      (λ n is. rw (is.0, is.1) (and_from (has_tenant x.lists t) (is_there c.number (live x now t)) (listed x.lists.tenants t there) (numbered (live x now t) c held)))
      (notices_on t g today c) (on_own t today c g)))

  pub each_lives : (n : Notice) → Held n (owed x now) → lives x now n.tenant n.number ≡ true
  each_lives n held = all_at (λ (m : Notice). lives x now m.tenant m.number ≡ true) (owed x now) n owed_lives held

  -- a look-up of a key of a live report finds among the rows of live reports what it finds among all
  found_live : (rows : List Row) (k : Key) → lives x now k.tenant k.a ≡ true → find (has_key key_cmp key_of k) (filter (is_of_live x now) rows) ≡ find (has_key key_cmp key_of k) rows
  found_live rows k alive = find_kept (has_key key_cmp key_of k) (is_of_live x now) (λ r own. let e = same_key r.key k own in ap (λ (m : Key). lives x now m.tenant m.a) e ∙ alive) rows

  new_held : (rows : List Row) (n : Notice) → Held n (owed x now) → stands rows (notice_row n).key ≡ false → Held (notice_row n) (new_rows x now rows)
  new_held rows n held free = in_rows (new_notices x now rows) n (held_kept (λ (m : Notice). not (stands rows (notice_row m).key)) (owed x now) n held (ap not free))
    where
      in_rows : (ns : List Notice) (n : Notice) → Held n ns → Held (notice_row n) (map notice_row ns)
      in_rows [] n held = absurd held
      in_rows (m ∷ ms) n (inl is) = inl (ap notice_row is)
      in_rows (m ∷ ms) n (inr held) = inr (in_rows ms n held)

  stands_after : (rows : List Row) (n : Notice) → Held n (owed x now) → stands (box x now rows) (notice_row n).key ≡ true
  stands_after rows n held = by (stands rows (notice_row n).key) refl
    where
      by : (b : Bool) → stands rows (notice_row n).key ≡ b → stands (box x now rows) (notice_row n).key ≡ true
      by true there = stands_still (filter (is_of_live x now) rows) (new_rows x now rows) (notice_row n).key (ap (λ o. is_some o) (found_live rows (notice_row n).key (each_lives n held)) ∙ there)
      by false free = stands_put (filter (is_of_live x now) rows) (new_rows x now rows) (notice_row n) (new_held rows n held free)

  -- each notice that is owed stands after a delivery
  pub all_stand : (rows : List Row) → list_all (λ (n : Notice). stands (box x now rows) (notice_row n).key) (owed x now) ≡ true
  all_stand rows = all_passes (λ (n : Notice). stands (box x now rows) (notice_row n).key) (owed x now) (stands_after rows)

  -- each key once
  pub box_ascends : (rows : List Row) → IsAscending key_cmp key_of rows → IsAscending key_cmp key_of (box x now rows)
  box_ascends rows up = ascend_put (filter (is_of_live x now) rows) (new_rows x now rows) (ascending-filter key_cmp key_of (is_of_live x now) rows up)

  -- and each row is of a live report
  pub box_lives : (rows : List Row) → list_all (is_of_live x now) (box x now rows) ≡ true
  box_lives rows = all_put (is_of_live x now) (filter (is_of_live x now) rows) (new_rows x now rows) (filter_passing (is_of_live x now) rows) (new_live (new_notices x now rows) (λ n held. each_lives n (held_filter (λ (m : Notice). not (stands rows (notice_row m).key)) (owed x now) n held).0))
    where
      new_live : (ns : List Notice) → ((n : Notice) → Held n ns → lives x now n.tenant n.number ≡ true) → list_all (is_of_live x now) (map notice_row ns) ≡ true
      new_live [] each = refl
      new_live (n ∷ ns) each = and_from (lives x now n.tenant n.number) (list_all (is_of_live x now) (map notice_row ns)) (each n (inl refl)) (new_live ns (λ m held. each m (inr held)))

  -- what stood of a live report is not written anew
  pub box_same : (rows : List Row) (k : Key) → stands rows k ≡ true → lives x now k.tenant k.a ≡ true → find (has_key key_cmp key_of k) (box x now rows) ≡ find (has_key key_cmp key_of k) rows
  box_same rows k there alive = found_beside (filter (is_of_live x now) rows) (new_rows x now rows) k (others (new_notices x now rows) (λ n held. (held_filter (λ (m : Notice). not (stands rows (notice_row m).key)) (owed x now) n held).1)) ∙ found_live rows k alive
    where
      other : (n : Notice) → not (stands rows (notice_row n).key) ≡ true → (b : Bool) → has_key key_cmp key_of k (notice_row n) ≡ b → not b ≡ true
      other n free true own = absurd (false≢true (ap not (sym (ap (stands rows) (same_key (notice_row n).key k own) ∙ there)) ∙ free))
      other n free false own = refl

      others : (ns : List Notice) → ((n : Notice) → Held n ns → not (stands rows (notice_row n).key) ≡ true) → list_all (λ (r : Row). not (has_key key_cmp key_of k r)) (map notice_row ns) ≡ true
      others [] each = refl
      others (n ∷ ns) each = and_from (not (has_key key_cmp key_of k (notice_row n))) (list_all (λ (r : Row). not (has_key key_cmp key_of k r)) (map notice_row ns)) (other n (each n (inl refl)) (has_key key_cmp key_of k (notice_row n)) refl) (others ns (λ m held. each m (inr held)))

  -- a second delivery changes nothing
  pub box_again : (rows : List Row) → box x now (box x now rows) ≡ box x now rows
  box_again rows =
      let none : new_notices x now (box x now rows) ≡ [] = filter_none (λ (n : Notice). stands (box x now rows) (notice_row n).key) (owed x now) (all_stand rows) in
      ap (λ ns. all_changed (filter (is_of_live x now) (box x now rows)) (map Put (map notice_row ns))) none ∙ filter_all (is_of_live x now) (box x now rows) (box_lives rows)

  pub stays : (rows : List Row) (tries : List Bool) → left_after (box x now rows) (map (try x now) tries) ≡ box x now rows
  stays rows [] = refl
  stays rows (true ∷ tries) = ap (λ l. left_after l (map (try x now) tries)) (box_again rows) ∙ stays rows tries
  stays rows (false ∷ tries) = stays rows tries

  pub tried : (rows : List Row) (tries : List Bool) → list_any (λ is_made. is_made) tries ≡ true → left_after rows (map (try x now) tries) ≡ box x now rows
  tried rows [] some = absurd (false≢true some)
  tried rows (true ∷ tries) some = stays rows tries
  tried rows (false ∷ tries) some = tried rows tries some

pub each_made : (rows : List Row) (calls : List Call) → left_after rows calls ≡ fold delivered rows (made calls)
each_made rows [] = refl
each_made rows (call ∷ calls) = by call.made (λ l. each_made l calls)
  where
    by : (b : Bool) → ((l : List Row) → left_after l calls ≡ fold delivered l (made calls)) → left_after (if b then delivered rows call else rows) calls ≡ fold delivered rows (cond b (call ∷ made calls) (made calls))
    by true rest = rest (delivered rows call)
    by false rest = rest rows
