-- Lists of what a tenant is set up with, after one more item at its place.
use Rattle.std.proofs.Common.{◌≡◌, inl, inr, ℕ, ◌+◌, ◌*◌, ◌≤◌, Bool, true, false, cond, eqb, not, List, [], ◌∷◌, Option, Some, None, refl, sym, ap, ◌∙◌, subst, arith}
use Rattle.std.specs.Prelude.{map, find, fold, nat_lt, ◌&&◌, ◌||◌, ◌==◌}
use Rattle.std.specs.List.{list_all, list_any}
use Rattle.std.specs.Ordering.{nat_cmp, match_ordering}
use Rattle.std.specs.declared.cmp.Ordering.TheVariants.{Less, Equal, Greater}
use Rattle.std.proofs.lemmas.Bool.{and_parts, and_from, or_parts}
use Rattle.std.proofs.lemmas.Bool.Decides.{nat_tests}
use Rattle.wb_base.specs.declared.callers.Role.{Role}
use Rattle.wb_base.specs.declared.callers.Role.TheVariants.{Reporter, Recipient, Custodian, Admin}
use Rattle.wb_base.specs.AnswerList.{is_text}
use Rattle.wb_list.specs.Keyed.{insert_item}
use Rattle.wb_model.specs.declared.registry.FormItem.{FormItem}
use Rattle.wb_model.specs.declared.registry.UserItem.{UserItem}
use Rattle.wb_model.specs.Tables.{same_role}
use Rattle.wb_model.specs.Settings.{form_key}
use Rattle.wb_model.specs.SetUps.{are_apart}
use Rattle.wb_model.specs.Legal.{ascends_from, ascends}
use Rattle.wb_model.specs.Readable.{same_name}
use Rattle.wb_model.proofs.Found.{Held}
use Rattle.wb_model.proofs.Receipts.{same_text}

-- ---- all of a list

pub held_all : {X : Type 0} (p : X → Bool) (xs : List X) (x : X) → list_all p xs ≡ true → Held x xs → p x ≡ true
held_all p [] x all h = absurd h
held_all p (y ∷ ys) x all (inl e) = ap p e ∙ (and_parts (p y) (list_all p ys) all).0
held_all p (y ∷ ys) x all (inr h) = held_all p ys x (and_parts (p y) (list_all p ys) all).1 h

pub all_held : {X : Type 0} (p : X → Bool) (xs : List X) → ((x : X) → Held x xs → p x ≡ true) → list_all p xs ≡ true
all_held p [] up = refl
all_held p (y ∷ ys) up = and_from (p y) (list_all p ys) (up y (inl refl)) (all_held p ys (λ x h. up x (inr h)))

pub all_more : {X : Type 0} (p q : X → Bool) (xs : List X) → ((x : X) → p x ≡ true → q x ≡ true) → list_all p xs ≡ true → list_all q xs ≡ true
all_more p q [] up all = refl
all_more p q (x ∷ xs) up all = let parts = and_parts (p x) (list_all p xs) all in and_from (q x) (list_all q xs) (up x parts.0) (all_more p q xs up parts.1)

abbrev pub with_item : {X : Type 0} → (X → ℕ) → List X → X → List X
with_item key xs x = insert_item nat_cmp key xs x

-- each has what the others and the new one have
pub put_all : {X : Type 0} (p : X → Bool) (key : X → ℕ) (xs : List X) (x : X) → list_all p xs ≡ true → p x ≡ true → list_all p (with_item key xs x) ≡ true
put_all p key [] x all is = and_from (p x) true is refl
put_all {X} p key (y ∷ ys) x all is = by (nat_lt (key y) (key x)) (eqb (key y) (key x)) (put_all p key ys x (and_parts (p y) (list_all p ys) all).1 is)
  where
    by : (b d : Bool) → list_all p (with_item key ys x) ≡ true → list_all p (match_ordering (cond b Less (cond d Equal Greater)) (y ∷ with_item key ys x) (x ∷ ys) (x ∷ y ∷ ys)) ≡ true
    by true d ih = and_from (p y) (list_all p (with_item key ys x)) (and_parts (p y) (list_all p ys) all).0 ih
    by false true ih = and_from (p x) (list_all p ys) is (and_parts (p y) (list_all p ys) all).1
    by false false ih = and_from (p x) (list_all p (y ∷ ys)) is all

-- ---- what is found under a number

pub put_found : {X : Type 0} (key : X → ℕ) (v : ℕ) (xs : List X) (x : X) → find (λ y. eqb (key y) v) (with_item key xs x) ≡ cond (eqb (key x) v) (Some x) (find (λ y. eqb (key y) v) xs)
put_found key v [] x = refl
put_found {X} key v (y ∷ ys) x = by (nat_lt (key y) (key x)) (eqb (key y) (key x)) refl refl (put_found key v ys x)
  where
    here : List X → Option X
    here zs = find (λ (z : X). eqb (key z) v) zs

    swap : (a b : Bool) (o : Option X) → (a ≡ true → b ≡ true → ⊥) → cond a (Some y) (cond b (Some x) o) ≡ cond b (Some x) (cond a (Some y) o)
    swap true true o never = absurd (never refl refl)
    swap true false o never = refl
    swap false b o never = refl

    by : (b d : Bool) → nat_lt (key y) (key x) ≡ b → eqb (key y) (key x) ≡ d → here (with_item key ys x) ≡ cond (eqb (key x) v) (Some x) (here ys) →
        here (match_ordering (cond b Less (cond d Equal Greater)) (y ∷ with_item key ys x) (x ∷ ys) (x ∷ y ∷ ys)) ≡ cond (eqb (key x) v) (Some x) (cond (eqb (key y) v) (Some y) (here ys))
    by true d lt eq ih = ap (cond (eqb (key y) v) (Some y)) ih ∙ swap (eqb (key y) v) (eqb (key x) v) (here ys) (λ a b. grind (arith, nat_tests, lt, a, b))
    by false true lt eq ih = let same : key y ≡ key x = grind (arith, nat_tests, eq) in other (eqb (key x) v) ∙ ap (λ k. cond (eqb (key x) v) (Some x) (cond (eqb k v) (Some y) (here ys))) (sym same)
      where
        other : (b : Bool) → cond b (Some x) (here ys) ≡ cond b (Some x) (cond b (Some y) (here ys))
        other true = refl
        other false = refl
    by false false lt eq ih = refl

-- ---- users

pub role_is : (a b : Role) → same_role a b ≡ true → a ≡ b
role_is Reporter Reporter e = refl
role_is Recipient Recipient e = refl
role_is Custodian Custodian e = refl
role_is Admin Admin e = refl
role_is Reporter Recipient e = absurd (grind (arith, e))
role_is Reporter Custodian e = absurd (grind (arith, e))
role_is Reporter Admin e = absurd (grind (arith, e))
role_is Recipient Reporter e = absurd (grind (arith, e))
role_is Recipient Custodian e = absurd (grind (arith, e))
role_is Recipient Admin e = absurd (grind (arith, e))
role_is Custodian Reporter e = absurd (grind (arith, e))
role_is Custodian Recipient e = absurd (grind (arith, e))
role_is Custodian Admin e = absurd (grind (arith, e))
role_is Admin Reporter e = absurd (grind (arith, e))
role_is Admin Recipient e = absurd (grind (arith, e))
role_is Admin Custodian e = absurd (grind (arith, e))

pub role_own : (a : Role) → same_role a a ≡ true
role_own Reporter = refl
role_own Recipient = refl
role_own Custodian = refl
role_own Admin = refl

abbrev pub user_id : UserItem → ℕ
user_id x = x.id

-- the name of no other user
abbrev pub has_name : UserItem → UserItem → Bool
has_name item x = is_text x.name item.name && not (x.id == item.id)

pub flip_text : (s t : List ℕ) → is_text s t ≡ true → is_text t s ≡ true
flip_text s t e = let same : s ≡ t = same_text s t e in ap (λ x. is_text x s) (sym same) ∙ (ap (is_text s) same ∙ e)

none_after : {X : Type 0} (p : X → Bool) (x : X) (xs : List X) → find p (x ∷ xs) ≡ None → (p x ≡ false) × (find p xs ≡ None)
none_after {X} p x xs e = by (p x) refl e
  where
    by : (b : Bool) → p x ≡ b → cond b (Some x) (find p xs) ≡ None → (p x ≡ false) × (find p xs ≡ None)
    by true is f = absurd (grind (arith, f))
    by false is f = (is, f)

-- no user above has the name
above_apart : (item : UserItem) (k : ℕ) (ys : List UserItem) → item.id ≤ k → ascends_from k (map user_id ys) ≡ true → find (has_name item) ys ≡ None → list_any (same_name item) ys ≡ false
above_apart item k [] le up none = refl
above_apart item k (y ∷ ys) le up none = by (is_text item.name y.name) refl (above_apart item y.id ys (let lt : nat_lt k y.id ≡ true = (and_parts (nat_lt k y.id) (ascends_from y.id (map user_id ys)) up).0 in grind (arith, nat_tests, lt, le)) (and_parts (nat_lt k y.id) (ascends_from y.id (map user_id ys)) up).1 (none_after (has_name item) y ys none).1)
  where
    parts : (nat_lt k y.id ≡ true) × (ascends_from y.id (map user_id ys) ≡ true)
    parts = and_parts (nat_lt k y.id) (ascends_from y.id (map user_id ys)) up

    others : (has_name item y ≡ false) × (find (has_name item) ys ≡ None)
    others = none_after (has_name item) y ys none

    away : eqb y.id item.id ≡ false
    away = let lt : nat_lt k y.id ≡ true = parts.0 in grind (arith, nat_tests, lt, le)

    by : (b : Bool) → is_text item.name y.name ≡ b → list_any (same_name item) ys ≡ false → (b || list_any (same_name item) ys) ≡ false
    by false is ih = ih
    by true is ih = absurd (let bad : false ≡ true = sym others.0 ∙ and_from (is_text y.name item.name) (not (y.id == item.id)) (flip_text item.name y.name is) (ap not away) in grind (arith, bad))

-- a user who is not the item has not its name
other_name : (item y : UserItem) → has_name item y ≡ false → eqb y.id item.id ≡ false → same_name y item ≡ false
other_name item y not_it away = by (is_text y.name item.name) refl
  where
    by : (b : Bool) → is_text y.name item.name ≡ b → b ≡ false
    by false is = refl
    by true is = absurd (let bad : false ≡ true = sym not_it ∙ and_from (is_text y.name item.name) (not (y.id == item.id)) is (ap not away) in grind (arith, bad))

any_put : (q : UserItem → Bool) (xs : List UserItem) (x : UserItem) → list_any q xs ≡ false → q x ≡ false → list_any q (with_item user_id xs x) ≡ false
any_put q [] x none off = ap (λ b. b || false) off
any_put q (y ∷ ys) x none off = by (nat_lt y.id x.id) (eqb y.id x.id) (any_put q ys x (or_parts (q y) (list_any q ys) none).1 off)
  where
    by : (b d : Bool) → list_any q (with_item user_id ys x) ≡ false → list_any q (match_ordering (cond b Less (cond d Equal Greater)) (y ∷ with_item user_id ys x) (x ∷ ys) (x ∷ y ∷ ys)) ≡ false
    by true d ih = ap (λ b. b || list_any q (with_item user_id ys x)) (or_parts (q y) (list_any q ys) none).0 ∙ ih
    by false true ih = ap (λ b. b || list_any q ys) off ∙ (or_parts (q y) (list_any q ys) none).1
    by false false ih = ap (λ b. b || list_any q (y ∷ ys)) off ∙ none

rises : (k : ℕ) (ks : List ℕ) → ascends_from k ks ≡ true → ascends ks ≡ true
rises k [] e = refl
rises k (n ∷ ns) e = (and_parts (nat_lt k n) (ascends_from n ns) e).1

-- names stay apart where no other user has the new one's
pub names_put : (xs : List UserItem) (item : UserItem) → ascends (map user_id xs) ≡ true → find (has_name item) xs ≡ None → are_apart same_name xs ≡ true → are_apart same_name (with_item user_id xs item) ≡ true
names_put [] item up none apart = refl
names_put (y ∷ ys) item up none apart = by (nat_lt y.id item.id) (eqb y.id item.id) refl refl (names_put ys item (rises y.id (map user_id ys) up) (none_after (has_name item) y ys none).1 (and_parts (not (list_any (same_name y) ys)) (are_apart same_name ys) apart).1)
  where
    later : ascends_from y.id (map user_id ys) ≡ true
    later = up

    others : (has_name item y ≡ false) × (find (has_name item) ys ≡ None)
    others = none_after (has_name item) y ys none

    parts : (not (list_any (same_name y) ys) ≡ true) × (are_apart same_name ys ≡ true)
    parts = and_parts (not (list_any (same_name y) ys)) (are_apart same_name ys) apart

    by : (b d : Bool) → nat_lt y.id item.id ≡ b → eqb y.id item.id ≡ d → are_apart same_name (with_item user_id ys item) ≡ true → are_apart same_name (match_ordering (cond b Less (cond d Equal Greater)) (y ∷ with_item user_id ys item) (item ∷ ys) (item ∷ y ∷ ys)) ≡ true
    by true d lt eq ih =
        let away : eqb y.id item.id ≡ false = grind (arith, nat_tests, lt) in
        let first : list_any (same_name y) ys ≡ false = (let k = parts.0 in grind (arith, k)) in
        and_from _ _ (ap not (any_put (same_name y) ys item first (other_name item y others.0 away))) ih
    by false true lt eq ih =
        let le : item.id ≤ y.id = grind (arith, nat_tests, eq) in
        and_from _ _ (ap not (above_apart item y.id ys le later others.1)) parts.1
    by false false lt eq ih =
        let away : eqb y.id item.id ≡ false = eq in
        let le : item.id ≤ y.id = grind (arith, nat_tests, lt) in
        let one : is_text item.name y.name ≡ false = not_both (is_text item.name y.name) refl away in
        and_from _ _ (ap not (ap (λ b. b || list_any (same_name item) ys) one ∙ above_apart item y.id ys le later others.1)) apart
      where
        not_both : (b : Bool) → is_text item.name y.name ≡ b → eqb y.id item.id ≡ false → b ≡ false
        not_both false is away = refl
        not_both true is away = absurd (let bad : false ≡ true = sym others.0 ∙ and_from (is_text y.name item.name) (not (y.id == item.id)) (flip_text item.name y.name is) (ap not away) in grind (arith, bad))

-- ---- forms

abbrev pub is_version : ℕ → ℕ → FormItem → Bool
is_version i v x = (x.id == i) && (x.version == v)

abbrev pub has_key : ℕ → FormItem → Bool
has_key k x = form_key x == k

pub key_in : (x y : FormItem) → ((x.id == y.id) && (x.version == y.version)) ≡ true → form_key x ≡ form_key y
key_in x y e = let parts = and_parts (x.id == y.id) (x.version == y.version) e in let i : x.id ≡ y.id = (let k = parts.0 in grind (arith, nat_tests, k)) in let v : x.version ≡ y.version = (let k = parts.1 in grind (arith, nat_tests, k)) in (λ j. i j * 100 + v j)

-- no version is found that the new one has
never_found : (i v : ℕ) (x y : FormItem) → is_version i v x ≡ true → (ws : List FormItem) → find (has_key (form_key x)) ws ≡ None → find (is_version i v) ws ≡ Some y → ⊥
never_found i v x y is [] none f = grind (arith, f)
never_found i v x y is (w ∷ ws) none f = on (is_version i v w) refl f (never_found i v x y is ws (none_after (has_key (form_key x)) w ws none).1)
  where
    on : (b : Bool) → is_version i v w ≡ b → cond b (Some w) (find (is_version i v) ws) ≡ Some y → (find (is_version i v) ws ≡ Some y → ⊥) → ⊥
    on false k g ih = ih g
    on true k g ih =
        let p = and_parts (w.id == i) (w.version == v) k in
        let q = and_parts (x.id == i) (x.version == v) is in
        let wi : (w.id == i) ≡ true = p.0 in
        let wv : (w.version == v) ≡ true = p.1 in
        let xi : (x.id == i) ≡ true = q.0 in
        let xv : (x.version == v) ≡ true = q.1 in
        let ids : w.id ≡ x.id = grind (arith, nat_tests, wi, xi) in
        let versions : w.version ≡ x.version = grind (arith, nat_tests, wv, xv) in
        let same : form_key w ≡ form_key x = (λ j. ids j * 100 + versions j) in
        let bad : eqb (form_key w) (form_key x) ≡ false = (none_after (has_key (form_key x)) w ws none).0 in
        grind (arith, nat_tests, bad, same)

-- a version that is found is found with one more that was not there
pub version_found : (i v : ℕ) (xs : List FormItem) (x y : FormItem) → find (has_key (form_key x)) xs ≡ None → find (is_version i v) xs ≡ Some y → find (is_version i v) (with_item form_key xs x) ≡ Some y
version_found i v [] x y none e = absurd (grind (arith, e))
version_found i v (z ∷ zs) x y none e = by (nat_lt (form_key z) (form_key x)) (eqb (form_key z) (form_key x)) refl (version_found i v zs x y (none_after (has_key (form_key x)) z zs none).1)
  where
    later : (find (is_version i v) zs ≡ Some y → find (is_version i v) (with_item form_key zs x) ≡ Some y) → find (is_version i v) (z ∷ with_item form_key zs x) ≡ Some y
    later ih = on (is_version i v z) e
      where
        on : (b : Bool) → cond b (Some z) (find (is_version i v) zs) ≡ Some y → cond b (Some z) (find (is_version i v) (with_item form_key zs x)) ≡ Some y
        on true f = f
        on false f = ih f

    first : find (is_version i v) (x ∷ z ∷ zs) ≡ Some y
    first = on (is_version i v x) refl
      where
        on : (b : Bool) → is_version i v x ≡ b → cond b (Some x) (find (is_version i v) (z ∷ zs)) ≡ Some y
        on false is = e
        on true is = absurd (never_found i v x y is (z ∷ zs) none e)

    by : (b d : Bool) → eqb (form_key z) (form_key x) ≡ d → (find (is_version i v) zs ≡ Some y → find (is_version i v) (with_item form_key zs x) ≡ Some y) → find (is_version i v) (match_ordering (cond b Less (cond d Equal Greater)) (z ∷ with_item form_key zs x) (x ∷ zs) (x ∷ z ∷ zs)) ≡ Some y
    by true d k ih = later ih
    by false true k ih = absurd (let bad : eqb (form_key z) (form_key x) ≡ false = (none_after (has_key (form_key x)) z zs none).0 in grind (arith, bad, k))
    by false false k ih = first

-- what some has, some has with one more that was not there; and the new one may be it
pub some_put : (q : FormItem → Bool) (xs : List FormItem) (x : FormItem) → find (has_key (form_key x)) xs ≡ None → list_any q xs ≡ true → list_any q (with_item form_key xs x) ≡ true
some_put q [] x none e = absurd (grind (arith, e))
some_put q (z ∷ zs) x none e = by (nat_lt (form_key z) (form_key x)) (eqb (form_key z) (form_key x)) refl (some_put q zs x (none_after (has_key (form_key x)) z zs none).1)
  where
    on : (b : Bool) → (b || list_any q zs) ≡ true → (list_any q zs ≡ true → list_any q (with_item form_key zs x) ≡ true) → (b || list_any q (with_item form_key zs x)) ≡ true
    on true f ih = refl
    on false f ih = ih f

    either : (b : Bool) → (b || list_any q (z ∷ zs)) ≡ true
    either true = refl
    either false = e

    by : (b d : Bool) → eqb (form_key z) (form_key x) ≡ d → (list_any q zs ≡ true → list_any q (with_item form_key zs x) ≡ true) → list_any q (match_ordering (cond b Less (cond d Equal Greater)) (z ∷ with_item form_key zs x) (x ∷ zs) (x ∷ z ∷ zs)) ≡ true
    by true d k ih = on (q z) e ih
    by false true k ih = absurd (let bad : eqb (form_key z) (form_key x) ≡ false = (none_after (has_key (form_key x)) z zs none).0 in grind (arith, bad, k))
    by false false k ih = either (q x)

-- a form is found by its own number and version, above a key that all are above
pub own_version : (k : ℕ) (xs : List FormItem) (x : FormItem) → ascends_from k (map form_key xs) ≡ true → Held x xs → (find (is_version x.id x.version) xs ≡ Some x) × (nat_lt k (form_key x) ≡ true)
own_version k [] x up h = absurd h
own_version k (y ∷ ys) x up (inl e) =
    let parts = and_parts (nat_lt k (form_key y)) (ascends_from (form_key y) (map form_key ys)) up in
    let own : is_version x.id x.version y ≡ true = subst (λ (z : FormItem). is_version x.id x.version z ≡ true) e (itself x) in
    (ap (λ b. cond b (Some y) (find (is_version x.id x.version) ys)) own ∙ ap Some (sym e), ap (λ (z : FormItem). nat_lt k (form_key z)) e ∙ parts.0)
  where
    itself : (z : FormItem) → is_version z.id z.version z ≡ true
    itself z = grind (arith, nat_tests)
own_version k (y ∷ ys) x up (inr h) =
    let parts = and_parts (nat_lt k (form_key y)) (ascends_from (form_key y) (map form_key ys)) up in
    let ih = own_version (form_key y) ys x parts.1 h in
    (ap (λ b. cond b (Some y) (find (is_version x.id x.version) ys)) (beside (is_version x.id x.version y) refl ih.1) ∙ ih.0, (let a : nat_lt k (form_key y) ≡ true = parts.0 in let b : nat_lt (form_key y) (form_key x) ≡ true = ih.1 in grind (arith, nat_tests, a, b)))
  where
    beside : (b : Bool) → is_version x.id x.version y ≡ b → nat_lt (form_key y) (form_key x) ≡ true → b ≡ false
    beside false is lt = refl
    beside true is lt = absurd (let same : form_key y ≡ form_key x = key_in y x is in grind (arith, nat_tests, lt, same))

-- the newest version of a form is above each of it
abbrev pub newest_from : ℕ → Option FormItem → List FormItem → Option FormItem
newest_from f before xs = fold (λ (o : Option FormItem) (y : FormItem). cond (y.id == f) (Some y) o) before xs

abbrev pub IsAbove : ℕ → Option FormItem → Type 0
IsAbove k None = ⊥
IsAbove k (Some z) = k ≤ form_key z

pub newest_above : (f k : ℕ) (before : FormItem) (xs : List FormItem) → form_key before ≤ k → ascends_from k (map form_key xs) ≡ true → IsAbove (form_key before) (newest_from f (Some before) xs)
newest_above f k before [] le up = omega arith
newest_above f k before (y ∷ ys) le up = by (y.id == f) (newest_above f (form_key y) y ys (omega arith) (and_parts (nat_lt k (form_key y)) (ascends_from (form_key y) (map form_key ys)) up).1)
    (λ less. newest_above f (form_key y) before ys less (and_parts (nat_lt k (form_key y)) (ascends_from (form_key y) (map form_key ys)) up).1)
  where
    parts : (nat_lt k (form_key y) ≡ true) × (ascends_from (form_key y) (map form_key ys) ≡ true)
    parts = and_parts (nat_lt k (form_key y)) (ascends_from (form_key y) (map form_key ys)) up

    less : form_key before ≤ form_key y
    less = let lt : nat_lt k (form_key y) ≡ true = parts.0 in grind (arith, nat_tests, lt, le)

    raise : (o : Option FormItem) → IsAbove (form_key y) o → IsAbove (form_key before) o
    raise None h = h
    raise (Some z) h = omega (arith, less, h)

    by : (b : Bool) → IsAbove (form_key y) (newest_from f (Some y) ys) → (form_key before ≤ form_key y → IsAbove (form_key before) (newest_from f (Some before) ys)) → IsAbove (form_key before) (newest_from f (cond b (Some y) (Some before)) ys)
    by true one other = raise (newest_from f (Some y) ys) one
    by false one other = other less

pub newest_most : (f k : ℕ) (before : Option FormItem) (xs : List FormItem) (x : FormItem) → ascends_from k (map form_key xs) ≡ true → Held x xs → (x.id == f) ≡ true → IsAbove (form_key x) (newest_from f before xs)
newest_most f k before [] x up h is = absurd h
newest_most f k before (y ∷ ys) x up (inl e) is =
    let parts = and_parts (nat_lt k (form_key y)) (ascends_from (form_key y) (map form_key ys)) up in
    subst (λ (z : FormItem). IsAbove (form_key z) (newest_from f (cond (y.id == f) (Some y) before) ys)) (sym e)
    (subst (λ b. IsAbove (form_key y) (newest_from f (cond b (Some y) before) ys)) (sym (ap (λ (z : FormItem). z.id == f) (sym e) ∙ is)) (newest_above f (form_key y) y ys (omega arith) parts.1))
newest_most f k before (y ∷ ys) x up (inr h) is =
    let parts = and_parts (nat_lt k (form_key y)) (ascends_from (form_key y) (map form_key ys)) up in
    newest_most f (form_key y) (cond (y.id == f) (Some y) before) ys x parts.1 h is
