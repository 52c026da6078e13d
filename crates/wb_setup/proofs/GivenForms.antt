-- The forms of a setup, each in its first version.
use Rattle.std.proofs.Common.{◌≡◌, ◌⊎◌, ℕ, ◌==◌, ◌&&◌, ◌||◌, not, Bool, true, false, List, [], ◌∷◌, ◌++◌, flat_map, Option, Some, None, option_map, option_and_then, unwrap_or, refl, sym, ap, ◌∙◌, subst, arith, inl, inr, eq-eqb, ne_eqb}
use Rattle.std.proofs.lemmas.Bool.{and_parts, and_from, or_parts, or_from, or_left, or_right, not_from_false, not-true, cases_eq, false≢true}
use Rattle.std.specs.List.{list_any, list_all, AllByRecursion}
use Rattle.std.specs.Result.{result_ok}
use Rattle.serde_json.specs.Data.{Data}
use Rattle.wb_base.specs.declared.faults.FormFault.{FormFault}
use Rattle.wb_base.specs.declared.form.Form.{Form}
use Rattle.wb_base.specs.FormFaults.{fault_of, is_good}
use Rattle.wb_base.specs.FormShape.{form_of as shape_of}
use Rattle.wb_base.specs.declared.form.Format.TheVariants.{Plain}
use Rattle.wb_form.proofs.Good.{good-read}
use Rattle.wb_model.specs.declared.registry.FormItem.{FormItem}
use Rattle.wb_model.specs.Bodies.{form, form_if, form_by, json}
use Rattle.wb_model.specs.Fits.{is_between}
use Rattle.wb_model.specs.Settings.{form_key}
use Rattle.wb_model.specs.SetUps.{are_apart, is_form_item}
use Rattle.wb_setup.specs.declared.given.GivenForm.{GivenForm}
use Rattle.wb_setup.specs.declared.given.GivenTenant.{GivenTenant}
use Rattle.wb_setup.specs.Rules.{same_form, form_in, first_version, first_versions, forms_of}
use Rattle.wb_setup.proofs.Groups.{key_ties, are_of}
use Rattle.wb_setup.proofs.Orders.{key, key_total}
use Rattle.wb_setup.proofs.Puts.{same_key}

abbrev owner : FormItem → ℕ
owner x = x.tenant

-- it is the first version of what was given, and good
pub record IsFirst (t : ℕ) (f : GivenForm) (x : FormItem) : Type 0 where
  pub tenant : x.tenant ≡ t
  pub id : x.id ≡ f.id
  pub version : x.version ≡ 1
  pub good : is_good x.form ≡ true

-- and so is each of a list, in its order
abbrev pub AreFirst : ℕ → List GivenForm → List FormItem → Type 0
AreFirst t [] [] = Unit {0}
AreFirst t (f ∷ fs) (x ∷ xs) = IsFirst t f x × AreFirst t fs xs
AreFirst t [] (x ∷ xs) = ⊥
AreFirst t (f ∷ fs) [] = ⊥

-- ---- what is read

read_good : (d : Data) (form : Form) → result_ok (form_if (shape_of d)) ≡ Some form → is_good form ≡ true
read_good d form e = by (shape_of d) refl e
  where
    by_fault : (g : Form) (o : Option FormFault) → shape_of d ≡ Some g → fault_of g ≡ o → result_ok (form_by g o) ≡ Some form → is_good form ≡ true
    by_fault g None shape none h = let same : g ≡ form = (let s : Some g ≡ Some form = h in cc) in ap is_good (sym same) ∙ good-read Plain d g shape none
    by_fault g (Some fault) shape none h = absurd cc

    by : (o : Option Form) → shape_of d ≡ o → result_ok (form_if o) ≡ Some form → is_good form ≡ true
    by None shape h = absurd cc
    by (Some g) shape h = by_fault g (fault_of g) shape refl h

given_good : (f : GivenForm) (made : Form) → form_in f ≡ Some made → is_good made ≡ true
given_good f made e = by (json f.json) made e
  where
    by : (o : Option Data) (g : Form) → option_and_then (λ d. result_ok (form d)) o ≡ Some g → is_good g ≡ true
    by None g h = absurd cc
    by (Some d) g h = read_good d g h

-- what the forms of a tenant are read as
abbrev pub given_forms : GivenTenant → List FormItem
given_forms t = unwrap_or (first_versions t.id t.forms) []

abbrev first_item : ℕ → GivenForm → Form → FormItem
first_item t f form = record { tenant = t; id = f.id; version = 1; form = form }

first_is : (t : ℕ) (f : GivenForm) (made : Form) (x : FormItem) → form_in f ≡ Some made → first_item t f made ≡ x → IsFirst t f x
first_is t f made x is same = record {
  tenant = ap (λ (y : FormItem). y.tenant) (sym same);
  id = ap (λ (y : FormItem). y.id) (sym same);
  version = ap (λ (y : FormItem). y.version) (sym same);
  good = ap (λ (y : FormItem). is_good y.form) (sym same) ∙ given_good f made is;
}

first_by : (t : ℕ) (f : GivenForm) (x : FormItem) → first_version t f ≡ Some x → IsFirst t f x
first_by t f x e = by (form_in f) refl e
  where
    by : (o : Option Form) → form_in f ≡ o → option_map (λ form. first_item t f form) o ≡ Some x → IsFirst t f x
    by None is h = absurd cc
    by (Some made) is h = first_is t f made x is (let s : Some (first_item t f made) ≡ Some x = h in cc)

firsts_by : (t : ℕ) (f : GivenForm) (fs : List GivenForm) (xs : List FormItem) → first_versions t (f ∷ fs) ≡ Some xs → ((ys : List FormItem) → first_versions t fs ≡ Some ys → AreFirst t fs ys) → AreFirst t (f ∷ fs) xs
firsts_by t f fs xs e rest = by (first_version t f) refl (first_versions t fs) refl e
  where
    by_list : (x : FormItem) (ys zs : List FormItem) → IsFirst t f x → AreFirst t fs ys → x ∷ ys ≡ zs → AreFirst t (f ∷ fs) zs
    by_list x ys zs one all same = subst (AreFirst t (f ∷ fs)) same (one, all)

    by : (o : Option FormItem) → first_version t f ≡ o → (p : Option (List FormItem)) → first_versions t fs ≡ p → option_and_then (λ x. option_map (λ ys. x ∷ ys) p) o ≡ Some xs → AreFirst t (f ∷ fs) xs
    by None a p b h = absurd cc
    by (Some x) a None b h = absurd cc
    by (Some x) a (Some ys) b h = by_list x ys xs (first_by t f x a) (rest ys b) (let s : Some (x ∷ ys) ≡ Some xs = h in cc)

pub versions_first : (t : ℕ) (fs : List GivenForm) (xs : List FormItem) → first_versions t fs ≡ Some xs → AreFirst t fs xs
versions_first t [] [] e = tt
versions_first t [] (x ∷ xs) e = absurd cc
versions_first t (f ∷ fs) xs e = firsts_by t f fs xs e (λ ys h. versions_first t fs ys h)

-- the forms of all tenants are those of each, one tenant's after another's
pub all_first : (ts : List GivenTenant) (forms : List FormItem) → forms_of ts ≡ Some forms → (forms ≡ flat_map given_forms ts) × AllByRecursion (λ t. AreFirst t.id t.forms (given_forms t)) ts
all_first [] forms e = ((let s : Some [] ≡ Some forms = e in cc), tt)
all_first (t ∷ ts) forms e = by (first_versions t.id t.forms) refl (forms_of ts) refl e (λ ys is. all_first ts ys is)
  where
    by : (o : Option (List FormItem)) → first_versions t.id t.forms ≡ o → (p : Option (List FormItem)) → forms_of ts ≡ p → option_and_then (λ xs. option_map (λ ys. xs ++ ys) p) o ≡ Some forms
        → ((ys : List FormItem) → forms_of ts ≡ Some ys → (ys ≡ flat_map given_forms ts) × AllByRecursion (λ s. AreFirst s.id s.forms (given_forms s)) ts)
        → (forms ≡ given_forms t ++ flat_map given_forms ts) × AllByRecursion (λ s. AreFirst s.id s.forms (given_forms s)) (t ∷ ts)
    by None a p b h more = absurd cc
    by (Some xs) a None b h more = absurd cc
    by (Some xs) a (Some ys) b h more =
        let rest = more ys b in
        let here : given_forms t ≡ xs = ap (λ o. unwrap_or o []) a in
        let same : xs ++ ys ≡ forms = (let s : Some (xs ++ ys) ≡ Some forms = h in cc) in
        (sym same ∙ (ap (λ zs. zs ++ ys) (sym here) ∙ ap (λ zs. given_forms t ++ zs) rest.0), (subst (AreFirst t.id t.forms) (sym here) (versions_first t.id t.forms xs a), rest.1))

-- ---- what first versions are

pub firsts_of : (t : ℕ) (fs : List GivenForm) (xs : List FormItem) → AreFirst t fs xs → are_of owner t xs ≡ true
firsts_of t [] [] all = refl
firsts_of t (f ∷ fs) (x ∷ xs) all = and_from (x.tenant == t) (are_of owner t xs) (eq-eqb x.tenant t all.0.tenant) (firsts_of t fs xs all.1)
firsts_of t [] (x ∷ xs) all = absurd all
firsts_of t (f ∷ fs) [] all = absurd all

-- a tenant's forms are its own, also where they are not read
pub given_mine : (t : GivenTenant) → are_of owner t.id (given_forms t) ≡ true
given_mine t = by (first_versions t.id t.forms) refl
  where
    by : (o : Option (List FormItem)) → first_versions t.id t.forms ≡ o → are_of owner t.id (unwrap_or o []) ≡ true
    by None e = refl
    by (Some xs) e = firsts_of t.id t.forms xs (versions_first t.id t.forms xs e)

pub firsts_right : (t : ℕ) (fs : List GivenForm) (xs : List FormItem) → AreFirst t fs xs → list_all (λ (f : GivenForm). is_between 1 16 f.id) fs ≡ true → list_all is_form_item xs ≡ true
firsts_right t [] [] all ids = refl
firsts_right t (f ∷ fs) (x ∷ xs) all ids =
    let parts = and_parts (is_between 1 16 f.id) (list_all (λ (g : GivenForm). is_between 1 16 g.id) fs) ids in
    let one : is_form_item x ≡ true = and_from (is_between 1 16 x.id && is_between 1 99 x.version) (is_good x.form) (and_from (is_between 1 16 x.id) (is_between 1 99 x.version) (ap (is_between 1 16) all.0.id ∙ parts.0) (ap (is_between 1 99) all.0.version)) all.0.good in
    and_from (is_form_item x) (list_all is_form_item xs) one (firsts_right t fs xs all.1 parts.1)
firsts_right t [] (x ∷ xs) all ids = absurd all
firsts_right t (f ∷ fs) [] all ids = absurd all

pub firsts_numbered : (t : ℕ) (fs : List GivenForm) (xs : List FormItem) → AreFirst t fs xs → list_all (λ (x : FormItem). x.version == 1) xs ≡ true
firsts_numbered t [] [] all = refl
firsts_numbered t (f ∷ fs) (x ∷ xs) all = and_from (x.version == 1) (list_all (λ (y : FormItem). y.version == 1) xs) (eq-eqb x.version 1 all.0.version) (firsts_numbered t fs xs all.1)
firsts_numbered t [] (x ∷ xs) all = absurd all
firsts_numbered t (f ∷ fs) [] all = absurd all

-- a form that was given is there
pub firsts_have : (t id : ℕ) (fs : List GivenForm) (xs : List FormItem) → AreFirst t fs xs → list_any (λ (f : GivenForm). f.id == id) fs ≡ true → list_any (λ (x : FormItem). (x.tenant == t) && (x.id == id)) xs ≡ true
firsts_have t id [] [] all there = there
firsts_have t id (f ∷ fs) (x ∷ xs) all there = by (f.id == id) refl there (λ e. firsts_have t id fs xs all.1 e)
  where
    by : (b : Bool) → (f.id == id) ≡ b → (b || list_any (λ (g : GivenForm). g.id == id) fs) ≡ true → (list_any (λ (g : GivenForm). g.id == id) fs ≡ true → list_any (λ (y : FormItem). (y.tenant == t) && (y.id == id)) xs ≡ true)
        → list_any (λ (y : FormItem). (y.tenant == t) && (y.id == id)) (x ∷ xs) ≡ true
    by true is e rest = or_left ((x.tenant == t) && (x.id == id)) (list_any (λ (y : FormItem). (y.tenant == t) && (y.id == id)) xs) (and_from (x.tenant == t) (x.id == id) (eq-eqb x.tenant t all.0.tenant) (ap (λ n. n == id) all.0.id ∙ is))
    by false is e rest = or_right ((x.tenant == t) && (x.id == id)) (list_any (λ (y : FormItem). (y.tenant == t) && (y.id == id)) xs) (rest e)
firsts_have t id [] (x ∷ xs) all there = absurd all
firsts_have t id (f ∷ fs) [] all there = absurd all

-- two of other ids have other keys
never_both : (b : Bool) → (b && false) ≡ false
never_both true = refl
never_both false = refl

other_keys : (x y : FormItem) → x.version ≡ 1 → y.version ≡ 1 → (x.id == y.id) ≡ false → same_key key_total (key owner form_key) x y ≡ false
other_keys x y first second off = by (cases_eq (form_key y) (form_key x))
  where
    by : (form_key y ≡ form_key x) ⊎ (form_key y ≡ form_key x → ⊥) → same_key key_total (key owner form_key) x y ≡ false
    by (inl is) = (let same : x.id ≡ y.id = omega (arith, first, second, is) in absurd (false≢true (sym off ∙ eq-eqb x.id y.id same)))
    by (inr ne) = key_ties owner form_key x y ∙ (ap (λ b. (y.tenant == x.tenant) && b) (ne_eqb (form_key y) (form_key x) ne) ∙ never_both (y.tenant == x.tenant))

none_other : (t : ℕ) (f : GivenForm) (x : FormItem) → IsFirst t f x → (fs : List GivenForm) (xs : List FormItem) → AreFirst t fs xs → list_any (same_form f) fs ≡ false → list_any (same_key key_total (key owner form_key) x) xs ≡ false
none_other t f x one [] [] all none = refl
none_other t f x one (g ∷ gs) (y ∷ ys) all none =
    let parts = or_parts (same_form f g) (list_any (same_form f) gs) none in
    let off : (x.id == y.id) ≡ false = rw (one.id, all.0.id) parts.0 in
    or_from (same_key key_total (key owner form_key) x y) (list_any (same_key key_total (key owner form_key) x) ys) (other_keys x y one.version all.0.version off) (none_other t f x one gs ys all.1 parts.1)
none_other t f x one [] (y ∷ ys) all none = absurd all
none_other t f x one (g ∷ gs) [] all none = absurd all

pub firsts_apart : (t : ℕ) (fs : List GivenForm) (xs : List FormItem) → AreFirst t fs xs → are_apart same_form fs ≡ true → are_apart (same_key key_total (key owner form_key)) xs ≡ true
firsts_apart t [] [] all apart = refl
firsts_apart t (f ∷ fs) (x ∷ xs) all apart =
    let parts = and_parts (not (list_any (same_form f) fs)) (are_apart same_form fs) apart in
    and_from _ (are_apart (same_key key_total (key owner form_key)) xs) (not_from_false _ (none_other t f x all.0 fs xs all.1 (not-true _ parts.0))) (firsts_apart t fs xs all.1 parts.1)
firsts_apart t [] (x ∷ xs) all apart = absurd all
firsts_apart t (f ∷ fs) [] all apart = absurd all
