-- A setting that is asked for in its ranges and is not refused keeps the rules.
use Rattle.std.proofs.Common.{◌≡◌, ◌≢◌, ◌⊎◌, inl, inr, ℕ, zero, suc, ◌+◌, ◌*◌, ◌≤◌, Bool, true, false, cond, not, List, [], ◌∷◌, ◌++◌, length, Option, Some, None, refl, sym, ap, ◌∙◌, subst, arith}
use Rattle.std.specs.Prelude.{map, find, fold, slice_index, is_some, nat_le, ◌<◌, ◌&&◌, ◌||◌, ◌==◌, Ok, Err}
use Rattle.std.specs.List.{list_all, list_any}
use Rattle.std.specs.Option.{option_map_or, option_or}
use Rattle.std.specs.Int.{to_be_bytes, w32, byte_at}
use Rattle.std.proofs.lemmas.Bool.{and_parts, and_from}
use Rattle.std.proofs.lemmas.Bool.Decides.{nat_tests}
use Rattle.std.proofs.lemmas.List.Folds.{list_all-append}
use Rattle.sha2.specs.Sha256.{sha256, digest_bytes}
use Rattle.sha2.proofs.Facts256.{length-sha256}
use Rattle.wb_base.specs.FormFaults.{is_good}
use Rattle.wb_base.specs.Secrets.{digest}
use Rattle.wb_base.specs.declared.words.Salt.{Salt}
use Rattle.wb_base.specs.declared.form.Form.{Form}
use Rattle.wb_model.specs.declared.command.ContextSet.{ContextSet}
use Rattle.wb_model.specs.declared.command.UserSet.{UserSet}
use Rattle.wb_model.specs.declared.registry.FormItem.{FormItem}
use Rattle.wb_model.specs.declared.registry.UserItem.{UserItem}
use Rattle.wb_model.specs.declared.setting.AdminFault.TheVariants.{NotFound, NoPassword, RoleFixed, Full}
use Rattle.wb_model.specs.Tables.{Registry, user, newest_form, same_role}
use Rattle.wb_model.specs.Faults.{admin_told}
use Rattle.wb_model.specs.Refusing.{refuses_where}
use Rattle.wb_model.specs.Settings.{Setting, OfUser, OfContext, OfForm, form_key, in_range, times_disabled, disables, password_digest, user_item, ends_sessions, name_taken, role_fixed, user_fault, is_recipient, context_fault, context_item, next_version, form_fault, form_item, Proposal, ToTenant, ToUser, ToContext, ToForm, proposal_refusal, setting_of}
use Rattle.wb_model.specs.SetUps.{is_user_item, is_form_item}
use Rattle.wb_model.specs.Fits.{is_between, has_bytes, is_staff_role, fits_user, fits_context, fits_password, are_distinct}
use Rattle.wb_model.specs.Legal.{ascends}
use Rattle.wb_model.specs.Opened.{AreOrdered}
use Rattle.wb_model.specs.Readable.{is_byte, are_bytes, is_own_user, is_own_form, is_own_context, follows_in, has_id_of, IsOwn}
use Rattle.wb_model.proofs.Found.{Held, find_held, decide, other_number}
use Rattle.wb_model.proofs.Effects.{FitsProposal}
use Rattle.wb_model.proofs.SoundRegistries.{put, context_right}
use Rattle.wb_model.proofs.ItemPuts.{held_all, put_all, role_is, has_key, newest_above, newest_most, newest_from, IsAbove}
use Rattle.wb_model.proofs.SettingsKeep.{KeepsRole, Keeps}
use Rattle.wb_base.proofs.Options.{first_none, mapped_none}

abbrev pub PutsSetting : ℕ → Registry → Option Setting → Type 0
PutsSetting t g None = Unit {0}
PutsSetting t g (Some s) = Keeps t g s

-- ---- a digest has 32 bytes

small_byte : (k x : ℕ) → is_byte (byte_at k x) ≡ true
small_byte zero x = let lt : byte_at zero x < 256 = omega arith in grind (arith, nat_tests, lt)
small_byte (suc i) x = let lt : byte_at (suc i) x < 256 = omega arith in grind (arith, nat_tests, lt)

word_bytes : (x : ℕ) → list_all is_byte (to_be_bytes w32 x) ≡ true
word_bytes x = and_from _ _ (small_byte 3 x) (and_from _ _ (small_byte 2 x) (and_from _ _ (small_byte 1 x) (and_from _ _ (small_byte 0 x) refl)))

state_bytes : (h : List ℕ) (n : ℕ) → list_all is_byte (digest_bytes h n) ≡ true
unfolding digest_bytes
state_bytes h zero = refl
state_bytes h (suc n) = list_all-append is_byte (digest_bytes h n) _ ∙ and_from _ _ (state_bytes h n) (word_bytes (slice_index h n))

pub digest_right : (salt : Salt) (text : List ℕ) → are_bytes 32 (digest salt text).0 ≡ true
unfolding digest sha256
digest_right salt text = and_from _ _ (let n : length (sha256 (salt.0 ++ text)) ≡ 32 = length-sha256 (salt.0 ++ text) in grind (arith, nat_tests, n)) (state_bytes _ 8)

-- ---- parts

passes : {F : Type 0} (b : Bool) (fault : F) → refuses_where (not b) fault ≡ None → b ≡ true
passes true fault e = refl
passes false fault e = absurd (grind (arith, e))

own_tenant : (t : ℕ) → (t == t) ≡ true
own_tenant t = grind (arith, nat_tests)

-- ---- a user

user_right : (t : ℕ) (g : Registry) (u : ℕ) (next : UserSet) → IsOwn t g → fits_user next ≡ true → user_fault g.users u next ≡ None → Keeps t g (OfUser (user_item t g.settings.salt u (user u g.users) next) (ends_sessions next))
user_right t g u next own fits free = (own_one, mapped_none _ _ taken.0, kept (user u g.users) (first_none (role_fixed (user u g.users) next) _ taken.1).0)
  where
    parts : (refuses_where (not (in_range 256 u)) NotFound ≡ None) × (option_or (refuses_where (not (is_some (user u g.users) || is_some next.password)) NoPassword) (option_or (name_taken u next g.users) (option_or (role_fixed (user u g.users) next) (refuses_where (disables (user u g.users) next && nat_le 10_000 (times_disabled (user u g.users))) Full))) ≡ None)
    parts = first_none (refuses_where (not (in_range 256 u)) NotFound) (option_or (refuses_where (not (is_some (user u g.users) || is_some next.password)) NoPassword) (option_or (name_taken u next g.users) (option_or (role_fixed (user u g.users) next) (refuses_where (disables (user u g.users) next && nat_le 10_000 (times_disabled (user u g.users))) Full)))) free

    named : (refuses_where (not (is_some (user u g.users) || is_some next.password)) NoPassword ≡ None) × (option_or (name_taken u next g.users) (option_or (role_fixed (user u g.users) next) (refuses_where (disables (user u g.users) next && nat_le 10_000 (times_disabled (user u g.users))) Full)) ≡ None)
    named = first_none (refuses_where (not (is_some (user u g.users) || is_some next.password)) NoPassword) (option_or (name_taken u next g.users) (option_or (role_fixed (user u g.users) next) (refuses_where (disables (user u g.users) next && nat_le 10_000 (times_disabled (user u g.users))) Full))) parts.1

    taken : (name_taken u next g.users ≡ None) × (option_or (role_fixed (user u g.users) next) (refuses_where (disables (user u g.users) next && nat_le 10_000 (times_disabled (user u g.users))) Full) ≡ None)
    taken = first_none (name_taken u next g.users) (option_or (role_fixed (user u g.users) next) (refuses_where (disables (user u g.users) next && nat_le 10_000 (times_disabled (user u g.users))) Full)) named.1

    full : refuses_where (disables (user u g.users) next && nat_le 10_000 (times_disabled (user u g.users))) Full ≡ None
    full = (first_none (role_fixed (user u g.users) next) (refuses_where (disables (user u g.users) next && nat_le 10_000 (times_disabled (user u g.users))) Full) taken.1).1

    kept : (o : Option UserItem) → role_fixed o next ≡ None → KeepsRole o (user_item t g.settings.salt u (user u g.users) next)
    kept None e = tt
    kept (Some x) e = sym (role_is x.role next.role (passes (same_role x.role next.role) (RoleFixed x.role) e))

    before : (x : UserItem) → user u g.users ≡ Some x → (nat_le x.disabled 10_000 ≡ true) × (are_bytes 32 x.secret.0 ≡ true)
    before x e =
        let is = held_all (is_own_user t) g.users x own.users (find_held (λ (y : UserItem). y.id == u) g.users x e) in
        let a = and_parts ((x.tenant == t) && is_user_item x) (are_bytes 32 x.secret.0) is in
        let b = and_parts (x.tenant == t) (is_user_item x) a.0 in
        ((and_parts (is_between 1 256 x.id && has_bytes 1 64 x.name && is_staff_role x.role) (nat_le x.disabled 10_000) b.1).1, a.1)

    counted : (o : Option UserItem) → ((x : UserItem) → o ≡ Some x → nat_le x.disabled 10_000 ≡ true) → refuses_where (disables o next && nat_le 10_000 (times_disabled o)) Full ≡ None → nat_le (cond (disables o next) (times_disabled o + 1) (times_disabled o)) 10_000 ≡ true
    counted o few e = by (disables o next) (nat_le 10_000 (times_disabled o)) refl e
      where
        most : nat_le (times_disabled o) 10_000 ≡ true
        most = of o few
          where
            of : (p : Option UserItem) → ((x : UserItem) → p ≡ Some x → nat_le x.disabled 10_000 ≡ true) → nat_le (times_disabled p) 10_000 ≡ true
            of None f = grind (arith, nat_tests)
            of (Some x) f = f x refl

        by : (b d : Bool) → nat_le 10_000 (times_disabled o) ≡ d → refuses_where (b && d) Full ≡ None → nat_le (cond b (times_disabled o + 1) (times_disabled o)) 10_000 ≡ true
        by false d is f = most
        by true true is f = absurd (grind (arith, f))
        by true false is f = grind (arith, nat_tests, is)

    secret : (o : Option UserItem) (p : Option (List ℕ)) → ((x : UserItem) → o ≡ Some x → are_bytes 32 x.secret.0 ≡ true) → are_bytes 32 (password_digest g.settings.salt o p).0 ≡ true
    secret o (Some password) few = digest_right g.settings.salt password
    secret None None few = digest_right g.settings.salt []
    secret (Some x) None few = few x refl

    own_one : is_own_user t (user_item t g.settings.salt u (user u g.users) next) ≡ true
    own_one =
        let a = and_parts (has_bytes 1 64 next.name && is_staff_role next.role) (fits_password next.password) fits in
        let b = and_parts (has_bytes 1 64 next.name) (is_staff_role next.role) a.0 in
        and_from _ _ (and_from _ _ (own_tenant t) (and_from _ _ (and_from _ _ (and_from _ _ (passes (in_range 256 u) NotFound parts.0) b.0) b.1) (counted (user u g.users) (λ x e. (before x e).0) full))) (secret (user u g.users) next.password (λ x e. (before x e).1))

-- ---- a context

newest_any : (f : ℕ) (before : Option FormItem) (xs : List FormItem) → is_some (newest_from f before xs) ≡ true → is_some before ≡ false → list_any (has_id_of f) xs ≡ true
newest_any f before [] e not_before = absurd (grind (arith, e, not_before))
newest_any f before (y ∷ ys) e not_before = by (y.id == f) e (newest_any f before ys)
  where
    by : (b : Bool) → is_some (newest_from f (cond b (Some y) before) ys) ≡ true → (is_some (newest_from f before ys) ≡ true → is_some before ≡ false → list_any (has_id_of f) ys ≡ true) → (b || list_any (has_id_of f) ys) ≡ true
    by true g ih = refl
    by false g ih = ih g not_before

sorted_all : (q : ℕ → Bool) (before xs : List ℕ) → list_all q before ≡ true → list_all q xs ≡ true → list_all q (fold put before xs) ≡ true
sorted_all q before [] all more = all
sorted_all q before (x ∷ xs) all more = let parts = and_parts (q x) (list_all q xs) more in sorted_all q (put before x) xs (put_all q (λ (n : ℕ). n) before x all parts.0) parts.1

set_context : (t : ℕ) (g : Registry) (c : ℕ) (next : ContextSet) → fits_context next ≡ true → context_fault g c next ≡ None → is_own_context t g.users g.forms (context_item t c next) ≡ true
set_context t g c next fits free =
    let known = passes (in_range 64 c && is_some (newest_form next.form g.forms) && list_all (is_recipient g.users) next.recipients) NotFound free in
    let a = and_parts (in_range 64 c && is_some (newest_form next.form g.forms)) (list_all (is_recipient g.users) next.recipients) known in
    let b = and_parts (in_range 64 c) (is_some (newest_form next.form g.forms)) a.0 in
    let right = context_right t c next fits in
    let f = and_parts (has_bytes 1 128 next.name && is_between 1 16 next.form && is_between 1 32 (length next.recipients) && are_distinct next.recipients) (is_between 1 3_650 next.retention) fits in
    let h = and_parts (has_bytes 1 128 next.name && is_between 1 16 next.form && is_between 1 32 (length next.recipients)) (are_distinct next.recipients) f.0 in
    let j = and_parts (has_bytes 1 128 next.name && is_between 1 16 next.form) (is_between 1 32 (length next.recipients)) h.0 in
    let k = and_parts (has_bytes 1 128 next.name) (is_between 1 16 next.form) j.0 in
    and_from _ _ (and_from _ _ (and_from _ _ (own_tenant t) (and_from _ _ (and_from _ _ (and_from _ _ b.0 k.0) f.1) right.2)) (newest_any next.form None g.forms b.1 refl)) (sorted_all (is_recipient g.users) [] next.recipients refl a.1)

-- ---- a form

pub newest_held : (f : ℕ) (before : Option FormItem) (xs : List FormItem) (x : FormItem) → newest_from f before xs ≡ Some x → (before ≡ Some x) ⊎ (Held x xs × ((x.id == f) ≡ true))
newest_held f before [] x e = inl e
newest_held f before (y ∷ ys) x e = by (y.id == f) refl (newest_held f (cond (y.id == f) (Some y) before) ys x e)
  where
    by : (b : Bool) → (y.id == f) ≡ b → (cond b (Some y) before ≡ Some x) ⊎ (Held x ys × ((x.id == f) ≡ true)) → (before ≡ Some x) ⊎ (((x ≡ y) ⊎ Held x ys) × ((x.id == f) ≡ true))
    by true is (inl k) = let same : y ≡ x = cc in inr (inl (sym same), ap (λ (z : FormItem). z.id == f) (sym same) ∙ is)
    by false is (inl k) = inl k
    by b is (inr h) = inr (inr h.0, h.1)

any_held : (q : FormItem → Bool) (xs : List FormItem) (x : FormItem) → Held x xs → q x ≡ true → list_any q xs ≡ true
any_held q [] x h is = absurd h
any_held q (y ∷ ys) x (inl e) is = ap (λ b. b || list_any q ys) (ap q (sym e) ∙ is)
any_held q (y ∷ ys) x (inr h) is = by (q y) (any_held q ys x h is)
  where
    by : (b : Bool) → list_any q ys ≡ true → (b || list_any q ys) ≡ true
    by true ih = refl
    by false ih = ih

none_held : (q : FormItem → Bool) (xs : List FormItem) → ((x : FormItem) → Held x xs → q x ≡ false) → find q xs ≡ None
none_held q [] up = refl
none_held q (y ∷ ys) up = ap (λ b. cond b (Some y) (find q ys)) (up y (inl refl)) ∙ none_held q ys (λ x h. up x (inr h))

set_form : (t : ℕ) (g : Registry) (f : ℕ) (form : Form) → IsOwn t g → AreOrdered g → is_good form ≡ true → form_fault g.forms f ≡ None → Keeps t g (OfForm (form_item t f g.forms form))
set_form t g f form own order good free = (own_one, follow (newest_form f g.forms) refl, none_held (has_key (form_key item)) g.forms (λ x h. new_key x h (decide x.id f)))
  where
    item : FormItem
    item = form_item t f g.forms form

    parts : (in_range 16 f ≡ true) × (nat_le (next_version f g.forms) 99 ≡ true)
    parts = let two = first_none (refuses_where (not (in_range 16 f)) NotFound) (refuses_where (not (nat_le (next_version f g.forms) 99)) Full) free in (passes (in_range 16 f) NotFound two.0, passes (nat_le (next_version f g.forms) 99) Full two.1)

    least : nat_le 1 (next_version f g.forms) ≡ true
    least = let le : 1 ≤ next_version f g.forms = omega arith in grind (arith, nat_tests, le)

    own_one : is_own_form t (form_item t f g.forms form) ≡ true
    own_one = and_from _ _ (own_tenant t) (and_from _ _ (and_from _ _ parts.0 (and_from _ _ least parts.1)) good)

    follow : (o : Option FormItem) → newest_form f g.forms ≡ o → follows_in g.forms (form_item t f g.forms form) ≡ true
    follow None e = ap (λ (o : Option FormItem). nat_le (option_map_or (λ (x : FormItem). x.version) o 0 + 1) 1 || list_any (λ (y : FormItem). (y.id == f) && (y.version + 1 == next_version f g.forms)) g.forms) e
    follow (Some z) e = later (nat_le (next_version f g.forms) 1) (there (newest_held f None g.forms z e))
      where
        next : next_version f g.forms ≡ z.version + 1
        next = ap (λ (o : Option FormItem). option_map_or (λ (x : FormItem). x.version) o 0 + 1) e

        there : (None ≡ Some z) ⊎ (Held z g.forms × ((z.id == f) ≡ true)) → list_any (λ (y : FormItem). (y.id == f) && (y.version + 1 == next_version f g.forms)) g.forms ≡ true
        there (inl bad) = absurd (grind (arith, bad))
        there (inr h) = any_held _ g.forms z h.0 (and_from _ _ h.1 (let n : next_version f g.forms ≡ z.version + 1 = next in grind (arith, nat_tests, n)))

        later : (b : Bool) → list_any (λ (y : FormItem). (y.id == f) && (y.version + 1 == next_version f g.forms)) g.forms ≡ true → (b || list_any (λ (y : FormItem). (y.id == f) && (y.version + 1 == next_version f g.forms)) g.forms) ≡ true
        later true k = refl
        later false k = k

    ranged : (x : FormItem) → Held x g.forms → (1 ≤ x.version) × (x.version ≤ 99)
    ranged x h =
        let is = held_all (is_own_form t) g.forms x own.forms h in
        let a = and_parts (x.tenant == t) (is_form_item x) is in
        let b = and_parts (is_between 1 16 x.id && is_between 1 99 x.version) (is_good x.form) a.1 in
        let c = and_parts (is_between 1 16 x.id) (is_between 1 99 x.version) b.0 in
        let d = and_parts (nat_le 1 x.version) (nat_le x.version 99) c.1 in
        ((let k : nat_le 1 x.version ≡ true = d.0 in grind (arith, nat_tests, k)), (let k : nat_le x.version 99 ≡ true = d.1 in grind (arith, nat_tests, k)))

    rises : (xs : List FormItem) → ascends (map form_key xs) ≡ true → (x : FormItem) → Held x xs → (x.id == f) ≡ true → IsAbove (form_key x) (newest_from f None xs)
    rises [] up x h is = absurd h
    rises (y ∷ ys) up x (inl e) is = subst (λ (z : FormItem). IsAbove (form_key z) (newest_from f (cond (y.id == f) (Some y) None) ys)) (sym e)
        (subst (λ b. IsAbove (form_key y) (newest_from f (cond b (Some y) None) ys)) (sym (ap (λ (z : FormItem). z.id == f) (sym e) ∙ is)) (newest_above f (form_key y) y ys (omega arith) up))
    rises (y ∷ ys) up x (inr h) is = newest_most f (form_key y) (cond (y.id == f) (Some y) None) ys x up h is

    below : (x : FormItem) → x.id ≡ f → (o : Option FormItem) → newest_form f g.forms ≡ o → IsAbove (form_key x) o → form_key x ≢ form_key item
    below x same None e h = absurd h
    below x same (Some z) e h = of (newest_held f None g.forms z e)
      where
        of : (None ≡ Some z) ⊎ (Held z g.forms × ((z.id == f) ≡ true)) → form_key x ≢ form_key item
        of (inl bad) = absurd (grind (arith, bad))
        of (inr k) = λ eq.
            let next : next_version f g.forms ≡ z.version + 1 = ap (λ (o : Option FormItem). option_map_or (λ (y : FormItem). y.version) o 0 + 1) e in
            let id : z.id ≡ f = (let is : (z.id == f) ≡ true = k.1 in grind (arith, nat_tests, is)) in
            let less : x.id * 100 + x.version ≤ z.id * 100 + z.version = h in
            let keys : x.id * 100 + x.version ≡ f * 100 + next_version f g.forms = eq in
            omega (arith, next, id, less, keys)

    new_key : (x : FormItem) → Held x g.forms → (x.id ≡ f) ⊎ (x.id ≢ f) → has_key (form_key item) x ≡ false
    new_key x h (inl same) = other_number (form_key x) (form_key item) (below x same (newest_form f g.forms) refl (rises g.forms order.forms x h (grind (arith, nat_tests, same))))
    new_key x h (inr away) = other_number (form_key x) (form_key item) (λ eq. away (
        let range = ranged x h in
        let low : 1 ≤ x.version = range.0 in
        let high : x.version ≤ 99 = range.1 in
        let most : next_version f g.forms ≤ 99 = (let k : nat_le (next_version f g.forms) 99 ≡ true = parts.1 in grind (arith, nat_tests, k)) in
        let some : 1 ≤ next_version f g.forms = omega arith in
        let keys : x.id * 100 + x.version ≡ f * 100 + next_version f g.forms = eq in
        omega (arith, low, high, most, some, keys)))

-- ---- all settings

pub proposal_right : (t : ℕ) (g : Registry) (x : Proposal) → IsOwn t g → AreOrdered g → FitsProposal x → proposal_refusal g x ≡ None → PutsSetting t g (setting_of t g x)
proposal_right t g (ToTenant next) own order fits free = fits
proposal_right t g (ToUser u next) own order fits free = user_right t g u next own fits (mapped_none (admin_told 10_000) (user_fault g.users u next) free)
proposal_right t g (ToContext c next) own order fits free = by (nat_le 1 next.retention)
  where
    by : (b : Bool) → PutsSetting t g (cond b (Some (OfContext (context_item t c next))) None)
    by true = set_context t g c next fits (mapped_none (admin_told 0) (context_fault g c next) free)
    by false = tt
proposal_right t g (ToForm f (Ok form)) own order fits free = set_form t g f form own order fits (mapped_none (admin_told 99) (form_fault g.forms f) free)
proposal_right t g (ToForm f (Err fault)) own order fits free = tt
