-- What a setup gives by its first rule is in its ranges.
use Rattle.std.proofs.Common.{◌≡◌, ℕ, ◌*◌, ◌<◌, ◌==◌, suc, ◌&&◌, nat_le, Result, Ok, Err, arith, eqb-true, Bool, true, false, if◌then◌else◌, cond, codes, List, [], ◌∷◌, length, Option, Some, None, IfSome, option_map, option_and_then, ℤ, pos, negsuc, neg_ℤ, unsigned_abs, refl}
use Rattle.std.proofs.lemmas.Bool.{and_parts, and_from, false≢true}
use Rattle.std.proofs.lemmas.Bool.Decides.{nat_tests}
use Rattle.std.proofs.lemmas.Int.{ints}
use Rattle.std.specs.Prelude.{int_le}
use Rattle.std.specs.Result.{result_ok}
use Rattle.hex.specs.declared.error.FromHexError.{FromHexError}
use Rattle.hex.specs.Hex.{IsBytes, decode_of}
use Rattle.hex.proofs.HexLemmas.{decode_of-ok}
use Rattle.std.specs.List.{list_all, AllByRecursion}
use Rattle.toml.specs.Data.{Data, Items, no_items, item, get, as_str, as_bool, as_array, as_integer}
use Rattle.wb_base.specs.declared.callers.Role.{Role}
use Rattle.wb_base.specs.declared.callers.Role.TheVariants as roles
use Rattle.wb_base.specs.declared.words.Salt.{Salt}
use Rattle.wb_base.specs.AnswerList.{is_text}
use Rattle.wb_base.specs.Calendars.{Calendar, are_holidays}
use Rattle.wb_base.specs.DateTexts.{read_date}
use Rattle.wb_base.specs.FormShape.{keep}
use Rattle.wb_model.specs.declared.registry.Rights.{Rights}
use Rattle.wb_model.specs.Bodies.{role_named}
use Rattle.wb_model.specs.Fits.{is_between, has_bytes, is_lower_hex, is_staff_role}
use Rattle.wb_model.specs.Readable.{is_byte, are_bytes, is_date, are_dates, is_stored_tenant}
use Rattle.wb_model.specs.Legal.{are_readers}
use Rattle.wb_model.specs.Settings.{ascending}
use Rattle.wb_model.specs.SetUps.{is_offset, is_tenant_item, is_user_item, is_context_item}
use Rattle.wb_setup.specs.declared.given.GivenUser.{GivenUser}
use Rattle.wb_setup.specs.declared.given.GivenForm.{GivenForm}
use Rattle.wb_setup.specs.declared.given.GivenContext.{GivenContext}
use Rattle.wb_setup.specs.declared.given.GivenTenant.{GivenTenant}
use Rattle.wb_setup.specs.Given.{role, rights, recipients, is_salt_text, salt_named, salt, user_keys, user_of, form_of, context_keys, context_of, tenant_keys, tenant_of, tenants_of, has_format, if_flag, day, holidays, calendar}
use Rattle.wb_setup.specs.Setups.{tenant_item, user_item, context_item}
use Rattle.wb_setup.specs.TomlValues.{has_only, of_keys, under, text, is_within, number, whole, all_of, list_of, if_listed, optional}
use Rattle.wb_terms.proofs.ReadExactly.{read_date-bounds}
use Rattle.wb_setup.proofs.Recipients.{readers_right}

-- what a tenant is known to be by the first rule
pub record IsGiven (t : GivenTenant) : Type 0 where
  pub item : is_tenant_item (tenant_item t) ≡ true
  pub users : list_all (λ u. is_user_item (user_item t u)) t.users ≡ true
  pub forms : list_all (λ (f : GivenForm). is_between 1 16 f.id) t.forms ≡ true
  pub contexts : list_all (λ c. is_context_item (context_item t c)) t.contexts ≡ true
  pub stored : is_stored_tenant (tenant_item t) ≡ true

-- ---- values

kept : {X : Type 0} (test : X → Bool) (o : Option X) → IfSome (option_and_then (keep test) o) (λ x. test x ≡ true)
kept test None = tt
kept test (Some x) = by (test x) refl
  where
    by : (b : Bool) → test x ≡ b → IfSome (cond b (Some x) None) (λ y. test y ≡ true)
    by true is = is
    by false is = tt

-- what a chain gives is what its last reader gives
then_reads : {X Y : Type 0} (P : Y → Type 0) (f : X → Option Y) (o : Option X) → ((x : X) → IfSome (f x) P) → IfSome (option_and_then f o) P
then_reads P f None h = tt
then_reads P f (Some x) h = h x

text_in : (low high : ℕ) (d : Data) → IfSome (text low high d) (λ s. has_bytes low high s ≡ true)
text_in low high d = kept (has_bytes low high) (as_str d)

number_in : (low high : ℤ) (d : Data) → IfSome (number low high d) (λ z. is_within low high z ≡ true)
number_in low high d = kept (is_within low high) (as_integer d)

whole_of : (low high : ℕ) (o : Option ℤ) → IfSome o (λ z. is_within (pos low) (pos high) z ≡ true) → IfSome (option_map unsigned_abs o) (λ n. is_between low high n ≡ true)
whole_of low high None h = tt
whole_of low high (Some (pos n)) h = h
whole_of low high (Some (negsuc n)) h = absurd (false≢true h)

whole_in : (low high : ℕ) (d : Data) → IfSome (whole low high d) (λ n. is_between low high n ≡ true)
whole_in low high d = whole_of low high (number (pos low) (pos high) d) (number_in (pos low) (pos high) d)

role_in : (d : Data) → IfSome (role d) (λ r. is_staff_role r ≡ true)
role_in d = then_reads (λ r. is_staff_role r ≡ true) role_named (as_str d) (λ name. by (is_text name (codes "recipient")) (is_text name (codes "custodian")) (is_text name (codes "admin")))
  where
    by : (a b c : Bool) → IfSome (if a then Some roles.Recipient else if b then Some roles.Custodian else if c then Some roles.Admin else None) (λ r. is_staff_role r ≡ true)
    by true b c = refl
    by false true c = refl
    by false false true = refl
    by false false false = tt

recipients_in : (d : Data) → IfSome (recipients d) (λ us. is_between 1 32 (length us) ≡ true)
recipients_in d = kept (λ us. is_between 1 32 (length us)) (list_of (whole 1 256) d)

-- a salt has 16 bytes
abbrev pub IsSalt : Salt → Type 0
IsSalt x = are_bytes 16 x.0 ≡ true

all_bytes : (xs : List ℕ) → IsBytes xs → list_all is_byte xs ≡ true
all_bytes [] is = refl
all_bytes (x ∷ xs) is = and_from _ _ (let lt : x < 256 = is 0 in grind (arith, nat_tests, lt)) (all_bytes xs (λ i. is (suc i)))

decoded_salt : (digits bytes : List ℕ) → length digits ≡ 32 → decode_of digits ≡ Ok bytes → are_bytes 16 bytes ≡ true
decoded_salt digits bytes long is =
    let parts = decode_of-ok digits bytes is in
    let twice : length digits ≡ 2 * length bytes = parts.2 in
    let half : length bytes ≡ 16 = omega (arith, long, twice) in
    and_from _ _ (grind (arith, nat_tests, half)) (all_bytes bytes parts.3)

salt_of_digits : (digits : List ℕ) → is_salt_text digits ≡ true → IfSome (option_map (λ bytes. record { 0 = bytes }) (result_ok (decode_of digits))) IsSalt
salt_of_digits digits is = by (decode_of digits) refl
  where
    long : length digits ≡ 32
    long = eqb-true (length digits) 32 (and_parts (length digits == 32) (list_all is_lower_hex digits) is).0

    by : (r : Result (List ℕ) FromHexError) → decode_of digits ≡ r → IfSome (option_map (λ bytes. record { 0 = bytes }) (result_ok r)) IsSalt
    by (Ok bytes) e = decoded_salt digits bytes long e
    by (Err fault) e = tt

salt_named_in : (digits : List ℕ) → IfSome (salt_named digits) IsSalt
salt_named_in digits = by (is_salt_text digits) refl
  where
    by : (b : Bool) → is_salt_text digits ≡ b → IfSome (option_and_then (λ text. option_map (λ bytes. record { 0 = bytes }) (result_ok (decode_of text))) (cond b (Some digits) None)) IsSalt
    by true is = salt_of_digits digits is
    by false is = tt

salt_in : (d : Data) → IfSome (salt d) IsSalt
salt_in d = then_reads IsSalt salt_named (as_str d) salt_named_in

-- ---- lists

-- what each value is read as
module _ {X : Type 0} (reading : Data → Option X) (P : X → Type 0) (reads : (d : Data) → IfSome (reading d) P) where
  all_of_by : (x : Option X) (xs : Option (List X)) → IfSome x P → IfSome xs (AllByRecursion P) → IfSome (option_and_then (λ y. option_map (λ ys. y ∷ ys) xs) x) (AllByRecursion P)
  all_of_by None xs h all = tt
  all_of_by (Some x) None h all = tt
  all_of_by (Some x) (Some xs) h all = (h, all)

  all_in : (ds : Items) → IfSome (all_of reading ds) (AllByRecursion P)
  all_in no_items = tt
  all_in (item d ds) = all_of_by (reading d) (all_of reading ds) (reads d) (all_in ds)

  list_in : (d : Data) → IfSome (list_of reading d) (AllByRecursion P)
  list_in d = then_reads (AllByRecursion P) (all_of reading) (as_array d) all_in

  listed_in : (key : List ℕ) (d : Data) → IfSome (if_listed key reading d) (AllByRecursion P)
  listed_in key d = by (get key d)
    where
      by : (o : Option Data) → IfSome (optional [] (list_of reading) o) (AllByRecursion P)
      by None = tt
      by (Some e) = list_in e

  under_in : (key : List ℕ) (d : Data) → IfSome (under key reading d) P
  under_in key d = then_reads P reading (get key d) reads

-- a test that each passes
all_pass : {X : Type 0} (P : X → Bool) (xs : List X) → AllByRecursion (λ x. P x ≡ true) xs → list_all P xs ≡ true
all_pass P [] all = refl
all_pass P (x ∷ xs) all = and_from (P x) (list_all P xs) all.0 (all_pass P xs all.1)

only : {X : Type 0} (P : X → Type 0) (keys : List (List ℕ)) (d : Data) (o : Option X) → IfSome o P → IfSome (of_keys keys d o) P
only P keys d o h = by (has_only keys d)
  where
    by : (b : Bool) → IfSome (if b then o else None) P
    by true = h
    by false = tt

-- ---- tables

abbrev UserIsRight : GivenUser → Type 0
UserIsRight u = (is_between 1 256 u.id && has_bytes 1 64 u.name && is_staff_role u.role && true) ≡ true

user_in : (d : Data) → IfSome (user_of d) UserIsRight
user_in d = only UserIsRight user_keys d _ (by (under (codes "id") (whole 1 256) d) (under (codes "name") (text 1 64) d) (under (codes "role") role d) (under (codes "password") (text 1 128) d) (under (codes "enabled") as_bool d) (under (codes "may") rights d)
    (under_in (whole 1 256) _ (whole_in 1 256) (codes "id") d) (under_in (text 1 64) _ (text_in 1 64) (codes "name") d) (under_in role _ role_in (codes "role") d))
  where
    by : (o1 : Option ℕ) (o2 : Option (List ℕ)) (o3 : Option Role) (o4 : Option (List ℕ)) (o5 : Option Bool) (o6 : Option Rights)
        → IfSome o1 (λ n. is_between 1 256 n ≡ true) → IfSome o2 (λ s. has_bytes 1 64 s ≡ true) → IfSome o3 (λ r. is_staff_role r ≡ true)
        → IfSome (option_and_then (λ id. option_and_then (λ name. option_and_then (λ role. option_and_then (λ password. option_and_then (λ enabled. option_map (λ may.
        record { id = id; name = name; role = role; password = password; enabled = enabled; may = may }) o6) o5) o4) o3) o2) o1) UserIsRight
    by None o2 o3 o4 o5 o6 a b c = tt
    by (Some id) None o3 o4 o5 o6 a b c = tt
    by (Some id) (Some name) None o4 o5 o6 a b c = tt
    by (Some id) (Some name) (Some role) None o5 o6 a b c = tt
    by (Some id) (Some name) (Some role) (Some password) None o6 a b c = tt
    by (Some id) (Some name) (Some role) (Some password) (Some enabled) None a b c = tt
    by (Some id) (Some name) (Some role) (Some password) (Some enabled) (Some may) a b c =
        and_from (is_between 1 256 id && has_bytes 1 64 name && is_staff_role role) true (and_from (is_between 1 256 id && has_bytes 1 64 name) (is_staff_role role) (and_from (is_between 1 256 id) (has_bytes 1 64 name) a b) c) refl

abbrev FormIsRight : GivenForm → Type 0
FormIsRight f = is_between 1 16 f.id ≡ true

form_in : (d : Data) → IfSome (form_of d) FormIsRight
form_in d = only FormIsRight (codes "form" ∷ codes "id" ∷ []) d _ (by (under (codes "id") (whole 1 16) d) (under (codes "form") as_str d) (under_in (whole 1 16) _ (whole_in 1 16) (codes "id") d))
  where
    by : (o1 : Option ℕ) (o2 : Option (List ℕ)) → IfSome o1 (λ n. is_between 1 16 n ≡ true) → IfSome (option_and_then (λ id. option_map (λ json. record { id = id; json = json }) o2) o1) FormIsRight
    by None o2 a = tt
    by (Some id) None a = tt
    by (Some id) (Some json) a = a

abbrev ContextIsRight : GivenContext → Type 0
ContextIsRight c = (is_between 1 64 c.id && has_bytes 1 128 c.name && is_between 1 3_650 c.retention && are_readers (ascending c.recipients)) ≡ true

context_in : (d : Data) → IfSome (context_of d) ContextIsRight
context_in d = only ContextIsRight context_keys d _ (by (under (codes "id") (whole 1 64) d) (under (codes "name") (text 1 128) d) (under (codes "form") (whole 1 16) d) (under (codes "retention") (whole 1 3_650) d) (under (codes "recipients") recipients d) (under (codes "open") as_bool d)
    (under_in (whole 1 64) _ (whole_in 1 64) (codes "id") d) (under_in (text 1 128) _ (text_in 1 128) (codes "name") d) (under_in (whole 1 3_650) _ (whole_in 1 3_650) (codes "retention") d) (under_in recipients _ recipients_in (codes "recipients") d))
  where
    by : (o1 : Option ℕ) (o2 : Option (List ℕ)) (o3 o4 : Option ℕ) (o5 : Option (List ℕ)) (o6 : Option Bool)
        → IfSome o1 (λ n. is_between 1 64 n ≡ true) → IfSome o2 (λ s. has_bytes 1 128 s ≡ true) → IfSome o4 (λ n. is_between 1 3_650 n ≡ true) → IfSome o5 (λ us. is_between 1 32 (length us) ≡ true)
        → IfSome (option_and_then (λ id. option_and_then (λ name. option_and_then (λ form. option_and_then (λ days. option_and_then (λ users. option_map (λ is_open.
        record { id = id; name = name; form = form; retention = days; recipients = users; is_open = is_open }) o6) o5) o4) o3) o2) o1) ContextIsRight
    by None o2 o3 o4 o5 o6 a b c e = tt
    by (Some id) None o3 o4 o5 o6 a b c e = tt
    by (Some id) (Some name) None o4 o5 o6 a b c e = tt
    by (Some id) (Some name) (Some form) None o5 o6 a b c e = tt
    by (Some id) (Some name) (Some form) (Some days) None o6 a b c e = tt
    by (Some id) (Some name) (Some form) (Some days) (Some users) None a b c e = tt
    by (Some id) (Some name) (Some form) (Some days) (Some users) (Some is_open) a b c e =
        and_from (is_between 1 64 id && has_bytes 1 128 name && is_between 1 3_650 days) (are_readers (ascending users)) (and_from (is_between 1 64 id && has_bytes 1 128 name) (is_between 1 3_650 days) (and_from (is_between 1 64 id) (has_bytes 1 128 name) a b) c) (readers_right users e)

-- the holidays of a calendar are such, each a date
abbrev AreGivenHolidays : List ℤ → Type 0
AreGivenHolidays days = (are_holidays days ≡ true) × (are_dates days ≡ true)

date_read : (text : List ℕ) (x : ℤ) → read_date text ≡ Some x → is_date x ≡ true
date_read text x e = let b = read_date-bounds text x e in and_from (int_le (pos 0) x) (int_le x (pos 1_179_732)) (grind (arith, ints, b.0)) (grind (arith, ints, b.1))

date_in : (d : Data) → IfSome (day d) (λ x. is_date x ≡ true)
date_in d = then_reads (λ x. is_date x ≡ true) read_date (as_str d) (λ text. by text (read_date text) refl)
  where
    by : (text : List ℕ) (o : Option ℤ) → read_date text ≡ o → IfSome o (λ x. is_date x ≡ true)
    by text None e = tt
    by text (Some x) e = date_read text x e

holidays_in : (d : Data) → IfSome (holidays d) AreGivenHolidays
holidays_in d = by (if_listed (codes "holidays") day d) (listed_in day (λ x. is_date x ≡ true) date_in (codes "holidays") d)
  where
    by : (o : Option (List ℤ)) → IfSome o (AllByRecursion (λ x. is_date x ≡ true)) → IfSome (option_and_then (keep are_holidays) o) AreGivenHolidays
    by None all = tt
    by (Some ds) all = kept_by (are_holidays ds) refl
      where
        kept_by : (b : Bool) → are_holidays ds ≡ b → IfSome (cond b (Some ds) None) AreGivenHolidays
        kept_by true is = (is, all_pass is_date ds all)
        kept_by false is = tt

calendar_in : (d : Data) → IfSome (calendar d) (λ c. AreGivenHolidays c.holidays)
calendar_in d = by (if_flag (codes "roll") d) (holidays d) (holidays_in d)
  where
    by : (o : Option Bool) (h : Option (List ℤ)) → IfSome h AreGivenHolidays → IfSome (option_and_then (λ roll. option_map (λ days. record { roll = roll; holidays = days }) h) o) (λ (c : Calendar). AreGivenHolidays c.holidays)
    by None h is = tt
    by (Some roll) None is = tt
    by (Some roll) (Some ds) is = is

tenant_in : (d : Data) → IfSome (tenant_of d) IsGiven
tenant_in d = only IsGiven tenant_keys d _ (by (under (codes "id") (whole 1 64) d) (under (codes "name") (text 1 128) d) (under (codes "salt") salt d) (under (codes "offset") (number (neg_ℤ (pos 720)) (pos 840)) d) (under (codes "quota") (whole 1 100_000) d) (under (codes "notice_days") (whole 0 30) d)
    (if_flag (codes "external") d) (calendar d) (if_listed (codes "user") user_of d) (if_listed (codes "form") form_of d) (if_listed (codes "context") context_of d)
    (under_in (whole 1 64) _ (whole_in 1 64) (codes "id") d) (under_in (text 1 128) _ (text_in 1 128) (codes "name") d) (under_in (number (neg_ℤ (pos 720)) (pos 840)) _ (number_in (neg_ℤ (pos 720)) (pos 840)) (codes "offset") d)
    (under_in (whole 1 100_000) _ (whole_in 1 100_000) (codes "quota") d) (under_in (whole 0 30) _ (whole_in 0 30) (codes "notice_days") d)
    (under_in salt IsSalt salt_in (codes "salt") d) (calendar_in d) (listed_in user_of UserIsRight user_in (codes "user") d) (listed_in form_of FormIsRight form_in (codes "form") d) (listed_in context_of ContextIsRight context_in (codes "context") d))
  where
    by : (o1 : Option ℕ) (o2 : Option (List ℕ)) (o3 : Option Salt) (o4 : Option ℤ) (o5 o6 : Option ℕ) (x1 : Option Bool) (x2 : Option Calendar) (o7 : Option (List GivenUser)) (o8 : Option (List GivenForm)) (o9 : Option (List GivenContext))
        → IfSome o1 (λ n. is_between 1 64 n ≡ true) → IfSome o2 (λ s. has_bytes 1 128 s ≡ true) → IfSome o4 (λ z. is_offset z ≡ true) → IfSome o5 (λ n. is_between 1 100_000 n ≡ true) → IfSome o6 (λ n. is_between 0 30 n ≡ true)
        → IfSome o3 IsSalt → IfSome x2 (λ c. AreGivenHolidays c.holidays) → IfSome o7 (AllByRecursion UserIsRight) → IfSome o8 (AllByRecursion FormIsRight) → IfSome o9 (AllByRecursion ContextIsRight)
        → IfSome (option_and_then (λ id. option_and_then (λ name. option_and_then (λ salt. option_and_then (λ offset. option_and_then (λ quota. option_and_then (λ days.
        option_and_then (λ external. option_and_then (λ calendar. option_and_then (λ users. option_and_then (λ forms. option_map (λ contexts.
        record { id = id; name = name; salt = salt; external = external; calendar = calendar; offset = offset; quota = quota; notice_days = days; users = users; forms = forms; contexts = contexts })
        o9) o8) o7) x2) x1) o6) o5) o4) o3) o2) o1) IsGiven
    by None o2 o3 o4 o5 o6 x1 x2 o7 o8 o9 a b c e f sl hs us fs cs = tt
    by (Some id) None o3 o4 o5 o6 x1 x2 o7 o8 o9 a b c e f sl hs us fs cs = tt
    by (Some id) (Some name) None o4 o5 o6 x1 x2 o7 o8 o9 a b c e f sl hs us fs cs = tt
    by (Some id) (Some name) (Some salt) None o5 o6 x1 x2 o7 o8 o9 a b c e f sl hs us fs cs = tt
    by (Some id) (Some name) (Some salt) (Some offset) None o6 x1 x2 o7 o8 o9 a b c e f sl hs us fs cs = tt
    by (Some id) (Some name) (Some salt) (Some offset) (Some quota) None x1 x2 o7 o8 o9 a b c e f sl hs us fs cs = tt
    by (Some id) (Some name) (Some salt) (Some offset) (Some quota) (Some days) None x2 o7 o8 o9 a b c e f sl hs us fs cs = tt
    by (Some id) (Some name) (Some salt) (Some offset) (Some quota) (Some days) (Some external) None o7 o8 o9 a b c e f sl hs us fs cs = tt
    by (Some id) (Some name) (Some salt) (Some offset) (Some quota) (Some days) (Some external) (Some calendar) None o8 o9 a b c e f sl hs us fs cs = tt
    by (Some id) (Some name) (Some salt) (Some offset) (Some quota) (Some days) (Some external) (Some calendar) (Some users) None o9 a b c e f sl hs us fs cs = tt
    by (Some id) (Some name) (Some salt) (Some offset) (Some quota) (Some days) (Some external) (Some calendar) (Some users) (Some forms) None a b c e f sl hs us fs cs = tt
    by (Some id) (Some name) (Some salt) (Some offset) (Some quota) (Some days) (Some external) (Some calendar) (Some users) (Some forms) (Some contexts) a b c e f sl hs us fs cs = record {
      item = and_from (is_between 1 64 id && has_bytes 1 128 name && nat_le days 30 && is_offset offset && is_between 1 100_000 quota) (are_holidays calendar.holidays) (and_from (is_between 1 64 id && has_bytes 1 128 name && nat_le days 30 && is_offset offset) (is_between 1 100_000 quota) (and_from (is_between 1 64 id && has_bytes 1 128 name && nat_le days 30) (is_offset offset) (and_from (is_between 1 64 id && has_bytes 1 128 name) (nat_le days 30) (and_from (is_between 1 64 id) (has_bytes 1 128 name) a b) (and_parts (nat_le 0 days) (nat_le days 30) f).1) c) e) hs.0;
      users = all_pass (λ (u : GivenUser). is_between 1 256 u.id && has_bytes 1 64 u.name && is_staff_role u.role && true) users us;
      forms = all_pass (λ (g : GivenForm). is_between 1 16 g.id) forms fs;
      contexts = all_pass (λ (g : GivenContext). is_between 1 64 g.id && has_bytes 1 128 g.name && is_between 1 3_650 g.retention && are_readers (ascending g.recipients)) contexts cs;
      stored = and_from (are_bytes 16 salt.0) (are_dates calendar.holidays) sl hs.1;
    }

-- each tenant of a document is in its ranges
pub tenants_given : (d : Data) → IfSome (tenants_of d) (AllByRecursion IsGiven)
tenants_given d = only (AllByRecursion IsGiven) (codes "host" ∷ codes "tenant" ∷ []) d _ (by (has_format d))
  where
    by : (b : Bool) → IfSome (if b then under (codes "tenant") (list_of tenant_of) d else None) (AllByRecursion IsGiven)
    by true = under_in (list_of tenant_of) (AllByRecursion IsGiven) (list_in tenant_of IsGiven tenant_in) (codes "tenant") d
    by false = tt
