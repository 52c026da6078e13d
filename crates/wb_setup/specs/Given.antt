-- What a setup gives: its tenants with their users, forms and contexts, as they stand in its text.
-- This is rule 1: exactly these keys, of these kinds, in these ranges.
use Rattle.std.specs.Prelude.{ℕ, ◌==◌, ◌&&◌, Bool, false, if◌then◌else◌, List, [], ◌∷◌, length, codes, Option, Some, None, option_map, option_and_then, pos, neg_ℤ, ℤ}
use Rattle.std.specs.List.{list_all}
use Rattle.std.specs.Option.{option_map_or}
use Rattle.std.specs.Result.{result_ok}
use Rattle.hex.specs.Hex.{decode_of}
use Rattle.toml.specs.Data.{Data, Items, no_items, item, get, as_str, as_bool, as_array}
use Rattle.wb_base.specs.declared.callers.Role.{Role}
use Rattle.wb_base.specs.declared.words.Salt.{Salt}
use Rattle.wb_base.specs.AnswerList.{is_text}
use Rattle.wb_base.specs.Calendars.{Calendar, are_holidays}
use Rattle.wb_base.specs.DateTexts.{read_date}
use Rattle.wb_base.specs.FormShape.{keep}
use Rattle.wb_model.specs.declared.registry.Rights.{Rights}
use Rattle.wb_model.specs.Bodies.{role_named, with_right, no_rights}
use Rattle.wb_model.specs.Fits.{is_between, is_lower_hex}
use Rattle.wb_setup.specs.declared.given.GivenUser.{GivenUser}
use Rattle.wb_setup.specs.declared.given.GivenForm.{GivenForm}
use Rattle.wb_setup.specs.declared.given.GivenContext.{GivenContext}
use Rattle.wb_setup.specs.declared.given.GivenTenant.{GivenTenant}
use Rattle.wb_setup.specs.TomlValues.{of_keys, under, optional, text, number, whole, list_of, if_listed}

abbrev pub role : Data → Option Role
role d = option_and_then role_named (as_str d)

abbrev pub with_rights : Rights → Items → Option Rights
with_rights may no_items = Some may
with_rights may (item d ds) = option_and_then (λ more. with_rights more ds) (option_and_then (with_right may) (as_str d))

-- a list of distinct rights
abbrev pub rights : Data → Option Rights
rights d = option_and_then (with_rights no_rights) (as_array d)

-- 1 to 32 ids of users
abbrev pub recipients : Data → Option (List ℕ)
recipients d = option_and_then (keep (λ users. is_between 1 32 (length users))) (list_of (whole 1 256) d)

-- 32 lower-case hexadecimal digits, of 16 bytes
abbrev pub is_salt_text : List ℕ → Bool
is_salt_text s = (length s == 32) && list_all is_lower_hex s

abbrev pub salt_named : List ℕ → Option Salt
salt_named s = option_and_then (λ digits. option_map (λ bytes. record { 0 = bytes }) (result_ok (decode_of digits))) (keep is_salt_text s)

abbrev pub salt : Data → Option Salt
salt d = option_and_then salt_named (as_str d)

abbrev pub user_keys : List (List ℕ)
user_keys = codes "enabled" ∷ codes "id" ∷ codes "may" ∷ codes "name" ∷ codes "password" ∷ codes "role" ∷ []

abbrev pub user_of : Data → Option GivenUser
user_of d = of_keys user_keys d
    (option_and_then (λ id. option_and_then (λ name. option_and_then (λ role. option_and_then (λ password. option_and_then (λ enabled. option_map (λ may.
    record { id = id; name = name; role = role; password = password; enabled = enabled; may = may })
    (under (codes "may") rights d)) (under (codes "enabled") as_bool d)) (under (codes "password") (text 1 128) d)) (under (codes "role") role d)) (under (codes "name") (text 1 64) d)) (under (codes "id") (whole 1 256) d))

abbrev pub form_of : Data → Option GivenForm
form_of d = of_keys (codes "form" ∷ codes "id" ∷ []) d
    (option_and_then (λ id. option_map (λ json. record { id = id; json = json })
    (under (codes "form") as_str d)) (under (codes "id") (whole 1 16) d))

abbrev pub context_keys : List (List ℕ)
context_keys = codes "form" ∷ codes "id" ∷ codes "name" ∷ codes "open" ∷ codes "recipients" ∷ codes "retention" ∷ []

abbrev pub context_of : Data → Option GivenContext
context_of d = of_keys context_keys d
    (option_and_then (λ id. option_and_then (λ name. option_and_then (λ form. option_and_then (λ days. option_and_then (λ users. option_map (λ is_open.
    record { id = id; name = name; form = form; retention = days; recipients = users; is_open = is_open })
    (under (codes "open") as_bool d)) (under (codes "recipients") recipients d)) (under (codes "retention") (whole 1 3_650) d)) (under (codes "form") (whole 1 16) d)) (under (codes "name") (text 1 128) d)) (under (codes "id") (whole 1 64) d))

-- a truth value that may be left out, and is false then
abbrev pub if_flag : List ℕ → Data → Option Bool
if_flag key d = optional false as_bool (get key d)

abbrev pub day : Data → Option ℤ
day d = option_and_then read_date (as_str d)

-- at most 64 dates, ascending, which may be left out
abbrev pub holidays : Data → Option (List ℤ)
holidays d = option_and_then (keep are_holidays) (if_listed (codes "holidays") day d)

abbrev pub calendar : Data → Option Calendar
calendar d = option_and_then (λ roll. option_map (λ days. record { roll = roll; holidays = days }) (holidays d)) (if_flag (codes "roll") d)

abbrev pub tenant_keys : List (List ℕ)
tenant_keys = codes "context" ∷ codes "external" ∷ codes "form" ∷ codes "holidays" ∷ codes "id" ∷ codes "name" ∷ codes "notice_days" ∷ codes "offset" ∷ codes "quota" ∷ codes "roll" ∷ codes "salt" ∷ codes "user" ∷ []

abbrev pub tenant_of : Data → Option GivenTenant
tenant_of d = of_keys tenant_keys d
    (option_and_then (λ id. option_and_then (λ name. option_and_then (λ salt. option_and_then (λ offset. option_and_then (λ quota. option_and_then (λ days.
    option_and_then (λ external. option_and_then (λ calendar. option_and_then (λ users. option_and_then (λ forms. option_map (λ contexts.
    record { id = id; name = name; salt = salt; external = external; calendar = calendar; offset = offset; quota = quota; notice_days = days; users = users; forms = forms; contexts = contexts })
    (if_listed (codes "context") context_of d)) (if_listed (codes "form") form_of d)) (if_listed (codes "user") user_of d))
    (calendar d)) (if_flag (codes "external") d))
    (under (codes "notice_days") (whole 0 30) d)) (under (codes "quota") (whole 1 100_000) d)) (under (codes "offset") (number (neg_ℤ (pos 720)) (pos 840)) d)) (under (codes "salt") salt d)) (under (codes "name") (text 1 128) d)) (under (codes "id") (whole 1 64) d))

-- the setup is of the first format
abbrev pub has_format : Data → Bool
has_format d = option_map_or (λ s. is_text s (codes "whistle 1")) (option_and_then as_str (get (codes "host") d)) false

-- the tenants of a document, in its order
abbrev pub tenants_of : Data → Option (List GivenTenant)
tenants_of d = of_keys (codes "host" ∷ codes "tenant" ∷ []) d (if has_format d then under (codes "tenant") (list_of tenant_of) d else None)
