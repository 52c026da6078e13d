-- What the JSON (RFC 8259) of a row's text stands for, kind by kind, each value in its range.
use Rattle.std.specs.Prelude.{ℕ, ◌&&◌, if◌then◌else◌, Bool, true, not, List, [], codes, Option, Some, option_map, option_and_then, ℤ, pos, neg_ℤ, int_le}
use Rattle.std.specs.Result.{result_ok}
use Rattle.hex.specs.Hex.{decode_sized}
use Rattle.serde_json.specs.Data.{Data}
use Rattle.serde_json.specs.Find.{get, as_str, as_bool, as_number, as_i64}
use Rattle.wb_base.specs.declared.form.Form.{Form}
use Rattle.wb_base.specs.declared.form.Format.{Format}
use Rattle.wb_base.specs.declared.form.Format.TheVariants.{Plain, Weighed}
use Rattle.wb_base.specs.FormFields.{has_score}
use Rattle.wb_base.specs.declared.words.Digest.{Digest}
use Rattle.wb_base.specs.declared.words.Salt.{Salt}
use Rattle.wb_base.specs.AnswerList.{is_text}
use Rattle.wb_base.specs.DateTexts.{read_date}
use Rattle.wb_base.specs.FormFaults.{is_good}
use Rattle.wb_base.specs.Calendars.{Calendar, are_holidays}
use Rattle.wb_base.specs.FormShape.{keep, optional, list_of, flag_at, form_by}
use Rattle.wb_json.specs.Dates.{date}
use Rattle.wb_model.specs.declared.numbering.Numbering.{Numbering}
use Rattle.wb_model.specs.declared.registry.ContextItem.{ContextItem}
use Rattle.wb_model.specs.declared.registry.FormItem.{FormItem}
use Rattle.wb_model.specs.declared.registry.TenantItem.{TenantItem}
use Rattle.wb_model.specs.declared.registry.UserItem.{UserItem}
use Rattle.wb_model.specs.Bodies.{under, text, whole, role, rights}
use Rattle.wb_model.specs.Legal.{are_readers}

-- ---- values

-- so many bytes in hexadecimal digits
abbrev pub bytes : ℕ → Data → Option (List ℕ)
bytes n d = option_and_then (λ digits. result_ok (decode_sized digits n)) (as_str d)

abbrev pub digest : Data → Option Digest
digest d = option_map (λ x. record { 0 = x }) (bytes 32 d)

abbrev pub salt : Data → Option Salt
salt d = option_map (λ x. record { 0 = x }) (bytes 16 d)

abbrev pub is_within : ℤ → ℤ → ℤ → Bool
is_within low high z = int_le low z && int_le z high

-- a number in a range, of either sign
abbrev pub signed : ℤ → ℤ → Data → Option ℤ
signed low high d = option_and_then (keep (is_within low high)) (option_and_then as_i64 (as_number d))

-- a date, and the day before the first that may be an answer
abbrev pub day_named : List ℕ → Option ℤ
day_named name = if is_text name (codes "1969-12-31") then Some (neg_ℤ (pos 1)) else read_date name

abbrev pub day : Data → Option ℤ
day d = option_and_then day_named (as_str d)

-- ids of users, in any order
abbrev pub users : Data → Option (List ℕ)
users d = list_of (whole 1 256) d

-- 1 to 32 ids of users, ascending
abbrev pub recipients : Data → Option (List ℕ)
recipients d = option_and_then (keep are_readers) (users d)

-- ---- kinds

-- whether terms roll, which they do not where it is left out, and at most 64 holidays, ascending, none where they are left out
abbrev pub calendar : Data → Option Calendar
calendar d = option_and_then (λ days. option_map (λ rolls. record { roll = rolls; holidays = days })
    (flag_at (codes "roll") d)) (option_and_then (keep are_holidays) (optional [] (list_of date) (get (codes "holidays") d)))

-- the settings of a tenant
abbrev pub settings : ℕ → Data → Option TenantItem
settings t d = option_and_then (λ external. option_and_then (λ days. option_and_then (λ name. option_and_then (λ notice_days. option_and_then (λ offset. option_and_then (λ quota. option_map (λ x.
    record { tenant = t; external = external; calendar = days; name = name; notice_days = notice_days; offset = offset; quota = quota; salt = x })
    (under (codes "salt") salt d)) (under (codes "quota") (whole 1 100_000) d)) (under (codes "offset") (signed (neg_ℤ (pos 720)) (pos 840)) d)) (under (codes "notice_days") (whole 0 30) d)) (under (codes "name") (text 1 128) d)) (calendar d)) (flag_at (codes "external") d)

-- the numbers that a tenant has drawn
abbrev pub numbering : Data → Option Numbering
numbering d = option_and_then (λ at. option_and_then (λ drawn. option_map (λ last.
    record { at = at; drawn = drawn; last = last })
    (under (codes "last") (whole 0 4_294_967_295) d)) (under (codes "drawn") (whole 0 4_294_967_295) d)) (under (codes "at") (whole 0 99_999_999_999) d)

-- a user of a tenant
abbrev pub user : ℕ → ℕ → Data → Option UserItem
user t id d = option_and_then (λ disabled. option_and_then (λ enabled. option_and_then (λ may. option_and_then (λ name. option_and_then (λ of_user. option_map (λ secret.
    record { tenant = t; id = id; disabled = disabled; enabled = enabled; may = may; name = name; role = of_user; secret = secret })
    (under (codes "secret") digest d)) (under (codes "role") role d)) (under (codes "name") (text 1 64) d)) (under (codes "may") rights d)) (under (codes "enabled") as_bool d)) (under (codes "disabled") (whole 0 10_000) d)

-- rows of format 1 have no scored form
abbrev pub is_in_format : Format → Form → Bool
is_in_format Plain x = not (has_score x)
is_in_format Weighed x = true

abbrev pub good_form : Format → Data → Option Form
good_form format d = option_and_then (keep is_good) (form_by format d)

-- a version of a form of a tenant, in rows of format 1 (plain) or 2 (weighed)
abbrev pub form : Format → ℕ → ℕ → ℕ → Data → Option FormItem
form format t id version d = option_map (λ (x : Form). record { tenant = t; id = id; version = version; form = x }) (option_and_then (keep (is_in_format format)) (good_form format d))

-- a context of a tenant
abbrev pub context : ℕ → ℕ → Data → Option ContextItem
context t id d = option_and_then (λ of_form. option_and_then (λ name. option_and_then (λ is_open. option_and_then (λ to_users. option_map (λ retention.
    record { tenant = t; id = id; form = of_form; name = name; is_open = is_open; recipients = to_users; retention = retention })
    (under (codes "retention") (whole 1 3_650) d)) (under (codes "recipients") recipients d)) (under (codes "open") as_bool d)) (under (codes "name") (text 1 128) d)) (under (codes "form") (whole 1 16) d)
