-- No number in the JSON of what a tenant is set up with is kept as a floating one.
use Rattle.std.proofs.Common.{◌≡◌, ◌++◌, ◌==◌, not, length, ℤ, pos, negsuc, Bool, true, false, List, [], ◌∷◌, refl, ap}
use Rattle.std.specs.Prelude.{codes, if◌then◌else◌}
use Rattle.hex.specs.Hex.{encode_lower}
use Rattle.serde_json.specs.Data.{number, string, boolean, object, Members, no_members, put}
use Rattle.serde_json.specs.Find.{of_integer}
use Rattle.serde_json.specs.Written.{has_float}
use Rattle.wb_json.proofs.NoFloats.{ArePlain, plain_append, in-object, in-list}
use Rattle.wb_model.specs.declared.registry.ContextItem.{ContextItem}
use Rattle.wb_model.specs.declared.registry.TenantItem.{TenantItem}
use Rattle.wb_model.specs.declared.registry.UserItem.{UserItem}
use Rattle.wb_model.specs.Json.{Member, members_of, whole, date, list_of}
use Rattle.wb_model.specs.Names.{right_names, role_name}
use Rattle.wb_model.specs.Rows.{only_where, settings_data, user_data, context_data}

in-integer : (z : ℤ) → has_float (number (of_integer z)) ≡ false
in-integer (pos n) = refl
in-integer (negsuc n) = refl

-- with the members that stand where their values are not the defaults
abbrev settings_members : TenantItem → List Member
settings_members x =
    only_where x.external (codes "external", boolean x.external) ++
    only_where (not (length x.calendar.holidays == 0)) (codes "holidays", list_of date x.calendar.holidays) ++
    (codes "name", string x.name) ∷ (codes "notice_days", whole x.notice_days) ∷ (codes "offset", number (of_integer x.offset)) ∷ (codes "quota", whole x.quota) ∷
    only_where x.calendar.roll (codes "roll", boolean x.calendar.roll) ++
    (codes "salt", string (encode_lower x.salt.0)) ∷ []

where_plain : (is : Bool) (m : Member) → has_float m.1 ≡ false → ArePlain (only_where is m)
where_plain true m plain = (plain, tt)
where_plain false m plain = tt

settings_plain : (x : TenantItem) → ArePlain (settings_members x)
settings_plain x =
    plain_append _ _
    (plain_append _ _
    (plain_append _ _ (where_plain x.external (codes "external", boolean x.external) refl) (where_plain (not (length x.calendar.holidays == 0)) (codes "holidays", list_of date x.calendar.holidays) (in-list date (λ day. refl) x.calendar.holidays)))
    (refl, (refl, (in-integer x.offset, (refl, where_plain x.calendar.roll (codes "roll", boolean x.calendar.roll) refl)))))
    (refl, tt)

-- a member put where it stands
abbrev pub put_where : Bool → Member → Members → Members
put_where is m ms = if is then put m.0 m.1 ms else ms

-- the members of settings are put one after the other, from the last to the first
written : (external some rolls : Bool) (e h a b c d r s : Member) →
    members_of (only_where external e ++ only_where some h ++ a ∷ b ∷ c ∷ d ∷ only_where rolls r ++ s ∷ [])
    ≡ put_where external e (put_where some h (put a.0 a.1 (put b.0 b.1 (put c.0 c.1 (put d.0 d.1 (put_where rolls r (put s.0 s.1 no_members)))))))
written true true true e h a b c d r s = refl
written true true false e h a b c d r s = refl
written true false true e h a b c d r s = refl
written true false false e h a b c d r s = refl
written false true true e h a b c d r s = refl
written false true false e h a b c d r s = refl
written false false true e h a b c d r s = refl
written false false false e h a b c d r s = refl

pub settings_written : (x : TenantItem) → settings_data x ≡ object (
    put_where x.external (codes "external", boolean x.external)
    (put_where (not (length x.calendar.holidays == 0)) (codes "holidays", list_of date x.calendar.holidays)
    (put (codes "name") (string x.name) (put (codes "notice_days") (whole x.notice_days) (put (codes "offset") (number (of_integer x.offset)) (put (codes "quota") (whole x.quota)
    (put_where x.calendar.roll (codes "roll", boolean x.calendar.roll) (put (codes "salt") (string (encode_lower x.salt.0)) no_members))))))))
unfolding settings_data
settings_written x = ap object (written x.external (not (length x.calendar.holidays == 0)) x.calendar.roll (codes "external", boolean x.external) (codes "holidays", list_of date x.calendar.holidays)
    (codes "name", string x.name) (codes "notice_days", whole x.notice_days) (codes "offset", number (of_integer x.offset)) (codes "quota", whole x.quota) (codes "roll", boolean x.calendar.roll) (codes "salt", string (encode_lower x.salt.0)))

pub in-settings : (x : TenantItem) → has_float (settings_data x) ≡ false
unfolding settings_data
in-settings x = in-object (settings_members x) (settings_plain x)

abbrev user_members : UserItem → List Member
user_members x = (codes "disabled", whole x.disabled) ∷ (codes "enabled", boolean x.enabled) ∷ (codes "may", list_of string (right_names x.may)) ∷ (codes "name", string x.name) ∷ (codes "role", string (role_name x.role)) ∷ (codes "secret", string (encode_lower x.secret.0)) ∷ []

user_plain : (x : UserItem) → ArePlain (user_members x)
user_plain x = (refl, (refl, (in-list string (λ text. refl) (right_names x.may), (refl, (refl, (refl, tt))))))

pub in-user : (x : UserItem) → has_float (user_data x) ≡ false
unfolding user_data
in-user x = in-object (user_members x) (user_plain x)

abbrev context_members : ContextItem → List Member
context_members x = (codes "form", whole x.form) ∷ (codes "name", string x.name) ∷ (codes "open", boolean x.is_open) ∷ (codes "recipients", list_of whole x.recipients) ∷ (codes "retention", whole x.retention) ∷ []

context_plain : (x : ContextItem) → ArePlain (context_members x)
context_plain x = (refl, (refl, (refl, (in-list whole (λ n. refl) x.recipients, (refl, tt)))))

pub in-context : (x : ContextItem) → has_float (context_data x) ≡ false
unfolding context_data
in-context x = in-object (context_members x) (context_plain x)
