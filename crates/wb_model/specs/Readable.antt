-- What a tenant's tables keep so that their rows are read back: the rules of kept rows that look at what is set up and at trails, and the ranges of what
-- is stored. Days, moments and numbers of entries are told by what else an opening keeps: that trails are legal, of no moment to come, and in order.
use Rattle.std.specs.Prelude.{◌≡◌, ℕ, ◌+◌, ◌==◌, ◌≤◌, ◌&&◌, ◌||◌, nat_le, nat_lt, Bool, true, false, List, [], ◌∷◌, length, Option, Some, None, ℤ, pos, int_le}
use Rattle.std.specs.List.{list_all, list_any}
use Rattle.std.specs.Option.{option_map_or}
use Rattle.wb_base.specs.AnswerList.{Answered, is_text}
use Rattle.wb_model.specs.declared.entry.Entry.{Entry}
use Rattle.wb_model.specs.declared.entry.Deed.{Deed}
use Rattle.wb_model.specs.declared.entry.Deed.TheVariants as deeds
use Rattle.wb_model.specs.declared.event.What.{What}
use Rattle.wb_model.specs.declared.event.What.TheVariants.{Did, Gap, Idle, Lost}
use Rattle.wb_model.specs.declared.registry.ContextItem.{ContextItem}
use Rattle.wb_model.specs.declared.registry.FormItem.{FormItem}
use Rattle.wb_model.specs.declared.registry.TenantItem.{TenantItem}
use Rattle.wb_model.specs.declared.registry.UserItem.{UserItem}
use Rattle.wb_base.specs.declared.callers.Role.{Role}
use Rattle.wb_model.specs.declared.registry.Lists.{Lists}
use Rattle.wb_model.specs.Commands.{tenant_of}
use Rattle.wb_model.specs.Tables.{Registry, Case, Session, Who, TheUser, TheReporter, user, same_role}
use Rattle.wb_model.specs.Settings.{is_recipient}
use Rattle.wb_model.specs.AnswerRanges.{are_answers}
use Rattle.wb_model.specs.Fits.{has_bytes, is_settable}
use Rattle.wb_model.specs.SetUps.{is_tenant_item, is_user_item, is_form_item, is_context_item, are_apart}
use Rattle.wb_model.specs.KeptRules.{is_named, has_public_answers, are_valid_after}
use Rattle.wb_model.specs.Host.{Tables, Sealed}
use Rattle.wb_model.specs.Scripts.{Place}
use Rattle.wb_model.specs.Past.{Past, Opening, Turn, last}
use Rattle.wb_model.specs.Opened.{Opened}

-- ---- values

abbrev pub is_byte : ℕ → Bool
is_byte c = nat_lt c 256

-- so many bytes
abbrev pub are_bytes : ℕ → List ℕ → Bool
are_bytes n xs = (length xs == n) && list_all is_byte xs

-- a number of 32 bits
abbrev pub is_count : ℕ → Bool
is_count n = nat_le n 4_294_967_295

-- days whose dates are written and read, from 1970 to 5199
abbrev pub is_date : ℤ → Bool
is_date day = int_le (pos 0) day && int_le day (pos 1_179_732)

abbrev pub are_dates : List ℤ → Bool
are_dates days = list_all is_date days

-- identity answers, where there are some
abbrev pub are_sealed : Option Answered → Bool
are_sealed None = true
are_sealed (Some answers) = are_answers answers

-- ---- what a tenant is set up with

-- its salt has 16 bytes, and its holidays are dates
abbrev pub is_stored_tenant : TenantItem → Bool
is_stored_tenant x = are_bytes 16 x.salt.0 && are_dates x.calendar.holidays

abbrev pub is_own_settings : ℕ → TenantItem → Bool
is_own_settings t x = (x.tenant == t) && is_tenant_item x && is_stored_tenant x

abbrev pub is_own_user : ℕ → UserItem → Bool
is_own_user t x = (x.tenant == t) && is_user_item x && are_bytes 32 x.secret.0

abbrev pub same_name : UserItem → UserItem → Bool
same_name x y = is_text x.name y.name

abbrev pub is_own_form : ℕ → FormItem → Bool
is_own_form t x = (x.tenant == t) && is_form_item x

-- the version before it is there
abbrev pub follows_in : List FormItem → FormItem → Bool
follows_in forms x = nat_le x.version 1 || list_any (λ y. (y.id == x.id) && (y.version + 1 == x.version)) forms

abbrev pub has_id_of : ℕ → FormItem → Bool
has_id_of f x = x.id == f

-- its form is there, and its recipients are recipients
abbrev pub is_own_context : ℕ → List UserItem → List FormItem → ContextItem → Bool
is_own_context t users forms c = (c.tenant == t) && is_context_item c && list_any (has_id_of c.form) forms && list_all (is_recipient users) c.recipients

-- the registry of a tenant keeps the rules of what tenants are set up with
pub record IsOwn (t : ℕ) (g : Registry) : Type 0 where
  pub settings : is_own_settings t g.settings ≡ true
  pub users : list_all (is_own_user t) g.users ≡ true
  pub names : are_apart same_name g.users ≡ true
  pub forms : list_all (is_own_form t) g.forms ≡ true
  pub gapless : list_all (follows_in g.forms) g.forms ≡ true
  pub contexts : list_all (is_own_context t g.users g.forms) g.contexts ≡ true

-- ---- reports

abbrev pub is_withheld : Option (List ℕ) → Bool
is_withheld None = true
is_withheld (Some text) = has_bytes 1 1_024 text

-- the texts and counts of a deed are in their ranges
abbrev pub is_stored : Deed → Bool
is_stored (deeds.Submitted ack_due answers context expires feedback_due form mark readers receipt received version) = are_answers answers && are_bytes 32 receipt.0
is_stored (deeds.Comment internal text) = has_bytes 1 4_096 text
is_stored (deeds.Label text) = has_bytes 0 64 text
is_stored (deeds.SetStatus status) = is_settable status
is_stored (deeds.Feedback text) = has_bytes 1 4_096 text
is_stored (deeds.Extended feedback_due reason) = has_bytes 1 1_024 reason
is_stored (deeds.Asked reason stamp) = has_bytes 1 1_024 reason && nat_le stamp 10_000
is_stored (deeds.Granted effective reason request withheld) = has_bytes 1 1_024 reason && is_count request && is_withheld withheld
is_stored (deeds.Denied reason request) = has_bytes 1 1_024 reason && is_count request
is_stored (deeds.Revoked reason request) = has_bytes 1 1_024 reason && is_count request
is_stored deeds.Identity = true
is_stored (deeds.Acknowledged day feedback_due) = true
is_stored (deeds.Shared user) = true
is_stored (deeds.Unshared user) = true
is_stored (deeds.Transferred context readers) = true
is_stored (deeds.Postponed expires) = true

-- an entry names what is there, and says what is in its ranges
abbrev pub is_entry_of : Registry → Entry → Bool
is_entry_of g e = is_named g e && is_stored e.deed

-- a trail's entries do, its answers are valid for its form, and so are the identity answers after them
abbrev pub is_readable_trail : Registry → List Entry → Option Answered → Bool
is_readable_trail g trail secret = list_all (is_entry_of g) trail && has_public_answers g.forms trail && are_valid_after g.forms trail secret && are_sealed secret

abbrev pub is_readable : Registry → Sealed → Case → Bool
is_readable g sealed c = is_readable_trail g c.trail (sealed c.number)

-- ---- sessions

abbrev pub is_of_role : List UserItem → Role → ℕ → Bool
is_of_role users role u = option_map_or (λ (x : UserItem). same_role x.role role) (user u users) false

-- a user's session has the user's role
abbrev pub has_role : List UserItem → Role → Who → Bool
has_role users role (TheUser u) = is_of_role users role u
has_role users role (TheReporter n) = true

abbrev pub is_right_session : List UserItem → Session → Bool
is_right_session users s = has_role users s.role s.who

-- ---- the whole

-- the tables of a tenant
pub record AreReadable (t : ℕ) (x : Tables) : Type 0 where
  pub registry : IsOwn t x.plain.registry
  pub last : is_count x.plain.numbering.last ≡ true
  pub cases : list_all (is_readable x.plain.registry x.sealed) x.plain.cases ≡ true
  pub sessions : list_all (is_right_session x.plain.registry.users) x.plain.sessions ≡ true

-- ---- what is asked of lists and kept reports

-- salts and digests are of their lengths, and holidays are dates
abbrev pub are_stored : Lists → Bool
are_stored lists = list_all is_stored_tenant lists.tenants && list_all (λ x. are_bytes 32 x.secret.0) lists.users

-- what a report says is in its ranges, and so are its identity answers
abbrev pub is_stored_case : Sealed → Case → Bool
is_stored_case sealed c = list_all (λ (e : Entry). is_stored e.deed) c.trail && are_sealed (sealed c.number)

-- so are all of a tenant's reports
abbrev pub AreStoredCases : Tables → Type 0
AreStoredCases x = list_all (is_stored_case x.sealed) x.plain.cases ≡ true

-- ---- what is asked of events

-- after this past of tenant t: what was asked is of the tenant, and a number was left where one was drawn for no report
abbrev pub IsRanged : ℕ → Past Opened → What → Type 0
IsRanged t past (Did asked by) = tenant_of asked.command ≡ t
IsRanged t past (Gap u) = last past + 1 ≤ 4_294_967_295
IsRanged t past Idle = Unit {0}
IsRanged t past Lost = Unit {0}

abbrev pub AreRanged : ℕ → Past Opened → Type 0
AreRanged t (Opening o) = Unit {0}
AreRanged t (Turn e past) = IsRanged t past e.what × AreRanged t past

-- what the tenant's host was opened with is such that its rows are read back
abbrev pub OpensReadable : ℕ → Past Opened → Type 0
OpensReadable t (Opening o) = AreReadable t o.tables
OpensReadable t (Turn e past) = OpensReadable t past

-- no place of a script is after the greatest moment that a request may have
abbrev pub AreTimely : List Place → Type 0
AreTimely [] = Unit {0}
AreTimely (p ∷ ps) = (p.moment ≤ 99_999_999_999) × AreTimely ps
