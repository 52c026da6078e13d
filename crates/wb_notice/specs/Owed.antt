-- The notices that are owed: of which reports, of what kinds, and to whom.
use Rattle.std.specs.Prelude.{ℕ, ◌==◌, ◌&&◌, not, is_some, Bool, true, List, length, map, filter, ℤ, pos, ◌+ℤ◌, int_lt, int_le}
use Rattle.std.specs.List.{flat_map, list_any}
use Rattle.wb_base.specs.declared.callers.Role.TheVariants.{Custodian}
use Rattle.wb_base.specs.Days.{day_of}
use Rattle.wb_model.specs.declared.access.AccessRequest.{AccessRequest}
use Rattle.wb_model.specs.declared.entry.Entry.{Entry}
use Rattle.wb_model.specs.declared.registry.Lists.{Lists}
use Rattle.wb_model.specs.declared.registry.UserItem.{UserItem}
use Rattle.wb_model.specs.Access.{requests, state_now, is_waiting}
use Rattle.wb_model.specs.Openings.{registry_of}
use Rattle.wb_model.specs.SetUps.{tenant_ids}
use Rattle.wb_model.specs.Tables.{Case, Registry, disablings, is_live, same_role}
use Rattle.wb_model.specs.Trails.{is_closed, acknowledged, ack_due, feedback_given, feedback_due, expires, reads}
use Rattle.wb_rows.specs.Reports.{Report}
use Rattle.wb_rows.specs.Held.{Held}
use Rattle.wb_rows.specs.Openings.{cases_of}
use Rattle.wb_notice.specs.declared.notice.Notice.{Notice}
use Rattle.wb_notice.specs.declared.notice.NoticeKind.{NoticeKind}
use Rattle.wb_notice.specs.declared.notice.NoticeKind.TheVariants.{New, AckOver, FeedbackOver, Expiring, Asked}
use Rattle.wb_notice.specs.declared.users.Addressee.{Addressee}
use Rattle.wb_notice.specs.Notices.{kinds}

-- ---- what is looked at

-- what tenants are set up with and their reports, and no identity answer
pub record Unsealed : Type 0 where
  pub lists : Lists
  pub reports : List Report

abbrev pub unsealed : Held → Unsealed
unsealed h = record { lists = h.lists; reports = h.reports }

-- a report is live on a day of its tenant
abbrev pub is_live_on : ℤ → Case → Bool
is_live_on today c = not (length c.trail == 0) && int_lt today (expires c.trail)

-- the reports of a tenant that are live at a moment
abbrev pub live : Unsealed → ℕ → ℕ → List Case
live x now t = filter (is_live (registry_of x.lists t).settings now) (cases_of x.reports t)

-- ---- what there is to tell of a report on a day

-- the day for the acknowledgement is over (Directive (EU) 2019/1937, Article 9(1)(b))
abbrev pub is_ack_over : ℤ → List Entry → Bool
is_ack_over today trail = not (is_closed trail) && not (is_some (acknowledged trail)) && int_lt (ack_due trail) today

-- the day for feedback is over (Directive (EU) 2019/1937, Article 9(1)(f))
abbrev pub is_feedback_over : ℤ → List Entry → Bool
is_feedback_over today trail = not (is_closed trail) && not (feedback_given trail) && int_lt (feedback_due trail) today

-- it goes in seven days at most
abbrev pub is_expiring : ℤ → List Entry → Bool
is_expiring today trail = int_le (expires trail) (today +ℤ pos 7)

-- a request waits, whose asker was disabled so often by now
abbrev pub waits : ℕ → AccessRequest → Bool
waits stamp r = is_waiting (state_now stamp r)

-- a request for the identity waits (Directive (EU) 2019/1937, Article 16)
abbrev pub is_asked : List UserItem → List Entry → Bool
is_asked users trail = list_any (λ (r : AccessRequest). waits (disablings r.by users) r) (requests trail)

abbrev pub arises : Bool → ℤ → List Entry → NoticeKind → Bool
arises asked today trail New = true
arises asked today trail AckOver = is_ack_over today trail
arises asked today trail FeedbackOver = is_feedback_over today trail
arises asked today trail Expiring = is_expiring today trail
arises asked today trail Asked = asked

-- the kinds of notices that arise
abbrev pub arising : List UserItem → ℤ → List Entry → List NoticeKind
arising users today trail = filter (arises (is_asked users trail) today trail) kinds

-- ---- to whom it is told

abbrev pub addressee : UserItem → Addressee
addressee u = record { user = u.id; role = u.role }

-- those users who are enabled
abbrev pub addressees : List UserItem → List Addressee
addressees users = map addressee (filter (λ (u : UserItem). u.enabled) users)

-- requests are for custodians, and all else is for the readers of the report
abbrev pub is_for : List Entry → Addressee → NoticeKind → Bool
is_for trail x New = reads x.user trail
is_for trail x AckOver = reads x.user trail
is_for trail x FeedbackOver = reads x.user trail
is_for trail x Expiring = reads x.user trail
is_for trail x Asked = same_role x.role Custodian

-- ---- what is owed

-- to a user, of a report of which these kinds arise
abbrev pub notices_to : ℕ → ℤ → List NoticeKind → Case → Addressee → List Notice
notices_to t today arising c x = map (λ kind. record { tenant = t; number = c.number; user = x.user; kind = kind; day = today }) (filter (is_for c.trail x) arising)

-- of a report
abbrev pub notices_on : ℕ → Registry → ℤ → Case → List Notice
notices_on t g today c = flat_map (notices_to t today (arising g.users today c.trail) c) (addressees g.users)

-- of a tenant's live reports
abbrev pub notices_of : Unsealed → ℕ → ℕ → List Notice
notices_of x now t = let g = registry_of x.lists t in flat_map (notices_on t g (day_of now g.settings.offset)) (live x now t)

-- of all tenants
abbrev pub owed : Unsealed → ℕ → List Notice
owed x now = flat_map (notices_of x now) (tenant_ids x.lists)
