-- Acts on a report: what refuses each, by the report's trail alone, and the deed that it is.
use Rattle.std.specs.Prelude.{ℕ, ℤ, nat_le, nat_lt, ◌==◌, not, Bool, true, List, length, Option, Some, option_map}
use Rattle.std.specs.Int.{int_max}
use Rattle.std.specs.Option.{option_or}
use Rattle.wb_base.specs.Calendars.{Calendar}
use Rattle.wb_base.specs.Terms as terms
use Rattle.wb_model.specs.declared.act.Act.{Act}
use Rattle.wb_model.specs.declared.act.Act.TheVariants as acts
use Rattle.wb_model.specs.declared.act.CaseFault.{CaseFault}
use Rattle.wb_model.specs.declared.act.CaseFault.TheVariants as faults
use Rattle.wb_model.specs.declared.act.Was.TheVariants as was
use Rattle.wb_model.specs.declared.entry.Status.{Status}
use Rattle.wb_model.specs.declared.entry.Entry.{Entry}
use Rattle.wb_model.specs.declared.entry.Deed.{Deed}
use Rattle.wb_model.specs.declared.entry.Deed.TheVariants as deeds
use Rattle.wb_model.specs.Trails.{same_status, is_closed, postponements, reads}
use Rattle.wb_model.specs.Trails as trails
use Rattle.wb_model.specs.Refusing.{refuses_where}

-- ---- rules: each refuses an act, or does not

abbrev pub closed : List Entry → Option CaseFault
closed trail = refuses_where (is_closed trail) faults.Closed

abbrev pub has_status : Status → List Entry → Option CaseFault
has_status status trail = refuses_where (same_status (trails.status trail) status) (faults.Already (was.Status status))

abbrev pub acknowledged : List Entry → Option CaseFault
acknowledged trail = option_map (λ day. faults.Already (was.Day day)) (trails.acknowledged trail)

abbrev pub has_reader : ℕ → List Entry → Option CaseFault
has_reader user trail = refuses_where (reads user trail) (faults.Already (was.User user))

abbrev pub not_reader : ℕ → List Entry → Option CaseFault
not_reader user trail = refuses_where (not (reads user trail)) faults.NotReader

abbrev pub last_reader : List Entry → Option CaseFault
last_reader trail = refuses_where (nat_le (length (trails.readers trail)) 1) faults.LastReader

abbrev pub same_context : ℕ → List Entry → Option CaseFault
same_context context trail = refuses_where (trails.context trail == context) faults.SameContext

abbrev pub context_closed : Bool → Option CaseFault
context_closed is_open = refuses_where (not is_open) faults.ContextClosed

abbrev pub postpone_spent : List Entry → Option CaseFault
postpone_spent trail = refuses_where (nat_le 10 (postponements trail)) faults.PostponeSpent

abbrev pub not_external : Bool → Option CaseFault
not_external external = refuses_where (not external) faults.NotExternal

abbrev pub extended : List Entry → Option CaseFault
extended trail = option_map (λ day. faults.Already (was.Day day)) (trails.extension trail)

abbrev pub is_full : ℕ → Bool
is_full entries = not (nat_lt entries 4_096)

abbrev pub full : List Entry → Option CaseFault
full trail = refuses_where (is_full (length trail)) faults.TrailFull

-- ---- the table of acts

-- what refuses it, by the report's trail
abbrev pub Rule : Type 0
Rule = List Entry → Option CaseFault

-- the first of two rules that refuses
abbrev pub first_of : Rule → Rule → Rule
first_of rule next trail = option_or (rule trail) (next trail)

-- the deed that it is, after a trail, on a calendar
abbrev pub DeedOf : Type 0
DeedOf = Calendar → List Entry → Deed

-- whatever there is
abbrev pub always : Deed → DeedOf
always deed calendar trail = deed

abbrev pub acknowledged_on : ℤ → DeedOf
acknowledged_on today calendar trail = deeds.Acknowledged today (terms.feedback_due (trails.received trail) (Some today) (trails.is_extended trail) calendar)

abbrev pub postponed_from : ℤ → ℕ → DeedOf
postponed_from today retention calendar trail = deeds.Postponed (int_max (trails.expires trail) (terms.expiry today retention))

abbrev pub extended_for : List ℕ → DeedOf
extended_for reason calendar trail = deeds.Extended (terms.feedback_due (trails.received trail) (trails.acknowledged trail) true calendar) reason

pub record ActColumns : Type 0 where
  -- the first of its rules that refuses it
  pub fault : Rule
  pub deed : DeedOf
  -- of its reply: 201 where it makes something new, and else 200
  pub status : ℕ

abbrev pub act_line : Rule → DeedOf → ℕ → ActColumns
act_line fault deed status = record { fault = fault; deed = deed; status = status }

abbrev pub act_columns : Act → ActColumns
act_columns (acts.Comment internal text) = act_line (first_of closed full) (always (deeds.Comment internal text)) 201
act_columns (acts.Label text) = act_line full (always (deeds.Label text)) 200
act_columns (acts.SetStatus status) = act_line (first_of (has_status status) full) (always (deeds.SetStatus status)) 200
act_columns (acts.Acknowledge today) = act_line (first_of closed (first_of acknowledged full)) (acknowledged_on today) 201
act_columns (acts.Feedback text) = act_line (first_of closed full) (always (deeds.Feedback text)) 201
act_columns (acts.Share user) = act_line (first_of (has_reader user) full) (always (deeds.Shared user)) 201
act_columns (acts.Unshare user) = act_line (first_of (not_reader user) last_reader) (always (deeds.Unshared user)) 200
act_columns (acts.Transfer context is_open readers) = act_line (first_of closed (first_of (same_context context) (first_of (λ trail. context_closed is_open) full))) (always (deeds.Transferred context readers)) 201
act_columns (acts.Postpone today retention) = act_line (first_of postpone_spent full) (postponed_from today retention) 201
act_columns (acts.Extend reason external) = act_line (first_of closed (first_of (λ trail. not_external external) (first_of extended full))) (extended_for reason) 201
act_columns acts.Identity = act_line (first_of closed full) (always deeds.Identity) 200

abbrev pub case_fault : List Entry → Act → Option CaseFault
case_fault trail act = (act_columns act).fault trail

abbrev pub act_deed : Calendar → List Entry → Act → Deed
act_deed calendar trail act = (act_columns act).deed calendar trail

abbrev pub act_status : Act → ℕ
act_status act = (act_columns act).status
