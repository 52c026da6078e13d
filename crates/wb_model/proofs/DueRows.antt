-- Due days, expiry and postponements, computed from pasts.
use Rattle.std.proofs.Common.{◌≡◌, ℕ, true, false, List, [], ◌∷◌, Some, refl, pos}
use Rattle.std.specs.Prelude.{map, codes}
use Rattle.jiff_core.specs.Calendar.{days_from_civil, day_count, days_of_years, days_of_months}
use Rattle.wb_base.specs.Days.{date_at}
use Rattle.wb_base.specs.declared.callers.Presented.TheVariants as presented
use Rattle.wb_base.specs.declared.callers.Principal.TheVariants as principals
use Rattle.wb_model.specs.declared.command.Command.TheVariants as commands
use Rattle.wb_model.specs.declared.entry.Status.TheVariants as statuses
use Rattle.wb_model.specs.declared.event.What.TheVariants.{Did}
use Rattle.wb_model.specs.declared.view.Due.{Due}
use Rattle.wb_model.specs.declared.view.DueKind.TheVariants as kinds
use Rattle.wb_model.specs.Trails.{expires}
use Rattle.wb_model.specs.Tables.{Case, Session}
use Rattle.wb_model.specs.ViewRows.{all_due}
use Rattle.serde_json.specs.Data.{Data, string, boolean}
use Rattle.wb_model.specs.Json.{object_of, whole, date}
use Rattle.wb_model.specs.ListViews.{due_data}
use Rattle.wb_model.proofs.Starter.{starter_registry}
use Rattle.wb_model.specs.Past.{Past, Turn, live, live_reports, trail, standing_sessions}
use Rattle.wb_model.specs.Opened.{Opened}
use Rattle.wb_model.proofs.RowPasts.{after, opened_case, opened, did}

-- ---- what is due

-- a week after the report, and three months after that
dues-row : all_due (live_reports opened (after 691_200)) ≡ record { day = pos 20_096; kind = kinds.Ack; number = 1 } ∷ record { day = pos 20_186; kind = kinds.Feedback; number = 1 } ∷ []
unfolding starter_registry
dues-row = refl

-- three months after an acknowledgement on the ninth of January is the ninth of April, day 20187
acknowledged-row : all_due (live_reports (did 691_200 1 (commands.Acknowledge 1 1) opened) (after 691_200)) ≡ record { day = pos 20_187; kind = kinds.Feedback; number = 1 } ∷ []
unfolding starter_registry days_from_civil day_count days_of_years days_of_months date_at
acknowledged-row = refl

feedback-row : all_due (live_reports (did 60 1 (commands.Feedback 1 1 (codes "x")) opened) (after 60)) ≡ record { day = pos 20_096; kind = kinds.Ack; number = 1 } ∷ []
unfolding starter_registry
feedback-row = refl

closed-row : all_due (live_reports (did 60 1 (commands.SetStatus 1 1 statuses.Closed) opened) (after 60)) ≡ []
unfolding starter_registry
closed-row = refl

-- of two reports: by day, then by number, then the acknowledgement first
abbrev twice : List Case
twice = opened_case ∷ record opened_case { number = 2 } ∷ []

order-row : map (λ (d : Due). d.number) (all_due twice) ≡ 1 ∷ 2 ∷ 1 ∷ 2 ∷ []
order-row = refl

-- a day is over on the day after it
abbrev over : ℕ → Data
over today = due_data (pos today) (record { day = pos 20_096; kind = kinds.Ack; number = 1 })

over-row : over 20_097 ≡ object_of ((codes "day", date (pos 20_096)) ∷ (codes "kind", string (codes "ack")) ∷ (codes "number", whole 1) ∷ (codes "over", boolean true) ∷ [])
over-row = refl

not-over-row : over 20_096 ≡ object_of ((codes "day", date (pos 20_096)) ∷ (codes "kind", string (codes "ack")) ∷ (codes "number", whole 1) ∷ (codes "over", boolean false) ∷ [])
not-over-row = refl

-- ---- expiry

last-second-row : live opened 1 (after 2_591_999) ≡ true
unfolding starter_registry
last-second-row = refl

gone-row : live opened 1 (after 2_592_000) ≡ false
unfolding starter_registry
gone-row = refl

-- time does not go back: what is gone stays so at an earlier frame's turn
stays-gone-row : live (did 2_592_000 1 (commands.Label 1 1 []) opened) 1 (after 2_592_000) ≡ false
unfolding starter_registry
stays-gone-row = refl

-- a reporter's session ends with the report, a user's does not
abbrev entered : Past Opened
entered = did 2_590_000 1 (commands.Login 1 [] []) (Turn (record { moment = after 2_590_000; words = record { 0 = 0 ∷ 0 ∷ 0 ∷ 0 ∷ [] }; what = Did (record { command = commands.ReceiptLogin 1 []; session = presented.None; close = false }) (Some (principals.Report 1 1)) }) opened)

abbrev turns_at : ℕ → List ℕ
turns_at s = map (λ (x : Session). x.turn) (standing_sessions entered (after s))

both-row : turns_at 2_591_999 ≡ 1 ∷ 2 ∷ []
unfolding starter_registry
both-row = refl

user-row : turns_at 2_592_000 ≡ 2 ∷ []
unfolding starter_registry
user-row = refl

-- ---- postponements

-- on day 20097 by the 30 days of the report's context
abbrev postponed : Past Opened
postponed = did 691_200 1 (commands.Postpone 1 1) opened

postponed-row : expires (trail postponed 1) ≡ pos 20_127
unfolding starter_registry
postponed-row = refl

lives-on-row : live postponed 1 (after 2_592_000) ≡ true
unfolding starter_registry
lives-on-row = refl

ends-row : live postponed 1 (after 3_283_200) ≡ false
unfolding starter_registry
ends-row = refl

-- by the 10 days of the context that it was moved to: no expiry is set back
not-back-row : expires (trail (did 691_200 2 (commands.Postpone 1 1) (did 600 1 (commands.Transfer 1 1 2) opened)) 1) ≡ pos 20_119
unfolding starter_registry
not-back-row = refl

-- by the retention that the context has now
abbrev lengthened : Past Opened
lengthened = did 700 4 (commands.SetContext 1 1 (record { name = codes "Fraud"; form = 1; is_open = true; recipients = 1 ∷ []; retention = 3_650 })) opened

present-row : expires (trail (did 691_200 1 (commands.Postpone 1 1) lengthened) 1) ≡ pos 23_747
unfolding starter_registry
present-row = refl
