-- Extensions and calendars, computed: what refuses an extension, and on which days terms end.
use Rattle.std.proofs.Common.{◌≡◌, true, false, [], ◌∷◌, Some, None, refl, arith, pos}
use Rattle.std.specs.Prelude.{codes}
use Rattle.jiff_core.specs.Calendar.{days_from_civil, day_count, days_of_years, days_of_months, weekday_number}
use Rattle.wb_base.specs.Calendars.{Calendar}
use Rattle.wb_base.specs.Days.{date_at}
use Rattle.wb_base.specs.Terms as terms
use Rattle.wb_model.specs.declared.act.CaseFault.TheVariants as cases
use Rattle.wb_model.specs.declared.act.Was.TheVariants as was
use Rattle.wb_model.specs.declared.command.Command.TheVariants as commands
use Rattle.wb_model.specs.declared.entry.Status.TheVariants as statuses
use Rattle.wb_model.specs.Faults.{case_told}
use Rattle.wb_model.specs.Trails.{feedback_due}
use Rattle.wb_model.proofs.Starter.{starter_registry, starter_tables, starter_sound}
use Rattle.wb_model.specs.Past.{Past, Opening, trail}
use Rattle.wb_model.specs.Opened.{Opened}
use Rattle.wb_model.proofs.RowPasts.{opened_case, opened_sealed, opened_marks, opened_legal, opened, after, did, refusal}

-- ---- calendars

-- 2025-11-23 is a Sunday, so the seven days end on Monday, 2025-12-01
abbrev week : Calendar
week = record { roll = true; holidays = [] }

ack-row : terms.ack_due (pos 20_415) week ≡ pos 20_423
unfolding weekday_number
ack-row = refl

holiday-row : terms.ack_due (pos 20_415) (record { roll = true; holidays = pos 20_423 ∷ [] }) ≡ pos 20_424
unfolding weekday_number
holiday-row = refl

feedback-row : terms.feedback_due (pos 20_415) None false week ≡ pos 20_514
unfolding weekday_number days_from_civil day_count days_of_years days_of_months date_at
feedback-row = refl

extended-row : terms.feedback_due (pos 20_415) None true week ≡ pos 20_605
unfolding weekday_number days_from_civil day_count days_of_years days_of_months date_at
extended-row = refl

-- ---- extensions

not-external-row : refusal opened 50 1 (commands.Extend 1 1 (codes "Abroad")) ≡ Some (case_told cases.NotExternal)
unfolding starter_registry
not-external-row = refl

-- a closed report is told first
closed-first-row : refusal (did 40 1 (commands.SetStatus 1 1 statuses.Closed) opened) 50 1 (commands.Extend 1 1 (codes "Abroad")) ≡ Some (case_told cases.Closed)
unfolding starter_registry
closed-first-row = refl

-- the same tenant as an external channel
abbrev abroad : Past Opened
unfolding starter_registry
abroad = Opening (record {
  at = after 0;
  tables = record starter_tables {
    plain = record starter_tables.plain {
      registry = record starter_registry { settings = record starter_registry.settings { external = true } };
      numbering = record { at = after 0; drawn = 1; last = 1 };
      cases = opened_case ∷ [];
    };
    sealed = opened_sealed;
  };
  sound = record { sound = record { notice = starter_sound.notice; contexts = starter_sound.contexts }; versions = ((omega arith, omega arith), tt); ordered = record { users = refl; forms = refl; contexts = refl }; numbering = refl; drawn = omega arith; ascend = (omega arith, tt); most = (omega arith, tt); begun = (omega arith, tt); legal = ((opened_legal, omega arith), tt); forms = (refl, tt); receipts = ((λ k is. refl), tt); marks = opened_marks; sessions = refl };
})

abbrev extended : Past Opened
extended = did 50 1 (commands.Extend 1 1 (codes "Abroad")) abroad

free-row : refusal abroad 50 1 (commands.Extend 1 1 (codes "Abroad")) ≡ None
unfolding starter_registry
free-row = refl

due-row : feedback_due (trail extended 1) ≡ pos 20_277
unfolding starter_registry days_from_civil day_count days_of_years days_of_months date_at
due-row = refl

again-row : refusal extended 60 1 (commands.Extend 1 1 (codes "Abroad")) ≡ Some (case_told (cases.Already (was.Day (pos 20_277))))
unfolding starter_registry days_from_civil day_count days_of_years days_of_months date_at
again-row = refl

-- an acknowledgement after it counts six months from its own day, and the extension's own day stays what was kept
acknowledged-row : feedback_due (trail (did 70 1 (commands.Acknowledge 1 1) extended) 1) ≡ pos 20_270
unfolding starter_registry days_from_civil day_count days_of_years days_of_months date_at
acknowledged-row = refl

kept-row : refusal (did 70 1 (commands.Acknowledge 1 1) extended) 80 1 (commands.Extend 1 1 (codes "Abroad")) ≡ Some (case_told (cases.Already (was.Day (pos 20_277))))
unfolding starter_registry days_from_civil day_count days_of_years days_of_months date_at
kept-row = refl
