-- Pasts for rows: the starter tenant with one report, what refuses a command there, and what is answered.
use Rattle.wb_base.specs.Calendars.{plain}
use Rattle.std.proofs.Common.{Bool, cond, eqb, ◌≡◌, ℕ, ◌+◌, true, false, List, [], ◌∷◌, Option, Some, None, refl, arith, pos}
use Rattle.std.specs.Prelude.{codes, is_some}
use Rattle.jiff_core.specs.Calendar.{days_from_civil, day_count, days_of_years, days_of_months}
use Rattle.wb_base.specs.Days.{date_at}
use Rattle.wb_base.specs.AnswerList.{Answered}
use Rattle.wb_base.specs.declared.callers.Presented.TheVariants as presented
use Rattle.wb_base.specs.declared.callers.Principal.TheVariants as principals
use Rattle.wb_model.specs.declared.body.Told.{Told}
use Rattle.wb_model.specs.declared.command.Command.{Command}
use Rattle.wb_model.specs.declared.command.Command.TheVariants as commands
use Rattle.wb_model.specs.declared.command.Decision.{Decision}
use Rattle.wb_model.specs.declared.entry.Actor.TheVariants as actors
use Rattle.wb_model.specs.declared.entry.Deed.TheVariants as deeds
use Rattle.wb_model.specs.declared.event.What.TheVariants.{Did}
use Rattle.wb_model.specs.Trails.{has_identity}
use Rattle.wb_model.specs.Tables.{Who, TheUser, Case, report}
use Rattle.wb_model.specs.Requests.{Unchecked}
use Rattle.wb_model.specs.Changes.{TurnContext, Answer}
use Rattle.wb_model.specs.OnReports.{refusal_on, answer_on}
use Rattle.wb_model.specs.Effects.{Effect}
use Rattle.wb_model.specs.Commands.{effect_of}
use Rattle.wb_model.proofs.Starter.{starter_registry, starter_tables, starter_sound}
use Rattle.wb_model.specs.Past.{Past, Opening, Turn, registry, trail, case_of}
use Rattle.wb_model.specs.Legal.{is_legal}
use Rattle.wb_model.specs.Opened.{entries_of, Opened}

-- seconds after 2025-01-01 00:00 UTC
abbrev pub after : ℕ → ℕ
after s = 1_735_689_600 + s

abbrev pub opened_case : Case
opened_case = record { number = 1; trail = record { at = after 0; by = actors.Reporter; deed = deeds.Submitted (pos 20_096) [] 1 (pos 20_119) (pos 20_186) 1 true (1 ∷ []) (record { 0 = [] }) (pos 20_089) 1 } ∷ [] }

abbrev pub no_answers : Option Answered
no_answers = Some []

-- its identity answers are told by number 1 alone
abbrev pub opened_sealed : ℕ → Option Answered
opened_sealed r = cond (eqb 1 r) no_answers None

pub opened_marks : (r : ℕ) → is_some (opened_sealed r) ≡ has_identity (entries_of (report r (opened_case ∷ [])))
opened_marks r = by (eqb 1 r)
  where
    by : (b : Bool) → is_some (cond b no_answers None) ≡ has_identity (entries_of (cond b (Some opened_case) None))
    by true = refl
    by false = refl

pub opened_legal : is_legal (record { offset = pos 0; calendar = plain }) opened_case.trail ≡ true
unfolding days_from_civil day_count days_of_years days_of_months date_at
opened_legal = refl

abbrev pub opened : Past Opened
unfolding starter_registry
opened = Opening (record {
  at = after 0;
  tables = record starter_tables {
    plain = record starter_tables.plain {
      numbering = record { at = after 0; drawn = 1; last = 1 };
      cases = opened_case ∷ [];
    };
    sealed = opened_sealed;
  };
  sound = record { sound = starter_sound; versions = ((omega arith, omega arith), tt); ordered = record { users = refl; forms = refl; contexts = refl }; numbering = refl; drawn = omega arith; ascend = (omega arith, tt); most = (omega arith, tt); begun = (omega arith, tt); legal = ((opened_legal, omega arith), tt); forms = (refl, tt); receipts = ((λ k is. refl), tt); marks = opened_marks; sessions = refl };
})

abbrev pub did : ℕ → ℕ → Command → Past Opened → Past Opened
did s u command past = Turn (record { moment = after s; words = record { 0 = 0 ∷ 0 ∷ 0 ∷ 0 ∷ [] }; what = Did (record { command = command; session = presented.None; close = false }) (Some (principals.User 1 u)) }) past

-- what refuses a user's command on the report at a moment, and what is answered to it
abbrev pub at : ℕ → TurnContext
at s = record { time = after s; turn = 0; words = record { 0 = 0 ∷ 0 ∷ 0 ∷ 0 ∷ [] } }

abbrev pub does : Past Opened → ℕ → Who → Command → Effect
does past s who command = effect_of (at s) (registry past) (Some who) presented.None (trail past 1) command

abbrev pub refusal : Past Opened → ℕ → ℕ → Command → Option Told
refusal past s u command = refusal_on (at s) (registry past) (TheUser u) (case_of past 1) Unchecked (does past s (TheUser u) command)

abbrev pub answer : Past Opened → ℕ → ℕ → Command → Answer
answer past s u command = answer_on (at s) (registry past) (TheUser u) (case_of past 1) (does past s (TheUser u) command)

abbrev pub ask : Command
ask = commands.Ask 1 1 (codes "Interview")

abbrev pub read : Command
read = commands.ReadIdentity 1 1

abbrev pub decide : Decision → ℕ → Option (List ℕ) → Command
decide decision k withhold = commands.Decide 1 1 k decision (codes "Needed") withhold
