-- Openings that differ in one report: in its identity answers alone, or of which one is without it.
use Rattle.std.specs.Prelude.{◌≡◌, ◌≢◌, ◌⊎◌, ◌≤◌, not, true, filter, map, ℕ, List, [], ◌∷◌, Some}
use Rattle.wb_base.specs.KeptRows.{is_of_report}
use Rattle.wb_base.specs.declared.rows.Row.{Row}
use Rattle.wb_model.specs.Alike.{TablesAlike}
use Rattle.wb_model.specs.Past.{Past, Opening}
use Rattle.wb_model.specs.Pasts.{AllOpened, standing_hosts, tenants}
use Rattle.wb_model.specs.Absence.{later_replies, replies_purged, without}
use Rattle.wb_model.specs.Legal.{ascends}
use Rattle.wb_model.specs.Opened.{AreOpened}
use Rattle.wb_model.specs.Reopened.{left_tables, left_time, reopening}
use Rattle.wb_model.specs.Rows.{rows}
use Rattle.wb_model.specs.Scripts.{Place, past_after, script_replies}

-- equal but for the identity answers of report r of tenant t
pub record OpeningsAlike (t r : ℕ) (o p : AllOpened) : Type 0 where
  pub at : o.at ≡ p.at
  pub tenants : o.tenants ≡ p.tenants
  pub others : (u : ℕ) → u ≢ t → o.tables u ≡ p.tables u
  pub own : TablesAlike r (o.tables t) (p.tables t)

-- the second is the first without report r of tenant t, whose number was drawn: no trail, no identity answers, and all else as it is. Its
-- moment may be earlier, where the first's was that of an entry of the report
pub record IsOpenedWithout (t r : ℕ) (o p : AllOpened) : Type 0 where
  pub at : p.at ≤ o.at
  pub tenants : p.tenants ≡ o.tenants
  pub others : (u : ℕ) → u ≢ t → p.tables u ≡ o.tables u
  pub own : p.tables t ≡ without r (o.tables t)
  pub drawn : r ≤ (o.tables t).plain.numbering.last

-- no place is before a moment
abbrev pub AreNotBefore : ℕ → List Place → Type 0
AreNotBefore m [] = Unit {0}
AreNotBefore m (p ∷ ps) = (m ≤ p.moment) × AreNotBefore m ps

-- both hosts are opened at one moment, or no place of the script is before the later of the two
abbrev pub StartTogether : AllOpened → AllOpened → List Place → Type 0
StartTogether o p places = (p.at ≡ o.at) ⊎ AreNotBefore o.at places

-- ---- rows

-- the rows but those of report r of tenant t: the entries of its trail, and its identity answers
abbrev pub rows_without : ℕ → ℕ → List Row → List Row
rows_without t r rows = filter (λ x. not (is_of_report t r x.key)) rows

-- ---- a script over two openings, of which the second is without report r of tenant t

-- the replies are the same, but at the places where the report is live
abbrev pub AnswersOverBoth : ℕ → ℕ → AllOpened → AllOpened → List Place → Type 0
AnswersOverBoth t r o p places = later_replies t r (Opening o) places (map Some (script_replies (Opening o) places)) ≡ later_replies t r (Opening o) places (map Some (script_replies (Opening p) places))

-- from the place on at which the report is purged, all replies are
abbrev pub AnswersAfterOverBoth : ℕ → ℕ → AllOpened → AllOpened → List Place → Type 0
AnswersAfterOverBoth t r o p places = replies_purged t r (Opening o) places (map Some (script_replies (Opening o) places)) ≡ replies_purged t r (Opening o) places (map Some (script_replies (Opening p) places))

-- the hosts at the end are the same
abbrev pub EndsOverBoth : AllOpened → AllOpened → List Place → Type 0
EndsOverBoth o p places = standing_hosts (past_after (Opening p) places) ≡ standing_hosts (past_after (Opening o) places)

-- what they hold is
abbrev pub HoldsOverBoth : AllOpened → AllOpened → List Place → Type 0
HoldsOverBoth o p places = (standing_hosts (past_after (Opening p) places)).list ≡ (standing_hosts (past_after (Opening o) places)).list

-- the rows of a past are those of another without the report's
abbrev pub HasRowsWithout : ℕ → ℕ → Past AllOpened → Past AllOpened → Type 0
HasRowsWithout t r other past = rows other ≡ rows_without t r (rows past)

-- ---- what two pasts leave

-- two openings that are equal but for the report's identity answers
abbrev pub LeaveAlike : ℕ → ℕ → Past AllOpened → Past AllOpened → Type 0
LeaveAlike t r past other =
    (ids : ascends (tenants past) ≡ true) (sound : (u : ℕ) → AreOpened (left_time past) (left_tables past u)) (other_ids : ascends (tenants other) ≡ true) (other_sound : (u : ℕ) → AreOpened (left_time other) (left_tables other u)) →
    OpeningsAlike t r (reopening past ids sound) (reopening other other_ids other_sound)

-- two openings, of which the second is without the report
abbrev pub LeaveWithout : ℕ → ℕ → Past AllOpened → Past AllOpened → Type 0
LeaveWithout t r past other =
    (ids : ascends (tenants past) ≡ true) (sound : (u : ℕ) → AreOpened (left_time past) (left_tables past u)) (other_ids : ascends (tenants other) ≡ true) (other_sound : (u : ℕ) → AreOpened (left_time other) (left_tables other u)) →
    IsOpenedWithout t r (reopening past ids sound) (reopening other other_ids other_sound)

-- so it is after a script over two openings
abbrev pub LeaveWithoutAfter : ℕ → ℕ → AllOpened → AllOpened → List Place → Type 0
LeaveWithoutAfter t r o p places = LeaveWithout t r (past_after (Opening o) places) (past_after (Opening p) places)
