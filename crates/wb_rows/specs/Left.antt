-- What tenants hold, as what is held of all tenants.
use Rattle.std.specs.Prelude.{◌≡◌, ◌≤◌, ℕ, true, List, map, find, None}
use Rattle.std.specs.Option.{option_map_or}
use Rattle.wb_row_codec.specs.declared.item.NumberingItem.{NumberingItem}
use Rattle.wb_model.specs.LeftLists.{of_each, lists_of}
use Rattle.wb_model.specs.ByVerdicts.{AreByVerdicts}
use Rattle.wb_model.specs.Past.{Past}
use Rattle.wb_model.specs.Pasts.{AllOpened, part, tenants, has_tenant, standing_hosts, time}
use Rattle.wb_model.specs.Readable.{AreRanged, OpensReadable}
use Rattle.wb_model.specs.Reopened.{left_tables, left_time}
use Rattle.wb_model.specs.SetUps.{tenant_ids}
use Rattle.wb_model.specs.Tables.{Case}
use Rattle.wb_model.specs.Tenants.{Tenancy, has_id}
use Rattle.wb_rows.specs.Reports.{Report}
use Rattle.wb_rows.specs.Held.{Held}
use Rattle.wb_rows.specs.Openings.{tables_of, time_of}

abbrev pub numbering_item : Tenancy → NumberingItem
numbering_item x = record { tenant = x.id; numbering = x.tables.plain.numbering }

abbrev pub report_in : ℕ → Case → Report
report_in t c = record { tenant = t; number = c.number; trail = c.trail }

abbrev pub reports_in : Tenancy → List Report
reports_in x = map (report_in x.id) x.tables.plain.cases

abbrev pub held_of : List Tenancy → Held
held_of xs = record {
  lists = lists_of xs;
  numberings = map numbering_item xs;
  reports = of_each reports_in xs;
  sealed = λ t n. option_map_or (λ (x : Tenancy). x.tables.sealed n) (find (has_id t) xs) None;
}

-- what the hosts of a past hold
abbrev pub left : Past AllOpened → Held
left past = held_of (standing_hosts past).list

-- that is what they left: their tenants, the greatest moment that is kept, and each tenant's tables without sessions
pub record HoldsWhatIsLeft (past : Past AllOpened) (h : Held) : Type 0 where
  pub tenants : tenant_ids h.lists ≡ tenants past
  pub time : time_of h ≡ left_time past
  pub tables : (t : ℕ) → has_tenant past t ≡ true → tables_of h t ≡ left_tables past t

-- a past whose rows are read back: verdicts made it, of requests in their ranges and at moments in theirs, from an opening whose rows are
pub record IsReadBack (past : Past AllOpened) : Type 0 where
  pub verdicts : (t : ℕ) → AreByVerdicts t (part t past)
  pub ranged : (t : ℕ) → AreRanged t (part t past)
  pub opens : (t : ℕ) → has_tenant past t ≡ true → OpensReadable t (part t past)
  pub moment : time past ≤ 99_999_999_999
