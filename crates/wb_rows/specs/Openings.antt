-- What is held, tenant by tenant: the tables with which a host is opened over it, and the moment of the opening.
use Rattle.std.specs.Prelude.{ℕ, ◌==◌, List, [], ◌∷◌, ◌++◌, map, filter, find, true, false, ◌≡◌}
use Rattle.std.specs.Option.{option_map_or}
use Rattle.wb_row_codec.specs.declared.item.NumberingItem.{NumberingItem}
use Rattle.wb_model.specs.declared.entry.Entry.{Entry}
use Rattle.wb_model.specs.declared.numbering.Numbering.{Numbering}
use Rattle.wb_model.specs.declared.registry.Lists.{Lists}
use Rattle.wb_model.specs.Host.{Tables}
use Rattle.wb_model.specs.Openings.{registry_of, empty_tables}
use Rattle.wb_model.specs.Reopened.{latest}
use Rattle.wb_model.specs.SetUps.{tenant_ids, has_tenant}
use Rattle.wb_model.specs.Tables.{Case}
use Rattle.wb_model.specs.Tenants.{Tenancy}
use Rattle.wb_rows.specs.Reports.{Report}
use Rattle.wb_rows.specs.Held.{Held}
use Rattle.wb_rows.specs.ReportRules.{is_numbering_of}
use Rattle.wb_setup.specs.Joined.{joined}
use Rattle.wb_model.specs.Readable.{AreReadable}

-- ---- the tables of a tenant

-- its numbering, of which no number is drawn where it has none
abbrev pub numbering_of : List NumberingItem → ℕ → Numbering
numbering_of numberings t = option_map_or (λ (x : NumberingItem). x.numbering) (find (is_numbering_of t) numberings) (record { at = 0; drawn = 0; last = 0 })

abbrev pub case_of : Report → Case
case_of r = record { number = r.number; trail = r.trail }

-- its reports
abbrev pub cases_of : List Report → ℕ → List Case
cases_of reports t = map case_of (filter (λ (r : Report). r.tenant == t) reports)

-- all that is held of it, and no session
abbrev pub tables_of : Held → ℕ → Tables
tables_of h t = record {
  plain = record { registry = registry_of h.lists t; numbering = numbering_of h.numberings t; cases = cases_of h.reports t; sessions = [] };
  sealed = h.sealed t;
}

abbrev pub tenancy_of : Held → ℕ → Tenancy
tenancy_of h t = record { id = t; tables = tables_of h t }

-- the tenants that are there
abbrev pub tenancies_of : Held → List Tenancy
tenancies_of h = map (tenancy_of h) (tenant_ids h.lists)

-- ---- the moment

abbrev pub report_moments : List Report → List ℕ
report_moments [] = []
report_moments (r ∷ rs) = map (λ (e : Entry). e.at) r.trail ++ report_moments rs

-- the greatest moment of the last draws and the entries, or 0
abbrev pub time_of : Held → ℕ
time_of h = latest (map (λ (x : NumberingItem). x.numbering.at) h.numberings ++ report_moments h.reports)

-- ---- with a setup

-- what is held, and the setup's tenants that are not there, of whom nothing is held yet
abbrev pub with_setup : Lists → Held → Held
with_setup setup h = record h { lists = joined setup h.lists }

-- what is held of each of these tenants is read back
abbrev pub AreReadableIn : Lists → Held → Type 0
AreReadableIn lists h = (t : ℕ) → has_tenant lists t ≡ true → AreReadable t (tables_of h t)

-- nothing is held of a tenant that is not there
abbrev pub HasNothingElse : Held → Type 0
HasNothingElse h = (t : ℕ) → has_tenant h.lists t ≡ false → tables_of h t ≡ empty_tables (registry_of h.lists t)
