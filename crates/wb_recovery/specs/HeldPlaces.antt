-- What a host begins with that is opened over what is kept and a setup: its tenants, and the rows of those that the setup adds.
use Rattle.std.specs.Prelude.{◌≡◌, ℕ, ◌==◌, Bool, true, false, if◌then◌else◌, List, [], ◌∷◌, ◌++◌, map, not, filter, None}
use Rattle.wb_base.specs.declared.rows.Change.{Change as RowChange}
use Rattle.wb_row_codec.specs.declared.item.NumberingItem.{NumberingItem}
use Rattle.wb_model.specs.declared.registry.Lists.{Lists}
use Rattle.wb_model.specs.Legal.{ascends_from}
use Rattle.wb_model.specs.Opened.{Apart}
use Rattle.wb_model.specs.Openings.{registry_of, empty_tables}
use Rattle.wb_model.specs.SetUps.{has_tenant, tenant_ids}
use Rattle.wb_model.specs.Tables.{Case, has_receipt}
use Rattle.wb_model.specs.Tenants.{Tenancy}
use Rattle.wb_rows.specs.Reports.{Report}
use Rattle.wb_rows.specs.Held.{Held}
use Rattle.wb_rows.specs.Openings.{case_of, cases_of, tables_of, tenancies_of}
use Rattle.wb_rows.specs.Puts.{tenant_puts}
use Rattle.wb_tables.specs.Kept.{PlainTenancy}
use Rattle.wb_setup.specs.Joined.{joined}
use Rattle.wb_base.specs.KeptRows.{all_changed, key_cmp, key_of}
use Rattle.wb_base.specs.declared.rows.Row.{Row}
use Rattle.wb_base.specs.declared.form.Format.{Format}
use Rattle.wb_model.specs.Rows.{rows_in, rows_of}
use Rattle.std.specs.List.Sorted.{IsStrictlySortedBy}

-- ---- the tenants

-- a tenant, of what is held
abbrev pub held_place : Held → ℕ → PlainTenancy
held_place h t = record { id = t; plain = (tables_of h t).plain }

abbrev pub held_places : Held → List PlainTenancy
held_places h = map (held_place h) (tenant_ids h.lists)

-- what is held of tenants without reports
abbrev pub bare : Lists → List NumberingItem → Held
bare lists numberings = record { lists = lists; numberings = numberings; reports = []; sealed = λ t n. None }

-- a tenant with one more report
abbrev pub with_case : Report → PlainTenancy → PlainTenancy
with_case r x = record x { plain = record x.plain { cases = x.plain.cases ++ case_of r ∷ [] } }

-- where the report is the tenant's
abbrev pub with_report : Report → PlainTenancy → PlainTenancy
with_report r x = if r.tenant == x.id then with_case r x else x

-- with reports, one after another
abbrev pub with_reports : List Report → PlainTenancy → PlainTenancy
with_reports [] x = x
with_reports (r ∷ rs) x = with_reports rs (with_report r x)

-- the reports of a tenant that are there and those that are to come stand in the order of their numbers, and no two have one receipt
pub record AreToCome (rs : List Report) (x : PlainTenancy) : Type 0 where
  pub numbers : ascends_from 0 (map (λ (c : Case). c.number) (x.plain.cases ++ cases_of rs x.id)) ≡ true
  pub receipts : Apart has_receipt (x.plain.cases ++ cases_of rs x.id)

-- nothing is held of a tenant that is not there
abbrev pub HoldNoOthers : Held → Type 0
HoldNoOthers h = (t : ℕ) → has_tenant h.lists t ≡ false → tables_of h t ≡ empty_tables (registry_of h.lists t)

-- ---- the rows

-- a tenant of whom nothing is held
abbrev pub new_tenancy : Lists → ℕ → Tenancy
new_tenancy lists t = record { id = t; tables = empty_tables (registry_of lists t) }

-- the rows of the tenants that are none of these
abbrev pub new_puts : Lists → (ℕ → Bool) → List ℕ → List RowChange
new_puts lists is_old ts = tenant_puts (map (new_tenancy lists) (filter (λ t. not (is_old t)) ts))

-- those of the tenants that a setup adds
abbrev pub setup_puts : Lists → Lists → List RowChange
setup_puts setup kept = new_puts (joined setup kept) (has_tenant kept) (tenant_ids (joined setup kept))

-- the rows of a format of what is held
abbrev pub AreRowsIn : Format → Held → List Row → Type 0
AreRowsIn format h rows = rows_in format (tenancies_of h) ≡ rows

-- after these changes the rows are those of what is held, in format 2
abbrev pub BecomeRowsOf : Held → List Row → List RowChange → Type 0
BecomeRowsOf h rows batch = all_changed rows batch ≡ rows_of (tenancies_of h)

abbrev pub InKeyOrder : List Row → Type 0
InKeyOrder rows = IsStrictlySortedBy key_cmp (map key_of rows)
