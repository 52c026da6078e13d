-- The rows that changes put.
use Rattle.std.specs.Prelude.{ℕ, ◌≤◌, List, [], ◌∷◌, ◌++◌, map, Option, Some, None, All, ◌<◌, filter, not, Bool, length, ◌≡◌, ◌+◌}
use Rattle.wb_base.specs.AnswerList.{Answered}
use Rattle.wb_base.specs.FormJson.{kept_data}
use Rattle.wb_base.specs.declared.rows.Row.{Row}
use Rattle.wb_base.specs.declared.rows.Change.{Change as RowChange}
use Rattle.wb_base.specs.declared.rows.Change.TheVariants.{Put}
use Rattle.wb_model.specs.Json.{answers_data}
use Rattle.wb_model.specs.Rows.{row, tenants_rows, settings_data, user_data, context_data, rows_of, entry_data}
use Rattle.wb_model.specs.Settings.{Setting, OfTenant, OfUser, OfContext, OfForm}
use Rattle.wb_model.specs.Tables.{Registry, Case}
use Rattle.wb_model.specs.Tenants.{Tenancy}
use Rattle.wb_tenants.specs.Sets.{set_tenant}
use Rattle.wb_base.specs.KeptRows.{all_changed}
use Rattle.wb_model.specs.Host.{Tables, changed}
use Rattle.wb_model.specs.Changes.{Notes, Configures}
use Rattle.wb_model.specs.declared.entry.Entry.{Entry}
use Rattle.wb_model.specs.Opened.{AreOrdered, AreVersions}

-- the row of a report's identity answers, where there are any
abbrev pub sealed_put : ℕ → ℕ → Option Answered → List RowChange
sealed_put t n None = []
sealed_put t n (Some answers) = Put (row 7 t n 0 (answers_data answers)) ∷ []

-- the row of a setting of a tenant with a registry
abbrev pub setting_row : ℕ → Registry → Setting → Row
setting_row t g (OfTenant next) = row 1 t 0 0 (settings_data (set_tenant next g.settings))
setting_row t g (OfUser item ends) = row 3 t item.id 0 (user_data item)
setting_row t g (OfContext item) = row 5 t item.id 0 (context_data item)
setting_row t g (OfForm item) = row 4 t item.id item.version (kept_data item.form)

-- a form that is set has no version above 99
abbrev pub IsVersion : Setting → Type 0
IsVersion (OfTenant next) = Unit {0}
IsVersion (OfUser item ends) = Unit {0}
IsVersion (OfContext item) = Unit {0}
IsVersion (OfForm item) = item.version ≤ 99

-- the rows of a tenant are put
abbrev pub tenant_put : Tenancy → List RowChange
tenant_put x = map Put (tenants_rows (x ∷ []))

-- those of tenants, tenant by tenant
abbrev pub tenant_puts : List Tenancy → List RowChange
tenant_puts [] = []
tenant_puts (x ∷ xs) = tenant_put x ++ tenant_puts xs

-- ---- what is put among tenants, which stand in the order of their ids

-- the tenants before one, and those after it
abbrev pub StandBefore : List Tenancy → Tenancy → Type 0
StandBefore before x = All (λ (b : Tenancy). b.id < x.id) before

abbrev pub StandAfter : List Tenancy → Tenancy → Type 0
StandAfter after x = All (λ (a : Tenancy). x.id < a.id) after

-- the rows of the tenants after these changes are those with this tenant changed
abbrev pub MakesRows : List Tenancy → Tenancy → List Tenancy → List RowChange → Tables → Type 0
MakesRows before x after puts tables = all_changed (rows_of (before ++ (x ∷ after))) puts ≡ rows_of (before ++ (record { id = x.id; tables = tables } ∷ after))

-- each entry on a report puts its row, and that of the identity answers that come with it
abbrev pub EntriesPutTheirRows : List Tenancy → Tenancy → List Tenancy → ℕ → Case → Type 0
EntriesPutTheirRows before x after n case = (now : ℕ) (entry : Entry) (given : Option Answered) →
    MakesRows before x after (Put (row 6 x.id n (length case.trail + 1) (entry_data entry)) ∷ sealed_put x.id n given) (changed now (Notes n entry) given x.tables)

-- a setting puts its row
abbrev pub SettingPutsItsRow : List Tenancy → Tenancy → List Tenancy → Setting → Type 0
SettingPutsItsRow before x after setting = (now : ℕ) (secret : Option Answered) →
    MakesRows before x after (Put (setting_row x.id x.tables.plain.registry setting) ∷ []) (changed now (Configures setting) secret x.tables)

-- a tenant is set up in order, and has no report yet
abbrev pub IsNew : Tenancy → Type 0
IsNew x = (x.tables.plain.cases ≡ []) × AreOrdered x.tables.plain.registry × AreVersions x.tables.plain.registry.forms

-- the rows of new tenants, put after those of the others, are those of all
abbrev pub NewTenantsPutTheirRows : (Tenancy → Bool) → List Tenancy → Type 0
NewTenantsPutTheirRows is_old all = all_changed (rows_of (filter is_old all)) (tenant_puts (filter (λ x. not (is_old x)) all)) ≡ rows_of all
