-- What changes put is no row of kind 0, so the row of the format stays at the front.
use Rattle.std.proofs.Common.{◌≡◌, ℕ, List, [], ◌∷◌, Option, Some, None, ap, ◌∙◌, arith}
use Rattle.wb_base.specs.AnswerList.{Answered}
use Rattle.wb_base.specs.KeptRows.{all_changed}
use Rattle.wb_base.specs.declared.form.Format.TheVariants.{Weighed}
use Rattle.wb_base.specs.declared.rows.Change.{Change as RowChange}
use Rattle.wb_base.specs.declared.rows.Change.TheVariants.{Put}
use Rattle.wb_model.specs.Rows.{format_row, tenants_rows, rows_of}
use Rattle.wb_model.specs.Settings.{Setting, OfTenant, OfUser, OfContext, OfForm}
use Rattle.wb_model.specs.Tables.{Registry}
use Rattle.wb_model.specs.Tenants.{Tenancy}
use Rattle.wb_model.proofs.FormatRow.{AreBehind, behind_more, all_behind}
use Rattle.wb_model.proofs.Converted.{own_positive, positive_puts}
use Rattle.wb_rows.specs.Puts.{sealed_put, setting_row, tenant_put, tenant_puts}

pub sealed_behind : (t n : ℕ) (given : Option Answered) → AreBehind (sealed_put t n given)
sealed_behind t n None = tt
sealed_behind t n (Some a) = (omega arith, tt)

pub setting_behind : (t : ℕ) (g : Registry) (setting : Setting) → AreBehind (Put (setting_row t g setting) ∷ [])
setting_behind t g (OfTenant next) = (omega arith, tt)
setting_behind t g (OfUser item ends) = (omega arith, tt)
setting_behind t g (OfContext item) = (omega arith, tt)
setting_behind t g (OfForm item) = (omega arith, tt)

pub tenants_behind : (xs : List Tenancy) → AreBehind (tenant_puts xs)
tenants_behind [] = tt
tenants_behind (x ∷ xs) = behind_more (tenant_put x) (tenant_puts xs) (positive_puts (tenants_rows (x ∷ [])) (own_positive Weighed (x ∷ []))) (tenants_behind xs)

-- a law of the rows of tenants is one of all rows
pub lifted : (xs ys : List Tenancy) (cs : List RowChange) → AreBehind cs → all_changed (tenants_rows xs) cs ≡ tenants_rows ys → all_changed (rows_of xs) cs ≡ rows_of ys
lifted xs ys cs behind law = all_behind (tenants_rows xs) cs behind ∙ ap (λ l. format_row ∷ l) law
