-- Kept rows and a setup open one past.
use Rattle.std.proofs.Common.{◌≡◌, ℕ, List, sym, ap, ◌∙◌, subst}
use Rattle.wb_base.specs.declared.rows.Row.{Row}
use Rattle.wb_desk.specs.Openings.{IsOpeningOver}
use Rattle.wb_model.specs.declared.registry.Lists.{Lists}
use Rattle.wb_model.specs.Past.{Past, Opening}
use Rattle.wb_model.specs.Pasts.{AllOpened}
use Rattle.wb_rows.specs.Held.{Held}
use Rattle.wb_desk.specs.Openings.{IsOpenedBy}
use Rattle.wb_promise.proofs.JudgedRows.{ok_same}

-- an opening is told by its tables
module _ (one_opening : (o p : AllOpened) → o.at ≡ p.at → o.tenants ≡ p.tenants → ((t : ℕ) → o.tables t ≡ p.tables t) → o ≡ p) where
  over_same : (lists : Lists) (h : Held) (o p : AllOpened) → IsOpeningOver lists h o → IsOpeningOver lists h p → o ≡ p
  over_same lists h o p x y = one_opening o p (x.at ∙ sym y.at) (x.tenants ∙ sym y.tenants) (λ t. x.tables t ∙ sym (y.tables t))

  pub one_start : (loaded : List Row) (setup : List ℕ) (start other : Past AllOpened) → IsOpenedBy loaded setup start → IsOpenedBy loaded setup other → start ≡ other
  one_start loaded setup start other x y =
      x.opens
      ∙ (ap Opening (over_same x.lists x.held x.opening y.opening x.over
      (subst (λ l. IsOpeningOver l x.held y.opening) (sym (ok_same x.lists y.lists _ x.reads y.reads)) (subst (λ h. IsOpeningOver y.lists h y.opening) (sym (ok_same x.held y.held _ x.kept y.kept)) y.over)))
      ∙ sym y.opens)
