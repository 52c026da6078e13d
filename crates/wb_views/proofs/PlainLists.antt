-- No number in the bodies that list rows is kept as a floating one.
use Rattle.std.proofs.Common.{◌≡◌, ℤ, List, false, refl}
use Rattle.std.proofs.lemmas.Bool.{or_from}
use Rattle.serde_json.specs.Written.{has_float}
use Rattle.wb_json.proofs.NoFloats.{in-list, in-or_null}
use Rattle.wb_model.specs.declared.view.Custodied.{Custodied}
use Rattle.wb_model.specs.declared.view.Due.{Due}
use Rattle.wb_model.specs.declared.view.Listed.{Listed}
use Rattle.wb_model.specs.Json.{whole}
use Rattle.wb_model.specs.ListViews.{listed_data, list_view, due_data, due_view, custodied_data, custody_view}

pub in-listed : (rows : List Listed) → has_float (list_view rows) ≡ false
unfolding list_view
in-listed rows = or_from _ _ (in-list listed_data (λ row. refl) rows) refl

pub in-due : (rows : List Due) (today : ℤ) → has_float (due_view rows today) ≡ false
unfolding due_view
in-due rows today = or_from _ _ (in-list (due_data today) (λ row. refl) rows) refl

in-custodied : (row : Custodied) → has_float (custodied_data row) ≡ false
in-custodied row = or_from _ _ (in-or_null whole (λ n. refl) row.effective) refl

pub in-custody : (rows : List Custodied) → has_float (custody_view rows) ≡ false
unfolding custody_view
in-custody rows = or_from _ _ (in-list custodied_data in-custodied rows) refl
