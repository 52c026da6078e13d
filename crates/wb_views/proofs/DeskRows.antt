-- The requests from a place on are the one at that place and those after it.
use Rattle.std.proofs.Common.{◌≡◌, ℕ, zero, suc, ◌+◌, List, [], ◌∷◌, drop, map, Some, option_map, ap, ◌++◌, append_assoc, arith, sym, ◌∙◌}
use Rattle.std.proofs.lemmas.List.{map-append}
use Rattle.std.proofs.lemmas.Option.{same_Some}
use Rattle.serde_json.specs.Data.{Data}
use Rattle.serde_json.specs.View.{view}
use Rattle.serde_json.specs.declared.value.Value.{Value}
use Rattle.wb_model.specs.declared.access.AccessRequest.{AccessRequest}
use Rattle.wb_model.specs.declared.registry.UserItem.{UserItem}
use Rattle.wb_model.specs.declared.view.Custodied.{Custodied}
use Rattle.wb_model.specs.Access.{request_at}
use Rattle.wb_model.specs.ViewRows.{custodied_from}
use Rattle.wb_model.specs.Views.{request_data}
use Rattle.wb_views.specs.Seen.{custodied_at, request_shown}

-- as rows
row_at : (users : List UserItem) (number id k : ℕ) (rs : List AccessRequest) (row : Custodied) → option_map (custodied_at users number id) (request_at (suc k) rs) ≡ Some row
    → custodied_from users number id (drop k rs) ≡ row ∷ custodied_from users number (id + 1) (drop (suc k) rs)
row_at users number id k [] row e = absurd cc
row_at users number id zero (r ∷ rs) row e = ap (λ x. x ∷ custodied_from users number (id + 1) rs) (same_Some _ _ e)
row_at users number id (suc k) (r ∷ rs) row e = row_at users number id k rs row e

next_row : (users : List UserItem) (number id k : ℕ) (rs : List AccessRequest) (row : Custodied) → option_map (custodied_at users number id) (request_at (k + 1) rs) ≡ Some row
    → custodied_from users number id (drop k rs) ≡ row ∷ custodied_from users number (id + 1) (drop (k + 1) rs)
next_row users number id k rs row e = let next : k + 1 ≡ suc k = omega arith in rw next (row_at users number id k rs row (rw next at e))

-- as the objects of the body of their report
object_at : (users : List UserItem) (number id k : ℕ) (rs : List AccessRequest) (d : Data) → option_map (request_shown users id) (request_at (suc k) rs) ≡ Some d
    → map request_data (custodied_from users number id (drop k rs)) ≡ d ∷ map request_data (custodied_from users number (id + 1) (drop (suc k) rs))
object_at users number id k [] d e = absurd cc
object_at users number id zero (r ∷ rs) d e = ap (λ x. x ∷ map request_data (custodied_from users number (id + 1) rs)) (same_Some _ _ e)
object_at users number id (suc k) (r ∷ rs) d e = object_at users number id k rs d e

next_object : (users : List UserItem) (number id k : ℕ) (rs : List AccessRequest) (d : Data) → option_map (request_shown users id) (request_at (k + 1) rs) ≡ Some d
    → map request_data (custodied_from users number id (drop k rs)) ≡ d ∷ map request_data (custodied_from users number (id + 1) (drop (k + 1) rs))
next_object users number id k rs d e = let next : k + 1 ≡ suc k = omega arith in rw next (object_at users number id k rs d (rw next at e))

-- one row more
pub more_rows : (users : List UserItem) (number k : ℕ) (rs : List AccessRequest) (row : Custodied) (old new whole : List Custodied) → option_map (custodied_at users number (k + 1)) (request_at (k + 1) rs) ≡ Some row
    → new ≡ old ++ row ∷ [] → old ++ custodied_from users number (k + 1) (drop k rs) ≡ whole → new ++ custodied_from users number (k + 1 + 1) (drop (k + 1) rs) ≡ whole
more_rows users number k rs row old new whole here is all =
    ap (λ xs. xs ++ custodied_from users number (k + 1 + 1) (drop (k + 1) rs)) is
    ∙ (append_assoc old (row ∷ []) (custodied_from users number (k + 1 + 1) (drop (k + 1) rs)) ∙ (ap (λ xs. old ++ xs) (sym (next_row users number (k + 1) k rs row here)) ∙ all))

-- one object more
pub more_objects : (users : List UserItem) (number k : ℕ) (rs : List AccessRequest) (v : Value) (old new : List Value) (whole : List Data) → option_map (request_shown users (k + 1)) (request_at (k + 1) rs) ≡ Some (view v)
    → new ≡ old ++ v ∷ [] → map view old ++ map request_data (custodied_from users number (k + 1) (drop k rs)) ≡ whole
    → map view new ++ map request_data (custodied_from users number (k + 1 + 1) (drop (k + 1) rs)) ≡ whole
more_objects users number k rs v old new whole here is all =
    let rest = map request_data (custodied_from users number (k + 1 + 1) (drop (k + 1) rs)) in
    ap (λ xs. xs ++ rest) (ap (map view) is ∙ map-append view old (v ∷ []))
    ∙ (append_assoc (map view old) (view v ∷ []) rest ∙ (ap (λ xs. map view old ++ xs) (sym (next_object users number (k + 1) k rs (view v) here)) ∙ all))
