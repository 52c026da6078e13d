-- Rows that are told one by one.
use Rattle.std.proofs.Common.{◌≡◌, ℕ, ◌+◌, ◌<◌, List, [], ◌∷◌, ◌++◌, length, map, take, get_or, refl, ap, sym, subst, ◌∙◌}
use Rattle.std.proofs.lemmas.List.{take_more, map-append}
use Rattle.serde_json.specs.Data.{Data}
use Rattle.serde_json.specs.declared.value.Value.{Value}
use Rattle.serde_json.specs.View.{view, items_of}
use Rattle.wb_base.specs.declared.rows.Row.{Row}
use Rattle.wb_etcd.specs.Answers.{IsRowOf, AreRowsOf}

one_more_told : (prefix : List ℕ) (ds : List Data) (d : Data) (rows : List Row) (row : Row) → AreRowsOf prefix (items_of ds) rows → IsRowOf prefix d row → AreRowsOf prefix (items_of (ds ++ d ∷ [])) (rows ++ row ∷ [])
one_more_told prefix [] d rows row are is = (row, [], ap (λ (r : List Row). r ++ row ∷ []) are, is, refl)
one_more_told prefix (x ∷ ds) d rows row are is = (are.0, are.1 ++ row ∷ [], ap (λ (r : List Row). r ++ row ∷ []) are.2, are.3, one_more_told prefix ds d are.1 row are.4 is)

-- one more item is one more row
pub added : (prefix : List ℕ) (items : List Value) (i : ℕ) (d : Value) (rows : List Row) (row : Row) → i < length items → AreRowsOf prefix (items_of (map view (take i items))) rows → IsRowOf prefix (view (get_or items i d)) row → AreRowsOf prefix (items_of (map view (take (i + 1) items))) (rows ++ row ∷ [])
added prefix items i d rows row h are is =
    let more : map view (take (i + 1) items) ≡ map view (take i items) ++ view (get_or items i d) ∷ [] = ap (map view) (take_more items i d h) ∙ map-append view (take i items) (get_or items i d ∷ []) in
    subst (λ (ds : List Data). AreRowsOf prefix (items_of ds) (rows ++ row ∷ [])) (sym more) (one_more_told prefix (map view (take i items)) (view (get_or items i d)) rows row are is)
