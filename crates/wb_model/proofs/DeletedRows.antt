-- The rows after the batch of a turn that deletes a report: its purges, and then the drop of that report.
use Rattle.std.proofs.Common.{◌≡◌, ◌≢◌, inl, inr, ℕ, ◌<◌, List, [], ◌∷◌, ◌++◌, map, None, refl, sym, ap, ◌∙◌, subst, arith}
use Rattle.std.proofs.lemmas.List.{map-append}
use Rattle.wb_base.specs.KeptRows.{all_changed}
use Rattle.wb_base.specs.declared.rows.Change.{Change as RowChange}
use Rattle.wb_base.specs.declared.rows.Change.TheVariants.{DropReport}
use Rattle.wb_model.specs.Changes.{Deletes}
use Rattle.wb_model.specs.Host.{changed}
use Rattle.wb_model.specs.Tenants.{Tenancy}
use Rattle.wb_model.specs.Rows.{rows_of}
use Rattle.wb_model.proofs.Found.{Held}
use Rattle.wb_model.proofs.RowLaw.{DropsDead, purged_one}
use Rattle.wb_model.proofs.RowsLeft.{AllWithout, rows_left}
use Rattle.wb_model.proofs.TurnRows.{changed_append, map_held, purge_rows}

-- a tenancy after the deletion of its report n
abbrev pub deleted_one : ℕ → ℕ → Tenancy → Tenancy
deleted_one now n y = record { id = y.id; tables = changed now (Deletes n) None y.tables }

-- other tenants are as they were
all_stay : (t n : ℕ) (xs : List Tenancy) → ((x : Tenancy) → Held x xs → x.id ≢ t) → AllWithout t n xs xs
all_stay t n [] away = tt
all_stay t n (x ∷ xs) away = ((refl, (λ e. absurd (away x (inl refl) e)), (λ ne. refl)), all_stay t n xs (λ z h. away z (inr h)))

first_stay : (t n : ℕ) (xs ys zs : List Tenancy) → ((x : Tenancy) → Held x xs → x.id ≢ t) → AllWithout t n ys zs → AllWithout t n (xs ++ ys) (xs ++ zs)
first_stay t n [] ys zs away rest = rest
first_stay t n (x ∷ xs) ys zs away rest = ((refl, (λ e. absurd (away x (inl refl) e)), (λ ne. refl)), first_stay t n xs ys zs (λ z h. away z (inr h)) rest)

-- THE LAW of a deletion: the rows after the drop of the report are the rows of the changed tables
pub deleted_rows : (now n : ℕ) (before after : List Tenancy) (y : Tenancy) → ((x : Tenancy) → Held x before → x.id < y.id) → ((x : Tenancy) → Held x after → y.id < x.id)
    → all_changed (rows_of (before ++ (y ∷ after))) (DropReport y.id n ∷ []) ≡ rows_of (before ++ (deleted_one now n y ∷ after))
deleted_rows now n before after y below above =
    sym (rows_left y.id n (before ++ (y ∷ after)) (before ++ (deleted_one now n y ∷ after))
    (first_stay y.id n before (y ∷ after) (deleted_one now n y ∷ after) (λ x held e. let lt : x.id < y.id = below x held in omega (arith, lt, e))
    ((refl, (λ e. refl), (λ ne. absurd (ne refl))), all_stay y.id n after (λ x held e. let lt : y.id < x.id = above x held in omega (arith, lt, e)))))

-- THE LAW of the batch of a deletion that also purges
pub deletion_rows : (now n : ℕ) (before after : List Tenancy) (y : Tenancy) (ds : List RowChange) → DropsDead now (before ++ (y ∷ after)) ds
    → ((x : Tenancy) → Held x before → x.id < y.id) → ((x : Tenancy) → Held x after → y.id < x.id) → all_changed (rows_of (before ++ (y ∷ after))) (ds ++ (DropReport y.id n ∷ []))
    ≡ rows_of (map (purged_one now) before ++ (deleted_one now n (purged_one now y) ∷ map (purged_one now) after))
deletion_rows now n before after y ds dead below above =
    let ys = before ++ (y ∷ after) in
    let ps : List RowChange = DropReport y.id n ∷ [] in
    changed_append (rows_of ys) ds ps
    ∙ (ap (λ l. all_changed l ps) (purge_rows now ys ds dead ∙ ap rows_of (map-append (purged_one now) before (y ∷ after)))
    ∙ deleted_rows now n (map (purged_one now) before) (map (purged_one now) after) (purged_one now y)
    (λ x held. let k = map_held (purged_one now) before x held in subst (λ (z : Tenancy). z.id < y.id) (sym k.1.1) (below k.0 k.1.0))
    (λ x held. let k = map_held (purged_one now) after x held in subst (λ (z : Tenancy). y.id < z.id) (sym k.1.1) (above k.0 k.1.0)))
