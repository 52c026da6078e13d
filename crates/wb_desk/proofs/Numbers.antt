-- The numbers that a desk counts are those that its hosts have drawn.
use Rattle.std.proofs.Common.{◌≡◌, ℕ, List, [], ◌∷◌, map, sum_by, refl, arith}
use Rattle.std.proofs.lemmas.List.Sums.{sum_by-cons}
use Rattle.wb_custody.specs.declared.sealed.SealedItem.{SealedItem}
use Rattle.wb_model.specs.Tenants.{Tenancy}
use Rattle.wb_tables.specs.Kept.{PlainTenancy, tenancy_of, numbers_at}

abbrev last_of : Tenancy → ℕ
last_of x = x.tables.plain.numbering.last

abbrev last_at : PlainTenancy → ℕ
last_at x = x.plain.numbering.last

pub numbers_counted : (items : List SealedItem) (xs : List PlainTenancy) → numbers_at xs ≡ sum_by last_of (map (tenancy_of items) xs)
numbers_counted items [] = refl
numbers_counted items (x ∷ xs) = omega (arith, numbers_counted items xs, sum_by-cons last_at x xs, sum_by-cons last_of (tenancy_of items x) (map (tenancy_of items) xs))
