-- The sealed table as a map from the tenant and number of a report to its identity answers.
use Rattle.std.specs.Prelude.{ℕ, ◌==◌, ◌&&◌, Bool, List, [], ◌∷◌, find, Option, option_map}
use Rattle.std.specs.Ordering.{nat_cmp, ordering_then}
use Rattle.std.specs.declared.cmp.Ordering.{Ordering}
use Rattle.wb_base.specs.AnswerList.{Answered}
use Rattle.wb_list.specs.Keyed.{insert_item}
use Rattle.wb_custody.specs.declared.sealed.SealedItem.{SealedItem}

-- the identity answers of a report
abbrev pub is_of : ℕ → ℕ → SealedItem → Bool
is_of tenant number item = (item.tenant == tenant) && (item.number == number)

-- the identity answers of a report, where there are any
abbrev pub answers_of : List SealedItem → ℕ → ℕ → Option Answered
answers_of items tenant number = option_map (λ item. item.answers) (find (is_of tenant number) items)

-- the order of reports within all tenants: tenant, then number
abbrev pub pair_cmp : ℕ × ℕ → ℕ × ℕ → Ordering
pair_cmp a b = ordering_then (nat_cmp a.0 b.0) (nat_cmp a.1 b.1)

-- the report that identity answers are of
abbrev pub sealed_place : SealedItem → ℕ × ℕ
sealed_place item = (item.tenant, item.number)

-- what stands in the table under a tenant and a number
abbrev pub item_at : (ℕ × ℕ) × Answered → SealedItem
item_at entry = record { tenant = entry.0.0; number = entry.0.1; answers = entry.1 }

-- all of it, in the order of tenant and number
abbrev pub in_order : List ((ℕ × ℕ) × Answered) → List SealedItem
in_order [] = []
in_order (entry ∷ entries) = insert_item pair_cmp sealed_place (in_order entries) (item_at entry)
