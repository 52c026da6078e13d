-- Kept rows as a table, and what changes make of it.
use Rattle.std.specs.Prelude.{◌≡◌, ℕ, ◌≤◌, Bool, not, List, [], ◌∷◌, filter, ◌==◌, ◌&&◌, ◌||◌, ⊤}
use Rattle.std.specs.Ordering.{nat_cmp, ordering_then}
use Rattle.std.specs.declared.cmp.Ordering.{Ordering}
use Rattle.wb_list.specs.Keyed.{insert_item}
use Rattle.wb_base.specs.declared.rows.Key.{Key}
use Rattle.wb_base.specs.declared.rows.Row.{Row}
use Rattle.wb_base.specs.declared.rows.Change.{Change}
use Rattle.wb_base.specs.declared.rows.Change.TheVariants.{Put, DropReport}

-- the order of keys, by their fields
abbrev pub key_cmp : Key → Key → Ordering
key_cmp k m = ordering_then (nat_cmp k.kind m.kind) (ordering_then (nat_cmp k.tenant m.tenant) (ordering_then (nat_cmp k.a m.a) (nat_cmp k.b m.b)))

-- the key of a row
abbrev pub key_of : Row → Key
key_of row = row.key

-- the row of a key is part of a report: an entry of its trail, or its sealed answers
abbrev pub is_of_report : ℕ → ℕ → Key → Bool
is_of_report tenant number key = ((key.kind == 6) || (key.kind == 7)) && (key.tenant == tenant) && (key.a == number)

-- the rows after a change
abbrev pub changed : List Row → Change → List Row
changed rows (Put row) = insert_item key_cmp key_of rows row
changed rows (DropReport tenant number) = filter (λ row. not (is_of_report tenant number row.key)) rows

-- the rows after changes in turn
abbrev pub all_changed : List Row → List Change → List Row
all_changed rows [] = rows
all_changed rows (change ∷ changes) = all_changed (changed rows change) changes

-- a row that may be put: of a kind that is known, and sealed answers stand once
abbrev pub IsGoodChange : Change → Type 0
IsGoodChange (Put row) = (row.key.kind ≤ 7) × (row.key.kind ≡ 7 → row.key.b ≡ 0)
IsGoodChange (DropReport tenant number) = ⊤
