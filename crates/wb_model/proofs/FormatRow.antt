-- The row of the format stands before all others, and no change of another row moves it.
use Rattle.std.proofs.Common.{◌≡◌, ◌<◌, List, [], ◌∷◌, ◌++◌, refl, sym, ap, ◌∙◌}
use Rattle.std.specs.Cmp.{nat_cmp_is}
use Rattle.std.specs.Ordering.{nat_cmp, ordering_then, match_ordering}
use Rattle.std.specs.declared.cmp.Ordering.TheVariants.{Less}
use Rattle.wb_base.specs.KeptRows.{key_cmp, key_of, changed, all_changed}
use Rattle.wb_base.specs.declared.rows.Row.{Row}
use Rattle.wb_base.specs.declared.rows.Change.{Change}
use Rattle.wb_base.specs.declared.rows.Change.TheVariants.{Put, DropReport}
use Rattle.wb_list.specs.Keyed.{insert_item}
use Rattle.wb_model.specs.Rows.{format_row}

-- what is put is no row of kind 0
abbrev pub IsBehind : Change → Type 0
IsBehind (Put row) = 0 < row.key.kind
IsBehind (DropReport t n) = Unit {0}

abbrev pub AreBehind : List Change → Type 0
AreBehind [] = Unit {0}
AreBehind (c ∷ cs) = IsBehind c × AreBehind cs

pub behind_more : (cs ds : List Change) → AreBehind cs → AreBehind ds → AreBehind (cs ++ ds)
behind_more [] ds h k = k
behind_more (c ∷ cs) ds h k = (h.0, behind_more cs ds h.1 k)

below : (row : Row) → 0 < row.key.kind → key_cmp format_row.key row.key ≡ Less
below row h = ap (λ o. ordering_then o (ordering_then (nat_cmp 0 row.key.tenant) (ordering_then (nat_cmp 0 row.key.a) (nat_cmp 0 row.key.b)))) (sym (nat_cmp_is 0 row.key.kind Less h))

one_behind : (rows : List Row) (c : Change) → IsBehind c → changed (format_row ∷ rows) c ≡ format_row ∷ changed rows c
one_behind rows (Put row) h = ap (λ o. match_ordering o (format_row ∷ insert_item key_cmp key_of rows row) (row ∷ rows) (row ∷ format_row ∷ rows)) (below row h)
one_behind rows (DropReport t n) h = refl

pub all_behind : (rows : List Row) (cs : List Change) → AreBehind cs → all_changed (format_row ∷ rows) cs ≡ format_row ∷ all_changed rows cs
all_behind rows [] h = refl
all_behind rows (c ∷ cs) h = ap (λ l. all_changed l cs) (one_behind rows c h.0) ∙ all_behind (changed rows c) cs h.1
