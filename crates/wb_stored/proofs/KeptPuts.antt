-- An upsert into a table of kept rows.
use Rattle.std.proofs.Common.{◌≡◌, ◌↔◌, inl, inr, ℕ, ℤ, Bool, true, false, Some, List, [], ◌∷◌, map, filter, is_eq, int_cmp, Less, refl, sym, ap, subst, ◌∙◌, arith}
use Rattle.std.specs.List.Sorted.{IsPermutation}
use Rattle.std.proofs.lemmas.Bool.{cases_Bool}
use Rattle.std.proofs.lemmas.Bool.Decides.{nat_tests}
use Rattle.std.proofs.lemmas.Int.{ints}
use Rattle.sqlite_value.specs.declared.value.Value.TheVariants.{Int}
use Rattle.sqlite_value.specs.Order.{Row as SqlRow, value_cmp}
use Rattle.sqlite_value.proofs.OrderLemmas.{value_cmp-Int}
use Rattle.sqlite_trees.specs.Tree.{Trees, rowid, without_rowid, put_row, IsTable}
use Rattle.sqlite_schema.specs.declared.schema.Column.{Column}
use Rattle.sqlite_schema.specs.declared.schema.Schema.{Schema}
use Rattle.sqlite_rules.specs.Edit.{are_fresh, id_in, next_rowid, edit_of, Applies}
use Rattle.sqlite_schema.specs.declared.schema.Keys.TheVariants.{Enforced}
use Rattle.sqlite_rules.specs.Calls.{ids_of}
use Rattle.sqlite_rules.specs.Cast.{cast_row}
use Rattle.sqlite_rules.specs.Keys.{AreConflicts, conflicts}
use Rattle.sqlite_rules.specs.declared.error.Rowids.TheVariants.{Given}
use Rattle.sqlite_rules.specs.Lists.{Has}
use Rattle.sqlite_rules.proofs.ListLemmas.{all_has}
use Rattle.sqlite_sql.specs.Term.{Term}
use Rattle.sqlite.proofs.Callers.{one_permutation}
use Rattle.wb_base.specs.declared.rows.Row.{Row}
use Rattle.wb_stored.specs.Tables.{kept_table}
use Rattle.wb_stored.specs.Told.{IsKept}
use Rattle.wb_stored.proofs.Once.{IsOnce}
use Rattle.wb_stored.proofs.Texts.{query_over}
use Rattle.wb_stored.proofs.Parts.{passes, shows, chosen}
use Rattle.wb_stored.proofs.Upserting.{offered, beside, LeftBy, Upserted}
use Rattle.wb_stored.proofs.Kept.{IsPut, is_self, put_new, put_over}

abbrev own_id : SqlRow → ℤ
own_id r = id_in (rowid r)

abbrev HasOwn : SqlRow → Type 0
HasOwn r = rowid r ≡ Int (own_id r)

abbrev is_at : ℤ → SqlRow → Bool
is_at id r = is_eq (int_cmp (own_id r) id)

not_back : (a b : ℤ) → int_cmp a b ≡ Less → is_eq (int_cmp b a) ≡ false
not_back a b h = grind (arith, ints, nat_tests)

below : (x y : SqlRow) → HasOwn x → HasOwn y → value_cmp (rowid x) (rowid y) ≡ Less → int_cmp (own_id x) (own_id y) ≡ Less
below x y p q h = sym (value_cmp-Int (own_id x) (own_id y)) ∙ (rw (p, q) at h)

none_at : (id : ℤ) (rows : List SqlRow) → ((y : SqlRow) → Has rows y → is_at id y ≡ false) → filter (is_at id) rows ≡ []
none_at id [] none = refl
none_at id (y ∷ more) none = rw (none y (inl refl)) (none_at id more (λ z h. none z (inr h)))

one_at : (rows : List SqlRow) (r : SqlRow) → IsTable rows → ((x : SqlRow) → Has rows x → HasOwn x) → Has rows r → filter (is_at (own_id r)) rows ≡ r ∷ []
one_at [] r up own h = absurd h
one_at (x ∷ more) r up own h = elim h [
  | inl same ↦ subst (λ z. filter (is_at (own_id z)) (x ∷ more) ≡ z ∷ []) (sym same) (
      rw (is_self (own_id x)) (ap (λ rest. x ∷ rest) (none_at (own_id x) more (λ y k. not_back (own_id x) (own_id y) (below x y (own x (inl refl)) (own y (inr k)) (all_has _ more y up.0 k)))))
      )
  | inr later ↦
      let less : int_cmp (own_id x) (own_id r) ≡ Less = below x r (own x (inl refl)) (own r (inr later)) (all_has _ more r up.0 later) in
      rw less (one_at more r up.1 (λ y k. own y (inr k)) later)
]

same_hits : (m : SqlRow → Bool) (id : ℤ) (rows : List SqlRow) → ((x : SqlRow) → Has rows x → m x ≡ is_at id x) → filter m rows ≡ filter (is_at id) rows
same_hits m id [] same = refl
same_hits m id (r ∷ more) same =
    let rest = same_hits m id more (λ x h. same x (inr h)) in
    elim (cases_Bool (is_at id r)) [
      | inl e ↦ rw (same r (inl refl), e) (ap (λ xs. r ∷ xs) rest)
      | inr e ↦ rw (same r (inl refl), e) rest
    ]

module _ (stored : ℤ → Row → SqlRow) (IsOf : Row → Type 0) (rowid_is : (id : ℤ) (x : Row) → rowid (stored id x) ≡ Int id)
    (back : (i j : ℤ) (x y : Row) → stored i x ≡ stored j y → IsOf x → IsOf y → x ≡ y)
    (schema : Schema) (name : List ℕ) (columns : List Column) (places : List ℕ) (tree : ℕ) (terms hit_terms project : List Term) (bound : Row → SqlRow)
    (offers : (row : Row) (db : Trees) → offered schema name columns places tree terms (query_over tree hit_terms project []) (bound row) db ≡ stored (next_rowid (db tree)) row)
    (casts : (id : ℤ) (row : Row) → cast_row (kept_table name columns places tree) (stored id row) ≡ stored id row)
    (meets : (i j : ℤ) (x y : Row) → IsOf x → IsOf y → (conflicts (Some places) schema.indexes (kept_table name columns places tree) (stored i x) (stored j y) ≡ true) ↔ (y.key ≡ x.key))
    (hits : (i id j : ℤ) (row x : Row) → passes hit_terms (beside schema name columns places tree terms (query_over tree hit_terms project []) (bound row) (Int id ∷ []) (stored i row)) (stored j x) ≡ is_eq (int_cmp j id))
    (rewrites : (i id : ℤ) (row was : Row) → IsOf row → IsOf was → was.key ≡ row.key
    → shows project (beside schema name columns places tree terms (query_over tree hit_terms project []) (bound row) (Int id ∷ []) (stored i row)) (stored id was) ≡ Int id ∷ stored id row) where
  has_own : (table : List SqlRow) → IsKept stored IsOf table → (c : SqlRow) → Has table c → HasOwn c
  has_own table kept c h =
      let it = kept.each c h in
      let is : rowid c ≡ Int it.0 = ap rowid it.3 ∙ rowid_is it.0 it.1 in
      rw is refl

  found_put : (i : ℤ) (row : Row) (db next : Trees) (found : List SqlRow) → IsOf row → IsKept stored IsOf (db tree) → IsOnce stored IsOf (db tree)
      → AreConflicts (Some places) schema.indexes (kept_table name columns places tree) (db tree) (stored i row) found
      → LeftBy schema name columns places tree terms (query_over tree hit_terms project []) (bound row) (stored i row) db next found → IsPut stored IsOf rowid_is back (db tree) (next tree) row
  found_put i row db next [] of kept once met left =
      let fresh : are_fresh (db tree) (stored i row ∷ []) ≡ true = subst (λ r. are_fresh (db tree) (r ∷ []) ≡ true) (casts i row) left.fresh in
      let is : next tree ≡ put_row (stored i row) (db tree) = left.rows ∙ ap (λ r. put_row r (db tree)) (casts i row) in
      subst (λ t. IsPut stored IsOf rowid_is back (db tree) t row) (sym is)
      (put_new stored IsOf rowid_is back (db tree) i row of kept (λ j x p h same. met.complete (stored j x) h ((meets i j row x of p).1 same)) fresh)
  found_put i row db next (there ∷ more) of kept once met left =
      let hit = met.sound there (inl refl) in
      let it = kept.each hit.0 hit.1 in
      let id = it.0 in
      let was = it.1 in
      let here : Has (db tree) (stored id was) = subst (Has (db tree)) it.3 hit.1 in
      let met_it = subst (λ c. conflicts (Some places) schema.indexes (kept_table name columns places tree) (stored i row) c ≡ true) it.3 hit.2 in
      let key : was.key ≡ row.key = (meets i id row was of it.2).0 met_it in
      let there_is : there ≡ Int id ∷ [] = hit.3 ∙ ap (λ c. rowid c ∷ []) it.3 ∙ ap (λ v. v ∷ []) (rowid_is id was) in
      let given = beside schema name columns places tree terms (query_over tree hit_terms project []) (bound row) (Int id ∷ []) (stored i row) in
      let m = passes hit_terms given in
      let all : IsPermutation (map (shows project given) (filter m (db tree))) left.0 =
      subst (λ t. IsPermutation (map (shows project (beside schema name columns places tree terms (query_over tree hit_terms project []) (bound row) t (stored i row))) (filter (passes hit_terms (beside schema name columns places tree terms (query_over tree hit_terms project []) (bound row) t (stored i row))) (db tree))) left.0) there_is
      (chosen tree hit_terms project [] db (beside schema name columns places tree terms (query_over tree hit_terms project []) (bound row) there (stored i row)) left.0 left.1) in
      let own : own_id (stored id was) ≡ id = ap id_in (rowid_is id was) in
      let one : filter m (db tree) ≡ stored id was ∷ [] =
      same_hits m id (db tree) (λ c h.
      let k = kept.each c h in
      let at : own_id c ≡ k.0 = ap own_id k.3 ∙ ap id_in (rowid_is k.0 k.1) in
      ap m k.3 ∙ hits i id k.0 row k.1 ∙ ap (λ n. is_eq (int_cmp n id)) (sym at))
      ∙ subst (λ n. filter (is_at n) (db tree) ≡ stored id was ∷ []) own (one_at (db tree) (stored id was) kept.rising (has_own (db tree) kept) here) in
      let rows : left.0 ≡ (Int id ∷ stored id row) ∷ [] =
      one_permutation (shows project given (stored id was)) left.0 (subst (λ f. IsPermutation (map (shows project given) f) left.0) one all) ∙ ap (λ r. r ∷ []) (rewrites i id row was of it.2 key) in
      let table = kept_table name columns places tree in
      let applied = subst (λ rs. Applies schema Enforced db (edit_of db table (ids_of rs) Given 1 rs) next) rows left.2 in
      let fresh : are_fresh (without_rowid id (db tree)) (stored id row ∷ []) ≡ true = subst (λ r. are_fresh (without_rowid id (db tree)) (r ∷ []) ≡ true) (casts id row) applied.fresh in
      let is : next tree ≡ put_row (stored id row) (without_rowid id (db tree)) = applied.rows ∙ ap (λ r. put_row r (without_rowid id (db tree))) (casts id row) in
      subst (λ t. IsPut stored IsOf rowid_is back (db tree) t row) (sym is) (put_over stored IsOf rowid_is back (db tree) id row was of it.2 kept once here key fresh)

  pub puts : (db next : Trees) (row : Row) → IsOf row → IsKept stored IsOf (db tree) → IsOnce stored IsOf (db tree)
      → Upserted schema name columns places tree terms (query_over tree hit_terms project []) (bound row) (offered schema name columns places tree terms (query_over tree hit_terms project []) (bound row) db) db next
      → IsPut stored IsOf rowid_is back (db tree) (next tree) row
  puts db next row of kept once u =
      let i = next_rowid (db tree) in
      let q = query_over tree hit_terms project [] in
      let same = offers row db in
      found_put i row db next u.found of kept once
      (subst (λ n. AreConflicts (Some places) schema.indexes (kept_table name columns places tree) (db tree) n u.found) same u.conflicts)
      (subst (λ n. LeftBy schema name columns places tree terms q (bound row) n db next u.found) same u.left_is)
