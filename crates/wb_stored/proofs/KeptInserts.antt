-- An insertion into a table of kept rows: no row had the key, since afterwards none stands twice.
use Rattle.std.proofs.Common.{◌≡◌, ℕ, ℤ, true, List, [], ◌∷◌, ◌++◌, is_eq, sym, ap, subst, ◌∙◌}
use Rattle.sqlite_value.specs.declared.value.Value.TheVariants.{Int}
use Rattle.sqlite_value.specs.Order.{Row as SqlRow, value_cmp}
use Rattle.sqlite_value.proofs.OrderLemmas.{value_cmp-Int}
use Rattle.sqlite_trees.specs.Tree.{Trees, rowid, put_row}
use Rattle.sqlite_schema.specs.declared.schema.Column.{Column}
use Rattle.sqlite_schema.specs.declared.schema.Schema.{Schema}
use Rattle.sqlite_rules.specs.Edit.{are_fresh, is_taken, next_rowid, with_rowid}
use Rattle.sqlite_rules.specs.Cast.{cast_row}
use Rattle.sqlite_rules.specs.declared.error.Rowids.TheVariants.{Chosen}
use Rattle.sqlite_rules.specs.Lists.{Has}
use Rattle.sqlite_rules.proofs.ListLemmas.{some_from}
use Rattle.sqlite_rules.proofs.TableLemmas.{has_put, put_all_keeps}
use Rattle.sqlite_sql.specs.Term.{Term, eval_all}
use Rattle.wb_base.specs.declared.rows.Row.{Row}
use Rattle.wb_stored.specs.Tables.{kept_table}
use Rattle.wb_stored.specs.Told.{IsKept}
use Rattle.wb_stored.proofs.Once.{IsOnce}
use Rattle.wb_stored.proofs.Inserting.{Inserted}
use Rattle.wb_stored.proofs.Kept.{IsPut, is_self, put_new}

module _ (stored : ℤ → Row → SqlRow) (IsOf : Row → Type 0) (rowid_is : (id : ℤ) (x : Row) → rowid (stored id x) ≡ Int id)
    (back : (i j : ℤ) (x y : Row) → stored i x ≡ stored j y → IsOf x → IsOf y → x ≡ y) where
  -- a rowid that is fresh is no row's
  apart : (table : List SqlRow) (i : ℤ) (row : Row) → IsOf row → IsOnce stored IsOf (put_row (stored i row) table) → are_fresh table (stored i row ∷ []) ≡ true
      → (j : ℤ) (x : Row) → IsOf x → Has table (stored j x) → ¬ (x.key ≡ row.key)
  apart table i row of once fresh j x p h same =
      let e : j ≡ i = once j i x row (put_all_keeps (stored i row ∷ []) table (stored j x) fresh h) (has_put (stored i row) table) p of same in
      let hit : is_eq (value_cmp (rowid (stored j x)) (rowid (stored i row))) ≡ true = rw (rowid_is j x, rowid_is i row, value_cmp-Int j i, e) (is_self i) in
      let taken : is_taken table (stored i row) ≡ true = some_from (λ r. is_eq (value_cmp (rowid r) (rowid (stored i row)))) table (stored j x) h hit in
      let bad = rw taken at fresh in cc

  module _ (schema : Schema) (name : List ℕ) (columns : List Column) (places : List ℕ) (tree : ℕ) (terms : List Term) (bound : Row → SqlRow)
      (offers : (row : Row) (db : Trees) → with_rowid Chosen (db tree) (cast_row (kept_table name columns places tree) (eval_all terms ((bound row ++ []) ∷ []))) ≡ stored (next_rowid (db tree)) row) where
    pub puts_new : (db next : Trees) (row : Row) → IsOf row → IsKept stored IsOf (db tree) → IsOnce stored IsOf (next tree) → Inserted schema name columns places tree terms (bound row) db next
        → IsPut stored IsOf rowid_is back (db tree) (next tree) row
    puts_new db next row of kept once applied =
        let i = next_rowid (db tree) in
        let fresh : are_fresh (db tree) (stored i row ∷ []) ≡ true = subst (λ r. are_fresh (db tree) (r ∷ []) ≡ true) (offers row db) applied.fresh in
        let is : next tree ≡ put_row (stored i row) (db tree) = applied.rows ∙ ap (λ r. put_row r (db tree)) (offers row db) in
        subst (λ t. IsPut stored IsOf rowid_is back (db tree) t row) (sym is)
        (put_new stored IsOf rowid_is back (db tree) i row of kept (apart (db tree) i row of (subst (IsOnce stored IsOf) is once) fresh) fresh)
