-- No key stands twice in a table of kept rows, since a database keeps its UNIQUE.
use Rattle.std.proofs.Common.{◌≡◌, ℕ, ℤ, pos, true, false, ◌&&◌, Some, slice_get, List, int_cmp, refl, sym, inl, inr, ap, ◌∙◌, arith}
use Rattle.std.specs.Ordering.{is_ne}
use Rattle.std.proofs.lemmas.Bool.{cases_Bool}
use Rattle.std.proofs.lemmas.Bool.Decides.{nat_tests}
use Rattle.std.proofs.lemmas.Int.{ints}
use Rattle.sqlite_value.specs.declared.value.Value.TheVariants.{Int}
use Rattle.sqlite_value.specs.Order.{Row as SqlRow, value_cmp}
use Rattle.sqlite_value.specs.Keys.{plain, first_key}
use Rattle.sqlite_value.proofs.OrderLemmas.{value_cmp-Int}
use Rattle.sqlite_trees.specs.Tree.{Trees, rowid}
use Rattle.sqlite_schema.specs.declared.schema.Column.{Column}
use Rattle.sqlite_schema.specs.Rules.{agree, differ}
use Rattle.sqlite_sql.specs.Ops.{binary}
use Rattle.sqlite_catalog.specs.Listing.{IsSound}
use Rattle.sqlite_catalog.proofs.AlterLemmas.{keys_are_unique, place_has}
use Rattle.sqlite_rules.specs.Lists.{Has}
use Rattle.sqlite_rules.proofs.ListLemmas.{some_from}
use Rattle.sqlite.specs.Schema.{Schema}
use Rattle.wb_base.specs.declared.rows.Row.{Row}
use Rattle.wb_stored.specs.Tables.{kept_table, record_key, sealed_key}
use Rattle.wb_stored.specs.Told.{stored_record, stored_sealed, IsOfRecord, IsOfSealed}
use Rattle.wb_stored.proofs.Values.{same_int, truth_is, eq_nat}

-- rows with one key have one rowid
abbrev pub IsOnce : (ℤ → Row → SqlRow) → (Row → Type 0) → List SqlRow → Type 0
IsOnce stored IsOf table = (i j : ℤ) (x y : Row) → Has table (stored i x) → Has table (stored j y) → IsOf x → IsOf y → x.key ≡ y.key → i ≡ j

differ_is : (m n : ℤ) → differ (Int m) (Int n) ≡ is_ne (int_cmp m n)
unfolding binary
differ_is m n = truth_is (is_ne (value_cmp (Int m) (Int n))) ∙ ap is_ne (value_cmp-Int m n)

same_id : (m n : ℤ) → is_ne (int_cmp m n) ≡ false → m ≡ n
same_id m n h = grind (arith, ints, nat_tests)

record_agrees : (i j : ℤ) (x y : Row) → IsOfRecord x → IsOfRecord y → x.key ≡ y.key → agree plain record_key (stored_record j y) record_key (stored_record i x) ≡ true
unfolding first_key
record_agrees i j x y p q same =
    rw (same_int (pos y.key.kind) (pos x.key.kind), same_int (pos y.key.tenant) (pos x.key.tenant), same_int (pos y.key.a) (pos x.key.a), same_int (pos y.key.b) (pos x.key.b), same, eq_nat y.key.kind y.key.kind, eq_nat y.key.tenant y.key.tenant, eq_nat y.key.a y.key.a, eq_nat y.key.b y.key.b)
    (grind (arith, nat_tests))

sealed_agrees : (i j : ℤ) (x y : Row) → IsOfSealed x → IsOfSealed y → x.key ≡ y.key → agree plain sealed_key (stored_sealed j y) sealed_key (stored_sealed i x) ≡ true
unfolding first_key
sealed_agrees i j x y p q same =
    rw (same_int (pos y.key.tenant) (pos x.key.tenant), same_int (pos y.key.a) (pos x.key.a), same, eq_nat y.key.tenant y.key.tenant, eq_nat y.key.a y.key.a) (grind (arith, nat_tests))

module _ (stored : ℤ → Row → SqlRow) (IsOf : Row → Type 0) (rowid_is : (id : ℤ) (x : Row) → rowid (stored id x) ≡ Int id) (places : List ℕ)
    (agrees : (i j : ℤ) (x y : Row) → IsOf x → IsOf y → x.key ≡ y.key → agree plain places (stored j y) places (stored i x) ≡ true) where
  once_in : (schema : Schema) (db : Trees) (at : ℕ) (name : List ℕ) (columns : List Column) (tree : ℕ) → IsSound schema db → slice_get schema.tables at ≡ Some (kept_table name columns places tree)
      → IsOnce stored IsOf (db tree)
  once_in schema db at name columns tree sound place i j x y h k p q same =
      let no = keys_are_unique schema db (kept_table name columns places tree) 0 places (stored i x) sound (place_has schema.tables at _ place) refl h in
      elim (cases_Bool (is_ne (int_cmp j i))) [
        | inr e ↦ sym (same_id j i e)
        | inl e ↦
            let other : differ (rowid (stored j y)) (rowid (stored i x)) ≡ true = rw (rowid_is j y, rowid_is i x) (differ_is j i ∙ e) in
            let both : (agree plain places (stored j y) places (stored i x) && differ (rowid (stored j y)) (rowid (stored i x))) ≡ true = rw (agrees i j x y p q same) other in
            let yes = some_from (λ r. agree plain places r places (stored i x) && differ (rowid r) (rowid (stored i x))) (db tree) (stored j y) k both in
            absurd (cc)
      ]

pub record_once : (schema : Schema) (db : Trees) (at : ℕ) (name : List ℕ) (columns : List Column) (tree : ℕ) → IsSound schema db → slice_get schema.tables at ≡ Some (kept_table name columns record_key tree)
    → IsOnce stored_record IsOfRecord (db tree)
record_once = once_in stored_record IsOfRecord (λ id x. refl) record_key record_agrees

pub sealed_once : (schema : Schema) (db : Trees) (at : ℕ) (name : List ℕ) (columns : List Column) (tree : ℕ) → IsSound schema db → slice_get schema.tables at ≡ Some (kept_table name columns sealed_key tree)
    → IsOnce stored_sealed IsOfSealed (db tree)
sealed_once = once_in stored_sealed IsOfSealed (λ id x. refl) sealed_key sealed_agrees
