-- What the statements compute of kept rows: whole numbers and a text.
use Rattle.std.proofs.Common.{◌≡◌, ◌↔◌, ℕ, ℤ, pos, Some, Bool, true, false, cond, ◌&&◌, ◌||◌, ◌==◌, List, [], ◌∷◌, codes, is_eq, int_cmp, refl, sym, ap, subst, ◌∙◌, arith}
use Rattle.std.proofs.Math.Bool.{and-true}
use Rattle.std.proofs.lemmas.Bool.Decides.{nat_tests}
use Rattle.std.proofs.lemmas.Int.{ints}
use Rattle.sqlite_value.specs.declared.value.Value.{Value}
use Rattle.sqlite_value.specs.declared.value.Value.TheVariants.{Null, Int, Text as Words}
use Rattle.sqlite_value.specs.Order.{Row as SqlRow, column, value_cmp}
use Rattle.sqlite_value.specs.Keys.{first_key}
use Rattle.sqlite_value.proofs.OrderLemmas.{value_cmp-Int}
use Rattle.sqlite_trees.specs.Tree.{Trees}
use Rattle.sqlite_sql.specs.declared.ops.BinaryOp.TheVariants.{Compare}
use Rattle.sqlite_sql.specs.declared.ops.CompareOp.TheVariants.{Eq}
use Rattle.sqlite.specs.Ops.{unary, binary, is_true, from_truth}
use Rattle.sqlite.specs.Collation.TheVariants.{Binary}
use Rattle.sqlite.specs.Cast.{cast, cast_row}
use Rattle.sqlite.specs.Kind.TheVariants.{Integer}
use Rattle.sqlite.specs.Query.{Query}
use Rattle.sqlite.specs.Schema.{Schema}
use Rattle.sqlite_rules.specs.Edit.{next_rowid}
use Rattle.sqlite_rules.specs.Keys.{conflicts}
use Rattle.wb_base.specs.declared.rows.Key.{Key}
use Rattle.wb_base.specs.declared.rows.Row.{Row}
use Rattle.wb_stored.specs.Tables.{record_table, record_columns, record_key, sealed_table, sealed_columns, sealed_key, both_schema, turned_schema}
use Rattle.wb_stored.specs.Told.{stored_record, stored_sealed, IsOfRecord, IsOfSealed}
use Rattle.wb_stored.proofs.Texts.{record_terms, sealed_terms, record_hits, sealed_hits, record_project, sealed_project, trail_terms, answers_terms}
use Rattle.wb_stored.proofs.Parts.{passes, shows}
use Rattle.wb_stored.proofs.Upserting.{offered, beside}

-- ---- numbers

pub truth_is : (b : Bool) → is_true (from_truth (Some b)) ≡ b
truth_is true = refl
truth_is false = refl

pub same_int : (m n : ℤ) → is_true (binary (Compare Eq Binary) (Int m) (Int n)) ≡ is_eq (int_cmp m n)
unfolding binary
same_int m n = truth_is (is_eq (value_cmp (Int m) (Int n))) ∙ ap is_eq (value_cmp-Int m n)

either : (b : Bool) (x : Value) → cond b x x ≡ x
either true x = refl
either false x = refl

pub cast_int : (n : ℤ) → cast Integer (Int n) ≡ Int n
unfolding unary
cast_int n = either _ (Int n)

cast_null : cast Integer Null ≡ Null
unfolding unary
cast_null = either _ Null

pub eq_nat : (m n : ℕ) → is_eq (int_cmp (pos m) (pos n)) ≡ (m == n)
eq_nat m n = grind (arith, ints, nat_tests)

-- ---- keys

pub key_is : (k m : Key) → k.kind ≡ m.kind → k.tenant ≡ m.tenant → k.a ≡ m.a → k.b ≡ m.b → k ≡ m
key_is k m p q r s =
    ap (λ n. record k { kind = n }) p ∙ (ap (λ n. record { kind = m.kind; tenant = n; a = k.a; b = k.b }) q ∙ (ap (λ n. record { kind = m.kind; tenant = m.tenant; a = n; b = k.b }) r ∙ ap (λ n. record { kind = m.kind; tenant = m.tenant; a = m.a; b = n }) s))

row_is : (x y : Row) → x.key ≡ y.key → x.text ≡ y.text → x ≡ y
row_is x y p q = ap (λ k. record x { key = k }) p ∙ ap (λ t. record { key = y.key; text = t }) q

abbrev nat_in : Value → ℕ
nat_in (Int (pos n)) = n
nat_in _ = 0

abbrev text_in : Value → List ℕ
text_in (Words t) = t
text_in _ = []

pub record_back : (i j : ℤ) (x y : Row) → stored_record i x ≡ stored_record j y → IsOfRecord x → IsOfRecord y → x ≡ y
record_back i j x y e p q =
    let at : (n : ℕ) → column (stored_record i x) n ≡ column (stored_record j y) n = λ n. ap (λ c. column c n) e in
    row_is x y (key_is x.key y.key (ap nat_in (at 1)) (ap nat_in (at 2)) (ap nat_in (at 3)) (ap nat_in (at 4))) (ap text_in (at 5))

pub sealed_back : (i j : ℤ) (x y : Row) → stored_sealed i x ≡ stored_sealed j y → IsOfSealed x → IsOfSealed y → x ≡ y
sealed_back i j x y e p q =
    let at : (n : ℕ) → column (stored_sealed i x) n ≡ column (stored_sealed j y) n = λ n. ap (λ c. column c n) e in
    row_is x y (key_is x.key y.key (p.0 ∙ sym q.0) (ap nat_in (at 1)) (ap nat_in (at 2)) (p.1 ∙ sym q.1)) (ap text_in (at 3))

-- ---- what an upsert is given

abbrev pub bound_record : Row → SqlRow
bound_record row = Int (pos row.key.kind) ∷ Int (pos row.key.tenant) ∷ Int (pos row.key.a) ∷ Int (pos row.key.b) ∷ Words row.text ∷ []

abbrev pub bound_sealed : Row → SqlRow
bound_sealed row = Int (pos row.key.tenant) ∷ Int (pos row.key.a) ∷ Words row.text ∷ []

pub record_casts : (tree : ℕ) (id : ℤ) (row : Row) → cast_row (record_table tree) (stored_record id row) ≡ stored_record id row
record_casts tree id row = rw (cast_int id, cast_int (pos row.key.kind), cast_int (pos row.key.tenant), cast_int (pos row.key.a), cast_int (pos row.key.b)) refl

pub sealed_casts : (tree : ℕ) (id : ℤ) (row : Row) → cast_row (sealed_table tree) (stored_sealed id row) ≡ stored_sealed id row
sealed_casts tree id row = rw (cast_int id, cast_int (pos row.key.tenant), cast_int (pos row.key.a)) refl

module _ (schema : Schema) (tree : ℕ) (q : Query) where
  pub record_offers : (row : Row) (db : Trees) → offered schema (codes "record") record_columns record_key tree record_terms q (bound_record row) db ≡ stored_record (next_rowid (db tree)) row
  record_offers row db = rw (cast_null, cast_int (pos row.key.kind), cast_int (pos row.key.tenant), cast_int (pos row.key.a), cast_int (pos row.key.b)) refl

  pub sealed_offers : (row : Row) (db : Trees) → offered schema (codes "sealed") sealed_columns sealed_key tree sealed_terms q (bound_sealed row) db ≡ stored_sealed (next_rowid (db tree)) row
  sealed_offers row db = rw (cast_null, cast_int (pos row.key.tenant), cast_int (pos row.key.a)) refl

  pub record_hit : (i id j : ℤ) (row x : Row) → passes record_hits (beside schema (codes "record") record_columns record_key tree record_terms q (bound_record row) (Int id ∷ []) (stored_record i row)) (stored_record j x) ≡ is_eq (int_cmp j id)
  record_hit i id j row x = and-true _ ∙ same_int j id

  pub sealed_hit : (i id j : ℤ) (row x : Row) → passes sealed_hits (beside schema (codes "sealed") sealed_columns sealed_key tree sealed_terms q (bound_sealed row) (Int id ∷ []) (stored_sealed i row)) (stored_sealed j x) ≡ is_eq (int_cmp j id)
  sealed_hit i id j row x = and-true _ ∙ same_int j id

  pub record_rewrites : (i id : ℤ) (row was : Row) → IsOfRecord row → IsOfRecord was → was.key ≡ row.key
      → shows record_project (beside schema (codes "record") record_columns record_key tree record_terms q (bound_record row) (Int id ∷ []) (stored_record i row)) (stored_record id was) ≡ Int id ∷ stored_record id row
  record_rewrites i id row was of of_was key = ap (λ (k : Key). Int id ∷ Int id ∷ Int (pos k.kind) ∷ Int (pos k.tenant) ∷ Int (pos k.a) ∷ Int (pos k.b) ∷ Words row.text ∷ []) key

  pub sealed_rewrites : (i id : ℤ) (row was : Row) → IsOfSealed row → IsOfSealed was → was.key ≡ row.key
      → shows sealed_project (beside schema (codes "sealed") sealed_columns sealed_key tree sealed_terms q (bound_sealed row) (Int id ∷ []) (stored_sealed i row)) (stored_sealed id was) ≡ Int id ∷ stored_sealed id row
  sealed_rewrites i id row was of of_was key = ap (λ (k : Key). Int id ∷ Int id ∷ Int (pos k.tenant) ∷ Int (pos k.a) ∷ Words row.text ∷ []) key

-- ---- which rows an upsert meets

abbrev pub meets_record : Key → Key → Bool
meets_record k m = (is_eq (int_cmp (pos m.kind) (pos k.kind)) && (is_eq (int_cmp (pos m.tenant) (pos k.tenant)) && (is_eq (int_cmp (pos m.a) (pos k.a)) && (is_eq (int_cmp (pos m.b) (pos k.b)) && true)))) || false

abbrev pub meets_sealed : Key → Key → Bool
meets_sealed k m = (is_eq (int_cmp (pos m.tenant) (pos k.tenant)) && (is_eq (int_cmp (pos m.a) (pos k.a)) && true)) || false

record_both : (i j : ℤ) (x y : Row) → conflicts (Some record_key) both_schema.indexes (record_table 0) (stored_record i x) (stored_record j y) ≡ meets_record x.key y.key
unfolding first_key
record_both i j x y = rw (same_int (pos y.key.kind) (pos x.key.kind), same_int (pos y.key.tenant) (pos x.key.tenant), same_int (pos y.key.a) (pos x.key.a), same_int (pos y.key.b) (pos x.key.b)) refl

record_turned : (i j : ℤ) (x y : Row) → conflicts (Some record_key) turned_schema.indexes (record_table 2) (stored_record i x) (stored_record j y) ≡ meets_record x.key y.key
unfolding first_key
record_turned i j x y = rw (same_int (pos y.key.kind) (pos x.key.kind), same_int (pos y.key.tenant) (pos x.key.tenant), same_int (pos y.key.a) (pos x.key.a), same_int (pos y.key.b) (pos x.key.b)) refl

sealed_both : (i j : ℤ) (x y : Row) → conflicts (Some sealed_key) both_schema.indexes (sealed_table 2) (stored_sealed i x) (stored_sealed j y) ≡ meets_sealed x.key y.key
unfolding first_key
sealed_both i j x y = rw (same_int (pos y.key.tenant) (pos x.key.tenant), same_int (pos y.key.a) (pos x.key.a)) refl

sealed_turned : (i j : ℤ) (x y : Row) → conflicts (Some sealed_key) turned_schema.indexes (sealed_table 0) (stored_sealed i x) (stored_sealed j y) ≡ meets_sealed x.key y.key
unfolding first_key
sealed_turned i j x y = rw (same_int (pos y.key.tenant) (pos x.key.tenant), same_int (pos y.key.a) (pos x.key.a)) refl

record_met : (k m : Key) → (meets_record k m ≡ true) ↔ (m ≡ k)
record_met k m = (
  λ h. let e = rw (eq_nat m.kind k.kind, eq_nat m.tenant k.tenant, eq_nat m.a k.a, eq_nat m.b k.b) at h in
      key_is m k (grind (arith, nat_tests)) (grind (arith, nat_tests)) (grind (arith, nat_tests)) (grind (arith, nat_tests)),
  λ e. rw (e, eq_nat k.kind k.kind, eq_nat k.tenant k.tenant, eq_nat k.a k.a, eq_nat k.b k.b) (grind (arith, nat_tests)),
)

sealed_met : (x y : Row) → IsOfSealed x → IsOfSealed y → (meets_sealed x.key y.key ≡ true) ↔ (y.key ≡ x.key)
sealed_met x y p q = (
  λ h. let e = rw (eq_nat y.key.tenant x.key.tenant, eq_nat y.key.a x.key.a) at h in
      key_is y.key x.key (q.0 ∙ sym p.0) (grind (arith, nat_tests)) (grind (arith, nat_tests)) (q.1 ∙ sym p.1),
  λ e. rw (e, eq_nat x.key.tenant x.key.tenant, eq_nat x.key.a x.key.a) (grind (arith, nat_tests)),
)

pub record_meets_both : (i j : ℤ) (x y : Row) → IsOfRecord x → IsOfRecord y → (conflicts (Some record_key) both_schema.indexes (record_table 0) (stored_record i x) (stored_record j y) ≡ true) ↔ (y.key ≡ x.key)
record_meets_both i j x y p q = subst (λ b. (b ≡ true) ↔ (y.key ≡ x.key)) (sym (record_both i j x y)) (record_met x.key y.key)

pub record_meets_turned : (i j : ℤ) (x y : Row) → IsOfRecord x → IsOfRecord y → (conflicts (Some record_key) turned_schema.indexes (record_table 2) (stored_record i x) (stored_record j y) ≡ true) ↔ (y.key ≡ x.key)
record_meets_turned i j x y p q = subst (λ b. (b ≡ true) ↔ (y.key ≡ x.key)) (sym (record_turned i j x y)) (record_met x.key y.key)

pub sealed_meets_both : (i j : ℤ) (x y : Row) → IsOfSealed x → IsOfSealed y → (conflicts (Some sealed_key) both_schema.indexes (sealed_table 2) (stored_sealed i x) (stored_sealed j y) ≡ true) ↔ (y.key ≡ x.key)
sealed_meets_both i j x y p q = subst (λ b. (b ≡ true) ↔ (y.key ≡ x.key)) (sym (sealed_both i j x y)) (sealed_met x y p q)

pub sealed_meets_turned : (i j : ℤ) (x y : Row) → IsOfSealed x → IsOfSealed y → (conflicts (Some sealed_key) turned_schema.indexes (sealed_table 0) (stored_sealed i x) (stored_sealed j y) ≡ true) ↔ (y.key ≡ x.key)
sealed_meets_turned i j x y p q = subst (λ b. (b ≡ true) ↔ (y.key ≡ x.key)) (sym (sealed_turned i j x y)) (sealed_met x y p q)

-- ---- which rows a deletion finds

abbrev pub report_given : ℕ → ℕ → SqlRow
report_given tenant number = Int (pos tenant) ∷ Int (pos number) ∷ []

pub trail_passes : (tenant number : ℕ) (id : ℤ) (x : Row) → passes trail_terms (report_given tenant number) (stored_record id x) ≡ ((x.key.kind == 6) && ((x.key.tenant == tenant) && ((x.key.a == number) && true)))
unfolding unary
trail_passes tenant number id x =
    rw (same_int (pos x.key.kind) (pos 6), same_int (pos x.key.tenant) (pos tenant), same_int (pos x.key.a) (pos number), eq_nat x.key.kind 6, eq_nat x.key.tenant tenant, eq_nat x.key.a number) refl

pub answers_pass : (tenant number : ℕ) (id : ℤ) (x : Row) → passes answers_terms (report_given tenant number) (stored_sealed id x) ≡ ((x.key.tenant == tenant) && ((x.key.a == number) && true))
unfolding unary
answers_pass tenant number id x = rw (same_int (pos x.key.tenant) (pos tenant), same_int (pos x.key.a) (pos number), eq_nat x.key.tenant tenant, eq_nat x.key.a number) refl
