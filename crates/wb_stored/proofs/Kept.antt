-- A table of kept rows after a row is put into it, and after rows are taken out.
use Rattle.std.proofs.Common.{◌≡◌, ◌≢◌, ◌⊎◌, ◌↔◌, inl, inr, ℤ, Bool, true, not, List, [], ◌∷◌, filter, is_eq, int_cmp, Less, Equal, Greater, refl, sym, ap, subst, ◌∙◌, arith}
use Rattle.std.proofs.lemmas.Bool.{cases_Bool}
use Rattle.std.proofs.lemmas.Bool.Decides.{nat_tests}
use Rattle.std.proofs.lemmas.Int.{ints}
use Rattle.sqlite_value.specs.declared.value.Value.TheVariants.{Int}
use Rattle.sqlite_value.specs.Order.{Row as SqlRow, value_cmp}
use Rattle.sqlite_value.proofs.OrderLemmas.{value_cmp-Int}
use Rattle.sqlite_trees.specs.Tree.{rowid, has_rowid, without_rowid, put_row, IsTable}
use Rattle.sqlite_trees.proofs.TreeLemmas.{IsTable-put_row}
use Rattle.sqlite_rules.specs.Edit.{are_fresh, id_in}
use Rattle.sqlite_rules.specs.Lists.{Has}
use Rattle.sqlite_rules.proofs.ListLemmas.{all_has, all_from, has_filtered, has_kept}
use Rattle.sqlite_rules.proofs.PlaceLemmas.{tied_same}
use Rattle.sqlite_rules.proofs.TableLemmas.{has_put, put_has, put_all_keeps}
use Rattle.wb_base.specs.declared.rows.Row.{Row}
use Rattle.wb_stored.specs.Told.{IsKept, Stores}
use Rattle.wb_stored.proofs.Once.{IsOnce}

pub is_self : (a : ℤ) → is_eq (int_cmp a a) ≡ true
is_self a = grind (arith, ints, nat_tests)

pub filter_table : (p : SqlRow → Bool) (rows : List SqlRow) → IsTable rows → IsTable (filter p rows)
filter_table p [] up = tt
filter_table p (r ∷ rows) up = elim (cases_Bool (p r)) [
  | inl e ↦ rw e (all_from _ (filter p rows) (λ y h. all_has _ rows y up.0 (has_filtered p rows y h).0), filter_table p rows up.1)
  | inr e ↦ rw e (filter_table p rows up.1)
]

equal_is : (a b : ℤ) → is_eq (value_cmp (Int a) (Int b)) ≡ true → value_cmp (Int a) (Int b) ≡ Equal
equal_is a b h = elim (value_cmp (Int a) (Int b)) as (λ o. is_eq o ≡ true → o ≡ Equal) [ Less ↦ λ e. cc | Equal ↦ λ e. refl | Greater ↦ λ e. cc ] h

module _ (stored : ℤ → Row → SqlRow) (IsOf : Row → Type 0) (rowid_is : (id : ℤ) (x : Row) → rowid (stored id x) ≡ Int id)
    (back : (i j : ℤ) (x y : Row) → stored i x ≡ stored j y → IsOf x → IsOf y → x ≡ y) where
  -- the table with the row in place of the one with its key
  pub record IsPut (table left : List SqlRow) (row : Row) : Type 0 where
    pub kept : IsKept stored IsOf left
    pub each : (x : Row) → Stores stored IsOf left x ↔ ((x ≡ row) ⊎ (Stores stored IsOf table x × (x.key ≢ row.key)))

  same_id : (i j : ℤ) (x y : Row) → stored i x ≡ stored j y → i ≡ j
  same_id i j x y e = let is : Int i ≡ Int j = sym (rowid_is i x) ∙ ap rowid e ∙ rowid_is j y in ap id_in is

  own_rowid : (id : ℤ) (x : Row) → has_rowid id (stored id x) ≡ true
  own_rowid id x = rw (rowid_is id x, value_cmp-Int id id) (is_self id)

  put_among : (table rest : List SqlRow) (id : ℤ) (row : Row) → IsOf row → IsKept stored IsOf table → IsTable rest → ((c : SqlRow) → Has rest c → Has table c)
      → ((i : ℤ) (x : Row) → IsOf x → Has table (stored i x) → x.key ≢ row.key → Has rest (stored i x)) → ((i : ℤ) (x : Row) → IsOf x → Has rest (stored i x) → x.key ≢ row.key)
      → are_fresh rest (stored id row ∷ []) ≡ true → IsPut table (put_row (stored id row) rest) row
  put_among table rest id row of kept up within stays apart fresh = record {
    kept = record {
      rising = IsTable-put_row (stored id row) rest up;
      each = λ c h. elim (put_has (stored id row) rest c h) [ inl new ↦ (id, row, of, new) | inr old ↦ kept.each c (within c old) ];
    };
    each = λ x. (
      λ s. elim (put_has (stored id row) rest (stored s.0 x) s.2) [
        | inl new ↦ inl (back s.0 id x row new s.1 of)
        | inr old ↦ inr ((s.0, s.1, within _ old), apart s.0 x s.1 old)
      ],
      λ s. elim s [
        | inl new ↦ subst (Stores stored IsOf (put_row (stored id row) rest)) (sym new) (id, of, has_put (stored id row) rest)
        | inr old ↦ (old.0.0, old.0.1, put_all_keeps (stored id row ∷ []) rest (stored old.0.0 x) fresh (stays old.0.0 x old.0.1 old.0.2 old.1))
      ],
    );
  }

  -- a row whose key no row has
  pub put_new : (table : List SqlRow) (id : ℤ) (row : Row) → IsOf row → IsKept stored IsOf table → ((i : ℤ) (x : Row) → IsOf x → Has table (stored i x) → x.key ≢ row.key)
      → are_fresh table (stored id row ∷ []) ≡ true → IsPut table (put_row (stored id row) table) row
  put_new table id row of kept apart fresh = put_among table table id row of kept kept.rising (λ c h. h) (λ i x p h other. h) apart fresh

  -- a row in place of the one with its key
  pub put_over : (table : List SqlRow) (id : ℤ) (row was : Row) → IsOf row → IsOf was → IsKept stored IsOf table → IsOnce stored IsOf table → Has table (stored id was) → was.key ≡ row.key
      → are_fresh (without_rowid id table) (stored id row ∷ []) ≡ true → IsPut table (put_row (stored id row) (without_rowid id table)) row
  put_over table id row was of of_was kept once there same fresh = put_among table (without_rowid id table) id row of kept (filter_table _ table kept.rising)
      (λ c h. (has_filtered (λ r. not (has_rowid id r)) table c h).0)
      (λ i x p h other. has_kept (λ r. not (has_rowid id r)) table (stored i x) h (elim (cases_Bool (has_rowid id (stored i x))) [
        | inl hit ↦ absurd (
            let tie : value_cmp (Int i) (Int id) ≡ Equal = equal_is i id (rw (rowid_is i x) at hit) in
            let tied : value_cmp (rowid (stored i x)) (rowid (stored id was)) ≡ Equal = rw (rowid_is i x, rowid_is id was) tie in
            other (ap (λ (z : Row). z.key) (back i id x was (tied_same table (stored i x) (stored id was) kept.rising h there tied) p of_was) ∙ same)
            )
        | inr miss ↦ ap not miss
      ]))
      (λ i x p h key.
      let was_there = has_filtered (λ r. not (has_rowid id r)) table (stored i x) h in
      let e : i ≡ id = once i id x was was_there.0 there p of_was (key ∙ sym same) in
      let no : not (has_rowid id (stored i x)) ≡ true = was_there.1 in
      let yes : has_rowid id (stored i x) ≡ true = subst (λ k. has_rowid k (stored i x) ≡ true) e (own_rowid i x) in
      let bad = ap not yes in cc)
      fresh

  -- the rows that pass are left
  pub filter_kept : (p : SqlRow → Bool) (table : List SqlRow) → IsKept stored IsOf table → IsKept stored IsOf (filter p table)
  filter_kept p table kept = record {
    rising = filter_table p table kept.rising;
    each = λ c h. kept.each c (has_filtered p table c h).0;
  }

  -- each row has a whole number as its rowid
  pub keyed : (table : List SqlRow) (c : SqlRow) → IsKept stored IsOf table → Has table c → has_rowid (id_in (rowid c)) c ≡ true
  keyed table c kept h =
      let it = kept.each c h in
      let is : rowid c ≡ Int it.0 = ap rowid it.3 ∙ rowid_is it.0 it.1 in
      rw (is, value_cmp-Int it.0 it.0) (is_self it.0)
