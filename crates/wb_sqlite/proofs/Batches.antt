-- What a batch of changes does to the told rows.
use Rattle.std.proofs.Common.{◌≡◌, ◌≢◌, ◌⊎◌, ◌==◌, if◌then◌else◌, Some, List, [], ◌∷◌, ◌++◌, All, IsTrue, true, inl, inr, refl, sym, subst, ap, ◌∙◌, arith}
use Rattle.std.specs.List.{AllByRecursion}
use Rattle.std.proofs.lemmas.Bool.{cases_Bool}
use Rattle.std.proofs.lemmas.List.Elements.{All-head, All-tail}
use Rattle.std.proofs.lemmas.Bool.Decides.{nat_tests}
use Rattle.sqlite_trees.specs.declared.store.Store.{Ghosts}
use Rattle.sqlite.specs.Effect.{Database}
use Rattle.sqlite.specs.Held.{Held, state}
use Rattle.sqlite_trees.specs.Tree.{Trees}
use Rattle.sqlite.specs.State.{HasCleanDisk, Survives}
use Rattle.wb_base.specs.declared.rows.Row.{Row}
use Rattle.wb_base.specs.declared.rows.Change.{Change}
use Rattle.wb_base.specs.declared.rows.Change.TheVariants.{Put, DropReport}
use Rattle.wb_base.specs.KeptRows.{changed, all_changed, IsGoodChange}
use Rattle.wb_stored.specs.Told.{Tells, HoldsRows, IsOfRecord, IsOfSealed}
use Rattle.wb_stored.specs.Texts as sql
use Rattle.wb_stored.proofs.Stands.{TellsBoth, both_made, both_tells, both_put_record, both_put_sealed, both_insert_record, both_insert_sealed, both_drop}
use Rattle.wb_sqlite.specs.Statements.{Statement, Ran, IsMade, Makes, make_tables, statements_of, all_statements, put_record, put_entry, put_sealed, CommitsAll, IsAsCommitted, LeavesAsBefore, LeavesChanged}
use Rattle.wb_sqlite.proofs.Making.{clean_before}

or_none : (A : Type 0) → A ⊎ ⊥ → A
or_none A (inl it) = it
or_none A (inr none) = absurd none

module _ {S : Type 0} (g : Ghosts S) where
  -- what was made of two lists was made of one after the other
  makes_split : (xs ys : List Statement) (a c : Held S) → Makes g (xs ++ ys) a c → (b : Held S) × Makes g xs a b × Makes g ys b c
  makes_split [] ys a c made = (a, refl, made)
  makes_split (x ∷ xs) ys a c (mid, made, rest) = let it = makes_split xs ys mid c rest in (it.0, (mid, made, it.1), it.2)

  -- a row that is set
  record_told : (row : Row) (a b : Held S) (rows : List Row) → IsOfRecord row → TellsBoth (state g a).now rows → Ran g sql.put_record (put_record row).given a b → TellsBoth (state g b).now (changed rows (Put row))
  record_told row a b rows of told ran = both_put_record (state g a) (state g b) row ran.0 rows of told ran.1.0

  -- a row that is inserted, or else set
  entry_told : (row : Row) (a b : Held S) (rows : List Row) → IsOfRecord row → TellsBoth (state g a).now rows → IsMade g (Some sql.insert_record) sql.put_record (put_record row).given a b → TellsBoth (state g b).now (changed rows (Put row))
  entry_told row a b rows of told (inl ran) = both_insert_record (state g a) (state g b) row ran.0 rows of told ran.1.0
  entry_told row a b rows of told (inr (same, still, ran)) = record_told row same b rows of (subst (λ (d : Database). TellsBoth d rows) (sym still.0.now_is) told) ran

  sealed_told : (row : Row) (a b : Held S) (rows : List Row) → IsOfSealed row → TellsBoth (state g a).now rows → IsMade g (Some sql.insert_sealed) sql.put_sealed (put_sealed row).given a b → TellsBoth (state g b).now (changed rows (Put row))
  sealed_told row a b rows of told (inl ran) = both_insert_sealed (state g a) (state g b) row ran.0 rows of told ran.1.0
  sealed_told row a b rows of told (inr (same, still, ran)) = both_put_sealed (state g same) (state g b) row ran.0 rows of (subst (λ (d : Database). TellsBoth d rows) (sym still.0.now_is) told) ran.1.0

  low_told : (row : Row) (a b : Held S) (rows : List Row) → IsOfRecord row → TellsBoth (state g a).now rows → Makes g ((if row.key.kind == 6 then put_entry row else put_record row) ∷ []) a b → TellsBoth (state g b).now (changed rows (Put row))
  low_told row a b rows of told made = elim (cases_Bool (row.key.kind == 6)) [
    | inl e ↦
        let it : Makes g (put_entry row ∷ []) a b = rw e at made in
        subst (λ (h : Held S). TellsBoth (state g h).now (changed rows (Put row))) (sym it.2) (entry_told row a it.0 rows of told it.1)
    | inr e ↦
        let it : Makes g (put_record row ∷ []) a b = rw e at made in
        subst (λ (h : Held S). TellsBoth (state g h).now (changed rows (Put row))) (sym it.2) (record_told row a it.0 rows of told it.1)
  ]

  put_told : (row : Row) (a b : Held S) (rows : List Row) → IsGoodChange (Put row) → TellsBoth (state g a).now rows → Makes g (statements_of (Put row)) a b → TellsBoth (state g b).now (changed rows (Put row))
  put_told row a b rows good told made = elim (cases_Bool (row.key.kind == 7)) [
    | inl e ↦
        let is : row.key.kind ≡ 7 = grind (arith, nat_tests) in
        let it : Makes g (put_sealed row ∷ []) a b = rw e at made in
        subst (λ (h : Held S). TellsBoth (state g h).now (changed rows (Put row))) (sym it.2) (sealed_told row a it.0 rows (is, good.1 is) told it.1)
    | inr e ↦
        let other : row.key.kind ≢ 7 = grind (arith, nat_tests) in
        low_told row a b rows other told (rw e at made)
  ]

  change_told : (change : Change) (a b : Held S) (rows : List Row) → IsGoodChange change → TellsBoth (state g a).now rows → Makes g (statements_of change) a b → TellsBoth (state g b).now (changed rows change)
  change_told (Put row) a b rows good told made = put_told row a b rows good told made
  change_told (DropReport tenant number) a b rows good told first =
      let second = first.2 in
      subst (λ (h : Held S). TellsBoth (state g h).now (changed rows (DropReport tenant number))) (sym second.2) (both_drop (state g a) (state g first.0) (state g second.0) tenant number first.1.0 second.1.0 rows told first.1.1.0 second.1.1.0)

  -- all changes in turn
  all_told : (changes : List Change) (a b : Held S) (rows : List Row) → AllByRecursion IsGoodChange changes → TellsBoth (state g a).now rows → Makes g (all_statements changes) a b → TellsBoth (state g b).now (all_changed rows changes)
  all_told [] a b rows good told made = subst (λ (h : Held S). TellsBoth (state g h).now rows) (sym made) told
  all_told (change ∷ changes) a b rows good told made =
      let it = makes_split (statements_of change) (all_statements changes) a b made in
      all_told changes it.0 b (changed rows change) good.1 (change_told change a it.0 rows good.0 told it.1) it.2

  -- a batch that is made tells the rows after its changes
  batch_told : (changes : List Change) (old last : Held S) (rows : List Row) → AllByRecursion IsGoodChange changes → Tells (state g old).now rows → Makes g (make_tables ++ all_statements changes) (record old { in_transaction = true }) last → TellsBoth (state g last).now (all_changed rows changes)
  batch_told changes old last rows good told made =
      let begun = record old { in_transaction = true } in
      let it = makes_split make_tables (all_statements changes) begun last made in
      let first = it.1 in
      let tables : TellsBoth (state g it.0).now rows =
      subst (λ (h : Held S). TellsBoth (state g h).now rows) (sym first.2.2) (both_made (state g begun) (state g first.0) (state g first.2.0) first.1.0 first.2.1.0 rows told first.1.1.0 first.2.1.1.0) in
      all_told changes it.0 last rows good tables it.2

  -- what is committed is told so
  pub commits_both : (changes : List Change) (old new : Held S) (rows : List Row) → AllByRecursion IsGoodChange changes → HoldsRows (state g old) rows → CommitsAll g changes old new → TellsBoth (state g new).now (all_changed rows changes)
  commits_both changes old new rows good holds c = subst (λ (d : Database). TellsBoth d (all_changed rows changes)) (sym c.now) (batch_told changes old c.last rows good holds.told c.made)

  pub commits_hold : (changes : List Change) (old new : Held S) (rows : List Row) → AllByRecursion IsGoodChange changes → HoldsRows (state g old) rows → CommitsAll g changes old new → HoldsRows (state g new) (all_changed rows changes)
  commits_hold changes old new rows good holds c = record {
    settled = c.now ∙ sym c.committed;
    told = both_tells (state g new).now (all_changed rows changes) (commits_both changes old new rows good holds c);
  }

  -- what is as it was committed is told as it was
  pub kept_hold : (old new : Held S) (rows : List Row) → HoldsRows (state g old) rows → IsAsCommitted g old new → HoldsRows (state g new) rows
  kept_hold old new rows holds k = record {
    settled = k.now ∙ sym k.committed;
    told = subst (λ (d : Database). Tells d rows) (holds.settled ∙ sym k.now) holds.told;
  }

  -- a crash on the way, before the commit
  pub crash_before : (old start mid end : Held S) → start ≡ record old { in_transaction = true } → LeavesAsBefore g start mid → LeavesAsBefore g mid end → HasCleanDisk (state g end) → (db : Trees) → (state g end).may_leave db → (state g old).may_leave db
  crash_before old start mid end begun one two clean db may =
      let clean_mid = clean_before (state g mid) (state g end) _ two clean in
      subst (λ (h : Held S). (state g h).may_leave db) begun (or_none _ (one.crash clean_mid db (or_none _ (two.crash clean db may))))

  -- a crash once the commit has begun
  pub crash_after : (changes : List Change) (old start last end : Held S) (rows : List Row) → start ≡ record old { in_transaction = true } → LeavesAsBefore g start last → Survives (state g last) (state g end) (λ db. db ≡ (state g last).now.trees)
      → (HasCleanDisk (state g last) → IsTrue start.in_transaction → Makes g (make_tables ++ all_statements changes) start last) → AllByRecursion IsGoodChange changes → HoldsRows (state g old) rows → HasCleanDisk (state g end) → LeavesChanged g changes rows old end
  crash_after changes old start last end rows begun one two makes good holds clean db may =
      let clean_last = clean_before (state g last) (state g end) _ two clean in
      elim (two.crash clean db may) [
        | inl earlier ↦ inl (subst (λ (h : Held S). (state g h).may_leave db) begun (or_none _ (one.crash clean_last db earlier)))
        | inr is ↦
            let made = subst (λ (h : Held S). Makes g (make_tables ++ all_statements changes) h last) begun (makes clean_last (ap (λ (h : Held S). h.in_transaction) begun)) in
            let told : Tells (state g last).now (all_changed rows changes) = both_tells (state g last).now (all_changed rows changes) (batch_told changes old last rows good holds.told made) in
            inr (last.schema, subst (λ (t : Trees). Tells (record { schema = last.schema; trees = t }) (all_changed rows changes)) (sym is) told)
      ]

-- the changes are good one by one
pub each_good : (changes : List Change) → All IsGoodChange changes → AllByRecursion IsGoodChange changes
each_good [] all = tt
each_good (change ∷ changes) all = (All-head IsGoodChange change changes all, each_good changes (All-tail IsGoodChange change changes all))
