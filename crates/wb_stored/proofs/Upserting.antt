-- What an upsert of one row does to the trees.
use Rattle.std.proofs.Common.{◌≡◌, inl, inr, ℕ, ◌/◌, ℤ, List, [], ◌∷◌, ◌++◌, length, slice_get, Ok, Err, Result, None, Some, Option, sym, ap, subst, ◌∙◌}
use Rattle.sqlite.specs.declared.types.Value.TheVariants.{Null}
use Rattle.sqlite_schema.specs.declared.schema.Keys.TheVariants.{Enforced}
use Rattle.sqlite_schema.specs.declared.schema.Column.{Column}
use Rattle.sqlite_schema.specs.declared.command.Conflict.TheVariants.{Abort}
use Rattle.sqlite_rules.specs.Action.{works}
use Rattle.sqlite_rules.specs.Edit.{Applies, taken_by}
use Rattle.sqlite_rules.specs.Calls.{ids_of}
use Rattle.sqlite_rules.specs.declared.error.Refusal.{Refusal}
use Rattle.sqlite_rules.specs.Keys.{AreConflicts}
use Rattle.sqlite.specs.Order.{Row}
use Rattle.sqlite.specs.Term.{Term, eval_all}
use Rattle.sqlite.specs.Query.{Query, IsAnswer}
use Rattle.sqlite.specs.Program.{overlay}
use Rattle.sqlite.specs.Command.TheVariants.{InsertOr}
use Rattle.sqlite.specs.Source.TheVariants.{Values}
use Rattle.sqlite.specs.Cast.{cast_row}
use Rattle.sqlite.specs.Does.{Tally, Does, AtPlace, OnRows}
use Rattle.sqlite.specs.Rows.{Written, Task, shown, Tries, Upserts, Meets, Clears, Puts, Updates, Judged, nothing, joined, TriesEach, InsertsOr}
use Rattle.sqlite.specs.Edit.{edit_of, with_rowid}
use Rattle.sqlite.specs.Rowids.TheVariants.{Given, Chosen}
use Rattle.sqlite.specs.Tree.{Trees, rowid}
use Rattle.sqlite.specs.Schema.{Schema}
use Rattle.sqlite.specs.Table.{Table}
use Rattle.sqlite.specs.Listing.{understood}
use Rattle.sqlite.specs.Effect.{Database, IsDatabase, edit_error, value_rows}
use Rattle.sqlite.specs.declared.error.Error.{Error}
use Rattle.sqlite.specs.State.{State, mode_of, Executes}
use Rattle.sqlite.proofs.Callers.{IsPlain, command_of, statement_of, runs_as, one_step}
use Rattle.wb_stored.specs.Tables.{kept_table}
use Rattle.wb_stored.proofs.Parts.{went, same_value}
use Rattle.wb_stored.proofs.Texts.{on_key}

module _ (schema : Schema) (name : List ℕ) (columns : List Column) (places : List ℕ) (tree : ℕ) (terms : List Term) (rewritten : Query) where
  abbrev pub task : Option ℕ → Row → Task
  task limit params = record { limit = limit; keys = Enforced; schema = schema; table = kept_table name columns places tree; params = params }

  -- what the update reads beside a row: the parameters, the rowid that is there, and the offered row
  abbrev pub beside : Row → Row → Row → Row
  beside params there new = params ++ rowid there ∷ shown (kept_table name columns places tree) new

  -- with no conflict the row is put in, and else the first conflicting row is rewritten
  abbrev pub LeftBy : Row → Row → Trees → Trees → List Row → Type 0
  LeftBy params new db next [] = Applies schema Enforced db (edit_of db (kept_table name columns places tree) [] Given 0 (new ∷ [])) next
  LeftBy params new db next (there ∷ more) =
      (rows : List Row) × IsAnswer rewritten (overlay db []) (beside params there new) rows
      × Applies schema Enforced db (edit_of db (kept_table name columns places tree) (ids_of rows) Given 1 rows) next

  pub record Upserted (params new : Row) (db next : Trees) : Type 0 where
    pub found : List Row
    pub conflicts : AreConflicts (Some places) schema.indexes (kept_table name columns places tree) (db tree) new found
    pub left_is : LeftBy params new db next found

  -- the row that the statement offers
  abbrev pub offered : Row → Trees → Row
  offered params db = with_rowid Chosen (db tree) (cast_row (kept_table name columns places tree) (eval_all terms ((params ++ []) ∷ [])))

  module _ (none : (olds news : List Row) → works schema Enforced 0 tree olds news ≡ []) where
    put_in : (limit : Option ℕ) (params new : Row) (db : Trees) (one : Written) → Puts (task limit params) new db (Ok one)
        → Applies schema Enforced db (edit_of db (kept_table name columns places tree) [] Given 0 (new ∷ [])) one.trees
    put_in limit params new db one h =
        let edit = edit_of db (kept_table name columns places tree) [] Given 0 (new ∷ []) in
        let p = went h in
        let same : one.trees ≡ p.0 = ap (λ (it : Written). it.trees) (same_value p.2) in
        subst (Applies schema Enforced db edit) (sym same) (one_step schema Enforced db p.0 edit (none (taken_by db edit) edit.news) p.1)

    cleared : (limit : Option ℕ) (params new : Row) (db : Trees) (one : Written) (found : List Row) → Clears (task limit params) Abort new db found (Ok one)
        → Applies schema Enforced db (edit_of db (kept_table name columns places tree) [] Given 0 (new ∷ [])) one.trees
    cleared limit params new db one [] h = put_in limit params new db one h
    cleared limit params new db one (x ∷ more) h = put_in limit params new db one h

    updated : (limit : Option ℕ) (params given : Row) (db : Trees) (one : Written) → Updates (task limit params) (record { lets = []; body = rewritten }) given db (Ok one)
        → (rows : List Row) × IsAnswer rewritten (overlay db []) given rows × Applies schema Enforced db (edit_of db (kept_table name columns places tree) (ids_of rows) Given 1 rows) one.trees
    updated limit params given db one h =
        let q = went h in
        let p = went q.2 in
        let edit = edit_of db (kept_table name columns places tree) (ids_of q.0) Given 1 q.0 in
        let same : one.trees ≡ p.0 = ap (λ (it : Written). it.trees) (same_value p.2) in
        (q.0, q.1.answer Null, subst (Applies schema Enforced db edit) (sym same) (one_step schema Enforced db p.0 edit (none (taken_by db edit) edit.news) p.1))

    met : (limit : Option ℕ) (params new : Row) (db : Trees) (one : Written) (found : List Row)
        → Meets (task limit params) (Upserts (task limit params) Abort new db []) new db (on_key places rewritten) found (Ok one) → LeftBy params new db one.trees found
    met limit params new db one [] h = cleared limit params new db one h.0 h.2
    met limit params new db one (there ∷ more) h = updated limit params (beside params there new) db one h

    upserted : (limit : Option ℕ) (params new : Row) (db : Trees) (one : Written) → Upserts (task limit params) Abort new db (on_key places rewritten ∷ []) (Ok one) → Upserted params new db one.trees
    upserted limit params new db one h = record { found = h.0; conflicts = h.1; left_is = met limit params new db one h.0 h.2 }

    judged : (limit : Option ℕ) (params new : Row) (db : Trees) (one : Written) (verdict : Option Refusal) → Judged (task limit params) Abort (on_key places rewritten ∷ []) new db verdict (Ok one) → Upserted params new db one.trees
    judged limit params new db one None h = upserted limit params new db one h
    judged limit params new db one (Some why) h = absurd (let e : ◌≡◌ {A = Result Written (Option Error)} (Ok one) (Err (Some (edit_error why))) = h in cc)

    tried : (limit : Option ℕ) (params new : Row) (db : Trees) (one : Written) → Tries (task limit params) Abort (on_key places rewritten ∷ []) new db (Ok one) → Upserted params new db one.trees
    tried limit params new db one (inl (low, stop)) = absurd (let e = stop in cc)
    tried limit params new db one (inr (verdict, is, h)) = judged limit params new db one verdict h

    each : (limit : Option ℕ) (params : Row) (db : Trees) (top : ℤ) (done : Written × ℤ) → TriesEach (task limit params) Abort (on_key places rewritten ∷ []) (eval_all terms ((params ++ []) ∷ []) ∷ []) top (nothing db) (Ok done)
        → Upserted params (offered params db) db done.0.trees
    each limit params db top done h =
        let one = went h in
        let last : done ≡ (joined (nothing db) one.0, _) = same_value one.2 in
        subst (λ (d : Written × ℤ). Upserted params (offered params db) db d.0.trees) (sym last) (tried limit params (offered params db) db one.0 one.1)

    from_rows : (limit : Option ℕ) (params : Row) (db : Trees) (rows : List Row) (top : ℤ) (done : Written × ℤ) → rows ≡ eval_all terms ((params ++ []) ∷ []) ∷ []
        → TriesEach (task limit params) Abort (on_key places rewritten ∷ []) rows top (nothing db) (Ok done) → Upserted params (offered params db) db done.0.trees
    from_rows limit params db rows top done is h = each limit params db top done (subst (λ r. TriesEach (task limit params) Abort (on_key places rewritten ∷ []) r top (nothing db) (Ok done)) is h)

    all : (width : ℕ) → ((given : Row) → value_rows given width (length terms / width) terms ≡ eval_all terms (given ∷ []) ∷ [])
        → (limit : Option ℕ) (params : Row) (db : Trees) (w : Written) → InsertsOr (task limit params) Abort (on_key places rewritten ∷ []) (Values terms width) db (Ok w)
        → Upserted params (offered params db) db w.trees
    all width one limit params db w h =
        let rows = went h in
        let counter = went rows.2 in
        let done = went counter.2 in
        let last = went done.2 in
        let trees : w.trees ≡ done.0.0.trees = ap (λ (it : Written). it.trees) (same_value last.2) ∙ same_value last.1 in
        let is : rows.0 ≡ eval_all terms ((params ++ []) ∷ []) ∷ [] = rows.1.1 ∙ one (params ++ []) in
        subst (λ (t : Trees). Upserted params (offered params db) db t) (sym trees)
        (from_rows limit params db rows.0 _ done.0 is done.1)

    module _ (at : ℕ) (place : slice_get schema.tables at ≡ Some (kept_table name columns places tree)) (width : ℕ)
        (one : (given : Row) → value_rows given width (length terms / width) terms ≡ eval_all terms (given ∷ []) ∷ []) where
      pub upserts : (sql : List ℕ) (params : Row) (old new : State) (count : ℕ) → old.now.schema ≡ schema → command_of (understood schema sql) ≡ InsertOr at Abort (Values terms width) (on_key places rewritten ∷ [])
          → IsPlain (understood schema sql) → Executes sql params old new (Ok count) → (new.now.schema ≡ schema) × Upserted params (offered params old.now.trees) old.now.trees new.now.trees × IsDatabase new.now
      upserts sql params old new count has is plain h =
          let db = old.now.trees in
          let command = InsertOr at Abort (Values terms width) (on_key places rewritten ∷ []) in
          let w = runs_as sql params old new schema has command is plain count h in
          let text = statement_of sql (understood schema sql) in
          let does = subst (λ s. Does old.step_limit (mode_of old) params (record old.now { schema = s }) text None command (Ok (w.tally, new.now))) has w.changed in
          let on : Table → Task = λ t. record { limit = old.step_limit; keys = Enforced; schema = schema; table = t; params = params } in
          let done = went (subst (λ o. AtPlace (λ (t : Table). OnRows (on t) (mode_of old) None command db) o (Ok (w.tally, new.now))) place does) in
          let now = ap (λ (p : Tally × Database). p.1) (same_value (went (went done.2).2).2) in (
            ap (λ (d : Database). d.schema) now,
            subst (λ (d : Database). Upserted params (offered params db) db d.trees) (sym now) (all width one old.step_limit params db done.0 done.1),
            w.sound,
          )
