-- What a deletion does to the trees.
use Rattle.std.proofs.Common.{◌≡◌, ℕ, List, [], slice_get, Ok, Some, None, sym, ap, subst, ◌∙◌}
use Rattle.sqlite.specs.declared.types.Value.TheVariants.{Null}
use Rattle.sqlite_schema.specs.declared.schema.Keys.TheVariants.{Enforced}
use Rattle.sqlite_schema.specs.declared.schema.Column.{Column}
use Rattle.sqlite_rules.specs.Action.{works}
use Rattle.sqlite_rules.specs.Edit.{Applies, taken_by}
use Rattle.sqlite_rules.specs.Calls.{ids_of}
use Rattle.sqlite.specs.Order.{Row}
use Rattle.sqlite.specs.Query.{Query, IsAnswer}
use Rattle.sqlite.specs.Program.{overlay}
use Rattle.sqlite.specs.Command.TheVariants.{Delete}
use Rattle.sqlite.specs.Does.{Tally, Does, AtPlace, OnRows}
use Rattle.sqlite.specs.Rows.{Task, Written}
use Rattle.sqlite.specs.Edit.{edit_of}
use Rattle.sqlite.specs.Rowids.TheVariants.{Given}
use Rattle.sqlite.specs.Tree.{Trees}
use Rattle.sqlite.specs.Schema.{Schema}
use Rattle.sqlite.specs.Table.{Table}
use Rattle.sqlite.specs.Listing.{understood}
use Rattle.sqlite.specs.Effect.{Database, IsDatabase}
use Rattle.sqlite.specs.State.{State, mode_of, Executes}
use Rattle.sqlite.proofs.Callers.{IsPlain, command_of, statement_of, runs_as, one_step}
use Rattle.wb_stored.specs.Tables.{kept_table}
use Rattle.wb_stored.proofs.Parts.{went, same_value}

-- the rows that the query finds are taken out
pub record Deleted (schema : Schema) (name : List ℕ) (columns : List Column) (places : List ℕ) (tree : ℕ) (q : Query) (params : Row) (db next : Trees) : Type 0 where
  pub gone : List Row
  pub answer : IsAnswer q (overlay db []) params gone
  pub applied : Applies schema Enforced db (edit_of db (kept_table name columns places tree) (ids_of gone) Given 0 []) next

module _ (schema : Schema) (at : ℕ) (name : List ℕ) (columns : List Column) (places : List ℕ) (tree : ℕ)
    (place : slice_get schema.tables at ≡ Some (kept_table name columns places tree)) (none : (olds news : List Row) → works schema Enforced 0 tree olds news ≡ []) where
  pub deletes : (sql : List ℕ) (params : Row) (q : Query) (old new : State) (count : ℕ) → old.now.schema ≡ schema → command_of (understood schema sql) ≡ Delete at (record { lets = []; body = q })
      → IsPlain (understood schema sql) → Executes sql params old new (Ok count) → (new.now.schema ≡ schema) × Deleted schema name columns places tree q params old.now.trees new.now.trees × IsDatabase new.now
  deletes sql params q old new count has is plain h =
      let db = old.now.trees in
      let table = kept_table name columns places tree in
      let command = Delete at (record { lets = []; body = q }) in
      let w = runs_as sql params old new schema has command is plain count h in
      let text = statement_of sql (understood schema sql) in
      let does = subst (λ s. Does old.step_limit (mode_of old) params (record old.now { schema = s }) text None command (Ok (w.tally, new.now))) has w.changed in
      let task : Table → Task = λ t. record { limit = old.step_limit; keys = Enforced; schema = schema; table = t; params = params } in
      let done = went (subst (λ o. AtPlace (λ (t : Table). OnRows (task t) (mode_of old) None command db) o (Ok (w.tally, new.now))) place does) in
      let now = ap (λ (p : Tally × Database). p.1) (same_value (went (went done.2).2).2) in
      let given = went done.1 in
      let written = went given.2 in
      let trees : done.0.trees ≡ written.0 = ap (λ (it : Written). it.trees) (same_value written.2) in
      let next : new.now.trees ≡ written.0 = ap (λ (d : Database). d.trees) now ∙ trees in
      let edit = edit_of db table (ids_of given.0) Given 0 [] in (
        ap (λ (d : Database). d.schema) now,
        record {
          gone = given.0;
          answer = given.1.answer Null;
          applied = subst (Applies schema Enforced db edit) (sym next) (one_step schema Enforced db written.0 edit (none (taken_by db edit) edit.news) written.1);
        },
        w.sound,
      )
