-- What an insertion of one row does to the trees.
use Rattle.std.proofs.Common.{◌≡◌, ℕ, ◌/◌, List, [], ◌∷◌, ◌++◌, length, slice_get, Ok, None, Some, Option, sym, ap, subst, ◌∙◌}
use Rattle.sqlite_schema.specs.declared.schema.Keys.TheVariants.{Enforced}
use Rattle.sqlite_schema.specs.declared.schema.Column.{Column}
use Rattle.sqlite_rules.specs.Action.{works}
use Rattle.sqlite_rules.specs.Edit.{Applies, taken_by}
use Rattle.sqlite.specs.Order.{Row}
use Rattle.sqlite.specs.Term.{Term, eval_all}
use Rattle.sqlite.specs.Command.TheVariants.{Insert}
use Rattle.sqlite.specs.Source.TheVariants.{Values}
use Rattle.sqlite.specs.Does.{Tally, Does, AtPlace, OnRows}
use Rattle.sqlite.specs.Rows.{Written, Task, Inserts}
use Rattle.sqlite.specs.Edit.{edit_of}
use Rattle.sqlite.specs.Rowids.TheVariants.{Chosen}
use Rattle.sqlite.specs.Tree.{Trees}
use Rattle.sqlite.specs.Schema.{Schema}
use Rattle.sqlite.specs.Table.{Table}
use Rattle.sqlite.specs.Listing.{understood}
use Rattle.sqlite.specs.Effect.{Database, IsDatabase, value_rows}
use Rattle.sqlite.specs.State.{State, mode_of, Executes}
use Rattle.sqlite.proofs.Callers.{IsPlain, command_of, statement_of, runs_as, one_step}
use Rattle.wb_stored.specs.Tables.{kept_table}
use Rattle.wb_stored.proofs.Parts.{went, same_value}

module _ (schema : Schema) (name : List ℕ) (columns : List Column) (places : List ℕ) (tree : ℕ) (terms : List Term) where
  -- the row is put in, with a rowid above all others
  abbrev pub Inserted : Row → Trees → Trees → Type 0
  Inserted params db = Applies schema Enforced db (edit_of db (kept_table name columns places tree) [] Chosen 0 (eval_all terms ((params ++ []) ∷ []) ∷ []))

  module _ (none : (olds news : List Row) → works schema Enforced 0 tree olds news ≡ []) where
    all : (width : ℕ) → ((given : Row) → value_rows given width (length terms / width) terms ≡ eval_all terms (given ∷ []) ∷ [])
        → (limit : Option ℕ) (params : Row) (db : Trees) (w : Written)
        → Inserts (record { limit = limit; keys = Enforced; schema = schema; table = kept_table name columns places tree; params = params }) (Values terms width) db (Ok w) → Inserted params db w.trees
    all width one limit params db w h =
        let rows = went h in
        let counter = went rows.2 in
        let mid = went counter.2 in
        let last = went mid.2 in
        let edit = edit_of db (kept_table name columns places tree) [] Chosen 0 rows.0 in
        let trees : w.trees ≡ mid.0 = ap (λ (it : Written). it.trees) (same_value last.2) ∙ same_value last.1 in
        let is : rows.0 ≡ eval_all terms ((params ++ []) ∷ []) ∷ [] = rows.1.1 ∙ one (params ++ []) in
        let applied : Applies schema Enforced db edit mid.0 = one_step schema Enforced db mid.0 edit (none (taken_by db edit) edit.news) mid.1 in
        subst (Inserted params db) (sym trees)
        (subst (λ rs. Applies schema Enforced db (edit_of db (kept_table name columns places tree) [] Chosen 0 rs) mid.0) is applied)

    module _ (at : ℕ) (place : slice_get schema.tables at ≡ Some (kept_table name columns places tree)) (width : ℕ)
        (one : (given : Row) → value_rows given width (length terms / width) terms ≡ eval_all terms (given ∷ []) ∷ []) where
      pub inserts : (sql : List ℕ) (params : Row) (old new : State) (count : ℕ) → old.now.schema ≡ schema → command_of (understood schema sql) ≡ Insert at (Values terms width)
          → IsPlain (understood schema sql) → Executes sql params old new (Ok count) → (new.now.schema ≡ schema) × Inserted params old.now.trees new.now.trees × IsDatabase new.now
      inserts sql params old new count has is plain h =
          let db = old.now.trees in
          let command = Insert at (Values terms width) in
          let w = runs_as sql params old new schema has command is plain count h in
          let text = statement_of sql (understood schema sql) in
          let does = subst (λ s. Does old.step_limit (mode_of old) params (record old.now { schema = s }) text None command (Ok (w.tally, new.now))) has w.changed in
          let on : Table → Task = λ t. record { limit = old.step_limit; keys = Enforced; schema = schema; table = t; params = params } in
          let done = went (subst (λ o. AtPlace (λ (t : Table). OnRows (on t) (mode_of old) None command db) o (Ok (w.tally, new.now))) place does) in
          let now = ap (λ (p : Tally × Database). p.1) (same_value (went (went done.2).2).2) in (
            ap (λ (d : Database). d.schema) now,
            subst (λ (d : Database). Inserted params db d.trees) (sym now) (all width one old.step_limit params db done.0 done.1),
            w.sound,
          )
