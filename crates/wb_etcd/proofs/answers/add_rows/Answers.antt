use Rattle.std.proofs.Common.{◌≡◌, ◌<◌, ◌++◌, [], ◌∷◌, List, length, get_or, append_assoc, ap, sym, subst, ◌∙◌, rules}
use Rattle.serde_json.specs.declared.value.Value.{Value}
use Rattle.serde_json.specs.View.{view}
use Rattle.wb_base.specs.declared.rows.Row.{Row}
use Rattle.wb_etcd.specs.Answers.{IsRowOf}
use Rattle.wb_etcd.proofs.ToldRows.{added}
use Rattle.wb_etcd.proofs.answers.add_rows.Goals as goal

pub loop-told-preserved : goal.loop-told-preserved
loop-told-preserved c =
    let before = c.loop-told.invariant in
    let row : Row = c.in_ok-row_of.field-0 in
    let item : Value = c.told-item.result in
    let at : get_or c.args.items.now c.loop-told.told-index item ≡ item = search rules in
    let inside : c.loop-told.told-index < length c.args.items.now = search rules in
    let is : IsRowOf c.args.prefix.now (view (get_or c.args.items.now c.loop-told.told-index item)) row = subst (λ (v : Value). IsRowOf c.args.prefix.now (view v) row) (sym at) c.in_ok-row_of.ensures in (
      before.0 ++ row ∷ [],
      c.in_ok-add.ensures ∙ ap (λ (rows : List Row). rows ++ row ∷ []) before.1 ∙ append_assoc c.args.rows.now.items before.0 (row ∷ []),
      added c.args.prefix.now c.args.items.now c.loop-told.told-index item before.0 row inside before.2 is,
    )
