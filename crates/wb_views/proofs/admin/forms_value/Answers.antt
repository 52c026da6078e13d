use Rattle.std.proofs.Common.{◌≡◌, ◌≤◌, ◌++◌, [], List, drop, length, map, append-nil, ap, sym, ◌∙◌, arith}
use Rattle.std.proofs.lemmas.List.{at_drop_all}
use Rattle.serde_json.specs.Data.{Data, array}
use Rattle.serde_json.specs.View.{view, items_of}
use Rattle.serde_json.proofs.Views.{view-Array}
use Rattle.wb_views.specs.Shown.{forms_shown}
use Rattle.wb_views.proofs.admin.forms_value.Goals as goal

-- no form is left at the end
pub returns : goal.returns
unfolding forms_shown
returns c =
    let forms = c.args.forms.now in
    let pushed = map view c.loop-at.values.items in
    let past : length forms ≤ c.loop-at.at = omega arith in
    let left : forms_shown c.args.tenant (drop c.loop-at.at forms) ≡ [] = at_drop_all (forms_shown c.args.tenant) forms c.loop-at.at past in
    let all : pushed ≡ forms_shown c.args.tenant forms = sym (append-nil pushed) ∙ (ap (λ (ds : List Data). pushed ++ ds) (sym left) ∙ c.loop-at.invariant) in
    view-Array c.loop-at.values ∙ ap (λ (ds : List Data). array (items_of ds)) all
