use Rattle.std.proofs.Common.{◌≡◌, List, ℕ, [], ap, sym, subst, ◌∙◌, rules, true}
use Rattle.serde_json.specs.Data.{Items}
use Rattle.serde_json.specs.View.{view}
use Rattle.wb_base.specs.declared.rows.Row.{Row}
use Rattle.wb_etcd.specs.KeyTexts.{holder_text}
use Rattle.wb_etcd.specs.Transactions.{one_text, take_over_text}
use Rattle.wb_etcd.specs.Answers.{is_made, WasPutAt}
use Rattle.wb_etcd.specs.Exchanges.{Asks}
use Rattle.wb_etcd.specs.Holding.{range_path, transaction_path, ReadsAll}
use Rattle.wb_etcd.proofs.taking.take.Goals as goal

pub returns-clause-taken : goal.returns-clause-taken
returns-clause-taken g c = λ x is.
    let held = c.in_ok-held.ensures.asked x is in
    let taken = c.in_ok-taken.ensures.asked held.0 held.1 in
    let rows = c.in_ok-rows.ensures taken.0 taken.1 in
    let first : c.as_str.result.now ≡ one_text (holder_text c.args.prefix.now) = c.as_str.ensures.value ∙ c.in_ok-asked.ensures ∙ ap one_text (c.as_slice.ensures.value ∙ c.in_ok-holder.ensures) in
    let second : c.as_str-2.result.now ≡ take_over_text c.args.prefix.now c.in_ok-before.before = c.as_str-2.ensures.value ∙ c.in_ok-text.ensures in
    let made : is_made (view c.in_ok-taken.taken) ≡ true = search rules in (
      rows.0,
      rows.1,
      record {
        before = c.in_ok-before.before;
        held = view c.in_ok-held.held;
        taken = view c.in_ok-taken.taken;
        x = held.0;
        y = taken.0;
        asks = subst (λ (text : List ℕ). Asks c.args.endpoints.now range_path text x held.0 (view c.in_ok-held.held)) first held.2;
        was = subst (λ (told : Items). WasPutAt told c.in_ok-before.before) c.items.ensures c.in_ok-before.ensures;
        takes = subst (λ (text : List ℕ). Asks c.args.endpoints.now transaction_path text held.0 taken.0 (view c.in_ok-taken.taken)) second taken.2;
        made = made;
        since = c.in_ok-since.ensures;
        reads = subst (λ (rs : List Row). ReadsAll c.args.endpoints.now c.args.prefix.now c.in_ok-since.since taken.0 rows.0 [] rs) (sym c.into_vec.ensures.all) rows.2;
      },
    )
