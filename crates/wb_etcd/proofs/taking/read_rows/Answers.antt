use Rattle.std.proofs.Common.{◌≡◌, ◌++◌, List, ℕ, [], sym, subst, ◌∙◌, rules, true, false}
use Rattle.serde_json.specs.Data.{Data, Items}
use Rattle.serde_json.specs.View.{view}
use Rattle.wb_base.specs.declared.rows.Row.{Row}
use Rattle.wb_etcd.specs.Transactions.{range_text}
use Rattle.wb_etcd.specs.Answers.{has_more, told_items, AreRowsOf}
use Rattle.wb_etcd.specs.Exchanges.{Asks}
use Rattle.wb_etcd.specs.Holding.{range_path, piece_limit, keys_after, AsksForMore, ReadsAll, ends, goes_on}
use Rattle.wb_etcd.proofs.taking.read_rows.Goals as goal

pub returns-then-not-has_more : goal.returns-then-not-has_more
returns-then-not-has_more g c = λ x is.
    let held = c.loop.invariant x is in
    let asked = c.in_ok-answer.ensures.asked held.0 held.1 in
    let rows : List Row = c.loop.rows.items in
    let answer : Data = view c.in_ok-answer.answer in
    let keys = subst (λ (rs : List Row). c.as_str.result.now ≡ range_text (keys_after c.args.prefix.now rs) piece_limit c.args.revision) c.as_slice.ensures.all (c.as_str.ensures.value ∙ c.in_ok-text.ensures (keys_after c.args.prefix.now c.as_slice.result.now) c.in_ok-keys.ensures) in
    let asks : AsksForMore c.args.endpoints.now c.args.prefix.now c.args.revision rows held.0 asked.0 answer = subst (λ (text : List ℕ). Asks c.args.endpoints.now range_path text held.0 asked.0 answer) keys asked.2 in
    let piece = c.in_ok-add_rows.ensures in
    let are : AreRowsOf c.args.prefix.now (told_items answer) piece.0 = subst (λ (told : Items). AreRowsOf c.args.prefix.now told piece.0) c.items-told.ensures piece.2 in
    let none : has_more answer ≡ false = search rules in
    let all : ReadsAll c.args.endpoints.now c.args.prefix.now c.args.revision x asked.0 [] (rows ++ piece.0) = held.2 asked.0 (rows ++ piece.0) (ends held.0 asked.0 rows piece.0 answer asks are none) in (
      asked.0,
      asked.1,
      subst (λ (rs : List Row). ReadsAll c.args.endpoints.now c.args.prefix.now c.args.revision x asked.0 [] rs) (sym piece.1) all,
    )

pub loop-preserved : goal.loop-preserved
loop-preserved g c = λ x is.
    let held = c.loop.invariant x is in
    let asked = c.in_ok-answer.ensures.asked held.0 held.1 in
    let rows : List Row = c.loop.rows.items in
    let answer : Data = view c.in_ok-answer.answer in
    let keys = subst (λ (rs : List Row). c.as_str.result.now ≡ range_text (keys_after c.args.prefix.now rs) piece_limit c.args.revision) c.as_slice.ensures.all (c.as_str.ensures.value ∙ c.in_ok-text.ensures (keys_after c.args.prefix.now c.as_slice.result.now) c.in_ok-keys.ensures) in
    let asks : AsksForMore c.args.endpoints.now c.args.prefix.now c.args.revision rows held.0 asked.0 answer = subst (λ (text : List ℕ). Asks c.args.endpoints.now range_path text held.0 asked.0 answer) keys asked.2 in
    let piece = c.in_ok-add_rows.ensures in
    let are : AreRowsOf c.args.prefix.now (told_items answer) piece.0 = subst (λ (told : Items). AreRowsOf c.args.prefix.now told piece.0) c.items-told.ensures piece.2 in
    let more : has_more answer ≡ true = search rules in (
      asked.0,
      asked.1,
      λ z all rest. held.2 z all (goes_on held.0 asked.0 z rows piece.0 all answer asks are more (subst (λ (rs : List Row). ReadsAll c.args.endpoints.now c.args.prefix.now c.args.revision asked.0 z rs all) piece.1 rest)),
    )
