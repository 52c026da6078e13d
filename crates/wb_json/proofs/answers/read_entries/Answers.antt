use Rattle.std.proofs.Common.{◌≡◌, ◌++◌, [], ◌∙◌, ap, string_bytes}
use Rattle.wb_model.specs.Bodies.{with_entry}
use Rattle.wb_json.proofs.EntryLemmas.{entries_step, below_step, ordered_step}
use Rattle.wb_json.proofs.answers.read_entries.Goals as goal

pub loop-key-preserved : goal.loop-key-preserved
loop-key-preserved c =
    let given = c.in_ok-given.given in
    let id = string_bytes c.in-Some.key.now in
    let steps = c.in-Some.ensures.steps in
    let grown : c.push_entry.new.answers ≡ c.loop-key.answers ++ with_entry id given [] = c.in_ok-push_entry.ensures ∙ ap (λ t. c.loop-key.answers ++ with_entry t given []) c.as_str.ensures.value in
    record {
      entries = entries_step _ c.loop-key.answers _ (c.in-Some.key.now, c.in-Some.value.now) _ _ given steps c.in_ok-given.ensures grown c.loop-key.invariant.entries;
      below = below_step c.loop-key.answers _ (c.in-Some.key.now, c.in-Some.value.now) _ _ given steps grown c.loop-key.invariant.ordered c.loop-key.invariant.below;
      ordered = ordered_step (c.in-Some.key.now, c.in-Some.value.now) _ _ steps c.loop-key.invariant.ordered;
    }
