use Rattle.std.proofs.Common.{rules, ◌≡◌, ◌≤◌, length, take, sym, ap, ◌∙◌, subst, ◌++◌, ◌∷◌, [], arith}
use Rattle.std.proofs.lemmas.List.{take_more}
use Rattle.wb_case.specs.Summaries.{IsSummary, IsAfter}
use Rattle.wb_case.proofs.SummaryLemmas.{summary-after, postponed-few}
use Rattle.wb_case.proofs.summary.Summary.of.Goals as goal

pub note-requires-clause-postponements : goal.note-requires-clause-postponements
note-requires-clause-postponements c =
    let before = take c.loop-at.at c.args.entries.now in
    let is = (c.reserve.ensures.facts before c.loop-at.invariant).postponements in
    let few = postponed-few before in
    let count : length before ≤ c.loop-at.at = search rules in
    omega (arith, is, few, count)

pub loop-at-preserved : goal.loop-at-preserved
loop-at-preserved c =
    let before = take c.loop-at.at c.args.entries.now in
    let entry = c.index-entries-at.result in
    let place : c.loop-at.at ≡ length before = search rules in
    let more = sym (take_more c.args.entries.now c.loop-at.at entry c.loop-at-test.true ∙ ap (λ e. before ++ e ∷ []) (sym c.index-entries-at.is)) in
    let after = subst (λ k. IsAfter c.reserve.new.self c.note.new.self k entry) place c.note.ensures.after in
    subst (IsSummary c.note.new.self) more
    (summary-after c.reserve.new.self c.note.new.self before entry after (c.reserve.ensures.facts before c.loop-at.invariant) (c.a_dialogue_stands_at_its_places.ensures.more before entry))
