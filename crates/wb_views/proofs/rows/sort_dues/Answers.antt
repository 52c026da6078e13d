use Rattle.std.proofs.Common.{rules}
use Rattle.std.proofs.lemmas.List.Sorted.{answers_always}
use Rattle.wb_model.specs.declared.view.Due.{Due}
use Rattle.wb_views.proofs.SortedDues.{sorted_dues}
use Rattle.wb_views.proofs.rows.sort_dues.Goals as goal

pub returns : goal.returns
returns c =
    let key = λ (d : Due). d.day in
    let computes = answers_always _ _ _ (λ f a r g h. search rules) in
    sorted_dues _ _ (c.in_ok-sort_by_key.ensures.sorted key computes) (c.in_ok-sort_by_key.ensures.stable key computes)
