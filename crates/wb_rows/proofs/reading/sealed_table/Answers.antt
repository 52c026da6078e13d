use Rattle.std.proofs.Common.{sym, ap, ◌∙◌, subst}
use Rattle.std.specs.Option.{option_or}
use Rattle.wb_custody.specs.SealedAnswers.{answers_of, pair_cmp, sealed_place}
use Rattle.wb_list.specs.Keyed.{IsAscending}
use Rattle.wb_rows.proofs.SealedOnes.{one-put, rest-order}
use Rattle.wb_rows.proofs.reading.sealed_table.Goals as goal

pub loop-item-preserved : goal.loop-item-preserved
loop-item-preserved c =
    let next = c.in-Some.ensures.steps.0 in
    let rest = c.next.new.self.rest.items in
    let order = subst (λ l. IsAscending pair_cmp sealed_place l) next c.loop-item.invariant.order in
    record {
      order = rest-order c.in-Some.item rest order;
      found = λ t n.
          one-put c.in-Some.item rest c.loop-item.table.items c.put.new.self.items order c.put.ensures.here
          (λ u m other. c.put.ensures.others u m other ∙ ap (λ l. answers_of l u m) c.reserve.ensures.items) t n
          ∙ (ap (λ l. option_or (answers_of l t n) (answers_of c.loop-item.table.items t n)) (sym next) ∙ c.loop-item.invariant.found t n);
    }
