use Rattle.std.proofs.Common.{◌-◌, slice_index_or, vec_len, arith, rules, ap, sym, ◌∙◌, inl, inr}
use Rattle.std.proofs.lemmas.Grind.{common_steps}
use Rattle.std.proofs.lemmas.List.Elements.{All-pop, All-push, All-same}
use Rattle.wb_front.specs.Attended.{HasNone}
use Rattle.wb_server.specs.Workers.{HasEnded}
use Rattle.wb_server.proofs.Orders.{last_at, turned_more}
use Rattle.wb_server.proofs.placing.unplace.Goals as goal

pub loop-next-preserved : goal.loop-next-preserved
loop-next-preserved g c =
    let i = c.loop-next.invariant in
    let own = c.push_reserved.ensures in
    let place = c.push_reserved-in-Some.ensures in
    let ends = c.and_ended-all.ensures in
    let last = last_at c.args.workers.items c.loop-next.workers.items c.pop.new.self.items c.in-Some.next (vec_len c.loop-next.workers) (sym c.loop-next.workers.ok.0) i.6 c.in-Some.ensures.items in
    let popped = All-pop (λ w. HasEnded (g.Li.Listener.end w.station.listener) w.worked) _ _ _ c.pop.ensures.items i.4 in (
      search rules,
      search rules,
      search rules,
      search rules,
      popped.0,
      (λ all. All-same (λ s. HasNone (g.Li.Listener.end s.listener)) _ _ place.items (All-push (λ s. HasNone (g.Li.Listener.end s.listener)) _ _ (i.5 (ends.left all).0) ((rw c.in-Some.is at popped.1) (ends.left all).1))),
      grind (arith, common_steps),
      (λ k d e within. ap (λ xs. slice_index_or xs k e) place.items ∙ turned_more (λ w. w.station) c.args.workers.items (vec_len c.args.workers) c.loop-next.stations.items (vec_len c.loop-next.stations) c.in-Some.next (vec_len c.loop-next.workers) (sym c.loop-next.stations.ok.0) i.0 (grind (arith)) i.7 last k d e (omega (arith, place.len, within))),
      (λ k d e within. ap (λ xs. slice_index_or xs k e) own.items ∙ turned_more (λ w. w.own) c.args.workers.items (vec_len c.args.workers) c.loop-next.owns.items (vec_len c.loop-next.owns) c.in-Some.next (vec_len c.loop-next.workers) (sym c.loop-next.owns.ok.0) i.1 (grind (arith)) i.8 last k d e (omega (arith, own.len, within))),
      (λ failed. elim (ends.failed failed) [
        | inl before ↦ i.9 before
        | inr worked ↦ (vec_len c.loop-next.workers - 1, grind (arith), λ d. ap (λ w. w.worked) (last d) ∙ worked)
      ]),
    )
