use Rattle.std.proofs.Common.{◌≡◌, ◌+◌, ◌++◌, ◌∷◌, [], length, ap, ◌∙◌, arith}
use Rattle.std.proofs.lemmas.List.{length_push}
use Rattle.wb_list.proofs.LastItems.{moved_one}
use Rattle.wb_list.proofs.sorted.move_back.Goals as goal

pub loop-preserved : goal.loop-preserved
loop-preserved g c =
    let last = c.in-Some.last in
    let pushed : c.push-pushed.new.self.items ≡ c.loop.into.items ++ last ∷ [] = rw c.unwrap.ensures at c.push-pushed.ensures.items in
    let longer : length c.loop.items.items ≡ length c.pop.new.self.items + 1 = ap length c.in-Some.ensures.items ∙ length_push c.pop.new.self.items last in
    record {
      list = rw pushed (moved_one c.pop.new.self.items c.loop.into.items c.args.items.now.items last (rw c.in-Some.ensures.items at c.loop.invariant.list));
      moved = rw pushed (length_push c.loop.into.items last ∙ ap (λ n. n + 1) c.loop.invariant.moved);
      left = omega (arith, longer, c.loop.invariant.left);
      from = c.in-Some.ensures.capacity ∙ c.loop.invariant.from;
      to = omega (arith, c.loop.invariant.to, c.push-pushed.ensures.capacity);
    }
