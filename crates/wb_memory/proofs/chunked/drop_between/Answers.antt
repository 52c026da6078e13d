use Rattle.std.proofs.Common.{◌≡◌, ◌+◌, ◌-◌, ◌<◌, [], ◌++◌, not, filter, length, take, drop, refl, subst, ◌∙◌, arith}
use Rattle.std.specs.Ordering.{is_eq}
use Rattle.wb_list.specs.Room.{Room}
use Rattle.wb_memory.specs.Chunks.{joined}
use Rattle.wb_memory.proofs.Dropping.{dropped_more, dropped_none, dropped_whole}
use Rattle.wb_memory.proofs.chunked.drop_between.Goals as goal

pub loop-at-init : goal.loop-at-init
loop-at-init g c = record {
  low = c.requires.order;
  high = c.requires.end;
  front = refl;
  left = dropped_none (λ item. not (is_eq (g.X.ItemRun.side c.args.run.now item))) c.args.chunks.now.items c.args.end c.requires.behind;
  filled = c.requires.filled;
  count = omega arith;
  places = refl;
}

pub loop-at-preserved : goal.loop-at-preserved
loop-at-preserved g c =
    let at = c.loop-at.at - 1 in
    let olds = c.loop-at.chunks.items in
    let whole = filter (λ item. not (is_eq (g.X.ItemRun.side c.args.run.now item))) (joined c.args.chunks.now.items) in
    let next : c.loop-at.at ≡ at + 1 = omega (arith, c.loop-at-test.true) in
    let within : at < length olds = omega (arith, next, c.loop-at.invariant.high) in
    let left = subst (λ n. filter (λ item. not (is_eq (g.X.ItemRun.side c.args.run.now item))) (joined (take n olds)) ++ joined (drop n olds) ≡ whole) next c.loop-at.invariant.left in
    let d : Room g.row.T.Denot = record { items = []; spare = 0 } in
    record {
      low = omega (arith, c.loop-at-test.true);
      high = c.drop_at.ensures.place;
      front = c.drop_at.ensures.before c.args.start (omega (arith, c.loop-at-test.true)) ∙ c.loop-at.invariant.front;
      left = dropped_more (λ item. not (is_eq (g.X.ItemRun.side c.args.run.now item))) olds c.drop_at.new.chunks.items at d whole within (c.drop_at.ensures.before at (omega arith)) (c.drop_at.ensures.items d) left;
      filled = c.drop_at.ensures.filled;
      count = omega (arith, c.drop_at.ensures.count, c.loop-at.invariant.count);
      places = c.drop_at.ensures.places ∙ c.loop-at.invariant.places;
    }

pub returns-clause-items : goal.returns-clause-items
returns-clause-items g c =
    let news = c.loop-at.chunks.items in
    let whole = filter (λ item. not (is_eq (g.X.ItemRun.side c.args.run.now item))) (joined c.args.chunks.now.items) in
    let done : c.loop-at.at ≡ c.args.start = omega (arith, c.loop-at-test.false, c.loop-at.invariant.low) in
    let left = subst (λ n. filter (λ item. not (is_eq (g.X.ItemRun.side c.args.run.now item))) (joined (take n news)) ++ joined (drop n news) ≡ whole) done c.loop-at.invariant.left in
    dropped_whole (λ item. not (is_eq (g.X.ItemRun.side c.args.run.now item))) c.args.chunks.now.items news c.args.start whole c.loop-at.invariant.front c.requires.before left
