use Rattle.std.proofs.Common.{arith}
use Rattle.wb_memory.proofs.Dropping.{in_order, front_kept, behind_kept}
use Rattle.wb_memory.proofs.chunked.bounds.Goals as goal

pub returns-clause-before : goal.returns-clause-before
returns-clause-before g c =
    rw c.saturating_sub.ensures (front_kept g.T.Key.Ord.cmp g.T.Keyed.key_of (g.X.ItemRun.side c.args.run.now) c.requires.run c.args.chunks.now.items c.beginning_before-before.result c.requires.filled c.requires.ascending c.beginning_before-before.ensures.bound (λ i d low. c.beginning_before-before.ensures.parted.0 i d (omega arith) low))

pub returns-clause-behind : goal.returns-clause-behind
returns-clause-behind g c =
    behind_kept g.T.Key.Ord.cmp g.T.Keyed.key_of (g.X.ItemRun.side c.args.run.now) c.requires.run c.args.chunks.now.items c.beginning_within-within.result c.requires.filled c.requires.ascending (λ d there. c.beginning_within-within.ensures.parted.1 c.beginning_within-within.result d (omega arith) there)

pub returns-clause-order : goal.returns-clause-order
returns-clause-order g c =
    let order = in_order (g.X.ItemRun.side c.args.run.now) c.args.chunks.now.items c.beginning_before-before.result c.beginning_within-within.result c.beginning_before-before.ensures.bound c.beginning_before-before.ensures.parted c.beginning_within-within.ensures.parted in
    omega (arith, order, c.saturating_sub.ensures)
