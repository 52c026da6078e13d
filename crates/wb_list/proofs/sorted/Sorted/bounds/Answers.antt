use Rattle.std.proofs.Common.{arith, ◌-◌}
use Rattle.wb_list.proofs.KeyedRuns.{run_ordered, run_between}
use Rattle.wb_list.proofs.sorted.Sorted.bounds.Goals as goal

pub returns-clause-start : goal.returns-clause-start
returns-clause-start g c = run_ordered (g.X.ItemRun.side c.args.run.now) c.args.self.now.items c.start_of.result c.end_of.result c.start_of.ensures.start c.end_of.ensures.end c.start_of.ensures.bound

pub returns-clause-run : goal.returns-clause-run
returns-clause-run g c =
    run_between (g.X.ItemRun.side c.args.run.now) c.args.self.now.items c.start_of.result c.end_of.result (c.end_of.result - c.start_of.result) (omega (arith, returns-clause-start g c)) c.start_of.ensures.start c.end_of.ensures.end c.start_of.ensures.bound c.end_of.ensures.bound
