use Rattle.wb_model.specs.Openings.{registry_of}
use Rattle.wb_views.proofs.DeskRows.{more_rows}
use Rattle.wb_views.proofs.asked.push_custodied.Goals as goal

pub loop-at-preserved : goal.loop-at-preserved
loop-at-preserved c = more_rows (registry_of c.args.registry.now.lists c.args.tenant).users c.args.number c.loop-at.at c.args.desk.now.items _ _ _ _ c.in_ok-custodied.ensures c.in_ok-push.ensures.items c.loop-at.invariant
