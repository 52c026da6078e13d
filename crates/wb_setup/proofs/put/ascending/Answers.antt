use Rattle.std.proofs.Common.{rules}
use Rattle.wb_setup.proofs.Readers.{step}
use Rattle.wb_setup.proofs.put.ascending.Goals as goal

pub loop-user-preserved : goal.loop-user-preserved
loop-user-preserved c = record {
  rest = step _ _ c.args.users.now c.loop-user.user-index _ _ (search rules) (search rules) c.in_ok-add.ensures.ok c.loop-user.invariant.rest;
  order = c.in_ok-add.ensures.order;
}
