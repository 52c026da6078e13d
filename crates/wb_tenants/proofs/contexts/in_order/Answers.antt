use Rattle.std.proofs.Common.{◌∙◌, subst, IsPermutation}
use Rattle.wb_tenants.proofs.InOrder.{sorted_ascending}
use Rattle.wb_tenants.proofs.contexts.in_order.Goals as goal

pub returns : goal.returns
returns c =
    let moved = subst (λ us. IsPermutation us c.sort_unstable.new.self.items) c.into_vec-users.ensures c.sort_unstable.ensures.permutation in
    c.of.ensures ∙ sorted_ascending c.args.users c.sort_unstable.new.self.items c.requires moved c.sort_unstable.ensures.sorted
