use Rattle.std.specs.List.Sorted.{IsStrictlySortedBy}
use Rattle.wb_setup.proofs.ordered.nothing.Goals as goal

pub returns-clause-order : goal.returns-clause-order
unfolding IsStrictlySortedBy
returns-clause-order g c = rw c.new.ensures.items tt
