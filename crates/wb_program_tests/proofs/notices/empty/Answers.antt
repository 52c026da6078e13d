use Rattle.std.specs.List.Sorted.{IsStrictlySortedBy}
use Rattle.wb_program_tests.proofs.notices.empty.Goals as goal

pub new-requires : goal.new-requires
unfolding IsStrictlySortedBy
new-requires c = rw c.new-rows.ensures.items tt
