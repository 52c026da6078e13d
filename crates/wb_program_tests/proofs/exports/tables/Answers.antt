use Rattle.std.specs.List.Sorted.{IsStrictlySortedBy}
use Rattle.wb_program_tests.proofs.exports.tables.Goals as goal

pub new-keeper-requires : goal.new-keeper-requires
unfolding IsStrictlySortedBy
new-keeper-requires c = rw c.new.ensures.items tt
