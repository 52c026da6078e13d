use Rattle.std.specs.List.Sorted.{IsStrictlySortedBy}
use Rattle.wb_input_tests.proofs.outside.a_keeper_in_memory_makes_all_changes_or_none.Goals as goal

pub new-keeper-requires : goal.new-keeper-requires
unfolding IsStrictlySortedBy
new-keeper-requires g c = rw c.new.ensures.items tt
