use Rattle.std.specs.List.Sorted.{IsStrictlySortedBy}
use Rattle.wb_input_tests.proofs.lists.a_new_key_is_added_to_a_table_of_pairs.Goals as goal

pub of-table-requires : goal.of-table-requires
unfolding IsStrictlySortedBy
of-table-requires g c = rw c.new.ensures.items tt
