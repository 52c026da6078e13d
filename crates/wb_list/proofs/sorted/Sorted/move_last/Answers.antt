use Rattle.wb_list.proofs.LastItems.{ascending_front, ascending_back}
use Rattle.wb_list.proofs.sorted.Sorted.move_last.Goals as goal

pub invariant_of-self : goal.invariant_of-self
invariant_of-self g c = ascending_front g.T.Key.Ord.cmp g.T.Keyed.key_of c.move_back.new.items.items c.move_back.new.into.items (rw c.move_back.ensures.items c.self.invariant)

pub invariant_of-into : goal.invariant_of-into
invariant_of-into g c = ascending_back g.T.Key.Ord.cmp g.T.Keyed.key_of c.move_back.new.items.items c.move_back.new.into.items (rw c.move_back.ensures.items c.self.invariant)
