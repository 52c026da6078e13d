use Rattle.std.proofs.Common.{ap, ◌∙◌}
use Rattle.wb_list.specs.Room.{Room}
use Rattle.wb_custody.specs.declared.sealed.SealedItem.{SealedItem}
use Rattle.wb_custody.proofs.SealedLookups.{same_list}
use Rattle.wb_custody.proofs.sealed.SealedTable.reserve.Goals as goal

pub returns-clause-items : goal.returns-clause-items
returns-clause-items c = same_list _ _ c.reserve.ensures.entries.2 ∙ ap (λ (r : Room SealedItem). r.items) c.self.view_is
