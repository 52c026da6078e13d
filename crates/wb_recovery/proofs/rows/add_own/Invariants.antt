use Rattle.std.proofs.Common.{◌≡◌, ◌==◌, ◌++◌, map, drop, filter}
use Rattle.wb_recovery.proofs.rows.add_own.Given as goal

abbrev pub invariant-loop-item : goal.invariant-loop-item
invariant-loop-item g l = l.rows.items ++ map (g.T.Owned.row_of l.tenant) (filter (λ x. g.T.Owned.owner_of x == l.tenant) (drop l.item-index l.items)) ≡ l.initial.rows.items ++ map (g.T.Owned.row_of l.tenant) (filter (λ x. g.T.Owned.owner_of x == l.tenant) l.items)
