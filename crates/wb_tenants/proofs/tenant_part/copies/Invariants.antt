use Rattle.std.proofs.Common.{◌≡◌, ◌==◌, ◌++◌, drop, filter}
use Rattle.wb_tenants.proofs.tenant_part.copies.Given as goal

abbrev pub invariant-loop-item : goal.invariant-loop-item
invariant-loop-item g l = l.own ++ filter (λ x. g.T.Added.owner x == l.tenant) (drop l.item-index l.items) ≡ filter (λ x. g.T.Added.owner x == l.tenant) l.items
