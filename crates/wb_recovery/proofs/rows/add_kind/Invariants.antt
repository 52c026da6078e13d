use Rattle.std.proofs.Common.{◌≡◌, ◌++◌, drop, map}
use Rattle.wb_model.specs.Rows.{of_tenants}
use Rattle.wb_tables.specs.Kept.{place_of, tenancy_of}
use Rattle.wb_recovery.specs.RowKinds.{rows_by}
use Rattle.wb_recovery.proofs.rows.add_kind.Given as goal

abbrev pub invariant-loop-tenancy : goal.invariant-loop-tenancy
invariant-loop-tenancy l = l.rows.items ++ of_tenants (rows_by l.kind) (map (tenancy_of l.sealed.items) (map place_of (drop l.tenancy-index l.tenancies))) ≡ l.initial.rows.items ++ of_tenants (rows_by l.kind) (map (tenancy_of l.sealed.items) (map place_of l.tenancies))
