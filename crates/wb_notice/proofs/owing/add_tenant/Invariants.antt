use Rattle.std.proofs.Common.{◌≡◌, ◌++◌, true, drop}
use Rattle.wb_model.specs.Openings.{registry_of}
use Rattle.wb_notice.specs.Owed.{notices_on}
use Rattle.wb_notice.proofs.OwedOnes.{have_actors, told_of}
use Rattle.wb_notice.proofs.owing.add_tenant.Given as goal

abbrev pub invariant-loop-item : goal.invariant-loop-item
invariant-loop-item l = record {
  told : (l.notices.items ++ told_of l.tenant l.today (notices_on l.tenant (registry_of l.tables.registry.lists l.tenant) l.today) (drop l.item-index l.tables.cases))
      ≡ (l.initial.notices.items ++ told_of l.tenant l.today (notices_on l.tenant (registry_of l.tables.registry.lists l.tenant) l.today) l.tables.cases);
  actors : have_actors l.tenant (drop l.item-index l.tables.cases) ≡ true;
}
