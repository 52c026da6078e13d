use Rattle.wb_tenants.proofs.Kept.{kept_stays}
use Rattle.wb_tenants.proofs.laws.a_kept_tenant_stays_whole.Goals as goal

pub returns : goal.returns
returns c = kept_stays
