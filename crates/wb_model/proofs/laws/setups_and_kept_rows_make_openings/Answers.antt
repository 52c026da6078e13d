use Rattle.wb_model.proofs.OpeningsOf.{set_up_opened, kept_opened}
use Rattle.wb_model.proofs.laws.setups_and_kept_rows_make_openings.Goals as goal

pub returns-clause-setups : goal.returns-clause-setups
returns-clause-setups c = set_up_opened

pub returns-clause-kept_rows : goal.returns-clause-kept_rows
returns-clause-kept_rows c = kept_opened

pub returns-clause-tenants : goal.returns-clause-tenants
returns-clause-tenants c = λ lists up. up.order
