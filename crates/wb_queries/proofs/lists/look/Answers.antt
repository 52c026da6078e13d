use Rattle.wb_model.specs.Tenants.{healthy}
use Rattle.wb_queries.proofs.lists.look.Goals as goal

pub returns-in-Health-clause-told : goal.returns-in-Health-clause-told
unfolding healthy
returns-in-Health-clause-told c = rw c.in-Health.is (λ s. c.healthy.ensures)
