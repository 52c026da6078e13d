use Rattle.std.proofs.Common.{rules}
use Rattle.wb_setup.proofs.GivenLists.{setup_is_set_up, setup_is_stored}
use Rattle.wb_setup.proofs.setup.Setup.read.Goals as goal

pub returns-in-Ok-with_tenants-clause-set_up : goal.returns-in-Ok-with_tenants-clause-set_up
returns-in-Ok-with_tenants-clause-set_up c = setup_is_set_up c.args.bytes.now c.in-Ok-with_tenants.lists (search rules)

pub returns-in-Ok-with_tenants-clause-stored : goal.returns-in-Ok-with_tenants-clause-stored
returns-in-Ok-with_tenants-clause-stored c = setup_is_stored c.args.bytes.now c.in-Ok-with_tenants.lists (search rules)
