use Rattle.wb_tables.specs.TurnContexts.{at_of}
use Rattle.wb_tables.specs.Kept.{live_plain, plain_of}
use Rattle.wb_desk.proofs.Families.{submit_plan}
use Rattle.wb_desk.proofs.stepping.by_anyone.Goals as goal

pub returns-in_ok-submit-in-Submit-clause-step : goal.returns-in_ok-submit-in-Submit-clause-step
returns-in_ok-submit-in-Submit-clause-step c = submit_plan c.args.tenancy.now.configuration.tenant (live_plain c.args.at.now.time (plain_of c.args.tenancy.now)) (at_of c.args.at.now) c.args.asked.now c.in_ok-submit-in-Submit.field-0 c.in-Submit.t c.in-Submit.context c.in-Submit.answers c.in-Submit.is c.in_ok-submit-in-Submit.ensures.plan
