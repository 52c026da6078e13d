use Rattle.wb_cli.proofs.CommandLineLemmas.{asks_one}
use Rattle.wb_cli.proofs.command_line.plan.Goals as goal

pub returns-in-Ok-clause-only : goal.returns-in-Ok-clause-only
returns-in-Ok-clause-only c = λ other asks. asks_one c.args.words.now other c.in-Ok.plan asks c.in-Ok.ensures.ok
