use Rattle.wb_case.proofs.EarlyDays.{received_early, acknowledged_early}
use Rattle.wb_case.proofs.laws.a_legal_trail_has_early_days.Goals as goal

pub returns-clause-received : goal.returns-clause-received
returns-clause-received c = received_early

pub returns-clause-acknowledged : goal.returns-clause-acknowledged
returns-clause-acknowledged c = acknowledged_early
