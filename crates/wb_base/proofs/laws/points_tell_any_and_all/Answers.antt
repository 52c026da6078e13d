use Rattle.wb_base.proofs.Points.{any-points, all-points}
use Rattle.wb_base.proofs.laws.points_tell_any_and_all.Goals as goal

pub returns-clause-any : goal.returns-clause-any
returns-clause-any c = any-points

pub returns-clause-all : goal.returns-clause-all
returns-clause-all c = all-points
