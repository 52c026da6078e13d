use Rattle.wb_model.proofs.ReadablePasts.{held_readable, left_readable, ranged_script, timely_script, opened_script}
use Rattle.wb_model.proofs.SetUpsReadable.{set_up_readable, kept_readable}
use Rattle.wb_model.specs.Past.{held}
use Rattle.wb_model.proofs.laws.hosts_hold_what_is_read_back.Goals as goal

pub returns-clause-held : goal.returns-clause-held
returns-clause-held c = held_readable

pub returns-clause-left : goal.returns-clause-left
returns-clause-left c = λ t past opens made ranged. left_readable t (held past) (held_readable t past opens made ranged)

pub returns-clause-scripts : goal.returns-clause-scripts
returns-clause-scripts c = ranged_script

pub returns-clause-moments : goal.returns-clause-moments
returns-clause-moments c = timely_script

pub returns-clause-openings : goal.returns-clause-openings
returns-clause-openings c = opened_script

pub returns-clause-setups : goal.returns-clause-setups
returns-clause-setups c = set_up_readable

pub returns-clause-kept_rows : goal.returns-clause-kept_rows
returns-clause-kept_rows c = kept_readable
