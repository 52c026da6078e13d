use Rattle.wb_export.proofs.registers.add_day_or_none.Goals as goal

pub returns-in-Some : goal.returns-in-Some
returns-in-Some c = rw c.in-Some.is c.add_day.ensures

pub returns-in-None : goal.returns-in-None
returns-in-None c = rw c.in-None.is c.add.ensures
