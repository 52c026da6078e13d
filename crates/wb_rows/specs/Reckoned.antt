-- How a tenant reckons days, as it is looked at.
use Rattle.wb_model.specs.Legal.{Reckoning}
use Rattle.wb_rows.specs.declared.days.Days.{Days}

-- the reckoning that it is
abbrev pub reckoned : Days → Reckoning
reckoned d = record { offset = d.offset; calendar = d.calendar.now }
