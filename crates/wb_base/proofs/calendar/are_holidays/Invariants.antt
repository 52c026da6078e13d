use Rattle.std.proofs.Common.{◌≡◌, drop}
use Rattle.wb_base.specs.Calendars.{ascend, ascend_from}
use Rattle.wb_base.proofs.calendar.are_holidays.Given as goal

abbrev pub invariant-loop-at : goal.invariant-loop-at
invariant-loop-at l = ascend_from l.last (drop l.at l.days) ≡ ascend l.days
