use Rattle.wb_base.proofs.Rolling.{ends_later, ends_open, ends_least, ends_same}
use Rattle.wb_base.proofs.laws.terms_end_on_the_next_open_day.Goals as goal

pub returns-clause-later : goal.returns-clause-later
returns-clause-later c = ends_later

pub returns-clause-open_day : goal.returns-clause-open_day
returns-clause-open_day c = ends_open

pub returns-clause-least : goal.returns-clause-least
returns-clause-least c = ends_least

pub returns-clause-same : goal.returns-clause-same
returns-clause-same c = ends_same
