use Rattle.std.proofs.Common.{refl}
use Rattle.wb_terms.proofs.terms.feedback_due.Goals as goal

pub returns : goal.returns
returns c = rw (c.roll.ensures, c.months_after.ensures.value, c.feedback_months.ensures.value, c.unwrap_or-from.ensures, c.days_after.ensures) refl
