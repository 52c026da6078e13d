-- Each part is a lemma on dates, and the date of a day is the one that many days after 1969-12-31.
use Rattle.std.proofs.Common.{◌+ℤ◌, pos, arith, unsigned_abs}
use Rattle.jiff_core.proofs.SignedLemmas.{signed_arith}
use Rattle.wb_terms.proofs.CivilDates.{good_date, count_of, same_date}
use Rattle.wb_terms.proofs.laws.dates_are_jiffs.Goals as goal

pub returns-clause-count : goal.returns-clause-count
returns-clause-count c = λ n. (good_date n).count

pub returns-clause-back : goal.returns-clause-back
returns-clause-back c = λ day h.
    let count = (good_date (unsigned_abs (day +ℤ pos 1))).count in
    let same = (count_of day h).0 in
    omega (arith, signed_arith, count, same)

pub returns-clause-year : goal.returns-clause-year
returns-clause-year c = λ a day e h. (same_date a day e h).0

pub returns-clause-month : goal.returns-clause-month
returns-clause-month c = λ a day e h. (same_date a day e h).1

pub returns-clause-day_of_month : goal.returns-clause-day_of_month
returns-clause-day_of_month c = λ a day e h. (same_date a day e h).2
