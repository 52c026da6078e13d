-- The library's date of the day has the parts of the definition's date, whose year has four digits.
use Rattle.std.proofs.Common.{◌≡◌, arith, rules}
use Rattle.jiff_core.proofs.SignedLemmas.{signed_arith}
use Rattle.jiff_core.specs.Date.{epoch_day}
use Rattle.wb_terms.proofs.CivilDates.{same_date, year_bound}
use Rattle.wb_terms.proofs.days.date_of.Goals as goal

pub returns-clause-year : goal.returns-clause-year
returns-clause-year c =
    let day : epoch_day c.from_plain.result ≡ c.args.day = search rules in
    (same_date c.from_plain.result c.args.day day (c.days.ensures.low, c.days.ensures.high)).0

pub returns-clause-month : goal.returns-clause-month
returns-clause-month c =
    let day : epoch_day c.from_plain.result ≡ c.args.day = search rules in
    (same_date c.from_plain.result c.args.day day (c.days.ensures.low, c.days.ensures.high)).1

pub returns-clause-day_of_month : goal.returns-clause-day_of_month
returns-clause-day_of_month c =
    let day : epoch_day c.from_plain.result ≡ c.args.day = search rules in
    (same_date c.from_plain.result c.args.day day (c.days.ensures.low, c.days.ensures.high)).2

pub returns-clause-bounds : goal.returns-clause-bounds
returns-clause-bounds c =
    let day : epoch_day c.from_plain.result ≡ c.args.day = search rules in
    let same = same_date c.from_plain.result c.args.day day (c.days.ensures.low, c.days.ensures.high) in
    let low = year_bound c.args.day (c.days.ensures.low, c.days.ensures.high) in
    (omega (arith, signed_arith, same.0), omega (arith, signed_arith, same.0))
