-- A date of the years 1970 to 5199 has a day.
use Rattle.std.proofs.Common.{◌≡◌, pos, arith}
use Rattle.jiff_core.proofs.SignedLemmas.{signed_arith, signed_casts}
use Rattle.wb_terms.proofs.Ranges.{IsDay-epoch_day}
use Rattle.wb_terms.proofs.date_texts.real_day.Goals as goal

pub day_on-requires : goal.day_on-requires
day_on-requires c =
    let year : c.in-Ok.date.year ≡ pos c.args.year = omega (arith, signed_casts, c.in-Ok.ensures.value) in
    IsDay-epoch_day c.in-Ok.date (omega (arith, signed_arith)) (omega (arith, signed_arith))
