-- The library has the date so many days later, and it is that of the day.
use Rattle.std.proofs.Common.{◌≡◌, ◌∙◌, rules, arith}
use Rattle.jiff_core.specs.Date.{epoch_day}
use Rattle.jiff_core.proofs.SignedLemmas.{signed_casts}
use Rattle.jiff_span.specs.Add.{date_add}
use Rattle.wb_terms.proofs.Added.{can_add-days_to, days_added}
use Rattle.wb_terms.proofs.days.days_after.Goals as goal

pub unwrap-requires : goal.unwrap-requires
unwrap-requires c = c.checked_add.ensures.succeeds.1 (can_add-days_to c.date_of.result c.args.day _ c.args.days c.days.result c.date_of.ensures.day c.days.ensures (omega (arith, signed_casts)) c.requires)

pub day_on-requires : goal.day_on-requires
day_on-requires c =
    let value : epoch_day c.unwrap.result ≡ date_add c.date_of.result c.days.result = search rules in
    rw (value, days_added c.date_of.result c.args.day _ c.args.days c.days.result c.date_of.ensures.day c.days.ensures (omega (arith, signed_casts))) c.requires

pub returns : goal.returns
returns c =
    let value : epoch_day c.unwrap.result ≡ date_add c.date_of.result c.days.result = search rules in
    c.day_on.ensures ∙ value ∙ days_added c.date_of.result c.args.day _ c.args.days c.days.result c.date_of.ensures.day c.days.ensures (omega (arith, signed_casts))
