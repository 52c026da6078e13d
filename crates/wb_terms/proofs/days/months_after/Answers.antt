-- The library has the date so many months later, and it is that of the definition's day.
use Rattle.std.proofs.Common.{◌≡◌, ◌∙◌, rules, arith}
use Rattle.jiff_core.specs.Date.{epoch_day}
use Rattle.jiff_core.proofs.SignedLemmas.{signed_arith, signed_casts}
use Rattle.jiff_span.specs.Add.{date_add}
use Rattle.wb_base.specs.Terms.{months_later}
use Rattle.wb_terms.proofs.Added.{can_add-months_to, months_added}
use Rattle.wb_terms.proofs.ReadBack.{months-bounds}
use Rattle.wb_terms.proofs.days.months_after.Goals as goal

pub unwrap-requires : goal.unwrap-requires
unwrap-requires c = c.checked_add.ensures.succeeds.1 (can_add-months_to c.date_of.result c.args.day _ c.args.months c.months.result c.date_of.ensures.day c.months.ensures (omega (arith, signed_casts)) c.requires.low c.requires.high c.requires.day.0 c.requires.day.1)

pub day_on-requires : goal.day_on-requires
day_on-requires c =
    let value : epoch_day c.unwrap.result ≡ date_add c.date_of.result c.months.result = search rules in
    let later = months_added c.date_of.result c.args.day _ c.args.months c.months.result c.date_of.ensures.day c.months.ensures (omega (arith, signed_casts)) (c.requires.day.0, omega (arith, signed_arith, c.requires.day.1)) in
    let bounds = months-bounds c.args.months c.args.day c.requires.low c.requires.high c.requires.day.0 c.requires.day.1 in
    rw (value, later) (bounds.0, omega (arith, signed_arith, bounds.1))

pub returns-clause-value : goal.returns-clause-value
returns-clause-value c =
    let value : epoch_day c.unwrap.result ≡ date_add c.date_of.result c.months.result = search rules in
    c.day_on.ensures ∙ value ∙ months_added c.date_of.result c.args.day _ c.args.months c.months.result c.date_of.ensures.day c.months.ensures (omega (arith, signed_casts)) (c.requires.day.0, omega (arith, signed_arith, c.requires.day.1))

pub returns-clause-bounds : goal.returns-clause-bounds
returns-clause-bounds c =
    let value : c.day_on.result ≡ months_later c.args.months c.args.day = returns-clause-value c in
    rw value (months-bounds c.args.months c.args.day c.requires.low c.requires.high c.requires.day.0 c.requires.day.1)
