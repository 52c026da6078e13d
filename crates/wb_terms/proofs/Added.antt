-- What a span of days or of months adds to the date of a day, and that jiff has the date that comes of it.
use Rattle.std.proofs.Common.{◌≡◌, ◌∙◌, ℕ, ◌+◌, ◌≤◌, arith, ℤ, pos, neg_ℤ, ◌+ℤ◌, ◌≤ℤ◌}
use Rattle.jiff_core.specs.declared.civil.date.Date.{Date}
use Rattle.jiff_core.specs.declared.span.Span.{Span}
use Rattle.jiff_core.specs.declared.unit.Unit.TheVariants.{Month, Day, Hour, Minute, Second, Millisecond, Microsecond, Nanosecond}
use Rattle.jiff_core.specs.Date.{epoch_day}
use Rattle.jiff_core.specs.Span.{IsOnly, span_months, span_days, clock_days}
use Rattle.jiff_core.proofs.SignedLemmas.{signed_arith}
use Rattle.jiff_span.specs.Add.{date_add, CanAddToDate}
use Rattle.jiff_span.specs.Months.{add_months}
use Rattle.jiff_span.proofs.DifferenceLemmas.{signed_zero}
use Rattle.jiff.proofs.SpanFacts.{date_add-days, can_add-days}
use Rattle.wb_base.specs.Days.{IsDay}
use Rattle.wb_base.specs.Terms.{months_later}
use Rattle.wb_terms.proofs.CivilDates.{same_date, year_bound}
use Rattle.wb_terms.proofs.JiffWords.{add_months-months_later}
use Rattle.wb_terms.proofs.ReadBack.{months-bounds}

-- days, where the host has the day that comes of them
pub can_add-days_to : (a : Date) (day z : ℤ) (n : ℕ) (s : Span) → epoch_day a ≡ day → IsOnly Day z s → z ≡ pos n → IsDay (day +ℤ pos n) → CanAddToDate a s
can_add-days_to a day z n s e only same h = (can_add-days a z s only).1 (omega (arith, signed_arith, e, same, h.0), omega (arith, signed_arith, e, same, h.1))

pub days_added : (a : Date) (day z : ℤ) (n : ℕ) (s : Span) → epoch_day a ≡ day → IsOnly Day z s → z ≡ pos n → date_add a s ≡ day +ℤ pos n
days_added a day z n s e only same = date_add-days a z s only ∙ omega (arith, signed_arith, e, same)

-- months
months_added-jiff : (a : Date) (z : ℤ) (s : Span) → IsOnly Month z s → date_add a s ≡ add_months a z
months_added-jiff a z s h =
    let months : span_months s ≡ z = omega (arith, signed_arith, h.months) in
    let days : span_days s ≡ pos 0 = omega (arith, signed_arith, h.days) in
    let hour = h.others Hour (omega arith) in
    let minute = h.others Minute (omega arith) in
    let second = h.others Second (omega arith) in
    let milli = h.others Millisecond (omega arith) in
    let micro = h.others Microsecond (omega arith) in
    let nano = h.others Nanosecond (omega arith) in
    let clock : clock_days s ≡ pos 0 = signed_zero s.negative _ (omega arith) in
    rw (months, days, clock) (omega (arith, signed_arith))

pub months_added : (a : Date) (day z : ℤ) (k : ℕ) (s : Span) → epoch_day a ≡ day → IsOnly Month z s → z ≡ pos k → IsDay day → date_add a s ≡ months_later k day
months_added a day z k s e only same is = months_added-jiff a z s only ∙ rw same (add_months-months_later a day k e is)

-- .. of which there are three to six, to a day that is not too late
pub can_add-months_to : (a : Date) (day z : ℤ) (k : ℕ) (s : Span) → epoch_day a ≡ day → IsOnly Month z s → z ≡ pos k → 3 ≤ k → k ≤ 6 → neg_ℤ (pos 1) ≤ℤ day → day ≤ℤ pos 1_190_007 → CanAddToDate a s
can_add-months_to a day z k s e only same more few low high =
    let is : IsDay day = (low, omega (arith, signed_arith)) in
    let months : span_months s ≡ z = omega (arith, signed_arith, only.months) in
    let date = same_date a day e is in
    let year = year_bound day is in
    let bounds = months-bounds k day more few low high in
    let later = months_added a day z k s e only same is in
    (rw (months, same) (omega (arith, signed_arith, date.0, a.month_in.0, a.month_in.1)), rw later (omega (arith, signed_arith, bounds.0), omega (arith, signed_arith, bounds.1)))
