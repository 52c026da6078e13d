use Rattle.std.proofs.Common.{◌≡◌, ◌*◌, fold, drop, pos, neg_ℤ, ◌+ℤ◌, ◌≤ℤ◌}
use Rattle.wb_base.specs.Calendars.{after_weekend, after_holiday}
use Rattle.wb_terms.proofs.terms.roll.Given as goal

abbrev pub invariant-loop-holiday : goal.invariant-loop-holiday
invariant-loop-holiday l = record {
  made : fold after_holiday l.last (drop l.holiday-index l.holiday-items) ≡ fold after_holiday (after_weekend l.fn.day) l.holiday-items;
  low : neg_ℤ (pos 1) ≤ℤ l.last;
  high : l.last ≤ℤ (pos 1_190_692 +ℤ pos (3 * l.holiday-index));
}
