-- Legal trails have the days from which terms are counted.
use Rattle.std.proofs.Common.{ℕ, ◌≤◌, List, [], ◌∷◌, arith}
use Rattle.wb_base.specs.Days.{IsOffset}
use Rattle.wb_case.proofs.EarlyDays.{received_early, acknowledged_early}
use Rattle.wb_model.specs.Legal.{Reckoning, AreLegal, last_at}
use Rattle.wb_model.specs.Tables.{Case}
use Rattle.wb_tables.specs.Lives.{AreEarly}

pub early_reports : (days : Reckoning) (time : ℕ) (cs : List Case) → IsOffset days.offset → time ≤ 99_999_999_999 → AreLegal days time cs → AreEarly cs
early_reports days time [] offset le legal = tt
early_reports days time (c ∷ cs) offset le legal =
    let so_far : last_at 0 c.trail ≤ 99_999_999_999 = omega (arith, legal.0.1, le) in
    ((received_early days c.trail offset so_far legal.0.0, acknowledged_early days c.trail offset so_far legal.0.0), early_reports days time cs offset le legal.1)
