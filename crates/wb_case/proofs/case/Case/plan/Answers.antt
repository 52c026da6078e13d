use Rattle.std.proofs.Common.{◌≡◌, sym, ap, subst, true, option_map}
use Rattle.wb_model.specs.Doings.{Acts}
use Rattle.wb_model.specs.Faults.{case_told}
use Rattle.wb_model.specs.Legal.{Reckoning, is_next, last_at}
use Rattle.wb_case.proofs.case.Case.plan.Goals as goal

pub returns-in-Ok-reserve-clause-legal : goal.returns-in-Ok-reserve-clause-legal
returns-in-Ok-reserve-clause-legal c = λ offset asks late.
    let trail = c.args.self.now.items in
    let days : Reckoning = record { offset = offset; calendar = c.args.calendar.now } in
    subst (λ e. is_next days (last_at 0 trail) trail e ≡ true) (sym c.in-Ok.ensures.1)
    (c.what_is_not_refused_is_legal.ensures.doing days (last_at 0 trail) c.args.at trail c.args.by (Acts c.args.act) late asks (ap (option_map case_told) c.in-Ok.ensures.0))
