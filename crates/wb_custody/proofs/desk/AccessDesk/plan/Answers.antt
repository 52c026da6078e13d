use Rattle.std.proofs.Common.{◌≡◌, sym, ap, subst, true, None, option_map, length}
use Rattle.wb_model.specs.Access.{requests, user_by}
use Rattle.wb_model.specs.Doings.{Moves}
use Rattle.wb_model.specs.Faults.{custody_told}
use Rattle.wb_model.specs.Moves.{custody_fault}
use Rattle.wb_model.specs.Trails.{has_identity}
use Rattle.wb_model.specs.Legal.{is_next, last_at}
use Rattle.wb_custody.proofs.Refusals.{gives_refusal}
use Rattle.wb_custody.proofs.desk.AccessDesk.plan.Goals as goal

pub returns-in-Ok-reserve-clause-legal : goal.returns-in-Ok-reserve-clause-legal
returns-in-Ok-reserve-clause-legal c = λ days before is asks late.
    let free : option_map custody_told (custody_fault (length before) (has_identity before) (requests before) (user_by c.args.by) c.args.move_) ≡ None = rw (is.0, is.1, is.2) (ap (option_map custody_told) c.in-Ok.ensures.0) in
    subst (λ e. is_next days (last_at 0 before) before e ≡ true) (sym c.in-Ok.ensures.1)
    (c.what_is_not_refused_is_legal.ensures.doing days (last_at 0 before) c.args.at before c.args.by (Moves c.args.move_) late asks free)

pub returns-in-Err-clause-plan : goal.returns-in-Err-clause-plan
returns-in-Err-clause-plan c = gives_refusal c.args.trail c.args.mark c.args.self.now.items c.args.at c.args.by c.args.move_ c.in-Err.fault c.in-Err.ensures
