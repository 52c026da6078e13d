use Rattle.std.proofs.Common.{map, length, sym, ap, ◌∙◌, subst, ◌<◌, arith}
use Rattle.wb_tables.specs.Kept.{case_of}
use Rattle.wb_tables.proofs.Purges.{purging_next, purging_cases, purging_here, purging_reports, fewer}
use Rattle.wb_tables.proofs.purge.drop_dead.Goals as goal

pub loop-number-smaller : goal.loop-number-smaller
loop-number-smaller c =
    subst (λ cs. length cs < length (map case_of c.loop-number.cases.items)) (sym c.in-Some.ensures.taken.left) (fewer c.args.today c.in-Some.number (map case_of c.loop-number.cases.items) c.in-Some.ensures.taken.dead)

pub loop-number-preserved : goal.loop-number-preserved
loop-number-preserved c = (
  purging_next c.args.tenant c.args.today c.in-Some.number (map case_of c.args.cases.now.items) (map case_of c.loop-number.cases.items) (map case_of c.take_expired.new.self.items) c.args.sealed.now c.loop-number.sealed c.remove.new.self c.loop-number.invariant.0 c.in-Some.ensures.taken (record { here = c.remove.ensures.here; others = c.remove.ensures.others; room = c.remove.ensures.room }),
  (c.in-Some.ensures.living ∙ c.loop-number.invariant.1.0, omega (arith, c.loop-number.invariant.1.1, c.take_expired.ensures.kept), λ none. absurd cc),
)

pub returns-clause-cases : goal.returns-clause-cases
returns-clause-cases c =
    ap (map case_of) c.in_default.ensures.left ∙ purging_cases c.args.tenant c.args.today (map case_of c.args.cases.now.items) (map case_of c.loop-number.cases.items) c.args.sealed.now c.loop-number.sealed c.loop-number.invariant.0 c.in_default.ensures.none

pub returns-clause-reports : goal.returns-clause-reports
returns-clause-reports c =
    c.in_default.ensures.left ∙ purging_reports c.args.today c.loop-number.cases.items c.args.cases.now.items c.in_default.ensures.none c.loop-number.invariant.1.0

pub returns-clause-here : goal.returns-clause-here
returns-clause-here c = purging_here c.args.tenant c.args.today (map case_of c.args.cases.now.items) (map case_of c.loop-number.cases.items) c.args.sealed.now c.loop-number.sealed c.loop-number.invariant.0 c.in_default.ensures.none
