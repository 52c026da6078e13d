use Rattle.std.proofs.Common.{map, ap, sym, ◌∙◌}
use Rattle.wb_tables.specs.Indexed.{Reports}
use Rattle.wb_tables.specs.Lives.{case_of}
use Rattle.wb_tables.proofs.Indexes.{taken, all_live, left_reports}
use Rattle.wb_tables.proofs.cases.Cases.take_expired.Goals as goal

pub returns-in_err-term-clause-none : goal.returns-in_err-term-clause-none
returns-in_err-term-clause-none c =
    rw (c.from_residual.ensures, ← ap (λ (r : Reports). r.items) c.self.view_is) (all_live c.self.inside.tenant c.args.today (map case_of c.self.inside.cases.items) c.self.inside.terms.items c.self.invariant.0 (sym c.in_err-term.was ∙ c.first_up_to.ensures))

pub returns-clause-taken : goal.returns-clause-taken
returns-clause-taken c =
    let t = c.in_ok-term.term in
    let gone = taken c.self.inside.tenant c.args.today (map case_of c.self.inside.cases.items) c.self.inside.terms.items c.self.invariant.0 t (sym c.in_ok-term.was ∙ c.first_up_to.ensures) in
    rw c.remove.ensures.left (rw (← ap (λ (r : Reports). r.items) c.self.view_is) gone)

pub returns-clause-living : goal.returns-clause-living
returns-clause-living c =
    let t = c.in_ok-term.term in
    let left = rw (← ap (λ (r : Reports). r.items) c.self.view_is) at c.remove.ensures.reports in
    rw (← ap (λ (r : Reports). r.items) c.self.view_is) (left_reports c.self.inside.tenant c.args.today c.self.inside.cases.items c.remove.new.self.items c.self.inside.terms.items c.self.invariant.0 t (sym c.in_ok-term.was ∙ c.first_up_to.ensures) left)
