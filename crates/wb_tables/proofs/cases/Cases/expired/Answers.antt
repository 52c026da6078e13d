use Rattle.std.proofs.Common.{map, ap, sym, subst}
use Rattle.wb_base.specs.declared.kind.Kind.TheVariants.{Expiry}
use Rattle.wb_terms.specs.Index.{numbers_up_to}
use Rattle.wb_tables.specs.Indexed.{Reports, AreExpired}
use Rattle.wb_tables.specs.Lives.{case_of}
use Rattle.wb_tables.proofs.DeadNumbers.{on_ok, err_some}
use Rattle.wb_tables.proofs.Indexes.{expired_are, some_expired}
use Rattle.wb_tables.proofs.cases.Cases.expired.Goals as goal

pub returns-clause-dead : goal.returns-clause-dead
returns-clause-dead c =
    rw (← ap (λ (r : Reports). r.items) c.self.view_is) (on_ok c.up_to.result (λ ns made. subst (AreExpired c.args.today (map case_of c.self.inside.cases.items)) (sym made) (expired_are c.self.inside.tenant c.args.today (map case_of c.self.inside.cases.items) c.self.inside.terms.items c.self.invariant.0)) c.up_to.ensures.numbers)

pub returns-clause-err : goal.returns-clause-err
returns-clause-err c =
    rw (← ap (λ (r : Reports). r.items) c.self.view_is) (err_some c.up_to.result (λ some. some_expired c.args.today (map case_of c.self.inside.cases.items) (numbers_up_to c.self.inside.tenant c.args.today Expiry c.self.inside.terms.items) (expired_are c.self.inside.tenant c.args.today (map case_of c.self.inside.cases.items) c.self.inside.terms.items c.self.invariant.0) some) c.up_to.ensures.some)
