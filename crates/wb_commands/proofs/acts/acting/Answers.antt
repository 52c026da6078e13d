use Rattle.std.proofs.Common.{Some, sym, subst}
use Rattle.wb_model.specs.Tables.{TheUser}
use Rattle.wb_tables.specs.TurnContexts.{at_of}
use Rattle.wb_commands.specs.Steps.{IsAskedOnReport}
use Rattle.wb_commands.proofs.acts.acting.Goals as goal

pub returns-in-Share-clause-asked : goal.returns-in-Share-clause-asked
returns-in-Share-clause-asked c = λ user s. subst (λ x. IsAskedOnReport (at_of c.args.at.now) c.args.tenancy.now.configuration.registry (Some (TheUser user)) s c.args.report.now.case.items x c.share.result) (sym c.in-Share.is) (c.share.ensures.asked (at_of c.args.at.now) user s c.args.report.now.case.items c.in-Share.t c.in-Share.n)

pub returns-in-Unshare-clause-asked : goal.returns-in-Unshare-clause-asked
returns-in-Unshare-clause-asked c = λ user s. subst (λ x. IsAskedOnReport (at_of c.args.at.now) c.args.tenancy.now.configuration.registry (Some (TheUser user)) s c.args.report.now.case.items x c.unshare.result) (sym c.in-Unshare.is) (c.unshare.ensures.asked (at_of c.args.at.now) c.args.tenancy.now.configuration.registry user s c.in-Unshare.t c.in-Unshare.n)

pub returns-in-Postpone-clause-asked : goal.returns-in-Postpone-clause-asked
returns-in-Postpone-clause-asked c = λ user s. subst (λ x. IsAskedOnReport (at_of c.args.at.now) c.args.tenancy.now.configuration.registry (Some (TheUser user)) s c.args.report.now.case.items x c.postpone.result) (sym c.in-Postpone.is) (c.postpone.ensures.asked user s c.in-Postpone.t c.in-Postpone.n)
