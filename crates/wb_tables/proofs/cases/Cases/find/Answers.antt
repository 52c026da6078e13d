use Rattle.std.proofs.Common.{option_map, ap, sym, ◌∙◌}
use Rattle.std.specs.Ordering.{nat_cmp}
use Rattle.wb_list.specs.Keyed.{has_key}
use Rattle.wb_tables.specs.Indexed.{Reports}
use Rattle.wb_tables.specs.Lives.{case_of}
use Rattle.wb_tables.proofs.CaseLists.{number_of, report-found}
use Rattle.wb_tables.proofs.NotedReports.{custodied_some}
use Rattle.wb_tables.proofs.cases.Cases.find.Goals as goal

pub returns-clause-found : goal.returns-clause-found
returns-clause-found c = rw (← ap (λ (r : Reports). r.items) c.self.view_is) (ap (option_map case_of) (c.report_in.ensures ∙ c.find.ensures.item) ∙ sym (report-found c.args.number c.self.inside.cases.items))

pub returns-clause-custodied : goal.returns-clause-custodied
returns-clause-custodied c = custodied_some (has_key nat_cmp number_of c.args.number) c.self.inside.cases.items c.report_in.result c.self.invariant.1 (c.report_in.ensures ∙ c.find.ensures.item)
