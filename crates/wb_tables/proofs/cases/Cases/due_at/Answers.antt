use Rattle.std.proofs.Common.{◌<◌, length, map, find, ap, sym, ◌∙◌}
use Rattle.std.specs.Prelude.{filter, option_map}
use Rattle.std.specs.Option.{option_copied}
use Rattle.std.specs.Ordering.{nat_cmp}
use Rattle.wb_list.specs.Keyed.{has_key}
use Rattle.wb_tables.specs.Indexed.{Reports, has_dues}
use Rattle.wb_tables.specs.Lives.{case_of}
use Rattle.wb_tables.proofs.NumberedReports.{not_past, numbers_found}
use Rattle.wb_tables.proofs.CaseLists.{number_of}
use Rattle.wb_tables.proofs.cases.Cases.due_at.Goals as goal

pub unreachable-requires : goal.unreachable-requires
unreachable-requires c =
    let items = c.self.inside.cases.items in
    let found = numbers_found has_dues items c.self.inside.due.items c.args.at c.get.result.now c.self.invariant.4 c.self.invariant.0.apart c.get.ensures in
    let there : c.args.at < length (filter has_dues (map case_of items)) = rw (← ap (λ (r : Reports). r.items) c.self.view_is) at c.requires.there in
    not_past (filter has_dues (map case_of items)) c.args.at there (found ∙ ap (option_map case_of) (ap (λ n. find (has_key nat_cmp number_of n) items) (sym c.get-2.ensures.value) ∙ (sym (c.report_in.ensures ∙ c.find.ensures.item) ∙ ap option_copied c.in-None.is)))

pub returns : goal.returns
returns c =
    let items = c.self.inside.cases.items in
    let found = numbers_found has_dues items c.self.inside.due.items c.args.at c.get.result.now c.self.invariant.4 c.self.invariant.0.apart c.get.ensures in
    rw (← ap (λ (r : Reports). r.items) c.self.view_is) (found ∙ ap (option_map case_of) (ap (λ n. find (has_key nat_cmp number_of n) items) (sym c.get-2.ensures.value) ∙ (sym (c.report_in.ensures ∙ c.find.ensures.item) ∙ ap option_copied c.in-Some.is)))
