use Rattle.std.proofs.Common.{map, ap, ◌∙◌}
use Rattle.wb_model.specs.Tables.{is_there}
use Rattle.wb_tables.specs.Kept.{case_of}
use Rattle.wb_tables.proofs.Lookups.{there_found}
use Rattle.wb_tables.proofs.sessions.is_kept.Goals as goal

pub returns : goal.returns
returns c =
    let cs = map case_of c.args.cases.now.items in
    c.is_some.ensures ∙ (there_found c.get.result cs c.find.result c.find.ensures.found ∙ ap (λ n. is_there n cs) c.get.ensures.value)
