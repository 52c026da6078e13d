use Rattle.std.proofs.Common.{◌≡◌, false, true, map, sym, ap, ◌∙◌, arith}
use Rattle.std.specs.Prelude.{is_some}
use Rattle.wb_model.specs.Tables.{is_there}
use Rattle.wb_tables.specs.Kept.{case_of}
use Rattle.wb_tables.proofs.Lookups.{there_found}
use Rattle.wb_commands.proofs.noted.Noted.rows.Goals as goal

pub unreachable-requires : goal.unreachable-requires
unreachable-requires c =
    let cases = map case_of c.args.tenancy.now.cases.items in
    let bad : false ≡ true = sym (ap is_some c.in_default.is) ∙ (there_found c.get.result cases c.find.result c.find.ensures.found ∙ (ap (λ n. is_there n cases) c.get.ensures.value ∙ c.requires)) in
    grind (arith, bad)
