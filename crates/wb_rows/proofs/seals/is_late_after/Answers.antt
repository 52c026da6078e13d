use Rattle.std.proofs.Common.{◌≡◌, Some, rules}
use Rattle.wb_model.specs.Openings.{registry_of}
use Rattle.wb_tenants.specs.Sets.{version_of}
use Rattle.wb_rows.proofs.Fitting.{form-good}
use Rattle.wb_rows.proofs.seals.is_late_after.Goals as goal

pub are_valid-requires : goal.are_valid-requires
are_valid-requires c =
    let found : version_of c.in-Submitted.form c.in-Submitted.version (registry_of c.args.registry.now.lists c.args.tenant).forms ≡ Some c.in-Some.item.now = search rules in
    form-good c.args.registry.now.lists c.args.tenant c.in-Submitted.form c.in-Submitted.version c.in-Some.item.now c.requires found
