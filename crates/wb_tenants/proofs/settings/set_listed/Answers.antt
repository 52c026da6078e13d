use Rattle.std.proofs.Common.{◌≡◌, ap, is_some, rules, ◌∙◌, sym}
use Rattle.std.proofs.lemmas.Bool.{false≢true}
use Rattle.std.specs.Cmp.{nat_cmp_total}
use Rattle.wb_list.proofs.KeyedLemmas.{find_in_gap}
use Rattle.wb_setup.specs.Keys.{tenant_key}
use Rattle.wb_tenants.proofs.LookUps.{tenant-found}
use Rattle.wb_tenants.proofs.settings.set_listed.Goals as goal

pub unreachable-requires : goal.unreachable-requires
unreachable-requires c =
    let none = find_in_gap nat_cmp_total tenant_key c.as_slice.result.now c.args.tenant _ c.in-Err.ensures.absent in
    let same : c.as_slice.result.now ≡ c.args.list.now = search rules in
    false≢true (sym (ap is_some (sym (tenant-found c.args.list.now c.args.tenant) ∙ rw same at none)) ∙ c.requires.there)
