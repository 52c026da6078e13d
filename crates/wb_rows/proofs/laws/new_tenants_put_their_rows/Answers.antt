use Rattle.std.proofs.Common.{◌≡◌, false, [], filter, not}
use Rattle.wb_model.specs.Tenants.{Tenancy}
use Rattle.wb_rows.proofs.NewTenants.{IsNew, new_rows}
use Rattle.wb_rows.proofs.PutsBehind.{lifted, tenants_behind}
use Rattle.wb_rows.proofs.RowPuts.{held_all}
use Rattle.wb_rows.specs.Puts.{tenant_puts}
use Rattle.wb_rows.proofs.laws.new_tenants_put_their_rows.Goals as goal

pub returns : goal.returns
returns c = λ is_old all up new.
    let added = filter (λ x. not (is_old x)) all in
    lifted (filter is_old all) all (tenant_puts added) (tenants_behind added)
    (new_rows is_old [] all (λ b none. absurd none) up (held_all (λ (x : Tenancy). is_old x ≡ false → IsNew x) all new))
