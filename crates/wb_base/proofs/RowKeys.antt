-- The order of the keys of kept rows.
use Rattle.std.specs.Cmp.{IsTotalOrder, nat_cmp_total, then_total, on_total}
use Rattle.wb_base.specs.declared.rows.Key.{Key}
use Rattle.wb_base.specs.KeptRows.{key_cmp}

pub key_total : IsTotalOrder key_cmp
key_total = then_total (on_total (λ (k : Key). k.kind) nat_cmp_total) (then_total (on_total (λ (k : Key). k.tenant) nat_cmp_total) (then_total (on_total (λ (k : Key). k.a) nat_cmp_total) (on_total (λ (k : Key). k.b) nat_cmp_total)))
