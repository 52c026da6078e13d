use Rattle.std.proofs.Common.{rules}
use Rattle.std.proofs.lemmas.List.Sorted.{answers_always}
use Rattle.wb_export.proofs.ByExpiry.{by_expiry, of_a_day}
use Rattle.wb_export.specs.declared.forecasts.Expiring.{Expiring}
use Rattle.wb_export.proofs.forecasts.sort.Goals as goal

pub returns : goal.returns
returns c =
    let key = λ (x : Expiring). x.expires in
    let computes = answers_always _ _ _ (λ f a r g h. search rules) in
    let sorted = c.in_ok-sort_by_key.ensures.sorted key computes in
    let stable = c.in_ok-sort_by_key.ensures.stable key computes in
    record { by_expiry = by_expiry _ sorted; of_each_day = λ day. of_a_day day _ _ stable }
