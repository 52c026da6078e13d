use Rattle.std.proofs.Common.{◌∙◌}
use Rattle.wb_tables.specs.Kept.{plain_of}
use Rattle.wb_tables.proofs.DeadNumbers.{on_err, dead_some}
use Rattle.wb_tables.proofs.dead.push_tenant.Goals as goal

pub returns-clause-err : goal.returns-clause-err
returns-clause-err c = on_err c.push_drops.result (λ some. dead_some c.args.time (plain_of c.args.tenancy.now) c.in_ok-numbers.numbers.items c.in_ok-numbers.ensures.dead (λ none. some (c.as_slice.ensures.value ∙ none))) c.push_drops.ensures.err
