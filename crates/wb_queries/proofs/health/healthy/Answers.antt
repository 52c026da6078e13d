use Rattle.std.proofs.Common.{ℕ, List, ap}
use Rattle.json.specs.Print.{escape_byte}
use Rattle.wb_model.specs.declared.body.Told.{Told}
use Rattle.wb_model.specs.Tenants.{healthy}
use Rattle.wb_model.specs.ShortViews.{health_view}
use Rattle.wb_queries.proofs.health.healthy.Goals as goal

abbrev told : List ℕ → Told
told body = record { status = 200; body = body }

pub returns : goal.returns
unfolding healthy health_view escape_byte
returns c = ap told c.short.ensures
