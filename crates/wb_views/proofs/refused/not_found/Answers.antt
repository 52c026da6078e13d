use Rattle.std.proofs.Common.{ℕ, List, ap}
use Rattle.json.specs.Print.{escape_byte}
use Rattle.wb_model.specs.declared.body.Told.{Told}
use Rattle.wb_model.specs.Refusals.{not_found, refusal}
use Rattle.wb_views.proofs.refused.not_found.Goals as goal

abbrev told : List ℕ → Told
told body = record { status = 404; body = body }

pub returns : goal.returns
unfolding not_found refusal escape_byte
returns c = ap told c.short.ensures
