use Rattle.std.proofs.Common.{ℕ, List, ap}
use Rattle.json.specs.Print.{escape_byte}
use Rattle.wb_model.specs.declared.body.Told.{Told}
use Rattle.wb_model.specs.Refusals.{keeper_failed, refusal}
use Rattle.wb_desk.proofs.desk.keeper_failed.Goals as goal

abbrev told : List ℕ → Told
told body = record { status = 503; body = body }

pub returns : goal.returns
unfolding keeper_failed escape_byte refusal
returns c = ap told c.short.ensures
