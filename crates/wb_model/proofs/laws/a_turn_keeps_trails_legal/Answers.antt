use Rattle.std.proofs.Common.{refl}
use Rattle.wb_model.specs.Requests.{outline, plain_part}
use Rattle.wb_model.proofs.Fitting.{target_held}
use Rattle.wb_model.proofs.LegalTurns.{turn_legal}
use Rattle.wb_model.proofs.SoundRegistries.{turn_sound}
use Rattle.wb_model.proofs.laws.a_turn_keeps_trails_legal.Goals as goal

pub returns-clause-trails : goal.returns-clause-trails
returns-clause-trails c = λ t at a fits sound up legal. turn_legal t.plain at (plain_part t.plain a) sound (λ who case e. target_held t.plain a.session (outline a.command) who case e) up legal

pub returns-clause-registry : goal.returns-clause-registry
returns-clause-registry c = λ t at a fits sound. turn_sound t.plain at (plain_part t.plain a) a.command refl fits sound
