use Rattle.wb_model.proofs.LegalPasts.{trails_legal, held_legal, registries_sound, made_script}
use Rattle.wb_model.proofs.laws.verdicts_keep_trails_legal.Goals as goal

pub returns-clause-live : goal.returns-clause-live
returns-clause-live c = trails_legal

pub returns-clause-held : goal.returns-clause-held
returns-clause-held c = held_legal

pub returns-clause-registry : goal.returns-clause-registry
returns-clause-registry c = registries_sound

pub returns-clause-scripts : goal.returns-clause-scripts
returns-clause-scripts c = made_script
