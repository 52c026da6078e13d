use Rattle.std.proofs.Common.{sym}
use Rattle.wb_commands.proofs.SetUps.{sound_context}
use Rattle.wb_commands.proofs.acts.retention.Goals as goal

pub returns-in-Some-clause-low : goal.returns-in-Some-clause-low
returns-in-Some-clause-low c = (sound_context _ _ _ (sym c.in-Some.ensures) c.requires.place.registry.sound.contexts).0

pub returns-in-Some-clause-high : goal.returns-in-Some-clause-high
returns-in-Some-clause-high c = (sound_context _ _ _ (sym c.in-Some.ensures) c.requires.place.registry.sound.contexts).1
