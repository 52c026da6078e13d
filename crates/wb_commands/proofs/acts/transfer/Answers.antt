use Rattle.std.proofs.Common.{◌≤◌, length, refl, sym, subst}
use Rattle.wb_model.specs.declared.entry.Actor.TheVariants as actors
use Rattle.wb_commands.specs.Steps.{IsSoundAsk}
use Rattle.wb_commands.proofs.SetUps.{few_readers, sound_context}
use Rattle.wb_commands.proofs.acts.transfer.Goals as goal

pub returns-in_ok-readers-in-Some-clause-sound : goal.returns-in_ok-readers-in-Some-clause-sound
returns-in_ok-readers-in-Some-clause-sound c =
    let sound = sound_context c.args.context c.in-Some.item.now c.args.tenancy.now.configuration.registry.contexts (sym c.in-Some.ensures) c.requires.place.registry.sound.contexts in
    λ user. subst (IsSoundAsk (actors.User user)) (sym c.does.ensures) ((λ trail early. subst (λ us. length us ≤ 32) (sym c.in_ok-readers-in-Some.ensures) (few_readers c.in-Some.item.now.recipients sound.2)), λ calendar trail. refl)
