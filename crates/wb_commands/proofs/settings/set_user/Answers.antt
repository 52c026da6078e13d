use Rattle.std.proofs.lemmas.Result.{IfOk-weaker}
use Rattle.wb_model.specs.Settings.{ToUser}
use Rattle.wb_commands.proofs.Proposed.{no_user, told_proposed}
use Rattle.wb_commands.proofs.settings.set_user.Goals as goal

pub returns-in-None : goal.returns-in-None
returns-in-None c = IfOk-weaker c.refusing.result _ _ (λ step h g. told_proposed g (ToUser c.args.u c.args.next.now) step (no_user g c.args.u c.args.next.now c.in-None.ensures) h) c.refusing.ensures
