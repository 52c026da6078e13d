use Rattle.std.proofs.Common.{◌≡◌, true, sym, ◌∙◌, subst}
use Rattle.std.specs.Prelude.{IfOk}
use Rattle.wb_model.specs.Host.{purged}
use Rattle.wb_tables.specs.Kept.{live_plain, place_of, plain_of, tables_of}
use Rattle.wb_tables.specs.TurnContexts.{at_of}
use Rattle.wb_desk.specs.Suited.{suits}
use Rattle.wb_commands.specs.Steps.{IsDraftOf}
use Rattle.wb_desk.proofs.Requests.{target-outline}
use Rattle.wb_desk.proofs.Suits.{suited}
use Rattle.wb_desk.proofs.stepping.step_of.Goals as goal

pub alone-requires-clause-suits : goal.alone-requires-clause-suits
alone-requires-clause-suits c = subst (λ to. suits to c.args.asked.now.command ≡ true) (sym c.in-Alone.ensures.target) (suited (live_plain c.args.at.now.time (plain_of c.args.tenancy.now)) c.args.asked.now.session c.args.asked.now.command)

pub returns-in-On-clause-step : goal.returns-in-On-clause-step
returns-in-On-clause-step c =
    let p = live_plain c.args.at.now.time (plain_of c.args.tenancy.now) in
    subst (λ to. IfOk c.on.result (IsDraftOf c.args.tenancy.now.configuration.tenant (purged c.args.at.now.time (tables_of c.args.sealed.now.items (place_of c.args.tenancy.now))) (at_of c.args.at.now) c.args.asked.now to))
    (c.in-On.ensures.target ∙ sym (target-outline p c.args.asked.now.session c.args.asked.now.command)) c.on.ensures.step
