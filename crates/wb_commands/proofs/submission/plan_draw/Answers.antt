use Rattle.std.proofs.Common.{sym, ap, ◌∙◌}
use Rattle.std.specs.Option.{option_map}
use Rattle.wb_model.specs.Submissions.{drawing}
use Rattle.wb_model.specs.Requests.{submission_fault, public, secret, mark}
use Rattle.wb_tables.specs.TurnContexts.{at_of}
use Rattle.wb_views.specs.Refused.{told_of}
use Rattle.wb_tables.specs.Kept.{plain_of, live_plain}
use Rattle.wb_commands.proofs.Results.{ok_both}
use Rattle.wb_commands.proofs.Plans.{refused_plan}
use Rattle.wb_commands.proofs.Submissions.{sound_context, hindered, begun, number_left}
use Rattle.wb_commands.proofs.submission.plan_draw.Goals as goal

pub begin-requires-clause-number : goal.begin-requires-clause-number
begin-requires-clause-number c =
    number_left c.args.tenancy.now.configuration.registry.settings.quota (drawing (at_of c.args.at.now) (live_plain c.args.at.now.time (plain_of c.args.tenancy.now))) (sym c.hindrance.ensures.refusal ∙ ap (option_map told_of) c.in-None.is)

pub begin-requires-clause-today : goal.begin-requires-clause-today
begin-requires-clause-today c = c.hindrance.ensures.left c.in-None.is

pub begin-requires-clause-low : goal.begin-requires-clause-low
begin-requires-clause-low c = (sound_context c.requires.asking.0 c.args.asking.now.context.now c.args.tenancy.now.configuration.registry.contexts c.requires.asking.1.context c.requires.place.registry.sound.contexts).0

pub begin-requires-clause-high : goal.begin-requires-clause-high
begin-requires-clause-high c = (sound_context c.requires.asking.0 c.args.asking.now.context.now c.args.tenancy.now.configuration.registry.contexts c.requires.asking.1.context c.requires.place.registry.sound.contexts).1

pub returns-in-Some-clause-plan : goal.returns-in-Some-clause-plan
unfolding submission_fault
returns-in-Some-clause-plan c =
    let p = live_plain c.args.at.now.time (plain_of c.args.tenancy.now) in
    let why = sym c.hindrance.ensures.refusal ∙ ap (option_map told_of) c.in-Some.is in
    ok_both c.refused.result
    (λ plan told change id answers a s who sealed. refused_plan c.args.tenancy.now.configuration.tenant p.registry sealed _ _ (told_of c.in-Some.why) plan (hindered p (at_of c.args.at.now) who id answers c.args.asking.now.context.now c.args.asking.now.item.now (told_of c.in-Some.why) a s.valid why) told change)
    c.refused.ensures.told c.refused.ensures.change

pub returns-in-None-clause-plan : goal.returns-in-None-clause-plan
unfolding submission_fault public secret mark
returns-in-None-clause-plan c =
    let p = live_plain c.args.at.now.time (plain_of c.args.tenancy.now) in
    let free = sym c.hindrance.ensures.refusal ∙ ap (option_map told_of) c.in-None.is in
    ok_both c.begin.result
    (λ plan told change id answers a s. begun c.args.tenancy.now.configuration.tenant p (at_of c.args.at.now) id answers c.args.asking.now.context.now c.args.asking.now.item.now c.args.split.public c.args.split.sealed c.args.split.mark a s.valid free s.public s.sealed s.mark plan told change)
    c.begin.ensures.told c.begin.ensures.change
