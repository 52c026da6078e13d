use Rattle.std.proofs.Common.{◌≡◌, true, sym, ◌∙◌, ap, drop, arith, length-drop}
use Rattle.std.proofs.lemmas.List.{take_all}
use Rattle.wb_base.specs.declared.callers.Presented.TheVariants as presented
use Rattle.wb_model.specs.Heads.{is_token}
use Rattle.wb_wire.proofs.NumberLemmas.{number_back}
use Rattle.wb_wire.proofs.fields.token.Goals as goal

pub returns : goal.returns
returns c =
    let back = number_back c.in-Some.turn c.args.turn.now (omega arith) c.in-Some.ensures.found in
    let fits : is_token c.in-Some.turn c.args.rest.now ≡ true = sym c.is_token.ensures ∙ c.if-not-is_token.false in
    rw (back.1, back.0, fits) (ap (λ secret. presented.Token c.in-Some.turn secret) (c.copy_from_slice.ensures.after ∙ take_all _ (drop 1 c.args.rest.now) (omega (arith, length-drop 1 c.args.rest.now))))
