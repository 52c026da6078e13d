use Rattle.std.proofs.Common.{◌≡◌, Bool, true, sym, ap, ◌∙◌, rules}
use Rattle.std.proofs.lemmas.Bool.{eq-eqb}
use Rattle.std.specs.Prelude.{◌==◌, ◌&&◌}
use Rattle.wb_model.specs.Legal.{is_first}
use Rattle.wb_rows.specs.TrailRule.{days, begins}
use Rattle.wb_rows.specs.Reckoned.{reckoned}
use Rattle.wb_rows.proofs.trails.may_begin.Goals as goal

both : (a b x : Bool) → a ≡ true → x ≡ b → x ≡ (a && b)
both a b x ha hx = rw ha hx

pub returns-then-item-eq1-clause-begins : goal.returns-then-item-eq1-clause-begins
unfolding begins
returns-then-item-eq1-clause-begins c = λ lists same.
    let entry = c.args.item.now.entry in
    let first : c.is_first.result ≡ is_first (reckoned c.args.days.now) entry = search rules in
    both (c.args.item.now.place == 1) (is_first (days lists c.args.item.now.tenant) entry) c.is_first.result (eq-eqb c.args.item.now.place 1 c.if-item-eq1.true) (first ∙ ap (λ o. is_first o entry) (sym same))
