use Rattle.std.proofs.Common.{◌≡◌, ℕ, Bool, true, false, sym, ◌∙◌, rules, arith}
use Rattle.std.specs.Ordering.{is_lt, nat_cmp}
use Rattle.std.specs.Prelude.{nat_le, ◌&&◌}
use Rattle.std.proofs.lemmas.Bool.Decides.{nat_tests}
use Rattle.wb_model.specs.Legal as legal
use Rattle.wb_rows.specs.Reckoned.{reckoned}
use Rattle.wb_rows.proofs.legal.is_fit.Goals as goal

all : (a b x v : Bool) → a ≡ true → b ≡ true → x ≡ v → x ≡ (a && b && v)
all a b x v ha hb hx = rw (ha, hb) hx

not_before : (at last : ℕ) → is_lt (nat_cmp at last) ≡ false → nat_le last at ≡ true
not_before at last e = grind (arith, nat_tests, e)

pub returns : goal.returns
returns c =
    let values : c.right_values.result ≡ legal.right_values (reckoned c.args.days.now) c.args.case.now.items c.args.entry.now.at c.args.entry.now.deed = search rules in
    all (nat_le c.args.last c.args.entry.now.at) (legal.right_actor c.args.entry.now.deed c.args.entry.now.by) c.right_values.result (legal.right_values (reckoned c.args.days.now) c.args.case.now.items c.args.entry.now.at c.args.entry.now.deed)
    (not_before c.args.entry.now.at c.args.last (sym c.lt.ensures ∙ c.if-lt.false)) (sym c.right_actor.ensures ∙ c.if-not-right_actor.false) values
