use Rattle.std.proofs.Common.{◌≡◌, ◌∙◌, sym, ap, decimal}
use Rattle.std.proofs.lemmas.Fmt.{parse-decimal}
use Rattle.wb_cli.proofs.values.number_of.Goals as goal

pub returns-in-Err-clause-again : goal.returns-in-Err-clause-again
returns-in-Err-clause-again c = λ n small is. let read = parse-decimal 64 n _ c.parse.result small small is c.parse.ensures.value.0 in cc

pub returns-then-is_same-clause-again : goal.returns-then-is_same-clause-again
returns-then-is_same-clause-again c = λ n small is. let read = parse-decimal 64 n _ c.parse.result small small is c.parse.ensures.value.0 in cc

pub returns-else-is_same-clause-again : goal.returns-else-is_same-clause-again
returns-else-is_same-clause-again c = λ n small is.
    let read = parse-decimal 64 n _ c.parse.result small small is c.parse.ensures.value.0 in
    let number : c.in-Ok.number ≡ n = cc in
    let held = c.is_same.ensures.1 (c.format.ensures.text ∙ ap decimal number ∙ sym is) in
    cc
