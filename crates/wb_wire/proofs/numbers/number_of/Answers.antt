use Rattle.std.proofs.Common.{◌≡◌, ◌∙◌, sym, ap, decimal}
use Rattle.std.proofs.lemmas.Fmt.{parse-decimal}
use Rattle.wb_wire.proofs.NumberLemmas.{decimal_utf8}
use Rattle.wb_wire.proofs.numbers.number_of.Goals as goal

pub returns-in-Err-clause-again : goal.returns-in-Err-clause-again
returns-in-Err-clause-again c = λ n small is. absurd (c.in-Err.ensures.cases.0 (decimal_utf8 n c.args.text.now small is))

pub returns-in-Err-parse-clause-again : goal.returns-in-Err-parse-clause-again
returns-in-Err-parse-clause-again c = λ n small is.
    let read = parse-decimal 64 n _ c.parse.result small small (c.in-Ok.ensures.cases.0 ∙ is) c.parse.ensures.value.0 in cc

pub returns-then-is_same-clause-again : goal.returns-then-is_same-clause-again
returns-then-is_same-clause-again c = λ n small is.
    let read = parse-decimal 64 n _ c.parse.result small small (c.in-Ok.ensures.cases.0 ∙ is) c.parse.ensures.value.0 in cc

pub returns-else-is_same-clause-again : goal.returns-else-is_same-clause-again
returns-else-is_same-clause-again c = λ n small is.
    let read = parse-decimal 64 n _ c.parse.result small small (c.in-Ok.ensures.cases.0 ∙ is) c.parse.ensures.value.0 in
    let number : c.in-Ok-parse.number ≡ n = cc in
    let held = c.is_same.ensures.1 (c.as_bytes.ensures.value ∙ c.format.ensures.text ∙ ap decimal number ∙ sym is) in
    cc
