use Rattle.std.proofs.Common.{rules, ◌≡◌, ◌∙◌, ap, sym, slice_index_or, codes, map, drop, subst}
use Rattle.std.proofs.lemmas.List.{take_rest}
use Rattle.wb_cli.specs.CommandLine.{AsksForecast, AsksNotices, AsksRegister, AsksServe}
use Rattle.wb_cli.proofs.CommandLineLemmas.{Serves, Notes, Registers, Forecasts, no_form}
use Rattle.wb_cli.proofs.command_line.planned.Goals as goal

pub returns-then-is_same-4-clause-usage : goal.returns-then-is_same-4-clause-usage
returns-then-is_same-4-clause-usage c = λ no form.
    let first : slice_index_or c.args.words.now 0 c.command-item.result ≡ codes "serve" = search rules in
    let rest : map (λ word. word.now) c.deref-then-is_same-4.result.now ≡ drop 1 c.args.words.now =
    ap (map (λ word. word.now)) c.deref-then-is_same-4.ensures.value ∙ (c.in_ok-rest.ensures ∙ take_rest c.args.words.now 1) in
    no_form c.args.words.now c.command-item.result Serves first
    (λ plan (s, l, w, k, t, plan_is, asks). c.serve.ensures.usage no s l w k t (subst (λ words. AsksServe words s l w k t) (sym rest) asks)) form.0 form.1

pub returns-then-is_same-5-clause-usage : goal.returns-then-is_same-5-clause-usage
returns-then-is_same-5-clause-usage c = λ no form.
    let first : slice_index_or c.args.words.now 0 c.command-item.result ≡ codes "notices" = search rules in
    let rest : map (λ word. word.now) c.deref-then-is_same-5.result.now ≡ drop 1 c.args.words.now =
    ap (map (λ word. word.now)) c.deref-then-is_same-5.ensures.value ∙ (c.in_ok-rest.ensures ∙ take_rest c.args.words.now 1) in
    no_form c.args.words.now c.command-item.result Notes first
    (λ plan (m, s, o, plan_is, asks). c.notices.ensures.usage no m s o (subst (λ words. AsksNotices words m s o) (sym rest) asks)) form.0 form.1

pub returns-then-is_same-6-clause-usage : goal.returns-then-is_same-6-clause-usage
returns-then-is_same-6-clause-usage c = λ no form.
    let first : slice_index_or c.args.words.now 0 c.command-item.result ≡ codes "register" = search rules in
    let rest : map (λ word. word.now) c.deref-then-is_same-6.result.now ≡ drop 1 c.args.words.now =
    ap (map (λ word. word.now)) c.deref-then-is_same-6.ensures.value ∙ (c.in_ok-rest.ensures ∙ take_rest c.args.words.now 1) in
    no_form c.args.words.now c.command-item.result Registers first
    (λ plan (t, u, m, s, plan_is, asks). c.register.ensures.usage no t u m s (subst (λ words. AsksRegister words t u m s) (sym rest) asks)) form.0 form.1

pub returns-then-is_same-7-clause-usage : goal.returns-then-is_same-7-clause-usage
returns-then-is_same-7-clause-usage c = λ no form.
    let first : slice_index_or c.args.words.now 0 c.command-item.result ≡ codes "forecast" = search rules in
    let rest : map (λ word. word.now) c.deref-then-is_same-7.result.now ≡ drop 1 c.args.words.now =
    ap (map (λ word. word.now)) c.deref-then-is_same-7.ensures.value ∙ (c.in_ok-rest.ensures ∙ take_rest c.args.words.now 1) in
    no_form c.args.words.now c.command-item.result Forecasts first
    (λ plan (t, d, s, plan_is, asks). c.forecast.ensures.usage no t d s (subst (λ words. AsksForecast words t d s) (sym rest) asks)) form.0 form.1
