-- A text's row is the router's, and what is no text has none.
use Rattle.std.proofs.Common.{sym, ap, ◌∙◌, ℕ, List, option_map}
use Rattle.matchit.specs.Router.{RouteOf}
use Rattle.matchit.specs.Seek.{first}
use Rattle.wb_model.specs.Routes.{Rows, router}
use Rattle.wb_wire.proofs.RouterRows.{no_row, router_row}
use Rattle.wb_wire.proofs.router.Routes.number_of.Goals as goal

pub returns-in-Err : goal.returns-in-Err
returns-in-Err c = sym (no_row c.args.path.now (sym c.is_health.ensures ∙ c.if-is_health.false) c.in-Err.ensures.cases.0)

pub returns-in-Ok-at : goal.returns-in-Ok-at
returns-in-Ok-at c =
    let value = λ (r : RouteOf ℕ). r.value in
    let here = ap (option_map value) c.in-Ok-at.ensures.found in
    let same = ap (λ (rows : Rows). option_map value (first rows c.in-Ok.text.now)) c.self.invariant in
    let text = c.in-Ok.ensures.cases.0 in
    sym (router_row c.args.path.now (sym c.is_health.ensures ∙ c.if-is_health.false) c.in-Ok.ensures.cases.1 ∙ ap (λ (t : List ℕ). option_map value (first router t)) (sym text) ∙ sym same ∙ here)
