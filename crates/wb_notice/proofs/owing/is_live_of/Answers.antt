use Rattle.std.proofs.Common.{◌≡◌, true, sym, ◌∙◌}
use Rattle.std.specs.Prelude.{◌==◌}
use Rattle.wb_notice.proofs.owing.is_live_of.Goals as goal

pub returns-then-eq : goal.returns-then-eq
returns-then-eq c =
    let same : (c.args.item.now.tenant == c.args.tenant) ≡ true = sym c.eq.ensures ∙ c.if-eq.true in
    rw same (c.lives.ensures c.args.item.now.number)
