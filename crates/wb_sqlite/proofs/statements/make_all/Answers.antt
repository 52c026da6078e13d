use Rattle.std.proofs.Common.{rules, ◌≡◌, ◌∷◌, ◌∙◌, ◌+◌, sym, subst, arith, drop, get_or, drop-cons, add-one, ap, suc, ◌<◌, length}
use Rattle.sqlite.specs.Held.{state}
use Rattle.sqlite.proofs.StateLemmas.{survives_then}
use Rattle.wb_sqlite.proofs.Making.{has_made, HasMade}
use Rattle.wb_sqlite.proofs.statements.make_all.Goals as goal

pub loop-change-preserved : goal.loop-change-preserved
loop-change-preserved g c =
    let inv = c.loop-change.invariant in
    let start = c.args.tx.now.conn.now in
    let mid = c.loop-change.tx.conn.now in
    let now = c.make_change.new.tx.conn.now in
    let all = c.args.changes.now in
    let rest = drop (c.loop-change.change-index + 1) all in
    let change = c.change-item.result in
    let i = c.loop-change.change-index in
    let at : get_or all i change ≡ change = sym c.change-item.is in
    let low : i < length all = search rules in
    let whole : drop i all ≡ change ∷ rest = drop-cons all i change low ∙ ap (λ x. x ∷ drop (suc i) all) at ∙ ap (λ k. change ∷ drop k all) (sym (add-one i)) in (
      c.make_change.ensures.same_reference ∙ inv.0,
      survives_then (state g.S.Store start) (state g.S.Store mid) (state g.S.Store now) (λ _. ⊥) (λ _. ⊥) (λ _. ⊥) (λ _ db none. none) (λ _ db none. none) inv.1 c.make_change.ensures.survives,
      λ clean inside.
          let was : HasMade g.S.Store all (drop c.loop-change.change-index all) start mid = inv.2 (omega (arith, c.make_change.ensures.survives.clean)) inside in
          let so = subst (λ left. HasMade g.S.Store all left start mid) whole was in
          has_made g.S.Store all rest change start mid now so (c.in_ok-make_change.ensures.made clean so.inside),
    )
