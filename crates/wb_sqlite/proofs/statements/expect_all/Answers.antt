use Rattle.std.proofs.Common.{◌≡◌, ◌∙◌, List, ℕ, All, IsOk, take, subst, arith, rules}
use Rattle.sqlite.specs.Held.{state}
use Rattle.sqlite.specs.Effect.{Database}
use Rattle.sqlite.specs.Listing.{understood}
use Rattle.sqlite.specs.State.{HasCleanDisk}
use Rattle.sqlite.proofs.StateLemmas.{survives_then}
use Rattle.wb_sqlite.specs.Statements.{six_texts}
use Rattle.wb_sqlite.proofs.Making.{keeps_then}
use Rattle.wb_sqlite.proofs.Stays.{unchanged_keeps}
use Rattle.wb_sqlite.proofs.statements.expect_all.Goals as goal

pub loop-at-preserved : goal.loop-at-preserved
loop-at-preserved g c =
    let inv = c.loop-at.invariant in
    let start = state g.S.Store c.args.tx.now.conn.now in
    let mid = state g.S.Store c.loop-at.tx.conn.now in
    let now = state g.S.Store c.expect.new.tx.conn.now in (
      c.expect.ensures.same_reference ∙ inv.0,
      survives_then start mid now (λ _. ⊥) (λ _. ⊥) (λ _. ⊥) (λ _ db none. none) (λ _ db none. none) inv.1 c.expect.ensures.survives,
      λ clean.
          let was = inv.2 (omega (arith, c.expect.ensures.survives.clean)) in
          let same = c.in_ok-expect.ensures.same clean in
          (same.0.now_is ∙ was.0, same.0.mode ∙ was.1, keeps_then start mid now was.2 (unchanged_keeps mid now same)),
      λ clean.
          let still : HasCleanDisk mid = omega (arith, c.expect.ensures.survives.clean) in
          let before : All (λ t. IsOk (understood start.now.schema t)) (take c.loop-at.at six_texts) = inv.3 still in
          let one : IsOk (understood start.now.schema c.text_at.result.now) = subst (λ (d : Database). IsOk (understood d.schema c.text_at.result.now)) (inv.2 still).0 (c.in_ok-expect.ensures.understood clean) in
          search rules,
    )

pub returns-clause-understood : goal.returns-clause-understood
returns-clause-understood g c clean =
    let all : take c.loop-at.at six_texts ≡ six_texts = search rules in
    subst (λ (texts : List (List ℕ)). All (λ text. IsOk (understood (state g.S.Store c.args.tx.now.conn.now).now.schema text)) texts) all (c.loop-at.invariant.3 clean)
