use Rattle.std.proofs.Common.{◌≡◌, ◌+◌, sym, ap, subst, ◌∙◌, not, count_by, filter, drop, List, ◌∷◌}
use Rattle.std.proofs.lemmas.List.{drop_more}
use Rattle.wb_access.specs.SessionCounts.{count_in}
use Rattle.wb_access.specs.Sessions.{is_of}
use Rattle.wb_access.specs.declared.sessions.Session.{Session}
use Rattle.wb_access.proofs.CountedSessions.{has_passing}
use Rattle.wb_access.proofs.sessions.uncount_passing.Goals as goal

pub take-requires : goal.take-requires
take-requires g c =
    let i = c.loop-session.session-index in
    let s = c.session-item.result in
    let passes = g.X.ItemTest.passes c.args.test.now in
    let left = drop_more c.args.sessions.now i s c.loop-session-test.true ∙ ap (λ (x : Session). x ∷ drop (i + 1) c.args.sessions.now) (sym c.session-item.is) in
    record {
      has = has_passing passes s (drop (i + 1) c.args.sessions.now) (filter (λ x. not (passes x)) c.args.sessions.now) c.loop-session.counts.items (sym c.passes.ensures ∙ c.if-passes.true)
          (λ q. subst (λ (l : List Session). count_in q c.loop-session.counts.items + count_by (is_of q) (filter (λ x. not (passes x)) l) ≡ count_by (is_of q) (filter (λ x. not (passes x)) c.args.sessions.now) + count_by (is_of q) l) left (c.loop-session.invariant.counted q));
    }
