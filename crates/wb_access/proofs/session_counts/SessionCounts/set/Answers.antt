use Rattle.std.proofs.Common.{cond, ap, ◌∙◌}
use Rattle.std.specs.Map.{lookup}
use Rattle.std.specs.Option.{unwrap_or}
use Rattle.wb_list.specs.Room.{Room}
use Rattle.wb_access.specs.SessionCounts.{Counted, key_of, same_key, count_in}
use Rattle.wb_access.specs.Sessions.{same_principal}
use Rattle.wb_access.proofs.CountTables.{one_key, put_is}
use Rattle.wb_access.proofs.ReceiptTables.{on_ok}
use Rattle.wb_access.proofs.session_counts.SessionCounts.set.Goals as goal

pub returns-clause-counts : goal.returns-clause-counts
returns-clause-counts c q =
    let put = on_ok _ _ c.unwrap.ensures c.insert-set.ensures.updates in
    ap (λ o. unwrap_or o 0) (put.0 (key_of q))
    ∙ (put_is (same_key c.key.result (key_of q)) c.args.count (lookup (same_key (key_of q)) c.self.inside.counts.entries)
    ∙ (ap (λ k. cond (same_key k (key_of q)) c.args.count (count_in q c.self.inside.counts.entries)) c.key.ensures
    ∙ (ap (λ b. cond b c.args.count (count_in q c.self.inside.counts.entries)) (one_key c.args.principal.now q)
    ∙ ap (λ (r : Room Counted). cond (same_principal c.args.principal.now q) c.args.count (count_in q r.items)) c.self.view_is)))
