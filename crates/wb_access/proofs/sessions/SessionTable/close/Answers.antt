use Rattle.std.proofs.Common.{sym, ap, ◌∙◌, count_by}
use Rattle.wb_access.specs.Sessions.{is_of}
use Rattle.wb_access.proofs.CountedSessions.{has_one, one_gone, none_gone}
use Rattle.wb_access.proofs.sessions.SessionTable.close.Goals as goal

pub take-requires-in-Some : goal.take-requires-in-Some
take-requires-in-Some c = record { has = has_one _ c.in-Some.closed c.self.inside.sessions.items c.in-Some.ensures.item c.self.inside.counts.items c.self.invariant }

pub invariant_of-self : goal.invariant_of-self
invariant_of-self c q =
    one_gone _ c.in-Some.closed c.self.inside.sessions.items c.in-Some.ensures.item c.self.inside.counts.items c.self.invariant c.take-in-Some.new.self.items c.take-in-Some.ensures.counts q
    ∙ ap (count_by (is_of q)) (sym c.take.ensures.items)

pub invariant_of-self-in-None : goal.invariant_of-self-in-None
invariant_of-self-in-None c q = c.self.invariant q ∙ ap (count_by (is_of q)) (sym (c.take.ensures.items ∙ none_gone _ c.self.inside.sessions.items c.in-None.ensures.item))
