use Rattle.std.proofs.Common.{sym, ap, ◌∙◌, count_by}
use Rattle.wb_access.specs.Sessions.{is_of}
use Rattle.wb_access.proofs.CountedSessions.{has_one, one_gone, none_gone}
use Rattle.wb_access.proofs.sessions.SessionTable.make_way.Goals as goal

pub take-requires : goal.take-requires
take-requires c = record { has = has_one _ c.in-Some.oldest c.self.inside.sessions.items c.in-Some.ensures.item c.self.inside.counts.items c.self.invariant }

pub invariant_of-self : goal.invariant_of-self
invariant_of-self c q =
    one_gone _ c.in-Some.oldest c.self.inside.sessions.items c.in-Some.ensures.item c.self.inside.counts.items c.self.invariant c.take.new.self.items c.take.ensures.counts q
    ∙ ap (count_by (is_of q)) (sym c.take_first.ensures.items)

pub invariant_of-self-in-None : goal.invariant_of-self-in-None
invariant_of-self-in-None c q = c.self.invariant q ∙ ap (count_by (is_of q)) (sym (c.take_first.ensures.items ∙ none_gone _ c.self.inside.sessions.items c.in-None.ensures.item))
