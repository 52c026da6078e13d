use Rattle.std.proofs.Common.{sym, arith}
use Rattle.whistle.proofs.CountLemmas.{times_most, one_more_counted}
use Rattle.whistle.proofs.counting.count_reply.Goals as goal

pub overflow_add-before : goal.overflow_add-before
overflow_add-before c = let few = c.requires.few in omega (arith, c.count_of-before.ensures few.0 few.1, times_most c.args.status few.0, few.2)

pub returns : goal.returns
returns c = λ replies reply was has.
    one_more_counted replies c.args.counts.now.items c.set.new.self.items c.args.status c.count_of-before.result (c.count_of-before.ensures replies was)
    (λ key. rw (sym c.reserve.ensures.items) (c.set.ensures.found key)) reply was has
