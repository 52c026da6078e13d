use Rattle.std.proofs.Common.{◌<◌, arith, rules, append_assoc}
use Rattle.std.proofs.lemmas.Grind.{common_steps}
use Rattle.wb_etcd.proofs.Orders.{last_digits_by_tens}
use Rattle.wb_etcd.proofs.keys.+push_digits.Goals as goal

pub returns : goal.returns
returns t c =
    let some : 0 < c.args.width = omega arith in
    let tens = last_digits_by_tens c.args.width c.args.number some in
    rw tens (first_of (grind (arith, common_steps), search (rules, append_assoc)))
