use Rattle.wb_front.proofs.Sending.{head_cut, body_cut}
use Rattle.wb_front.proofs.answers.send_both.Goals as goal

pub returns-in-Err-clause-err : goal.returns-in-Err-clause-err
returns-in-Err-clause-err g c = head_cut (g.L.Link.end c.args.link.now).got (g.L.Link.end c.write_all-2.new.self).got c.args.head.now c.args.body.now c.in-Err.ensures.err

pub returns-in-Err-write_all-clause-err : goal.returns-in-Err-write_all-clause-err
returns-in-Err-write_all-clause-err g c = body_cut (g.L.Link.end c.args.link.now).got (g.L.Link.end c.write_all-2.new.self).got (g.L.Link.end c.write_all-3.new.self).got c.args.head.now c.args.body.now c.in-Ok.ensures.ok c.in-Err-write_all.ensures.err
