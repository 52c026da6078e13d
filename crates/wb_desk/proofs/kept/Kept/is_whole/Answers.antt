use Rattle.std.proofs.Common.{ap, sym, subst}
use Rattle.wb_model.specs.Tenants.{Hosts}
use Rattle.wb_tables.specs.Standing.{hosts_of}
use Rattle.wb_desk.specs.Hosted.{Hosted}
use Rattle.wb_desk.specs.Whole.{IsWholeHost, AreWhole}
use Rattle.wb_desk.proofs.Wholes.{whole_hosts}
use Rattle.wb_desk.proofs.kept.Kept.is_whole.Goals as goal

pub returns : goal.returns
returns g c =
    let past = c.stands.ensures.past in
    let whole : AreWhole c.self.inside.desk.time (hosts_of c.self.inside.desk).list =
    subst (λ (h : Hosts). AreWhole h.now h.list) (sym past.stands) (whole_hosts past.past past.read_back.verdicts (c.a_host_opens_again.ensures.opened past.past past.read_back.verdicts) c.verdicts_keep_trails_legal.ensures.held) in
    record {
      whole = subst IsWholeHost c.self.view_is (record { tenants = whole; turns = c.self.invariant.6.turns_add_up; numbers = c.self.invariant.6.numbers_add_up; gone_on = c.self.invariant.6.later });
      opened = sym (ap (λ (h : Hosted). h.opened) c.self.view_is);
    }
