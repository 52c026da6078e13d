use Rattle.std.proofs.Common.{sym, ap, ◌∙◌}
use Rattle.wb_model.specs.Past.{who_of}
use Rattle.wb_model.specs.Tables.{is_there, stays}
use Rattle.wb_tables.specs.Kept.{live_plain, plain_of}
use Rattle.wb_tables.proofs.Lookups.{there_found}
use Rattle.wb_tables.proofs.sessions.stays.Goals as goal

pub returns-in-Report : goal.returns-in-Report
returns-in-Report c =
    let live = (live_plain c.args.time (plain_of c.args.tenancy.now)).cases in
    c.is_some.ensures ∙ (there_found c.get.result live c.live_report.result c.live_report.ensures.found
    ∙ (ap (λ n. is_there n live) c.get.ensures.value ∙ sym (ap (λ p. stays live (who_of p)) c.in-Report.is)))
