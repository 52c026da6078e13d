use Rattle.std.proofs.Common.{refl, subst}
use Rattle.wb_model.specs.Past.{Past, Opening}
use Rattle.wb_model.specs.Pasts.{AllOpened}
use Rattle.wb_model.specs.Rows.{rows_of}
use Rattle.wb_model.specs.Tenants.{Hosts}
use Rattle.wb_server.proofs.opening.open_by.Goals as goal

pub returns-in-Ok-open-clause-ok : goal.returns-in-Ok-open-clause-ok
returns-in-Ok-open-clause-ok g c =
    let past = c.in-Ok-open.ensures.past in
    let over = past.2 in
    let start : Past AllOpened = Opening over.opening in (
      past.0,
      start,
      record {
        opened = record { lists = c.in-Ok.setup.lists; reads = c.in-Ok.ensures.ok; held = over.held; kept = over.read; opening = over.opening; over = over.over; opens = refl };
        stands = over.stands;
        kept = λ h before held. (past.1 h before held, subst (λ (k : Hosts). (g.K.Keeper.end c.open.new.keeper).holds (rows_of k.list)) over.stands (c.in-Ok-open.ensures.kept h before held));
        later = c.open.ensures.later;
      },
    )
