use Rattle.std.proofs.Common.{◌≡◌, drop}
use Rattle.std.specs.List.{list_any}
use Rattle.wb_model.specs.declared.access.AccessRequest.{AccessRequest}
use Rattle.wb_model.specs.Openings.{registry_of}
use Rattle.wb_model.specs.Tables.{disablings}
use Rattle.wb_notice.specs.Owed.{is_asked, waits}
use Rattle.wb_notice.proofs.arising.is_asked.Given as goal

abbrev pub invariant-loop-request : goal.invariant-loop-request
invariant-loop-request l = list_any (λ (r : AccessRequest). waits (disablings r.by (registry_of l.registry.lists l.tenant).users) r) (drop l.request-index l.request-items)
    ≡ is_asked (registry_of l.registry.lists l.tenant).users l.case.items
