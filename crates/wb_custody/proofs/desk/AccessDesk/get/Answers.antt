use Rattle.std.proofs.Common.{◌∙◌, ap, sym, Some, get_or, ◌-◌}
use Rattle.wb_custody.specs.Desks.{Desk}
use Rattle.wb_custody.proofs.RequestLists.{is_there}
use Rattle.wb_custody.proofs.desk.AccessDesk.get.Goals as goal

pub returns : goal.returns
returns c =
    let same = ap (λ (d : Desk). d.items) c.self.view_is in
    is_there c.args.request c.args.self.now.items c.index.result.now c.requires.low c.requires.high
    ∙ ap Some (sym (c.index.ensures ∙ ap (λ xs. get_or xs (c.args.request - 1) c.index.result.now) same))
