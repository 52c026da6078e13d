use Rattle.std.proofs.Common.{ap, sym, ◌∙◌, Some}
use Rattle.wb_list.proofs.KeyedLemmas.{find_at_place, find_in_gap}
use Rattle.wb_setup.proofs.ordered.find_in.Goals as goal

pub returns-in-Ok : goal.returns-in-Ok
returns-in-Ok g c =
    let found = find_at_place g.met.T.Key.Ord.total g.T.Placed.key_of _ c.args.key.now _ c.index-items-at.result c.requires c.in-Ok.ensures.found in
    ap (λ item. Some item) c.index-items-at.is ∙ sym found

pub returns-in-Err : goal.returns-in-Err
returns-in-Err g c = sym (find_in_gap g.met.T.Key.Ord.total g.T.Placed.key_of _ _ _ c.in-Err.ensures.absent)
