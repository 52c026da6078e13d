use Rattle.std.proofs.Common.{take, drop, sym, subst}
use Rattle.std.proofs.lemmas.List.{take-append-drop}
use Rattle.wb_list.specs.Keyed.{IsAscending}
use Rattle.wb_base.specs.KeptRows.{key_cmp, key_of}
use Rattle.wb_list.proofs.LastItems.{ascending_front}
use Rattle.wb_sqlite.proofs.stored.parted.Goals as goal

pub of-requires : goal.of-requires
of-requires c =
    let rows = c.into_vec-rows.result.items in
    let at = c.partition_point-at.result in
    let all = subst (IsAscending key_cmp key_of) (sym c.into_vec-rows.ensures.all) c.into_vec-rows.ensures.ascending in
    let front = ascending_front key_cmp key_of (take at rows) (drop at rows) (subst (IsAscending key_cmp key_of) (sym (take-append-drop at rows)) all) in
    subst (IsAscending key_cmp key_of) (sym c.in-Ok.ensures.items) front
