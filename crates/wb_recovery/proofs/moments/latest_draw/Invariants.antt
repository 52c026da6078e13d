use Rattle.std.proofs.Common.{◌≡◌, drop, map}
use Rattle.std.specs.Prelude.{max}
use Rattle.wb_row_codec.specs.declared.item.NumberingItem.{NumberingItem}
use Rattle.wb_model.specs.Reopened.{latest}
use Rattle.wb_recovery.proofs.moments.latest_draw.Given as goal

abbrev pub invariant-loop-item : goal.invariant-loop-item
invariant-loop-item l = max l.last (latest (map (λ (x : NumberingItem). x.numbering.at) (drop l.item-index l.numberings))) ≡ latest (map (λ (x : NumberingItem). x.numbering.at) l.numberings)
