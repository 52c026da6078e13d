use Rattle.std.proofs.Common.{map, sym, ap, ◌∙◌, subst}
use Rattle.wb_base.specs.KeptRows.{key_cmp, key_of}
use Rattle.wb_list.specs.Keyed.{IsAscending}
use Rattle.wb_rows.specs.Held.{held_by}
use Rattle.wb_notice.specs.Notices.{notice_row}
use Rattle.wb_notice.proofs.OwedOrder.{all_ascend}
use Rattle.wb_notice.proofs.owing.owed.Goals as goal

pub returns-clause-by_key : goal.returns-clause-by_key
returns-clause-by_key c = subst (IsAscending key_cmp key_of) (sym (c.in_ok-rows_of.ensures ∙ ap (map notice_row) (c.as_slice.ensures.value ∙ c.in_ok-notices.ensures))) (all_ascend (held_by c.args.tables.now) c.args.now c.requires)
