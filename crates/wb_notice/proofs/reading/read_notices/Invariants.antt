use Rattle.std.proofs.Common.{◌≡◌, take, map, true}
use Rattle.std.specs.List.{list_all}
use Rattle.wb_notice.specs.Notices.{is_ranged, notice_row}
use Rattle.wb_notice.proofs.reading.read_notices.Given as goal

abbrev pub invariant-loop-row : goal.invariant-loop-row
invariant-loop-row l = record {
  own : take l.row-index l.rows ≡ map notice_row l.notices.items;
  ranged : list_all is_ranged l.notices.items ≡ true;
}
