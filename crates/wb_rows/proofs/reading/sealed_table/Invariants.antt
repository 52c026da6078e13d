use Rattle.std.proofs.Common.{◌≡◌, ℕ}
use Rattle.std.specs.Option.{option_or}
use Rattle.wb_custody.specs.SealedAnswers.{answers_of, pair_cmp, sealed_place}
use Rattle.wb_list.specs.Keyed.{IsAscending}
use Rattle.wb_rows.proofs.reading.sealed_table.Given as goal

abbrev pub invariant-loop-item : goal.invariant-loop-item
invariant-loop-item l = record {
  order : IsAscending pair_cmp sealed_place l.item-iterator.rest.items;
  found : (t n : ℕ) → option_or (answers_of l.item-iterator.rest.items t n) (answers_of l.table.items t n) ≡ answers_of l.fn.sealed.items t n;
}
