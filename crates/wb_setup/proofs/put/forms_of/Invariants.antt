use Rattle.std.proofs.Common.{◌≡◌, [], fold}
use Rattle.std.specs.Vec.Iter.{into_iter_items}
use Rattle.wb_list.specs.Keyed.{IsAscending}
use Rattle.wb_setup.specs.Keys.{key_cmp, version_key}
use Rattle.wb_setup.specs.Setups.{put_form}
use Rattle.wb_setup.proofs.put.forms_of.Given as goal

abbrev pub invariant-loop-form : goal.invariant-loop-form
invariant-loop-form l = record {
  rest : fold put_form l.items.items (into_iter_items l.form-iterator) ≡ fold put_form [] l.fn.forms;
  order : IsAscending key_cmp version_key l.items.items;
}
