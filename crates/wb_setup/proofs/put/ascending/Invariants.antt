use Rattle.std.proofs.Common.{◌≡◌, drop, fold}
use Rattle.std.proofs.Common.{ℕ}
use Rattle.std.specs.Ordering.{nat_cmp}
use Rattle.wb_list.specs.Keyed.{IsAscending, insert_item}
use Rattle.wb_model.specs.Settings.{ascending}
use Rattle.wb_setup.proofs.put.ascending.Given as goal

abbrev pub invariant-loop-user : goal.invariant-loop-user
invariant-loop-user l = record {
  rest : fold (λ before id. insert_item nat_cmp (λ (n : ℕ). n) before id) l.ids.items (drop l.user-index l.users) ≡ ascending l.users;
  order : IsAscending nat_cmp (λ (n : ℕ). n) l.ids.items;
}
