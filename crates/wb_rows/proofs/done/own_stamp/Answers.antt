use Rattle.std.proofs.Common.{◌≡◌, ℕ, ◌<◌, ◌≤◌, ◌⊎◌, inl, inr, List, length, sym, ap, arith}
use Rattle.std.specs.Option.{option_map_or}
use Rattle.wb_model.specs.declared.access.AccessRequest.{AccessRequest}
use Rattle.wb_model.specs.Access.{request_at}
use Rattle.wb_custody.proofs.RequestLists.{not_there}
use Rattle.wb_rows.proofs.done.own_stamp.Goals as goal
use Rattle.wb_rows.proofs.done.own_stamp.Goals.{else-request-gt0-via-then-request-gt0+else-request-len, else-request-gt0-via-else-request-gt0}

none : (n : ℕ) (xs : List AccessRequest) → (0 < n × length xs < n) ⊎ (n ≤ 0) → 0 ≡ option_map_or (λ (r : AccessRequest). r.stamp) (request_at n xs) 0
none n xs away = sym (ap (λ r. option_map_or (λ (x : AccessRequest). x.stamp) r 0) (not_there n xs away))

pub returns-else-request-gt0 : goal.returns-else-request-gt0
returns-else-request-gt0 c = elim c.else-request-gt0.branch [
  | else-request-gt0-via-then-request-gt0+else-request-len w ↦ none c.args.request c.args.desk.now.items (inl (omega (arith, w.if-request-gt0.true), omega (arith, w.len.ensures, w.if-request-len.false)))
  | else-request-gt0-via-else-request-gt0 w ↦ none c.args.request c.args.desk.now.items (inr (omega (arith, w.if-request-gt0.false)))
]
