-- None before is the user.
use Rattle.std.proofs.Common.{◌≡◌, ◌==◌, ℕ, drop}
use Rattle.std.specs.List.{list_any}
use Rattle.wb_request_json.proofs.sets.is_among.Given as goal

abbrev pub invariant-loop-other : goal.invariant-loop-other
invariant-loop-other l = list_any (λ (u : ℕ). u == l.user) l.users ≡ list_any (λ (u : ℕ). u == l.user) (drop l.other-index l.users)
