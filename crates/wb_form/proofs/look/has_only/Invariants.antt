use Rattle.std.proofs.Common.{◌≡◌, ◌+◌, ◌≤◌, drop, map}
use Rattle.serde_json.specs.View.{view}
use Rattle.wb_base.specs.FormShape.{count_of}
use Rattle.wb_form.proofs.look.has_only.Given as goal

abbrev pub invariant-loop-key : goal.invariant-loop-key
invariant-loop-key l = record {
  small : l.count ≤ l.key-index;
  rest : l.count + count_of (map (λ k. k.now) (drop l.key-index l.keys)) (view l.value) ≡ count_of (map (λ k. k.now) l.keys) (view l.value);
}
