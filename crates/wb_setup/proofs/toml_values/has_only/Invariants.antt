use Rattle.std.proofs.Common.{◌≡◌, ◌+◌, ◌≤◌, drop, map}
use Rattle.toml.specs.View.{view}
use Rattle.wb_setup.specs.TomlValues.{count_of}
use Rattle.wb_setup.proofs.toml_values.has_only.Given as goal

abbrev pub invariant-loop-key : goal.invariant-loop-key
invariant-loop-key l = record {
  small : l.count ≤ l.key-index;
  rest : l.count + count_of (map (λ k. k.now) (drop l.key-index l.keys)) (view l.value) ≡ count_of (map (λ k. k.now) l.keys) (view l.value);
}
