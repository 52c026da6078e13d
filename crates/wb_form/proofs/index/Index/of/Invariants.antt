use Rattle.std.proofs.Common.{◌≡◌, drop, take, map}
use Rattle.wb_base.specs.FormFaults.{first_by, first_from, is_double}
use Rattle.wb_form.proofs.index.Index.of.Given as goal

abbrev pub invariant-loop-at : goal.invariant-loop-at
invariant-loop-at l = record {
  made : l.index ≡ map (λ f. f.now) (take l.at l.fields);
  rest : first_from is_double (map (λ f. f.now) (take l.at l.fields)) (map (λ f. f.now) (drop l.at l.fields)) ≡ first_by is_double (map (λ f. f.now) l.fields);
}
