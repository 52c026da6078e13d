use Rattle.std.proofs.Common.{◌≡◌, drop}
use Rattle.wb_terms.specs.Index.{first_of}
use Rattle.wb_terms.proofs.term_index.first_among.Given as goal

abbrev pub invariant-loop-first : goal.invariant-loop-first
invariant-loop-first l = first_of l.kind l.terms ≡ first_of l.kind (drop l.first-index l.terms)
