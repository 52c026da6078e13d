use Rattle.std.proofs.Common.{◌≡◌, ◌++◌, drop}
use Rattle.wb_terms.specs.Index.{numbers_of}
use Rattle.wb_terms.proofs.term_index.numbers_of.Given as goal

abbrev pub invariant-loop-term : goal.invariant-loop-term
invariant-loop-term l = l.numbers.items ++ numbers_of l.kind (drop l.term-index l.terms) ≡ numbers_of l.kind l.terms
