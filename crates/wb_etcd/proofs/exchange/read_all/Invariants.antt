use Rattle.std.proofs.Common.{◌≡◌, ◌++◌, ◌-◌, ℕ, List, Some}
use Rattle.std.specs.Prelude.{vec_len}
use Rattle.wb_etcd.proofs.exchange.read_all.Given as goal

-- what was read, and then what is left, is all that the link had
abbrev pub invariant-loop-piece : goal.invariant-loop-piece
invariant-loop-piece g l = record {
  left : (bytes : List ℕ) → (g.L.Link.end l.fn.link).left ≡ Some bytes → (rest : List ℕ) × ((g.L.Link.end l.link).left ≡ Some rest) × (bytes ≡ l.answer.items ++ rest);
  got : (g.L.Link.end l.link).got ≡ (g.L.Link.end l.fn.link).got;
  count : (g.L.Link.end l.link).count ≡ (g.L.Link.end l.fn.link).count;
}

abbrev pub decreases-loop-piece : goal.decreases-loop-piece
decreases-loop-piece g l = 67108864 - vec_len l.answer
