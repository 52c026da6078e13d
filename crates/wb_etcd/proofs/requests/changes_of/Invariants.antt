use Rattle.std.proofs.Common.{◌≡◌, ◌++◌, take, codes}
use Rattle.std.specs.Prelude.{flat_map}
use Rattle.std.specs.String.{string_bytes}
use Rattle.wb_etcd.specs.Transactions.{change_text}
use Rattle.wb_etcd.proofs.requests.changes_of.Given as goal

-- the text has the first change, and those after it that were passed
abbrev pub invariant-loop-change : goal.invariant-loop-change
invariant-loop-change l = string_bytes l.text ≡ string_bytes l.initial.text ++ flat_map (λ next. codes "," ++ change_text l.prefix next) (take l.change-index l.rest)
