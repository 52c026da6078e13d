use Rattle.std.proofs.Common.{◌≡◌, map, length, ◌≤◌, false}
use Rattle.std.specs.Prelude.{filter}
use Rattle.wb_tables.specs.Kept.{case_of, lives_on}
use Rattle.wb_tables.proofs.Purges.{IsPurging}
use Rattle.wb_tables.proofs.purge.drop_dead.Given as goal

abbrev pub invariant-loop-number : goal.invariant-loop-number
invariant-loop-number l =
    IsPurging l.tenant l.today (map case_of l.initial.cases.items) (map case_of l.cases.items) l.initial.sealed l.sealed
    × ((filter (λ r. lives_on l.today (case_of r)) l.cases.items ≡ filter (λ r. lives_on l.today (case_of r)) l.initial.cases.items) × (l.initial.cases.spare ≤ l.cases.spare) × (l.has_gone ≡ false → l.cases.items ≡ l.initial.cases.items))

abbrev pub decreases-loop-number : goal.decreases-loop-number
decreases-loop-number l = length (map case_of l.cases.items)
