use Rattle.std.proofs.Common.{◌≡◌, ◌≤◌, ◌++◌, length, drop}
use Rattle.wb_base.specs.Secrets.{last_digits}
use Rattle.wb_access.proofs.secrets.digits.Given as goal

abbrev pub invariant-loop-at : goal.invariant-loop-at
invariant-loop-at l = record {
  within : l.at ≤ 16;
  room : length l.room ≡ 16;
  made : last_digits l.at l.rest ++ drop l.at l.room ≡ last_digits 16 l.number;
}

abbrev pub decreases-loop-at : goal.decreases-loop-at
decreases-loop-at l = l.at
