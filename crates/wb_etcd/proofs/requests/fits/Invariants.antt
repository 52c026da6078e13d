use Rattle.std.proofs.Common.{◌≡◌, ◌≤◌, take}
use Rattle.std.specs.Prelude.{sum_by}
use Rattle.wb_etcd.specs.Transactions.{operations}
use Rattle.wb_etcd.proofs.requests.fits.Given as goal

-- the operations of the changes that were passed, which fit
abbrev pub invariant-loop-change : goal.invariant-loop-change
invariant-loop-change l = record {
  counted : l.count ≡ sum_by operations (take l.change-index l.changes);
  fits : l.count ≤ 32_768;
}
