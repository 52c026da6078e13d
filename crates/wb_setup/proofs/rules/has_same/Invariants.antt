use Rattle.std.proofs.Common.{◌≡◌, drop}
use Rattle.std.specs.List.{list_any}
use Rattle.wb_setup.proofs.rules.has_same.Given as goal

abbrev pub invariant-loop-other : goal.invariant-loop-other
invariant-loop-other g l = list_any (g.S.Sameness.same l.test l.item) l.others ≡ list_any (g.S.Sameness.same l.test l.item) (drop l.other-index l.others)
