-- The table's names are short.
use Rattle.std.proofs.Common.{◌≤◌, [], length, subst, sym}
use Rattle.std.specs.Option.{option_map_or}
use Rattle.wb_model.specs.Routes.{Path, method_names}
use Rattle.wb_wire.proofs.MethodLemmas.{short_methods}
use Rattle.wb_wire.proofs.replies.methods.Goals as goal

pub returns-in-Some-clause-short : goal.returns-in-Some-clause-short
returns-in-Some-clause-short c = subst (λ o. length (method_names (option_map_or (λ (p : Path). p.methods) o [])) ≤ 12) (sym c.in-Some.ensures) (short_methods c.args.path)
