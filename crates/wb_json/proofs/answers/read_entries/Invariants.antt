use Rattle.std.proofs.Common.{◌≡◌, ◌++◌, option_map}
use Rattle.std.specs.List.Sorted.{IsStrictlySortedBy}
use Rattle.std.specs.String.{string_cmp}
use Rattle.std.specs.Map.{keys_of}
use Rattle.serde_json.specs.View.{members_view}
use Rattle.wb_model.specs.Bodies.{entries}
use Rattle.wb_json.proofs.EntryLemmas.{AreBelowAll}
use Rattle.wb_json.proofs.answers.read_entries.Given as goal

abbrev pub invariant-loop-key : goal.invariant-loop-key
invariant-loop-key l = record {
  entries : entries (members_view l.members.entries) ≡ option_map (λ es. l.answers ++ es) (entries (members_view l.key-iterator));
  below : AreBelowAll l.answers l.key-iterator;
  ordered : IsStrictlySortedBy string_cmp (keys_of l.key-iterator);
}
