use Rattle.std.proofs.Common.{◌≡◌, ◌++◌, map}
use Rattle.serde_json.specs.View.{members_view}
use Rattle.wb_base.specs.AnswerList.{Answered}
use Rattle.wb_model.specs.Json.{members_of, given_data}
use Rattle.wb_json.proofs.values.answers_value.Given as goal

-- the object has the answers that the iterator, which goes from the last to the first, has passed
abbrev pub invariant-loop-id : goal.invariant-loop-id
invariant-loop-id l = (passed : Answered) × (l.id-iterator.iter.rest.now ++ passed ≡ l.answers)
    × (members_view l.map.entries ≡ members_of (map (λ entry. (entry.0, given_data entry.1)) passed))
