-- One member more, put on others.
use Rattle.std.proofs.Common.{◌≡◌, ℕ, List, ap, ◌∙◌}
use Rattle.serde_json.specs.Data.{Data, Members, put}

pub then_put : (k : List ℕ) (d e : Data) (new old before : Members) → new ≡ put k d old → d ≡ e → old ≡ before → new ≡ put k e before
then_put k d e new old before is shows was = is ∙ ap (λ x. put k x old) shows ∙ ap (put k e) was
