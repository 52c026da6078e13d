-- The members of an object whose list of members is written in parts.
use Rattle.std.proofs.Common.{◌≡◌, List, [], ◌∷◌, ℕ, refl, ap, ◌∙◌}
use Rattle.serde_json.specs.Data.{Data, Members, put, no_members}
use Rattle.wb_model.specs.Json.{Member, members_of}
use Rattle.wb_row_codec.specs.Members.{puts}

pub then_put : (k : List ℕ) (d e : Data) (new old before : Members) → new ≡ put k d old → d ≡ e → old ≡ before → new ≡ put k e before
then_put k d e new old before is shows was = is ∙ ap (λ x. put k x old) shows ∙ ap (put k e) was

pub then_puts : (ms : List Member) (new old before : Members) → new ≡ puts ms old → old ≡ before → new ≡ puts ms before
then_puts ms new old before is was = is ∙ ap (puts ms) was

pub alone : (xs : List Member) → members_of xs ≡ puts xs no_members
alone [] = refl
alone (x ∷ xs) = ap (put x.0 x.1) (alone xs)
