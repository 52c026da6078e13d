-- No number in the JSON of a kept row is kept as a floating one.
use Rattle.std.proofs.Common.{◌≡◌, List, [], ◌∷◌, false, refl}
use Rattle.std.specs.Prelude.{codes}
use Rattle.serde_json.specs.Data.{string}
use Rattle.serde_json.specs.Written.{has_float}
use Rattle.wb_json.proofs.NoFloats.{ArePlain, in-object, in-list, in-or_null, in-answers}
use Rattle.wb_model.specs.declared.entry.Entry.{Entry}
use Rattle.wb_model.specs.declared.numbering.Numbering.{Numbering}
use Rattle.wb_model.specs.Access.{user_by}
use Rattle.wb_model.specs.DeedFields.{Field, Value, Keyed, Values, Whole, Text, TextOrNull, Date, Flag, Hash, Users, Answers, StatusName, written, members, said}
use Rattle.wb_model.specs.Json.{Member, whole}
use Rattle.wb_model.specs.Rows.{format_data, numbering_data, entry_data}

pub in-format : has_float format_data ≡ false
unfolding format_data
in-format = refl

pub in-numbering : (n : Numbering) → has_float (numbering_data n) ≡ false
unfolding numbering_data
in-numbering n = refl

-- ---- an entry

plain-value : (f : Field) (v : Value f) → has_float (written f v) ≡ false
plain-value (Whole least most) n = refl
plain-value (Text least most) text = refl
plain-value (TextOrNull least most) text = in-or_null string (λ t. refl) text
plain-value Date day = refl
plain-value Flag flag = refl
plain-value Hash digest = refl
plain-value Users users = in-list whole (λ n. refl) users
plain-value Answers answers = in-answers answers
plain-value StatusName status = refl

plain-members : (fs : List Keyed) (vs : Values fs) → ArePlain (members fs vs)
plain-members [] vs = tt
plain-members (f ∷ fs) vs = (plain-value f.1 vs.0, plain-members fs vs.1)

pub in-entry : (e : Entry) → has_float (entry_data e) ≡ false
unfolding entry_data
in-entry e =
    let w = said e.deed in
    let shows : List Member = (codes "at", whole e.at) ∷ (codes "by", whole (user_by e.by)) ∷ (codes "deed", string w.shape.name) ∷ members w.shape.fields w.values in
    in-object shows (refl, (refl, (refl, plain-members w.shape.fields w.values)))
