-- Which fields of a form are shown for some answers.
use Rattle.std.specs.Prelude.{ℕ, ◌+◌, List, [], ◌∷◌, ◌&&◌, ◌||◌, nat_le, Bool, false, if◌then◌else◌, Option, Some, None, slice_index_or}
use Rattle.std.specs.List.{list_any}
use Rattle.wb_base.specs.declared.form.Form.{Form}
use Rattle.wb_base.specs.declared.form.Field.{Field}
use Rattle.wb_base.specs.declared.form.Trigger.{Trigger}
use Rattle.wb_base.specs.declared.form.Part.{Part}
use Rattle.wb_base.specs.declared.answers.Given.{Given}
use Rattle.wb_base.specs.declared.answers.Given.TheVariants.{Text, List as Texts, Flag, Whole, File}
use Rattle.wb_base.specs.AnswerList.{Answered, answer_to, is_text}
use Rattle.wb_base.specs.FormFields.{fields_of, is_field, parts_of, least_of}

-- what was given for each field id
abbrev pub Look : Type 0
Look = List ℕ → Option Given

-- the answer is the option, or holds it
abbrev pub holds : List ℕ → Option Given → Bool
holds o None = false
holds o (Some (Text t)) = is_text t o
holds o (Some (Texts ts)) = list_any (λ t. is_text t o) ts
holds o (Some (Flag b)) = false
holds o (Some (Whole z)) = false
holds o (Some (File name content)) = false

-- a part is met: the field that it names is shown and answered with the option
abbrev pub is_met : (List ℕ → Bool) → Look → Part → Bool
is_met shows look p = shows p.field && holds p.option (look p.field)

-- the points of the parts that are met
abbrev pub points_met : (List ℕ → Bool) → Look → List Part → ℕ
points_met shows look [] = 0
points_met shows look (p ∷ ps) = (if is_met shows look p then p.points else 0) + points_met shows look ps

-- a trigger shows its field: the points of the parts that are met add up to at least those that it wants
abbrev pub is_triggered : (List ℕ → Bool) → Look → Trigger → Bool
is_triggered shows look t = nat_le (least_of t) (points_met shows look (parts_of t))

-- the field of an id is shown, among fields from the last to the first
abbrev pub shows : Look → List Field → List ℕ → Bool
shows look [] id = false
shows look (f ∷ earlier) id = (is_field id f && is_triggered (shows look earlier) look f.show) || shows look earlier id

-- a field is shown, after the earlier fields from the last to the first
abbrev pub is_shown : Look → List Field → Field → Bool
is_shown look earlier f = is_triggered (shows look earlier) look f.show

-- of each field whether it is shown, after the earlier fields from the last to the first
abbrev pub shown_from : Look → List Field → List Field → List Bool
shown_from look earlier [] = []
shown_from look earlier (f ∷ fs) = is_shown look earlier f ∷ shown_from look (f ∷ earlier) fs

-- of each field whether it is shown
abbrev pub all_shown : Look → List Field → List Bool
all_shown look fs = shown_from look [] fs

-- whether the field at a place of a form, counted from 0, is shown for some answers
abbrev pub shown_at : Form → Answered → ℕ → Bool
shown_at form answers k = slice_index_or (all_shown (answer_to answers) (fields_of form.steps)) k false
