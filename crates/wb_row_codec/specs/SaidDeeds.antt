-- The entry of a trail that a JSON object stands for, its deed by the table of deeds, each value in its range.
use Rattle.std.specs.Prelude.{ℕ, ◌==◌, if◌then◌else◌, List, [], ◌∷◌, codes, Option, Some, None, option_map, option_and_then}
use Rattle.serde_json.specs.Data.{Data, null, string}
use Rattle.serde_json.specs.Find.{as_str, as_bool}
use Rattle.wb_base.specs.AnswerList.{is_text}
use Rattle.wb_model.specs.declared.entry.Actor.{Actor}
use Rattle.wb_model.specs.declared.entry.Actor.TheVariants as actors
use Rattle.wb_model.specs.declared.entry.Deed.{Deed}
use Rattle.wb_model.specs.declared.entry.Entry.{Entry}
use Rattle.wb_model.specs.Bodies.{under, text, whole, answers, status}
use Rattle.wb_model.specs.DeedFields as table
use Rattle.wb_model.specs.DeedFields.{Field, Value, Keyed, Maker, Shape, Whole, Text, TextOrNull, Date, Flag, Hash, Users, Answers, StatusName}
use Rattle.wb_row_codec.specs.Shapes.{digest, day, users}

-- ---- fields

-- a text of so many bytes, or null
abbrev pub text_or_null : ℕ → ℕ → Data → Option (Option (List ℕ))
text_or_null least most null = Some None
text_or_null least most (string s) = option_map Some (text least most (string s))
text_or_null least most _ = None

-- the value of a field
abbrev pub value : (f : Field) → Data → Option (Value f)
value (Whole least most) d = whole least most d
value (Text least most) d = text least most d
value (TextOrNull least most) d = text_or_null least most d
value Date d = day d
value Flag d = as_bool d
value Hash d = digest d
value Users d = users d
value Answers d = answers d
value StatusName d = status d

-- what is made of the values under these keys
abbrev pub made : (fs : List Keyed) → Maker fs → Data → Option Deed
made [] deed d = Some deed
made (f ∷ fs) make d = option_and_then (λ v. made fs (make v) d) (under f.0 (value f.1) d)

-- ---- deeds by their names

abbrev pub of_shape : Shape → Data → Option Deed
of_shape shape d = made shape.fields shape.make d

-- the deed of a name, where one of these has it
abbrev pub by_name : List Shape → List ℕ → Data → Option Deed
by_name [] name d = None
by_name (s ∷ ss) name d = if is_text name s.name then of_shape s d else by_name ss name d

-- those of requests for the identity
abbrev pub request_deeds : List Shape
request_deeds = table.asked ∷ table.granted ∷ table.denied ∷ table.revoked ∷ []

-- those of a report's follow-up, and of requests
abbrev pub follow_deeds : List Shape
follow_deeds = table.acknowledged ∷ table.feedback ∷ table.shared ∷ table.unshared ∷ table.transferred ∷ table.postponed ∷ table.extended ∷ request_deeds

abbrev pub all_deeds : List Shape
all_deeds = table.submitted ∷ table.identity ∷ table.comment ∷ table.label ∷ table.set_status ∷ follow_deeds

-- ---- the entry

abbrev pub deed : Data → Option Deed
deed d = option_and_then (λ name. by_name all_deeds name d) (under (codes "deed") as_str d)

-- who acts: 0 is the reporter, else it is a user's id
abbrev pub actor : ℕ → Actor
actor n = if n == 0 then actors.Reporter else actors.User n

abbrev pub entry : Data → Option Entry
entry d = option_and_then (λ at. option_and_then (λ by. option_map (λ done. record { at = at; by = by; deed = done })
    (deed d)) (option_map actor (under (codes "by") (whole 0 256) d))) (under (codes "at") (whole 0 99_999_999_999) d)
