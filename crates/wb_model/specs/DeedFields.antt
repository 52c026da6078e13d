-- The deeds of a trail in one table: each is a name and its fields. What rows show of it, the ranges of its values and how it is read follow.
use Rattle.std.specs.Prelude.{⊤, ℕ, ℤ, Bool, List, [], ◌∷◌, Option, codes}
use Rattle.hex.specs.Hex.{encode_lower}
use Rattle.serde_json.specs.Data.{Data, boolean, string}
use Rattle.wb_base.specs.AnswerList.{Answered}
use Rattle.wb_base.specs.declared.words.Digest.{Digest}
use Rattle.wb_model.specs.declared.entry.Deed.{Deed}
use Rattle.wb_model.specs.declared.entry.Deed.TheVariants as deeds
use Rattle.wb_model.specs.declared.entry.Status.{Status}
use Rattle.wb_model.specs.Json.{Member, answers_data, date, list_of, or_null, whole}
use Rattle.wb_model.specs.Names.{status_name}

-- ---- fields

-- what a field holds
pub data Field : Type 0 where
  -- a whole number, from least to most
  Whole : ℕ → ℕ → Field
  -- a text of so many bytes, from least to most
  Text : ℕ → ℕ → Field
  -- such a text, or null
  TextOrNull : ℕ → ℕ → Field
  Date : Field
  Flag : Field
  -- 32 bytes in hexadecimal digits
  Hash : Field
  -- ids of users
  Users : Field
  Answers : Field
  StatusName : Field

abbrev pub Value : Field → Type 0
Value (Whole least most) = ℕ
Value (Text least most) = List ℕ
Value (TextOrNull least most) = Option (List ℕ)
Value Date = ℤ
Value Flag = Bool
Value Hash = Digest
Value Users = List ℕ
Value Answers = Answered
Value StatusName = Status

-- how a value is written
abbrev pub written : (f : Field) → Value f → Data
written (Whole least most) n = whole n
written (Text least most) text = string text
written (TextOrNull least most) text = or_null string text
written Date day = date day
written Flag flag = boolean flag
written Hash digest = string (encode_lower digest.0)
written Users users = list_of whole users
written Answers answers = answers_data answers
written StatusName status = string (status_name status)

-- ---- fields in a row

-- a key, and what stands under it
abbrev pub Keyed : Type 0
Keyed = List ℕ × Field

abbrev pub Values : List Keyed → Type 0
Values [] = ⊤
Values (f ∷ fs) = Value f.1 × Values fs

-- what gives a deed for values of these fields
abbrev pub Maker : List Keyed → Type 0
Maker [] = Deed
Maker (f ∷ fs) = Value f.1 → Maker fs

abbrev pub members : (fs : List Keyed) → Values fs → List Member
members [] vs = []
members (f ∷ fs) vs = (f.0, written f.1 vs.0) ∷ members fs vs.1

-- ---- the table

-- a kind of deed: its name, its fields in byte order of their keys, and the deed of their values
pub record Shape : Type 0 where
  pub name : List ℕ
  pub fields : List Keyed
  pub make : Maker fields

abbrev pub submitted : Shape
submitted = record {
  name = codes "submitted";
  fields =
      (codes "ack_due", Date) ∷
      (codes "answers", Answers) ∷
      (codes "context", Whole 1 64) ∷
      (codes "expires", Date) ∷
      (codes "feedback_due", Date) ∷
      (codes "form", Whole 1 16) ∷
      (codes "mark", Flag) ∷
      (codes "readers", Users) ∷
      (codes "receipt", Hash) ∷
      (codes "received", Date) ∷
      (codes "version", Whole 1 99) ∷ [];
  make = deeds.Submitted;
}

abbrev pub identity : Shape
identity = record { name = codes "identity"; fields = []; make = deeds.Identity }

abbrev pub comment : Shape
comment = record { name = codes "comment"; fields = (codes "internal", Flag) ∷ (codes "text", Text 1 4_096) ∷ []; make = deeds.Comment }

abbrev pub label : Shape
label = record { name = codes "label"; fields = (codes "text", Text 0 64) ∷ []; make = deeds.Label }

abbrev pub set_status : Shape
set_status = record { name = codes "status"; fields = (codes "status", StatusName) ∷ []; make = deeds.SetStatus }

abbrev pub acknowledged : Shape
acknowledged = record { name = codes "acknowledged"; fields = (codes "day", Date) ∷ (codes "feedback_due", Date) ∷ []; make = deeds.Acknowledged }

abbrev pub feedback : Shape
feedback = record { name = codes "feedback"; fields = (codes "text", Text 1 4_096) ∷ []; make = deeds.Feedback }

abbrev pub shared : Shape
shared = record { name = codes "shared"; fields = (codes "user", Whole 1 256) ∷ []; make = deeds.Shared }

abbrev pub unshared : Shape
unshared = record { name = codes "unshared"; fields = (codes "user", Whole 1 256) ∷ []; make = deeds.Unshared }

abbrev pub transferred : Shape
transferred = record { name = codes "transferred"; fields = (codes "context", Whole 1 64) ∷ (codes "readers", Users) ∷ []; make = deeds.Transferred }

abbrev pub postponed : Shape
postponed = record { name = codes "postponed"; fields = (codes "expires", Date) ∷ []; make = deeds.Postponed }

abbrev pub extended : Shape
extended = record { name = codes "extended"; fields = (codes "feedback_due", Date) ∷ (codes "reason", Text 1 1_024) ∷ []; make = deeds.Extended }

abbrev pub asked : Shape
asked = record { name = codes "asked"; fields = (codes "reason", Text 1 1_024) ∷ (codes "stamp", Whole 0 10_000) ∷ []; make = deeds.Asked }

abbrev pub granted : Shape
granted = record {
  name = codes "granted";
  fields = (codes "effective", Whole 0 100_002_591_999) ∷ (codes "reason", Text 1 1_024) ∷ (codes "request", Whole 0 4_294_967_295) ∷ (codes "withheld", TextOrNull 1 1_024) ∷ [];
  make = deeds.Granted;
}

abbrev pub denied : Shape
denied = record { name = codes "denied"; fields = (codes "reason", Text 1 1_024) ∷ (codes "request", Whole 0 4_294_967_295) ∷ []; make = deeds.Denied }

abbrev pub revoked : Shape
revoked = record { name = codes "revoked"; fields = (codes "reason", Text 1 1_024) ∷ (codes "request", Whole 0 4_294_967_295) ∷ []; make = deeds.Revoked }

-- ---- a deed as its shape and its values

pub record Said : Type 0 where
  pub shape : Shape
  pub values : Values shape.fields

abbrev pub by : (shape : Shape) → Values shape.fields → Said
by shape values = record { shape = shape; values = values }

abbrev pub said : Deed → Said
said (deeds.Submitted ack_due answers context expires feedback_due form mark readers receipt received version) =
    by submitted (ack_due, (answers, (context, (expires, (feedback_due, (form, (mark, (readers, (receipt, (received, (version, tt)))))))))))
said deeds.Identity = by identity tt
said (deeds.Comment internal text) = by comment (internal, (text, tt))
said (deeds.Label text) = by label (text, tt)
said (deeds.SetStatus status) = by set_status (status, tt)
said (deeds.Acknowledged day feedback_due) = by acknowledged (day, (feedback_due, tt))
said (deeds.Feedback text) = by feedback (text, tt)
said (deeds.Shared user) = by shared (user, tt)
said (deeds.Unshared user) = by unshared (user, tt)
said (deeds.Transferred context readers) = by transferred (context, (readers, tt))
said (deeds.Postponed expires) = by postponed (expires, tt)
said (deeds.Extended feedback_due reason) = by extended (feedback_due, (reason, tt))
said (deeds.Asked reason stamp) = by asked (reason, (stamp, tt))
said (deeds.Granted effective reason request withheld) = by granted (effective, (reason, (request, (withheld, tt))))
said (deeds.Denied reason request) = by denied (reason, (request, tt))
said (deeds.Revoked reason request) = by revoked (reason, (request, tt))

abbrev pub deed_name : Deed → List ℕ
deed_name d = (said d).shape.name

-- the members of a deed in the object of its entry
abbrev pub deed_members : Deed → List Member
deed_members d = members (said d).shape.fields (said d).values
