-- An entry whose values are in their ranges is read of the object that shows it: each field by its kind, each deed by its shape.
use Rattle.std.proofs.Common.{◌≡◌, ℕ, ◌<◌, ◌^◌, suc, Bool, true, List, [], ◌∷◌, Some, None, ℤ, codes, refl, ap, ◌∙◌, arith}
use Rattle.std.proofs.lemmas.Bool.{and_parts, leb-true, ltb-true, ne_eqb}
use Rattle.std.specs.Prelude.{⊤, ◌&&◌, nat_le, nat_lt, option_map, option_and_then}
use Rattle.hex.specs.Hex.{encode_lower}
use Rattle.serde_json.specs.Data.{Data, string, unsigned}
use Rattle.serde_json.specs.Find.{get}
use Rattle.wb_model.specs.declared.entry.Actor.{Actor}
use Rattle.wb_model.specs.declared.entry.Actor.TheVariants as actors
use Rattle.wb_model.specs.declared.entry.Deed.{Deed}
use Rattle.wb_model.specs.declared.entry.Deed.TheVariants as deeds
use Rattle.wb_model.specs.declared.entry.Entry.{Entry}
use Rattle.wb_model.specs.Access.{user_by}
use Rattle.wb_model.specs.Bodies.{under, whole}
use Rattle.wb_model.specs.DeedFields.{Field, Value, Keyed, Values, Maker, Whole, Text, TextOrNull, Date, Flag, Hash, Users, Answers, StatusName, written, members, said, deed_name, deed_members}
use Rattle.wb_model.specs.Fits.{is_between}
use Rattle.wb_model.specs.Json.{Member, date, list_of, whole as whole_data}
use Rattle.wb_model.specs.Names.{status_name}
use Rattle.wb_model.specs.Rows.{entry_data}
use Rattle.wb_row_codec.specs.Good.{is_actor, is_deed, is_entry, is_in, is_moment, are_in, are_users}
use Rattle.wb_row_codec.specs.SaidDeeds.{actor, deed, entry, made, of_shape, value}
use Rattle.wb_row_codec.proofs.BackAnswers.{answers-back, within-answers}
use Rattle.wb_row_codec.proofs.BackValues.{bytes-back, day-back, most-back, status-back, text-back, users-back, whole-back}
use Rattle.wb_row_codec.proofs.Canonical.{AreWithin, IsWithin, within-flag, within-list, within-null, within-number, within-object, within-string}

-- ---- values within the bounds of canonical JSON

pub within-count : (n high : ℕ) (x : ℕ) → nat_le x high ≡ true → high < 2 ^ 64 → IsWithin n (whole_data x)
within-count n high x le least = let most = leb-true x high le in within-number n (unsigned x) (omega (arith, most, least))

pub within-between : (n low high : ℕ) (x : ℕ) → is_between low high x ≡ true → high < 2 ^ 64 → IsWithin n (whole_data x)
within-between n low high x is least = within-count n high x (and_parts (nat_le low x) (nat_le x high) is).1 least

pub within-users : (n : ℕ) (us : List ℕ) → are_users us ≡ true → IsWithin (suc n) (list_of whole_data us)
within-users n us are = within-list whole_data (is_between 1 256) n (λ u is. within-between n 1 256 u is (omega arith)) us are

pub within-date : (n : ℕ) (day : ℤ) → IsWithin n (date day)
within-date n day = (tt, omega arith)

-- ---- a field

-- a value is read of what is written of it
value-back : (f : Field) (v : Value f) → is_in f v ≡ true → value f (written f v) ≡ Some v
value-back (Whole least most) n is = whole-back least most n is
value-back (Text least most) text is = text-back least most text is
value-back (TextOrNull least most) None is = refl
value-back (TextOrNull least most) (Some text) is = rw (text-back least most text is) refl
value-back Date day is = day-back day is
value-back Flag flag is = refl
value-back Hash digest is = rw (bytes-back 32 digest.0 is) refl
value-back Users users is = users-back users is
value-back Answers answers is = answers-back answers is
value-back StatusName status is = status-back status is

-- its greatest number has 64 bits
abbrev is_narrow : Field → Bool
is_narrow (Whole least most) = nat_lt most (2 ^ 64)
is_narrow _ = true

within-value : (f : Field) (v : Value f) → is_narrow f ≡ true → is_in f v ≡ true → IsWithin 2 (written f v)
within-value (Whole least most) n narrow is = within-between 2 least most n is (ltb-true most (2 ^ 64) narrow)
within-value (Text least most) text narrow is = within-string 2 text
within-value (TextOrNull least most) None narrow is = within-null 2
within-value (TextOrNull least most) (Some text) narrow is = within-string 2 text
within-value Date day narrow is = within-date 2 day
within-value Flag flag narrow is = within-flag 2 flag
within-value Hash digest narrow is = within-string 2 (encode_lower digest.0)
within-value Users users narrow is = within-users 1 users is
within-value Answers answers narrow is = within-answers 0 answers is
within-value StatusName status narrow is = within-string 2 (status_name status)

-- ---- fields

-- what is written of the values stands under their keys
abbrev AreUnder : (fs : List Keyed) → Values fs → Data → Type 0
AreUnder [] vs d = ⊤
AreUnder (f ∷ fs) vs d = (get f.0 d ≡ Some (written f.1 vs.0)) × AreUnder fs vs.1 d

-- the deed that is made of values
abbrev deed_of : (fs : List Keyed) → Maker fs → Values fs → Deed
deed_of [] deed vs = deed
deed_of (f ∷ fs) make vs = deed_of fs (make vs.0) vs.1

made-back : (fs : List Keyed) (make : Maker fs) (vs : Values fs) (d : Data) → AreUnder fs vs d → are_in fs vs ≡ true → made fs make d ≡ Some (deed_of fs make vs)
made-back [] deed vs d are all = refl
made-back (f ∷ fs) make vs d are all =
    let parts = and_parts (is_in f.1 vs.0) (are_in fs vs.1) all in
    let one : under f.0 (value f.1) d ≡ Some vs.0 = ap (option_and_then (value f.1)) are.0 ∙ value-back f.1 vs.0 parts.0 in
    ap (option_and_then (λ v. made fs (make v) d)) one ∙ made-back fs (make vs.0) vs.1 d are.1 parts.1

abbrev are_narrow : List Keyed → Bool
are_narrow [] = true
are_narrow (f ∷ fs) = is_narrow f.1 && are_narrow fs

within-members : (fs : List Keyed) (vs : Values fs) → are_narrow fs ≡ true → are_in fs vs ≡ true → AreWithin 2 (members fs vs)
within-members [] vs narrow all = tt
within-members (f ∷ fs) vs narrow all =
    let few = and_parts (is_narrow f.1) (are_narrow fs) narrow in
    let parts = and_parts (is_in f.1 vs.0) (are_in fs vs.1) all in
    (within-value f.1 vs.0 few.0 parts.0, within-members fs vs.1 few.1 parts.1)

-- ---- a deed in the object of its entry

abbrev entry_of : ℕ → Actor → Deed → Entry
entry_of at by d = record { at = at; by = by; deed = d }

-- what is seen by computing: the moment, the actor and the values of the deed stand under their keys, its name tells its shape, and its values make it again
record IsShown (at : ℕ) (by : Actor) (d : Deed) : Type 0 where
  pub at_under : get (codes "at") (entry_data (entry_of at by d)) ≡ Some (whole_data at)
  pub by_under : get (codes "by") (entry_data (entry_of at by d)) ≡ Some (whole_data (user_by by))
  pub under : AreUnder (said d).shape.fields (said d).values (entry_data (entry_of at by d))
  pub named : deed (entry_data (entry_of at by d)) ≡ of_shape (said d).shape (entry_data (entry_of at by d))
  pub narrow : are_narrow (said d).shape.fields ≡ true
  pub back : deed_of (said d).shape.fields (said d).shape.make (said d).values ≡ d

module _ (at : ℕ) (by : Actor) where
  shown : (d : Deed) → IsShown at by d
  unfolding entry_data
  shown (deeds.Submitted ack_due answers context expires feedback_due form mark readers receipt received version) = record { at_under = refl; by_under = refl; under = (refl, (refl, (refl, (refl, (refl, (refl, (refl, (refl, (refl, (refl, (refl, tt))))))))))); named = refl; narrow = refl; back = refl }
  shown deeds.Identity = record { at_under = refl; by_under = refl; under = tt; named = refl; narrow = refl; back = refl }
  shown (deeds.Comment internal text) = record { at_under = refl; by_under = refl; under = (refl, (refl, tt)); named = refl; narrow = refl; back = refl }
  shown (deeds.Label text) = record { at_under = refl; by_under = refl; under = (refl, tt); named = refl; narrow = refl; back = refl }
  shown (deeds.SetStatus status) = record { at_under = refl; by_under = refl; under = (refl, tt); named = refl; narrow = refl; back = refl }
  shown (deeds.Acknowledged day feedback_due) = record { at_under = refl; by_under = refl; under = (refl, (refl, tt)); named = refl; narrow = refl; back = refl }
  shown (deeds.Feedback text) = record { at_under = refl; by_under = refl; under = (refl, tt); named = refl; narrow = refl; back = refl }
  shown (deeds.Shared user) = record { at_under = refl; by_under = refl; under = (refl, tt); named = refl; narrow = refl; back = refl }
  shown (deeds.Unshared user) = record { at_under = refl; by_under = refl; under = (refl, tt); named = refl; narrow = refl; back = refl }
  shown (deeds.Transferred context readers) = record { at_under = refl; by_under = refl; under = (refl, (refl, tt)); named = refl; narrow = refl; back = refl }
  shown (deeds.Postponed expires) = record { at_under = refl; by_under = refl; under = (refl, tt); named = refl; narrow = refl; back = refl }
  shown (deeds.Extended feedback_due reason) = record { at_under = refl; by_under = refl; under = (refl, (refl, tt)); named = refl; narrow = refl; back = refl }
  shown (deeds.Asked reason stamp) = record { at_under = refl; by_under = refl; under = (refl, (refl, tt)); named = refl; narrow = refl; back = refl }
  shown (deeds.Granted effective reason request withheld) = record { at_under = refl; by_under = refl; under = (refl, (refl, (refl, (refl, tt)))); named = refl; narrow = refl; back = refl }
  shown (deeds.Denied reason request) = record { at_under = refl; by_under = refl; under = (refl, (refl, tt)); named = refl; narrow = refl; back = refl }
  shown (deeds.Revoked reason request) = record { at_under = refl; by_under = refl; under = (refl, (refl, tt)); named = refl; narrow = refl; back = refl }

-- ---- an entry

actor-back : (by : Actor) → is_actor by ≡ true → option_map actor (whole 0 256 (whole_data (user_by by))) ≡ Some by
actor-back actors.Reporter is = refl
actor-back (actors.User u) is =
    let parts = and_parts (nat_le 1 u) (nat_le u 256) is in
    let some = leb-true 1 u parts.0 in
    rw (most-back 256 u parts.1, ne_eqb u 0 (λ e. omega (arith, e, some))) refl

three : (e : Entry) → is_entry e ≡ true → (is_moment e.at ≡ true) × (is_actor e.by ≡ true) × (is_deed e.deed ≡ true)
three e is =
    let last = and_parts (is_moment e.at && is_actor e.by) (is_deed e.deed) is in
    let first = and_parts (is_moment e.at) (is_actor e.by) last.0 in
    (first.0, first.1, last.1)

pub entry-back : (e : Entry) → is_entry e ≡ true → entry (entry_data e) ≡ Some e
entry-back e is =
    let fits = three e is in
    let are = shown e.at e.by e.deed in
    let w = said e.deed in
    let at : under (codes "at") (whole 0 99_999_999_999) (entry_data e) ≡ Some e.at = ap (option_and_then (whole 0 99_999_999_999)) are.at_under ∙ most-back 99_999_999_999 e.at fits.0 in
    let by : option_map actor (under (codes "by") (whole 0 256) (entry_data e)) ≡ Some e.by = ap (λ o. option_map actor (option_and_then (whole 0 256) o)) are.by_under ∙ actor-back e.by fits.1 in
    let done : deed (entry_data e) ≡ Some e.deed = are.named ∙ made-back w.shape.fields w.shape.make w.values (entry_data e) are.under fits.2 ∙ ap Some are.back in
    rw (at, by, done) refl

within-actor : (n : ℕ) (by : Actor) → is_actor by ≡ true → IsWithin n (whole_data (user_by by))
within-actor n actors.Reporter is = within-number n (unsigned 0) (omega arith)
within-actor n (actors.User u) is = within-between n 1 256 u is (omega arith)

pub within-entry : (e : Entry) → is_entry e ≡ true → IsWithin 3 (entry_data e)
unfolding entry_data
within-entry e is =
    let fits = three e is in
    let w = said e.deed in
    let shows : List Member = (codes "at", whole_data e.at) ∷ (codes "by", whole_data (user_by e.by)) ∷ (codes "deed", string (deed_name e.deed)) ∷ deed_members e.deed in
    within-object 2 shows
    (within-count 2 99_999_999_999 e.at fits.0 (omega arith), (within-actor 2 e.by fits.1, (within-string 2 w.shape.name, within-members w.shape.fields w.values (shown e.at e.by e.deed).narrow fits.2)))
