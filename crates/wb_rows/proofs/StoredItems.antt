-- What rows stand for says what is in its ranges: texts and counts, answers in byte order of their ids, salts and digests of their lengths.
use Rattle.std.proofs.Common.{◌≡◌, ℕ, ◌*◌, ◌<◌, suc, Bool, true, false, cond, List, [], ◌∷◌, length, Option, Some, None, Result, Ok, Err, refl, sym, ap, ◌∙◌, subst, arith, ℤ, pos, neg_ℤ, codes}
use Rattle.std.specs.Prelude.{⊤, if◌then◌else◌, nat_le, ◌&&◌, ◌==◌, option_map, option_and_then, int_le}
use Rattle.std.specs.List.{list_all}
use Rattle.std.specs.Result.{result_ok}
use Rattle.std.proofs.lemmas.Bool.{and_parts, and_from}
use Rattle.std.proofs.lemmas.Int.{ints}
use Rattle.std.proofs.lemmas.Bool.Decides.{nat_tests}
use Rattle.hex.specs.Hex.{IsBytes, decode_sized}
use Rattle.hex.proofs.HexLemmas.{decode_sized-ok, decode_sized-twice, decode_of-ok}
use Rattle.serde_json.specs.Data.{Data, null, boolean, number, string, array, object, Items, no_items, item}
use Rattle.serde_json.specs.Find.{get, as_str, as_bool, as_number, as_u64, as_array}
use Rattle.serde_json.specs.Read.{read}
use Rattle.wb_base.specs.declared.words.Digest.{Digest}
use Rattle.wb_base.specs.declared.words.Salt.{Salt}
use Rattle.wb_base.specs.AnswerList.{Answered, is_text}
use Rattle.wb_base.specs.Calendars.{Calendar, are_holidays}
use Rattle.wb_base.specs.DateTexts.{read_date}
use Rattle.wb_base.specs.FormShape.{keep, optional, all_of, list_of, flag_at}
use Rattle.wb_base.specs.declared.form.Format.{Format}
use Rattle.wb_base.specs.declared.rows.Key.{Key}
use Rattle.wb_base.specs.declared.rows.Row.{Row}
use Rattle.wb_row_codec.specs.declared.item.Item.{Item}
use Rattle.wb_row_codec.specs.declared.item.Item.TheVariants as items
use Rattle.wb_row_codec.specs.Items.{item_row, where_in, of_kind, shaped, is_row, item_of}
use Rattle.wb_row_codec.specs.SaidDeeds as said
use Rattle.wb_model.specs.DeedFields as table
use Rattle.wb_model.specs.DeedFields.{Field, Value, Keyed, Values, Maker, Shape, Whole, Text, TextOrNull, Date, Flag, Hash, Users, Answers, StatusName}
use Rattle.wb_json.specs.Dates.{date as date_read}
use Rattle.wb_row_codec.specs.Shapes as shapes
use Rattle.wb_model.specs.declared.entry.Entry.{Entry}
use Rattle.wb_model.specs.declared.entry.Status.{Status}
use Rattle.wb_model.specs.declared.entry.Status.TheVariants as statuses
use Rattle.wb_model.specs.declared.numbering.Numbering.{Numbering}
use Rattle.wb_model.specs.declared.registry.UserItem.{UserItem}
use Rattle.wb_model.specs.declared.entry.Deed.{Deed}
use Rattle.wb_model.specs.Bodies.{under, text, whole, role, rights, status, status_named, answers}
use Rattle.wb_model.specs.Fits.{is_between, has_bytes, is_settable}
use Rattle.wb_rows.specs.declared.faults.RowFault.{RowFault}
use Rattle.wb_rows.specs.ReadItems.{with_first, items_in}
use Rattle.wb_model.specs.AnswerRanges.{are_answers}
use Rattle.wb_model.specs.Readable.{is_byte, are_bytes, are_dates, is_date, is_count, is_withheld, is_stored, is_stored_tenant}
use Rattle.wb_model.proofs.ReadAnswers.{text_read, got_read, answers_fit}
use Rattle.wb_terms.proofs.ReadExactly.{read_date-bounds}
use Rattle.wb_base.proofs.Options.{then_some, map_some, kept}

-- ---- the parts of a row

under_some : {X : Type 0} (P : X → Type 0) (reading : Data → Option X) (key : List ℕ) → ((v : Data) (x : X) → reading v ≡ Some x → P x) → (d : Data) (x : X) → under key reading d ≡ Some x → P x
under_some P reading key h d x e = let k = then_some reading (get key d) x e in h k.0 x k.2

text_in : (low high : ℕ) (key : List ℕ) (d : Data) (t : List ℕ) → under key (text low high) d ≡ Some t → has_bytes low high t ≡ true
text_in low high key d t e = under_some (λ x. has_bytes low high x ≡ true) (text low high) key (λ v x f. let k = then_some (keep (has_bytes low high)) (as_str v) x f in (kept (has_bytes low high) k.0 x k.2).0) d t e

whole_in : (low high : ℕ) (key : List ℕ) (d : Data) (n : ℕ) → under key (whole low high) d ≡ Some n → is_between low high n ≡ true
whole_in low high key d n e = under_some (λ x. is_between low high x ≡ true) (whole low high) key (λ v x f. let k = then_some (keep (is_between low high)) (option_and_then as_u64 (as_number v)) x f in (kept (is_between low high) k.0 x k.2).0) d n e

most_in : (high n : ℕ) → is_between 0 high n ≡ true → nat_le n high ≡ true
most_in high n e = (and_parts (nat_le 0 n) (nat_le n high) e).1

all_bytes : (xs : List ℕ) → IsBytes xs → list_all is_byte xs ≡ true
all_bytes [] is = refl
all_bytes (x ∷ xs) is = and_from _ _ (let lt : x < 256 = is 0 in grind (arith, nat_tests, lt)) (all_bytes xs (λ i. is (suc i)))

ok_some : {X E : Type 0} (r : Result X E) (x : X) → result_ok r ≡ Some x → r ≡ Ok x
ok_some (Ok y) x e = let same : y ≡ x = cc in ap Ok same
ok_some (Err y) x e = absurd cc

bytes_in : (n : ℕ) (v : Data) (x : List ℕ) → shapes.bytes n v ≡ Some x → are_bytes n x ≡ true
bytes_in n v x e =
    let k = then_some (λ digits. result_ok (decode_sized digits n)) (as_str v) x e in
    let ok = ok_some (decode_sized k.0 n) x k.2 in
    let double = decode_sized-ok k.0 n x ok in
    let parts = decode_of-ok k.0 x (sym (decode_sized-twice k.0 n double) ∙ ok) in
    let twice : length k.0 ≡ 2 * length x = parts.2 in
    let same : length x ≡ n = omega (arith, double, twice) in
    and_from _ _ (grind (arith, nat_tests, same)) (all_bytes x parts.3)

digest_in : (v : Data) (x : Digest) → shapes.digest v ≡ Some x → are_bytes 32 x.0 ≡ true
digest_in v x e = let k = map_some (λ (y : List ℕ). record { 0 = y }) (shapes.bytes 32 v) x e in subst (λ (z : Digest). are_bytes 32 z.0 ≡ true) k.2 (bytes_in 32 v k.0 k.1)

salt_in : (v : Data) (x : Salt) → shapes.salt v ≡ Some x → are_bytes 16 x.0 ≡ true
salt_in v x e = let k = map_some (λ (y : List ℕ). record { 0 = y }) (shapes.bytes 16 v) x e in subst (λ (z : Salt). are_bytes 16 z.0 ≡ true) k.2 (bytes_in 16 v k.0 k.1)

-- ---- what a row stands for

-- what is stored of an item is in its range
abbrev pub is_stored_item : Item → Bool
is_stored_item (items.Settings x) = is_stored_tenant x
is_stored_item (items.Numbering x) = is_count x.numbering.last
is_stored_item (items.User x) = are_bytes 32 x.secret.0
is_stored_item (items.Form x) = true
is_stored_item (items.Context x) = true
is_stored_item (items.Entry x) = is_stored x.entry.deed
is_stored_item (items.Sealed x) = are_answers x.answers

abbrev Is : {X : Type 0} → (X → Bool) → Option X → Type 0
Is P None = ⊤
Is P (Some x) = P x ≡ true

-- what is given, if anything is, passes
record Only {X : Type 0} (P : X → Bool) (o : Option X) : Type 0 where
  given : Is P o

only_is : {X : Type 0} (P : X → Bool) (o : Option X) (x : X) → Only P o → o ≡ Some x → P x ≡ true
only_is P o x only e = subst (Is P) e only.given

then_only : {X Y : Type 0} (P : Y → Bool) (f : X → Option Y) (o : Option X) → ((x : X) → o ≡ Some x → Only P (f x)) → Only P (option_and_then f o)
then_only P f None h = record { given = tt }
then_only P f (Some x) h = h x refl

map_only : {X Y : Type 0} (P : Y → Bool) (f : X → Y) (o : Option X) → ((x : X) → o ≡ Some x → P (f x) ≡ true) → Only P (option_map f o)
map_only P f None h = record { given = tt }
map_only P f (Some x) h = record { given = h x refl }

if_only : {X : Type 0} (P : X → Bool) (b : Bool) (o r : Option X) → Only P o → Only P r → Only P (if b then o else r)
if_only P true o r p q = p
if_only P false o r p q = q

none_only : {X : Type 0} (P : X → Bool) → Only P None
none_only P = record { given = tt }

abbrev long_secret : UserItem → Bool
long_secret x = are_bytes 32 x.secret.0

abbrev short_last : Numbering → Bool
short_last x = is_count x.last

dates_in : (v : Data) (days : List ℤ) → list_of date_read v ≡ Some days → are_dates days ≡ true
dates_in v days e = let k = then_some (all_of date_read) (as_array v) days e in of k.0 days k.2
  where
    one : (v : Data) (day : ℤ) → date_read v ≡ Some day → is_date day ≡ true
    one v day e =
        let k = then_some read_date (as_str v) day e in
        let bounds = read_date-bounds k.0 day k.2 in
        and_from (int_le (pos 0) day) (int_le day (pos 1_179_732)) (let low = bounds.0 in grind (arith, ints, low)) (let high = bounds.1 in grind (arith, ints, high))

    of : (ds : Items) (days : List ℤ) → all_of date_read ds ≡ Some days → are_dates days ≡ true
    of no_items days e = let same : [] ≡ days = cc in subst (λ x. are_dates x ≡ true) same refl
    of (item d ds) days e =
        let first = then_some (λ day. option_map (λ more. day ∷ more) (all_of date_read ds)) (date_read d) days e in
        let rest = map_some (λ more. first.0 ∷ more) (all_of date_read ds) days first.2 in
        subst (λ x. are_dates x ≡ true) rest.2 (and_from _ _ (one d first.0 first.1) (of ds rest.0 rest.1))

listed_in : (o : Option Data) (days : List ℤ) → optional [] (list_of date_read) o ≡ Some days → are_dates days ≡ true
listed_in None days e = let same : [] ≡ days = cc in subst (λ x. are_dates x ≡ true) same refl
listed_in (Some v) days e = dates_in v days e

calendar_in : (d : Data) (own : Calendar) → shapes.calendar d ≡ Some own → are_dates own.holidays ≡ true
calendar_in d own e =
    let days = then_some (λ days. option_map (λ rolls. record { roll = rolls; holidays = days }) (flag_at (codes "roll") d)) (option_and_then (keep are_holidays) (optional [] (list_of date_read) (get (codes "holidays") d))) own e in
    let listed = then_some (keep are_holidays) (optional [] (list_of date_read) (get (codes "holidays") d)) days.0 days.1 in
    let same = (kept are_holidays listed.0 days.0 listed.2).1 in
    let made = map_some (λ (rolls : Bool). record { roll = rolls; holidays = days.0 }) (flag_at (codes "roll") d) own days.2 in
    subst (λ (c : Calendar). are_dates c.holidays ≡ true) made.2 (subst (λ x. are_dates x ≡ true) same (listed_in (get (codes "holidays") d) listed.0 listed.1))

settings_only : (t : ℕ) (d : Data) → Only is_stored_tenant (shapes.settings t d)
settings_only t d = then_only is_stored_tenant _ (flag_at (codes "external") d) (λ external a. then_only is_stored_tenant _ (shapes.calendar d) (λ own b. then_only is_stored_tenant _ (under (codes "name") (text 1 128) d) (λ name e. then_only is_stored_tenant _ (under (codes "notice_days") (whole 0 30) d) (λ days f. then_only is_stored_tenant _ (under (codes "offset") (shapes.signed (neg_ℤ (pos 720)) (pos 840)) d) (λ offset g. then_only is_stored_tenant _ (under (codes "quota") (whole 1 100_000) d) (λ quota h.
    map_only is_stored_tenant (λ (x : Salt). record { tenant = t; external = external; calendar = own; name = name; notice_days = days; offset = offset; quota = quota; salt = x }) (under (codes "salt") shapes.salt d) (λ salt i. and_from _ _ (under_some (λ (x : Salt). are_bytes 16 x.0 ≡ true) shapes.salt (codes "salt") salt_in d salt i) (calendar_in d own b))))))))

numbering_only : (d : Data) → Only short_last (shapes.numbering d)
numbering_only d = then_only short_last _ (under (codes "at") (whole 0 99_999_999_999) d) (λ at e. then_only short_last _ (under (codes "drawn") (whole 0 4_294_967_295) d) (λ drawn f.
    map_only short_last (λ (last : ℕ). record { at = at; drawn = drawn; last = last }) (under (codes "last") (whole 0 4_294_967_295) d) (λ last g. most_in 4_294_967_295 last (whole_in 0 4_294_967_295 (codes "last") d last g))))

user_only : (t id : ℕ) (d : Data) → Only long_secret (shapes.user t id d)
user_only t id d = then_only long_secret _ (under (codes "disabled") (whole 0 10_000) d) (λ disabled e. then_only long_secret _ (under (codes "enabled") as_bool d) (λ enabled f. then_only long_secret _ (under (codes "may") rights d) (λ may g. then_only long_secret _ (under (codes "name") (text 1 64) d) (λ name h. then_only long_secret _ (under (codes "role") role d) (λ of_user i.
    map_only long_secret (λ (secret : Digest). record { tenant = t; id = id; disabled = disabled; enabled = enabled; may = may; name = name; role = of_user; secret = secret }) (under (codes "secret") shapes.digest d) (λ secret j. under_some (λ (x : Digest). are_bytes 32 x.0 ≡ true) shapes.digest (codes "secret") digest_in d secret j))))))

-- ---- fields of deeds

-- what is stored of a value is in its range: a number has its bound above, a text and a list of bytes their lengths
abbrev is_kept : (f : Field) → Value f → Bool
is_kept (Whole least most) n = nat_le n most
is_kept (Text least most) text = has_bytes least most text
is_kept (TextOrNull least most) None = true
is_kept (TextOrNull least most) (Some text) = has_bytes least most text
is_kept Hash digest = are_bytes 32 digest.0
is_kept Answers given = are_answers given
is_kept StatusName set = is_settable set
is_kept _ value = true

null_or_text : (least most : ℕ) (v : Data) (t : Option (List ℕ)) → said.text_or_null least most v ≡ Some t → is_kept (TextOrNull least most) t ≡ true
null_or_text least most null t e = let same : None ≡ t = cc in ap (is_kept (TextOrNull least most)) (sym same)
null_or_text least most (string s) t e =
    let k = map_some Some (text least most (string s)) t e in
    let j = then_some (keep (has_bytes least most)) (as_str (string s)) k.0 k.1 in
    subst (λ x. is_kept (TextOrNull least most) x ≡ true) k.2 (kept (has_bytes least most) j.0 k.0 j.2).0
null_or_text least most (boolean b) t e = absurd cc
null_or_text least most (number n) t e = absurd cc
null_or_text least most (array ds) t e = absurd cc
null_or_text least most (object ms) t e = absurd cc

status_only : (v : Data) (s : Status) → status v ≡ Some s → is_settable s ≡ true
status_only v s e = let k = then_some status_named (as_str v) s e in by (is_text k.0 (codes "opened")) (is_text k.0 (codes "closed")) k.2
  where
    by : (a b : Bool) → cond a (Some statuses.Opened) (cond b (Some statuses.Closed) None) ≡ Some s → is_settable s ≡ true
    by true b f = (let same : statuses.Opened ≡ s = cc in ap is_settable (sym same))
    by false true f = (let same : statuses.Closed ≡ s = cc in ap is_settable (sym same))
    by false false f = absurd cc

-- the values are so
abbrev AreKept : (fs : List Keyed) → Values fs → Type 0
AreKept [] vs = ⊤
AreKept (f ∷ fs) vs = (is_kept f.1 vs.0 ≡ true) × AreKept fs vs.1

-- the deed that is made of values
abbrev deed_of : (fs : List Keyed) → Maker fs → Values fs → Deed
deed_of [] deed vs = deed
deed_of (f ∷ fs) make vs = deed_of fs (make vs.0) vs.1

withheld_kept : (why : Option (List ℕ)) → is_kept (TextOrNull 1 1_024) why ≡ true → is_withheld why ≡ true
withheld_kept None is = refl
withheld_kept (Some text) is = is

abbrev stored_entry : Entry → Bool
stored_entry e = is_stored e.deed

module _ (source : List ℕ) (d : Data) (is_read : read source ≡ Some d) where
  value_kept : (key : List ℕ) (f : Field) (v : Value f) → under key (said.value f) d ≡ Some v → is_kept f v ≡ true
  value_kept key (Whole least most) n e = (and_parts (nat_le least n) (nat_le n most) (whole_in least most key d n e)).1
  value_kept key (Text least most) t e = text_in least most key d t e
  value_kept key (TextOrNull least most) t e = under_some (λ (x : Option (List ℕ)). is_kept (TextOrNull least most) x ≡ true) (said.text_or_null least most) key (null_or_text least most) d t e
  value_kept key Hash x e = under_some (λ (y : Digest). are_bytes 32 y.0 ≡ true) shapes.digest key digest_in d x e
  value_kept key Answers a e = let k = then_some answers (get key d) a e in answers_fit k.0 a (got_read key d k.0 (text_read source d is_read) k.1) k.2
  value_kept key StatusName s e = under_some (λ (x : Status). is_settable x ≡ true) status key status_only d s e
  value_kept key Date day e = refl
  value_kept key Flag flag e = refl
  value_kept key Users us e = refl

  -- what is read under the keys of a deed makes one that is stored as it may be, where values that are so make such a one
  made_only : (fs : List Keyed) (make : Maker fs) → ((vs : Values fs) → AreKept fs vs → is_stored (deed_of fs make vs) ≡ true) → Only is_stored (said.made fs make d)
  made_only [] deed h = record { given = h tt tt }
  made_only (f ∷ fs) make h =
      then_only is_stored (λ v. said.made fs (make v) d) (under f.0 (said.value f.1) d) (λ v e. made_only fs (make v) (λ vs are. h (v, vs) (value_kept f.0 f.1 v e, are)))

  abbrev Each : List Shape → Type 0
  Each [] = ⊤
  Each (s ∷ ss) = Only is_stored (said.of_shape s d) × Each ss

  of_name : (ss : List Shape) (name : List ℕ) → Each ss → Only is_stored (said.by_name ss name d)
  of_name [] name each = none_only is_stored
  of_name (s ∷ ss) name each = if_only is_stored (is_text name s.name) (said.of_shape s d) (said.by_name ss name d) each.0 (of_name ss name each.1)

  by_shape : (s : Shape) → ((vs : Values s.fields) → AreKept s.fields vs → is_stored (deed_of s.fields s.make vs) ≡ true) → Only is_stored (said.of_shape s d)
  by_shape s h = made_only s.fields s.make h

  requests_only : Each said.request_deeds
  requests_only = (
    by_shape table.asked (λ vs are. and_from _ _ are.0 are.1.0),
    (
      by_shape table.granted (λ vs are. and_from _ _ (and_from _ _ are.1.0 are.1.1.0) (withheld_kept vs.1.1.1.0 are.1.1.1.0)),
      (
        by_shape table.denied (λ vs are. and_from _ _ are.0 are.1.0),
        (by_shape table.revoked (λ vs are. and_from _ _ are.0 are.1.0), tt),
      ),
    ),
  )

  follow_only : Each said.follow_deeds
  follow_only = (
    by_shape table.acknowledged (λ vs are. refl),
    (
      by_shape table.feedback (λ vs are. are.0),
      (
        by_shape table.shared (λ vs are. refl),
        (
          by_shape table.unshared (λ vs are. refl),
          (
            by_shape table.transferred (λ vs are. refl),
            (
              by_shape table.postponed (λ vs are. refl),
              (by_shape table.extended (λ vs are. are.1.0), requests_only),
            ),
          ),
        ),
      ),
    ),
  )

  deeds_only : Each said.all_deeds
  deeds_only = (
    by_shape table.submitted (λ vs are. and_from _ _ are.1.0 are.1.1.1.1.1.1.1.1.0),
    (
      by_shape table.identity (λ vs are. refl),
      (
        by_shape table.comment (λ vs are. are.1.0),
        (
          by_shape table.label (λ vs are. are.0),
          (by_shape table.set_status (λ vs are. are.0), follow_only),
        ),
      ),
    ),
  )

  named_only : Only is_stored (said.deed d)
  named_only = then_only is_stored (λ (name : List ℕ). said.by_name said.all_deeds name d) (under (codes "deed") as_str d) (λ name e. of_name said.all_deeds name deeds_only)

  entry_only : Only stored_entry (said.entry d)
  entry_only = then_only stored_entry _ (under (codes "at") (whole 0 99_999_999_999) d) (λ at e. then_only stored_entry _ (option_map said.actor (under (codes "by") (whole 0 256) d)) (λ by f.
      map_only stored_entry (λ (done : Deed). record { at = at; by = by; deed = done }) (said.deed d) (λ done g. only_is is_stored (said.deed d) done named_only g)))

  kind_only : (format : Format) (kind t a b : ℕ) → Only is_stored_item (of_kind format kind t a b d)
  kind_only format kind t a b = by (kind == 1) (kind == 2) (kind == 3) (kind == 4) (kind == 5) (kind == 6) (kind == 7)
    where
      one : Only is_stored_item (option_map items.Settings (shapes.settings t d))
      one = map_only is_stored_item items.Settings (shapes.settings t d) (λ x e. only_is is_stored_tenant (shapes.settings t d) x (settings_only t d) e)

      two : Only is_stored_item (option_map (λ (n : Numbering). items.Numbering (record { tenant = t; numbering = n })) (shapes.numbering d))
      two = map_only is_stored_item (λ (n : Numbering). items.Numbering (record { tenant = t; numbering = n })) (shapes.numbering d) (λ x e. only_is short_last (shapes.numbering d) x (numbering_only d) e)

      in_range : (c : Bool) (o : Option Item) → Only is_stored_item o → Only is_stored_item (where_in c o)
      in_range true o h = h
      in_range false o h = none_only is_stored_item

      three : Only is_stored_item (option_map items.User (shapes.user t a d))
      three = map_only is_stored_item items.User (shapes.user t a d) (λ x e. only_is long_secret (shapes.user t a d) x (user_only t a d) e)

      four : Only is_stored_item (option_map items.Form (shapes.form format t a b d))
      four = map_only is_stored_item items.Form (shapes.form format t a b d) (λ x e. refl)

      five : Only is_stored_item (option_map items.Context (shapes.context t a d))
      five = map_only is_stored_item items.Context (shapes.context t a d) (λ x e. refl)

      six : Only is_stored_item (option_map (λ (e : Entry). items.Entry (record { tenant = t; number = a; place = b; entry = e })) (said.entry d))
      six = map_only is_stored_item (λ (e : Entry). items.Entry (record { tenant = t; number = a; place = b; entry = e })) (said.entry d) (λ x e. only_is stored_entry (said.entry d) x entry_only e)

      seven : Only is_stored_item (option_map (λ (given : Answered). items.Sealed (record { tenant = t; number = a; answers = given })) (answers d))
      seven = map_only is_stored_item (λ (given : Answered). items.Sealed (record { tenant = t; number = a; answers = given })) (answers d) (λ x e. answers_fit d x (text_read source d is_read) e)

      by : (k1 k2 k3 k4 k5 k6 k7 : Bool) → Only is_stored_item (
          if k1 then option_map items.Settings (shapes.settings t d)
          else if k2 then option_map (λ (n : Numbering). items.Numbering (record { tenant = t; numbering = n })) (shapes.numbering d)
          else if k3 then where_in (is_between 1 256 a) (option_map items.User (shapes.user t a d))
          else if k4 then where_in (is_between 1 16 a && is_between 1 99 b) (option_map items.Form (shapes.form format t a b d))
          else if k5 then where_in (is_between 1 64 a) (option_map items.Context (shapes.context t a d))
          else if k6 then where_in (nat_le 1 a && nat_le 1 b) (option_map (λ (e : Entry). items.Entry (record { tenant = t; number = a; place = b; entry = e })) (said.entry d))
          else if k7 then where_in (nat_le 1 a) (option_map (λ (given : Answered). items.Sealed (record { tenant = t; number = a; answers = given })) (answers d))
          else None)
      by true k2 k3 k4 k5 k6 k7 = one
      by false true k3 k4 k5 k6 k7 = two
      by false false true k4 k5 k6 k7 = in_range (is_between 1 256 a) _ three
      by false false false true k5 k6 k7 = in_range (is_between 1 16 a && is_between 1 99 b) _ four
      by false false false false true k6 k7 = in_range (is_between 1 64 a) _ five
      by false false false false false true k7 = in_range (nat_le 1 a && nat_le 1 b) _ six
      by false false false false false false true = in_range (nat_le 1 a) _ seven
      by false false false false false false false = none_only is_stored_item

  shaped_only : (format : Format) (k : Key) → Only is_stored_item (shaped format k d)
  shaped_only format k = by (is_between 1 64 k.tenant)
    where
      by : (b : Bool) → Only is_stored_item (where_in b (of_kind format k.kind k.tenant k.a k.b d))
      by true = kind_only format k.kind k.tenant k.a k.b
      by false = none_only is_stored_item

pub item_stored : (format : Format) (row : Row) (x : Item) → item_of format row ≡ Some x → is_stored_item x ≡ true
unfolding item_of
item_stored format row x e =
    let a = then_some (keep (λ item. is_row (item_row format item) row)) (option_and_then (shaped format row.key) (read row.text)) x e in
    let b = then_some (shaped format row.key) (read row.text) a.0 a.1 in
    let same : a.0 ≡ x = (kept (λ item. is_row (item_row format item) row) a.0 x a.2).1 in
    subst (λ y. is_stored_item y ≡ true) same (only_is is_stored_item (shaped format row.key b.0) a.0 (shaped_only row.text b.0 b.1 format row.key) b.2)

pub items_stored : (format : Format) (rows : List Row) (all : List Item) → items_in format rows ≡ Ok all → list_all is_stored_item all ≡ true
items_stored format [] all e = let same : [] ≡ all = cc in subst (λ xs. list_all is_stored_item xs ≡ true) same refl
items_stored format (row ∷ rows) all e = by (item_of format row) refl (items_in format rows) refl e (items_stored format rows)
  where
    by : (o : Option Item) → item_of format row ≡ o → (r : Result (List Item) RowFault) → items_in format rows ≡ r → with_first o row.key r ≡ Ok all → ((xs : List Item) → items_in format rows ≡ Ok xs → list_all is_stored_item xs ≡ true) → list_all is_stored_item all ≡ true
    by None a r b f ih = absurd cc
    by (Some x) a (Err y) b f ih = absurd cc
    by (Some x) a (Ok xs) b f ih = let same : x ∷ xs ≡ all = cc in subst (λ ys. list_all is_stored_item ys ≡ true) same (and_from _ _ (item_stored format row x a) (ih xs b))
