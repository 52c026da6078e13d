-- The values of a row's object are read as what they show.
use Rattle.std.proofs.Common.{◌≡◌, ℕ, zero, suc, nat_le, Bool, true, false, List, [], ◌∷◌, map, Option, Some, None, ℤ, pos, negsuc, neg_ℤ, ◌≤ℤ◌, codes, refl, sym, ap, ◌∙◌, arith}
use Rattle.std.proofs.lemmas.Bool.{and_parts, eqb-true, ltb-true, leb-true, le-leb, false≢true}
use Rattle.std.proofs.lemmas.Int.{ints}
use Rattle.std.specs.List.{list_all}
use Rattle.std.specs.Prelude.{◌==◌, length, int_le}
use Rattle.std.specs.Result.{result_ok}
use Rattle.hex.specs.Hex.{IsBytes, encode_lower}
use Rattle.hex.proofs.HexLemmas.{decode_sized-encode_lower}
use Rattle.serde_json.specs.Data.{Data, string}
use Rattle.serde_json.specs.Find.{as_str}
use Rattle.serde_json.specs.View.{items_of}
use Rattle.wb_base.specs.AnswerList.{is_text}
use Rattle.wb_base.specs.DateTexts.{date_text, read_date}
use Rattle.wb_base.specs.Days.{date_at}
use Rattle.wb_base.specs.FormShape.{all_of, list_of as list_read}
use Rattle.wb_base.specs.declared.callers.Role.{Role}
use Rattle.wb_base.specs.declared.callers.Role.TheVariants as roles
use Rattle.wb_model.specs.declared.entry.Status.{Status}
use Rattle.wb_model.specs.declared.entry.Status.TheVariants as statuses
use Rattle.wb_model.specs.declared.registry.Rights.{Rights}
use Rattle.wb_model.specs.Bodies.{text, whole, role, rights, status}
use Rattle.wb_model.specs.Fits.{is_between, has_bytes, is_staff_role, is_settable}
use Rattle.wb_model.specs.Json.{date, list_of, whole as whole_data}
use Rattle.wb_model.specs.Names.{role_name, right_names, status_name}
use Rattle.wb_model.proofs.Receipts.{same_text}
use Rattle.wb_terms.proofs.ReadBack.{read_date-date_text}
use Rattle.wb_model.specs.Readable.{is_byte, are_bytes, are_dates, is_date}
use Rattle.wb_row_codec.specs.Good.{are_users, is_dated}
use Rattle.wb_json.specs.Dates.{date as date_read}
use Rattle.wb_row_codec.specs.Shapes.{bytes, day, users}

-- ---- texts and numbers

pub text-back : (low high : ℕ) (s : List ℕ) → has_bytes low high s ≡ true → text low high (string s) ≡ Some s
text-back low high s fits = rw fits refl

pub whole-back : (low high n : ℕ) → is_between low high n ≡ true → whole low high (whole_data n) ≡ Some n
whole-back low high n fits = rw fits refl

pub most-back : (high n : ℕ) → nat_le n high ≡ true → whole 0 high (whole_data n) ≡ Some n
most-back high n fits = let none : nat_le 0 n ≡ true = le-leb 0 n (omega arith) in rw (none, fits) refl

-- ---- bytes

byte_at : (xs : List ℕ) → list_all is_byte xs ≡ true → IsBytes xs
byte_at [] all i = omega arith
byte_at (x ∷ xs) all zero = ltb-true x 256 (and_parts (is_byte x) (list_all is_byte xs) all).0
byte_at (x ∷ xs) all (suc i) = byte_at xs (and_parts (is_byte x) (list_all is_byte xs) all).1 i

pub bytes-back : (n : ℕ) (xs : List ℕ) → are_bytes n xs ≡ true → bytes n (string (encode_lower xs)) ≡ Some xs
bytes-back n xs are =
    let parts = and_parts (length xs == n) (list_all is_byte xs) are in
    ap result_ok (decode_sized-encode_lower xs n (eqb-true (length xs) n parts.0) (byte_at xs parts.1))

-- ---- lists

pub items-back : {X : Type 0} (reading : Data → Option X) (show : X → Data) (test : X → Bool) → ((x : X) → test x ≡ true → reading (show x) ≡ Some x) → (xs : List X) → list_all test xs ≡ true → all_of reading (items_of (map show xs)) ≡ Some xs
items-back reading show test back [] all = refl
items-back reading show test back (x ∷ xs) all =
    let parts = and_parts (test x) (list_all test xs) all in
    rw (back x parts.0, items-back reading show test back xs parts.1) refl

pub users-back : (us : List ℕ) → are_users us ≡ true → users (list_of whole_data us) ≡ Some us
users-back us are = items-back (whole 1 256) whole_data (is_between 1 256) (whole-back 1 256) us are

pub texts-back : (ss : List (List ℕ)) → all_of as_str (items_of (map string ss)) ≡ Some ss
texts-back [] = refl
texts-back (s ∷ ss) = rw (texts-back ss) refl

-- ---- days

pub before_first : date_text (neg_ℤ (pos 1)) ≡ codes "1969-12-31"
unfolding date_at
before_first = refl

pub no_date : read_date (codes "1969-12-31") ≡ None
unfolding read_date
no_date = refl

-- no later day has that text
pub other_text : (d : ℤ) → read_date (date_text d) ≡ Some d → is_text (date_text d) (codes "1969-12-31") ≡ false
other_text d reads = by (is_text (date_text d) (codes "1969-12-31")) refl
  where
    by : (b : Bool) → is_text (date_text d) (codes "1969-12-31") ≡ b → b ≡ false
    by false is = refl
    by true is =
        let same : date_text d ≡ codes "1969-12-31" = same_text (date_text d) (codes "1969-12-31") is in
        let none : Some d ≡ None = sym reads ∙ (ap read_date same ∙ no_date) in
        absurd (cc (none))

pub at_least : (a b : ℤ) → int_le a b ≡ true → a ≤ℤ b
at_least a b le = grind (arith, ints, le)

pub date-back : (d : ℤ) → is_date d ≡ true → date_read (date d) ≡ Some d
date-back d is =
    let parts = and_parts (int_le (pos 0) d) (int_le d (pos 1_179_732)) is in
    read_date-date_text d (at_least (pos 0) d parts.0) (at_least d (pos 1_179_732) parts.1)

pub dates-back : (ds : List ℤ) → are_dates ds ≡ true → list_read date_read (list_of date ds) ≡ Some ds
dates-back ds are = items-back date_read date is_date date-back ds are

from_first : (d : ℤ) → int_le (neg_ℤ (pos 1)) d ≡ true → int_le d (pos 1_179_732) ≡ true → day (date d) ≡ Some d
from_first (pos n) low high =
    let reads = read_date-date_text (pos n) (at_least (pos 0) (pos n) (le-leb 0 n (omega arith))) (at_least (pos n) (pos 1_179_732) high) in
    rw (other_text (pos n) reads) reads
from_first (negsuc zero) low high = ap (λ s. day (string s)) before_first
from_first (negsuc (suc n)) low high = let le = leb-true (suc n) 0 low in absurd (omega (arith, le))

pub day-back : (d : ℤ) → is_dated d ≡ true → day (date d) ≡ Some d
day-back d is = let parts = and_parts (int_le (neg_ℤ (pos 1)) d) (int_le d (pos 1_179_732)) is in from_first d parts.0 parts.1

-- ---- names

pub role-back : (r : Role) → is_staff_role r ≡ true → role (string (role_name r)) ≡ Some r
role-back roles.Reporter is = absurd (false≢true is)
role-back roles.Recipient is = refl
role-back roles.Custodian is = refl
role-back roles.Admin is = refl

pub status-back : (s : Status) → is_settable s ≡ true → status (string (status_name s)) ≡ Some s
status-back statuses.New is = absurd (false≢true is)
status-back statuses.Opened is = refl
status-back statuses.Closed is = refl

abbrev these : Bool → Bool → Bool → Bool → Rights
these d p s t = record { delete = d; postpone = p; share = s; transfer = t }

rights_back : (d p s t : Bool) → rights (list_of string (right_names (these d p s t))) ≡ Some (these d p s t)
rights_back true true true true = refl
rights_back true true true false = refl
rights_back true true false true = refl
rights_back true true false false = refl
rights_back true false true true = refl
rights_back true false true false = refl
rights_back true false false true = refl
rights_back true false false false = refl
rights_back false true true true = refl
rights_back false true true false = refl
rights_back false true false true = refl
rights_back false true false false = refl
rights_back false false true true = refl
rights_back false false true false = refl
rights_back false false false true = refl
rights_back false false false false = refl

pub rights-back : (may : Rights) → rights (list_of string (right_names may)) ≡ Some may
rights-back may = rights_back may.delete may.postpone may.share may.transfer
