-- Answers in byte order of their fields' ids are read of the object that shows them.
use Rattle.std.proofs.Common.{◌≡◌, ℕ, ◌^◌, suc, Bool, true, false, not, nat_lt, List, [], ◌∷◌, map, Some, ℤ, pos, negsuc, neg_ℤ, refl, ap, ◌∙◌, arith}
use Rattle.std.specs.Prelude.{codes, ◌==◌, length, int_le}
use Rattle.std.proofs.lemmas.Bool.{and_parts, leb-true, lt-ltb, false≢true}
use Rattle.std.specs.List.{list_all}
use Rattle.std.specs.Ordering.{is_lt, nat_cmp}
use Rattle.std.specs.declared.cmp.Ordering.{Ordering}
use Rattle.std.specs.declared.cmp.Ordering.TheVariants.{Less, Equal, Greater}
use Rattle.std.specs.Cmp.Lexicographic.{slice_cmp}
use Rattle.serde_json.specs.Data.{Data, Members, no_members, member, put, string, unsigned, negative}
use Rattle.wb_base.specs.AnswerList.{Answered}
use Rattle.wb_base.specs.declared.answers.Given.{Given}
use Rattle.wb_base.specs.declared.answers.Given.TheVariants as given
use Rattle.wb_model.specs.Bodies.{answer, answers, entries}
use Rattle.wb_model.specs.Json.{members_of, given_data, answers_data}
use Rattle.wb_model.specs.Ordered.{are_ordered}
use Rattle.wb_model.specs.AnswerRanges.{is_answer, is_id_before, are_answers}
use Rattle.wb_row_codec.proofs.BackValues.{texts-back}
use Rattle.wb_row_codec.proofs.Canonical.{IsBefore, IsWithin, MembersAreWithin, within-any, within-flag, within-members, within-none, within-number, within-object, within-put, within-string}

-- ---- one answer

filled : (text : List ℕ) → not (length text == 0) ≡ true → answer (string text) ≡ Some (Some (given.Text text))
filled text some = by (length text == 0) refl some
  where
    by : (b : Bool) → (length text == 0) ≡ b → not b ≡ true → answer (string text) ≡ Some (Some (given.Text text))
    by true is none = absurd (false≢true none)
    by false is none = rw is refl

abbrev least : ℤ
least = neg_ℤ (pos 9_223_372_036_854_775_808)

abbrev most : ℤ
most = pos 9_223_372_036_854_775_807

answer-back : (g : Given) → is_answer g ≡ true → answer (given_data g) ≡ Some (Some g)
answer-back (given.Text text) is = filled text is
answer-back (given.List texts) is = rw (texts-back texts) refl
answer-back (given.Flag flag) is = refl
answer-back (given.Whole (pos n)) is =
    let le = leb-true n 9_223_372_036_854_775_807 (and_parts (int_le least (pos n)) (int_le (pos n) most) is).1 in
    let fits : nat_lt n (2 ^ 63) ≡ true = lt-ltb _ _ (omega (arith, le)) in
    rw fits refl
answer-back (given.Whole (negsuc n)) is = refl
answer-back (given.File name content) is = refl

within-answer : (n : ℕ) (g : Given) → is_answer g ≡ true → IsWithin (suc n) (given_data g)
within-answer n (given.Text text) is = within-string (suc n) text
within-answer n (given.List texts) is = within-any string n (λ text. within-string n text) texts
within-answer n (given.Flag flag) is = within-flag (suc n) flag
within-answer n (given.Whole (pos k)) is =
    let le = leb-true k 9_223_372_036_854_775_807 (and_parts (int_le least (pos k)) (int_le (pos k) most) is).1 in
    within-number (suc n) (unsigned k) (omega (arith, le))
within-answer n (given.Whole (negsuc k)) is =
    let le = leb-true k 9_223_372_036_854_775_807 (and_parts (int_le least (negsuc k)) (int_le (negsuc k) most) is).0 in
    within-number (suc n) (negative (negsuc k)) (omega (arith, le))
within-answer n (given.File name content) is = within-object n ((codes "data", string content) ∷ (codes "name", string name) ∷ []) (within-string n content, (within-string n name, tt))

-- ---- all of them

abbrev laid : Answered → Members
laid [] = no_members
laid (e ∷ es) = member e.0 (given_data e.1) (laid es)

is_less : (o : Ordering) → is_lt o ≡ true → o ≡ Less
is_less Less is = refl
is_less Equal is = absurd (false≢true is)
is_less Greater is = absurd (false≢true is)

before_laid : (x : List ℕ × Given) (es : Answered) → list_all (is_id_before x) es ≡ true → IsBefore x.0 (laid es)
before_laid x [] all = tt
before_laid x (e ∷ es) all =
    let parts = and_parts (is_id_before x e) (list_all (is_id_before x) es) all in
    (is_less (slice_cmp nat_cmp x.0 e.0) parts.0, before_laid x es parts.1)

put_first : (k : List ℕ) (d : Data) (ms : Members) → IsBefore k ms → put k d ms ≡ member k d ms
put_first k d no_members b = refl
put_first k d (member l e ms) b = rw b.0 refl

abbrev shown : List ℕ × Given → List ℕ × Data
shown entry = (entry.0, given_data entry.1)

laid_out : (es : Answered) → are_ordered is_id_before es ≡ true → members_of (map shown es) ≡ laid es
laid_out [] order = refl
laid_out (e ∷ es) order =
    let parts = and_parts (list_all (is_id_before e) es) (are_ordered is_id_before es) order in
    ap (put e.0 (given_data e.1)) (laid_out es parts.1) ∙ put_first e.0 (given_data e.1) (laid es) (before_laid e es parts.0)

entries_laid : (es : Answered) → list_all (λ entry. is_answer entry.1) es ≡ true → entries (laid es) ≡ Some es
entries_laid [] all = refl
entries_laid (e ∷ es) all =
    let parts = and_parts (is_answer e.1) (list_all (λ entry. is_answer entry.1) es) all in
    rw (answer-back e.1 parts.0, entries_laid es parts.1) refl

pub answers-back : (es : Answered) → are_answers es ≡ true → answers (answers_data es) ≡ Some es
answers-back es are =
    let parts = and_parts (list_all (λ entry. is_answer entry.1) es) (are_ordered is_id_before es) are in
    ap entries (laid_out es parts.1) ∙ entries_laid es parts.0

all_within : (n : ℕ) (es : Answered) → list_all (λ entry. is_answer entry.1) es ≡ true → MembersAreWithin (suc n) (members_of (map shown es))
all_within n [] all = within-none (suc n)
all_within n (e ∷ es) all =
    let parts = and_parts (is_answer e.1) (list_all (λ entry. is_answer entry.1) es) all in
    within-put (suc n) e.0 (given_data e.1) (members_of (map shown es)) (within-answer n e.1 parts.0) (all_within n es parts.1)

pub within-answers : (n : ℕ) (es : Answered) → are_answers es ≡ true → IsWithin (suc (suc n)) (answers_data es)
within-answers n es are = within-members (suc n) (members_of (map shown es)) (all_within n es (and_parts (list_all (λ entry. is_answer entry.1) es) (are_ordered is_id_before es) are).0)
