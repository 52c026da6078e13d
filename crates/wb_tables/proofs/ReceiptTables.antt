-- The table of receipts has those of the reports.
use Rattle.std.proofs.Common.{◌≡◌, ℕ, ◌++◌, Bool, true, false, cond, List, [], ◌∷◌, length, map, find, Option, Some, None, refl, sym, ap, ◌∙◌, arith}
use Rattle.std.specs.Prelude.{◌==◌, ◌&&◌, ◌||◌, fold, is_some, not, unwrap_or, if◌then◌else◌}
use Rattle.std.specs.Cmp.Lexicographic.{bytes_decides}
use Rattle.std.specs.List.{list_all}
use Rattle.std.specs.Option.{option_map}
use Rattle.std.proofs.lemmas.Bool.Decides.{nat_tests}
use Rattle.std.proofs.lemmas.List.Folds.{list_all-append, list_any-append}
use Rattle.wb_access.specs.Receipts.{Receipt, number_of}
use Rattle.wb_base.specs.Calendars.{Calendar}
use Rattle.wb_base.specs.Secrets.{same_digest}
use Rattle.wb_base.specs.AnswerList.{is_text}
use Rattle.wb_base.specs.declared.words.Digest.{Digest}
use Rattle.wb_model.specs.declared.act.Act.{Act}
use Rattle.wb_model.specs.declared.act.Act.TheVariants as acts
use Rattle.wb_model.specs.declared.act.Move.{Move}
use Rattle.wb_model.specs.declared.act.Move.TheVariants as moves
use Rattle.wb_model.specs.declared.entry.Entry.{Entry}
use Rattle.wb_model.specs.Acts.{act_deed}
use Rattle.wb_model.specs.Host.{noted}
use Rattle.wb_model.specs.Moves.{move_deed}
use Rattle.wb_model.specs.Opened.{Apart}
use Rattle.wb_model.specs.Tables.{Case, has_number, has_receipt, report, with_receipt, others}
use Rattle.wb_model.specs.Trails.{Submission, receipt, submission_in, submitted}
use Rattle.wb_model.proofs.Found.{find_true}
use Rattle.wb_model.proofs.Leaving.{apart_filter, apart_map, apart_push}
use Rattle.wb_model.proofs.LiveActs.{silent_receipt}
use Rattle.wb_tables.specs.Receipted.{AreReceipted, HasOwnReceipt, is_submitted, has_submission}
use Rattle.wb_tables.proofs.Indexes.{all_filter, first_and, second_and}
use Rattle.wb_tables.proofs.Lookups.{find_kept, kept}

abbrev number_at : Case → ℕ
number_at c = c.number

-- ---- the receipt of a trail

abbrev last_receipt : List ℕ → List Entry → List ℕ
last_receipt before trail = fold (λ (d : List ℕ) (e : Entry). unwrap_or (option_map (λ (s : Submission). s.receipt) (submission_in e.deed)) d) before trail

abbrev some_receipt : Option (List ℕ) → List Entry → Option (List ℕ)
some_receipt before trail = fold (λ (o : Option (List ℕ)) (e : Entry). unwrap_or (option_map (λ (s : Submission). Some s.receipt) (submission_in e.deed)) o) before trail

said_on : (trail : List Entry) (before : List ℕ) → some_receipt (Some before) trail ≡ Some (last_receipt before trail)
said_on [] before = refl
said_on (e ∷ es) before = by (submission_in e.deed) (λ d. said_on es d)
  where
    by : (o : Option Submission) → ((d : List ℕ) → some_receipt (Some d) es ≡ Some (last_receipt d es)) → some_receipt (unwrap_or (option_map (λ (s : Submission). Some s.receipt) o) (Some before)) es ≡ Some (last_receipt (unwrap_or (option_map (λ (s : Submission). s.receipt) o) before) es)
    by None rest = rest before
    by (Some s) rest = rest s.receipt

-- it is there where a submission is
pub submitted_is : (trail : List Entry) → is_submitted trail ≡ true → submitted (λ (s : Submission). Some s.receipt) None trail ≡ Some (receipt trail)
submitted_is [] e = absurd (grind (arith, e))
submitted_is (x ∷ xs) e = by (submission_in x.deed) (λ f. submitted_is xs f) e
  where
    by : (o : Option Submission) → (is_submitted xs ≡ true → some_receipt None xs ≡ Some (last_receipt [] xs)) → (is_some o || is_submitted xs) ≡ true → some_receipt (unwrap_or (option_map (λ (s : Submission). Some s.receipt) o) None) xs ≡ Some (last_receipt (unwrap_or (option_map (λ (s : Submission). s.receipt) o) []) xs)
    by None rest f = rest f
    by (Some s) rest f = said_on xs s.receipt

-- so there is one, and it is the trail's
pub given_is : (entries trail : List Entry) (d : Digest) → entries ≡ trail → is_submitted trail ≡ true → Some d.0 ≡ submitted (λ (s : Submission). Some s.receipt) None entries → d.0 ≡ receipt trail
given_is entries trail d same there is =
    let both : Some d.0 ≡ Some (receipt trail) = is ∙ (ap (submitted (λ (s : Submission). Some s.receipt) None) same ∙ submitted_is trail there) in
    cc both

pub given_some : (entries trail : List Entry) → entries ≡ trail → is_submitted trail ≡ true → None ≡ submitted (λ (s : Submission). Some s.receipt) None entries → ⊥
given_some entries trail same there is =
    let none : None ≡ Some (receipt trail) = is ∙ (ap (submitted (λ (s : Submission). Some s.receipt) None) same ∙ submitted_is trail there) in
    grind (arith, none)

pub begun_by : (trail : List Entry) → is_submitted trail ≡ true → not (length trail == 0) ≡ true
begun_by [] e = absurd (grind (arith, e))
begun_by (x ∷ xs) e = let some : (length (x ∷ xs) == 0) ≡ false = grind (arith, nat_tests) in rw some refl

-- ---- one more report

none_mapped : {X Y : Type 0} (f : X → Y) (o : Option X) → option_map f o ≡ None → o ≡ None
none_mapped f None e = refl
none_mapped f (Some x) e = absurd (cc e)

text_self : (s t : List ℕ) → s ≡ t → is_text s t ≡ true
text_self s t e = (bytes_decides s t).1 e

-- where no report has a digest, the table has none
none_kept : (tenant : ℕ) (cs : List Case) (rs : List Receipt) (d : Digest) → AreReceipted tenant cs rs → with_receipt d cs ≡ None → number_of tenant d rs ≡ None
none_kept tenant cs rs d h none = h.numbers d ∙ ap (option_map number_at) none

pub free_receipt : (tenant : ℕ) (cs : List Case) (rs : List Receipt) (d : Digest) (trail : List Entry) → AreReceipted tenant cs rs → d.0 ≡ receipt trail → HasOwnReceipt trail cs → number_of tenant d rs ≡ None
free_receipt tenant cs rs d trail h is own = none_kept tenant cs rs d h (own d (text_self (receipt trail) d.0 (sym is)))

find_pushed : {X : Type 0} (p : X → Bool) (xs : List X) (x : X) → p x ≡ false → find p (xs ++ x ∷ []) ≡ find p xs
find_pushed p [] x off = rw off refl
find_pushed p (y ∷ xs) x off = ap (cond (p y) (Some y)) (find_pushed p xs x off)

find_last : {X : Type 0} (p : X → Bool) (xs : List X) (x : X) → p x ≡ true → find p xs ≡ None → find p (xs ++ x ∷ []) ≡ Some x
find_last p [] x on none = rw on refl
find_last {X} p (y ∷ xs) x on none = by (p y) none (λ f. find_last p xs x on f)
  where
    by : (b : Bool) → cond b (Some y) (find p xs) ≡ None → (find p xs ≡ None → find p (xs ++ x ∷ []) ≡ Some x) → cond b (Some y) (find p (xs ++ x ∷ [])) ≡ Some x
    by true f rest = absurd (cc f)
    by false f rest = rest f

-- the receipt that is put in has the digest that its trail says
as_trail : (tenant : ℕ) (d e : Digest) (trail : List Entry) → d.0 ≡ receipt trail → ((tenant == tenant) && same_digest d e) ≡ is_text (receipt trail) e.0
as_trail tenant d e trail is = let self : (tenant == tenant) ≡ true = grind (arith, nat_tests) in rw self (ap (λ s. is_text s e.0) is)

pub receipted_more : (tenant : ℕ) (cs : List Case) (rs new : List Receipt) (c : Case) (d : Digest) → AreReceipted tenant cs rs → d.0 ≡ receipt c.trail → HasOwnReceipt c.trail cs → is_submitted c.trail ≡ true
    → ((t : ℕ) (e : Digest) → number_of t e new ≡ (if (tenant == t) && same_digest d e then Some c.number else number_of t e rs)) → AreReceipted tenant (cs ++ c ∷ []) new
receipted_more tenant cs rs new c d h is own begun found = record {
  numbers = λ e. found tenant e ∙ (ap (λ b. cond b (Some c.number) (number_of tenant e rs)) (as_trail tenant d e c.trail is) ∙ by e (has_receipt e c) refl);
  apart = apart_push has_receipt cs c h.apart own;
  submitted = list_all-append has_submission cs (c ∷ []) ∙ rw (h.submitted, begun) refl;
}
  where
    by : (e : Digest) (b : Bool) → has_receipt e c ≡ b → cond b (Some c.number) (number_of tenant e rs) ≡ option_map number_at (with_receipt e (cs ++ c ∷ []))
    by e true at = sym (ap (option_map number_at) (find_last (has_receipt e) cs c at (own e at)))
    by e false at = h.numbers e ∙ sym (ap (option_map number_at) (find_pushed (has_receipt e) cs c at))

-- ---- room, which moves no receipt to another report

pub receipted_same : (tenant : ℕ) (cs : List Case) (rs new : List Receipt) → ((t : ℕ) (d : Digest) → number_of t d new ≡ number_of t d rs) → AreReceipted tenant cs rs → AreReceipted tenant cs new
receipted_same tenant cs rs new found h = record { numbers = λ d. found tenant d ∙ h.numbers d; apart = h.apart; submitted = h.submitted }

-- ---- a report less

-- an item that is found is the one that a key finds that it has, where no two have it
under_key : {K : Type 0} (P : K → Case → Bool) (k : K) (p : Case → Bool) (cs : List Case) (c : Case) → Apart P cs → find p cs ≡ Some c → P k c ≡ true → find (P k) cs ≡ Some c
under_key P k p [] c apart e is = absurd (cc e)
under_key P k p (x ∷ xs) c apart e is = by (p x) e (λ f. under_key P k p xs c apart.1 f is)
  where
    on : (b : Bool) → P k x ≡ b → find (P k) xs ≡ Some c → cond b (Some x) (find (P k) xs) ≡ Some c
    on true hit rest = absurd (cc (sym (apart.0 k hit) ∙ rest))
    on false hit rest = rest

    by : (b : Bool) → cond b (Some x) (find p xs) ≡ Some c → (find p xs ≡ Some c → find (P k) xs ≡ Some c) → cond (P k x) (Some x) (find (P k) xs) ≡ Some c
    by true f rest =
        let same : x ≡ c = cc f in
        let here : P k x ≡ true = ap (P k) same ∙ is in
        rw here f
    by false f rest = on (P k x) refl (rest f)

-- each report that is found has a submission
pub submitted_found : (p : Case → Bool) (cs : List Case) (c : Case) → list_all has_submission cs ≡ true → find p cs ≡ Some c → is_submitted c.trail ≡ true
submitted_found p [] c all e = absurd (cc e)
submitted_found p (x ∷ xs) c all e = by (p x) e (λ f. submitted_found p xs c (second_and (has_submission x) _ all) f)
  where
    by : (b : Bool) → cond b (Some x) (find p xs) ≡ Some c → (find p xs ≡ Some c → is_submitted c.trail ≡ true) → is_submitted c.trail ≡ true
    by true f rest = let same : x ≡ c = cc f in ap has_submission (sym same) ∙ first_and (has_submission x) _ all
    by false f rest = rest f

pub receipted_left : (tenant n : ℕ) (cs : List Case) (rs new : List Receipt) (c : Case) (d : Digest) → Apart has_number cs → AreReceipted tenant cs rs → report n cs ≡ Some c → d.0 ≡ receipt c.trail
    → ((t : ℕ) (e : Digest) → number_of t e new ≡ (if (tenant == t) && same_digest d e then None else number_of t e rs)) → AreReceipted tenant (others n cs) new
receipted_left tenant n cs rs new c d numbers h there is found = record {
  numbers = λ e. found tenant e ∙ (ap (λ b. cond b None (number_of tenant e rs)) (as_trail tenant d e c.trail is) ∙ (by e (has_receipt e c) refl ∙ sym (ap (option_map number_at) (find_kept has_receipt e stays cs h.apart))));
  apart = apart_filter has_receipt stays cs h.apart;
  submitted = all_filter has_submission stays cs h.submitted;
}
  where
    stays : Case → Bool
    stays x = not (has_number n x)

    other : (e : Digest) → has_receipt e c ≡ false → (x : Case) → with_receipt e cs ≡ Some x → (b : Bool) → has_number n x ≡ b → Some x.number ≡ option_map number_at (cond (not b) (Some x) None)
    other e off x f true hit =
        let same : c ≡ x = cc (there, under_key has_number n (has_receipt e) cs x numbers f hit) in
        absurd (cc (off, ap (has_receipt e) same ∙ find_true (has_receipt e) cs x f))
    other e off x f false hit = refl

    left : (e : Digest) → has_receipt e c ≡ false → (w : Option Case) → with_receipt e cs ≡ w → option_map number_at w ≡ option_map number_at (kept stays w)
    left e off None f = refl
    left e off (Some x) f = other e off x f (has_number n x) refl

    by : (e : Digest) (b : Bool) → has_receipt e c ≡ b → cond b None (number_of tenant e rs) ≡ option_map number_at (kept stays (with_receipt e cs))
    by e true on = let here : has_number n c ≡ true = find_true (has_number n) cs c there in rw (under_key has_receipt e (has_number n) cs c h.apart there on, here) refl
    by e false off = h.numbers e ∙ left e off (with_receipt e cs) refl

-- ---- one more entry of a report

noted_receipt : (n : ℕ) (e : Entry) → submission_in e.deed ≡ None → (d : Digest) (c : Case) → has_receipt d (noted n e c) ≡ has_receipt d c
noted_receipt n e later d c = by (c.number == n)
  where
    by : (b : Bool) → is_text (receipt (cond b (c.trail ++ e ∷ []) c.trail)) d.0 ≡ is_text (receipt c.trail) d.0
    by true = silent_receipt e later d c.number c.trail
    by false = refl

number_noted : (n : ℕ) (e : Entry) (p : Case → Bool) → ((c : Case) → p (noted n e c) ≡ p c) → (cs : List Case) → option_map number_at (find p (map (noted n e) cs)) ≡ option_map number_at (find p cs)
number_noted n e p same [] = refl
number_noted n e p same (c ∷ cs) = ap (λ b. option_map number_at (cond b (Some (noted n e c)) (find p (map (noted n e) cs)))) (same c) ∙ by (p c) (number_noted n e p same cs)
  where
    by : (b : Bool) → option_map number_at (find p (map (noted n e) cs)) ≡ option_map number_at (find p cs) → option_map number_at (cond b (Some (noted n e c)) (find p (map (noted n e) cs))) ≡ option_map number_at (cond b (Some c) (find p cs))
    by true rest = refl
    by false rest = rest

submitted_noted : (n : ℕ) (e : Entry) (cs : List Case) → list_all has_submission cs ≡ true → list_all has_submission (map (noted n e) cs) ≡ true
submitted_noted n e [] all = refl
submitted_noted n e (c ∷ cs) all = by (c.number == n) (first_and (has_submission c) _ all) (submitted_noted n e cs (second_and (has_submission c) _ all))
  where
    by : (b : Bool) → is_submitted c.trail ≡ true → list_all has_submission (map (noted n e) cs) ≡ true → (is_submitted (cond b (c.trail ++ e ∷ []) c.trail) && list_all has_submission (map (noted n e) cs)) ≡ true
    by true is rest = rw (list_any-append (λ (x : Entry). is_some (submission_in x.deed)) c.trail (e ∷ []), is, rest) refl
    by false is rest = rw (is, rest) refl

pub receipted_noted : (tenant n : ℕ) (e : Entry) (cs : List Case) (rs : List Receipt) → submission_in e.deed ≡ None → AreReceipted tenant cs rs → AreReceipted tenant (map (noted n e) cs) rs
receipted_noted tenant n e cs rs later h = record {
  numbers = λ d. h.numbers d ∙ sym (number_noted n e (has_receipt d) (noted_receipt n e later d) cs);
  apart = apart_map has_receipt (noted n e) cs (noted_receipt n e later) h.apart;
  submitted = submitted_noted n e cs h.submitted;
}

-- what an act and a move put on a trail is no submission
pub act_later : (calendar : Calendar) (trail : List Entry) (act : Act) → submission_in (act_deed calendar trail act) ≡ None
act_later calendar trail (acts.Label text) = refl
act_later calendar trail _ = refl

pub move_later : (at : ℕ) (move : Move) → submission_in (move_deed at move) ≡ None
move_later at (moves.Ask reason stamp) = refl
move_later at _ = refl

-- ---- the report that is found

under_number : (p : Case → Bool) (cs : List Case) (c : Case) → Apart has_number cs → find p cs ≡ Some c → report c.number cs ≡ Some c
under_number p cs c apart e = let self : (c.number == c.number) ≡ true = grind (arith, nat_tests) in under_key has_number c.number p cs c apart e self

-- the table leads to the report with the receipt, and where it has none there is none
pub receipted_found : (tenant n : ℕ) (d : Digest) (cs : List Case) (rs : List Receipt) → Apart has_number cs → AreReceipted tenant cs rs → Some n ≡ number_of tenant d rs → report n cs ≡ with_receipt d cs
receipted_found tenant n d cs rs numbers h is = by (with_receipt d cs) refl (is ∙ h.numbers d)
  where
    by : (w : Option Case) → with_receipt d cs ≡ w → Some n ≡ option_map number_at w → report n cs ≡ w
    by None e f = absurd (cc f)
    by (Some c) e f = let same : n ≡ c.number = cc f in ap (λ k. report k cs) same ∙ under_number (has_receipt d) cs c numbers e

pub receipted_none : (tenant : ℕ) (d : Digest) (cs : List Case) (rs : List Receipt) → AreReceipted tenant cs rs → None ≡ number_of tenant d rs → with_receipt d cs ≡ None
receipted_none tenant d cs rs h is = none_mapped number_at (with_receipt d cs) (sym (h.numbers d) ∙ sym is)
