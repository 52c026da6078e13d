-- The reports of entries without those of one report are the reports without it, where both are read.
use Rattle.std.proofs.Common.{◌≡◌, ◌≢◌, ℕ, ◌+◌, Bool, true, false, cond, eqb, not, List, [], ◌∷◌, ◌++◌, refl, sym, ap, ◌∙◌, arith}
use Rattle.std.specs.Prelude.{Result, Ok, Err, filter, length, ◌&&◌}
use Rattle.std.proofs.lemmas.Bool.Decides.{nat_tests}
use Rattle.std.proofs.lemmas.List.{length-append}
use Rattle.wb_base.specs.declared.rows.Key.{Key}
use Rattle.wb_model.specs.declared.registry.Lists.{Lists}
use Rattle.wb_model.specs.Legal.{is_first, is_next, last_at}
use Rattle.wb_row_codec.specs.declared.item.EntryItem.{EntryItem}
use Rattle.wb_rows.specs.Places.{entry_key}
use Rattle.wb_rows.specs.Reports.{Report}
use Rattle.wb_rows.specs.TrailRule.{days, begun, continued, is_of, begins, goes_on, with_report, reports_after, reports_of}
use Rattle.wb_promise.proofs.JudgedRows.{ok_in, not_ok}

abbrev pub is_entry : ℕ → ℕ → EntryItem → Bool
is_entry t r x = eqb x.tenant t && eqb x.number r

abbrev pub is_report : ℕ → ℕ → Report → Bool
is_report t r q = eqb q.tenant t && eqb q.number r

abbrev pub entries_but : ℕ → ℕ → List EntryItem → List EntryItem
entries_but t r xs = filter (λ x. not (is_entry t r x)) xs

abbrev pub reports_but : ℕ → ℕ → List Report → List Report
reports_but t r rs = filter (λ q. not (is_report t r q)) rs

keep_first : (t r : ℕ) (q : Report) (rs : List Report) → is_report t r q ≡ false → reports_but t r (q ∷ rs) ≡ q ∷ reports_but t r rs
keep_first t r q rs e = ap (λ b. cond (not b) (q ∷ reports_but t r rs) (reports_but t r rs)) e

drop_first : (t r : ℕ) (q : Report) (rs : List Report) → is_report t r q ≡ true → reports_but t r (q ∷ rs) ≡ reports_but t r rs
drop_first t r q rs e = ap (λ b. cond (not b) (q ∷ reports_but t r rs) (reports_but t r rs)) e

keep_entry : (t r : ℕ) (x : EntryItem) (xs : List EntryItem) → is_entry t r x ≡ false → entries_but t r (x ∷ xs) ≡ x ∷ entries_but t r xs
keep_entry t r x xs e = ap (λ b. cond (not b) (x ∷ entries_but t r xs) (entries_but t r xs)) e

drop_entry : (t r : ℕ) (x : EntryItem) (xs : List EntryItem) → is_entry t r x ≡ true → entries_but t r (x ∷ xs) ≡ entries_but t r xs
drop_entry t r x xs e = ap (λ b. cond (not b) (x ∷ entries_but t r xs) (entries_but t r xs)) e

-- ---- one step

data Step (lists : Lists) (q : Report) (x : EntryItem) (xs : List EntryItem) (rs : List Report) : Type 0 where
  goes : is_of q x ≡ true → goes_on lists q x ≡ true → reports_after lists (continued q x) xs ≡ Ok rs → Step lists q x xs rs
  ends : (more : List Report) → is_of q x ≡ false → begins lists x ≡ true → reports_after lists (begun x) xs ≡ Ok more → rs ≡ q ∷ more → Step lists q x xs rs

with_ok : (q : Report) (o : Result (List Report) Key) (rs : List Report) → with_report q o ≡ Ok rs → (more : List Report) × ((o ≡ Ok more) × (rs ≡ q ∷ more))
with_ok q (Ok more) rs e = (more, (refl, sym (ok_in (q ∷ more) rs e)))
with_ok q (Err k) rs e = absurd (not_ok k rs e)

step : (lists : Lists) (q : Report) (x : EntryItem) (xs : List EntryItem) (rs : List Report) → reports_after lists q (x ∷ xs) ≡ Ok rs → Step lists q x xs rs
step lists q x xs rs e = by (is_of q x) (goes_on lists q x) (begins lists x) refl refl refl e
  where
    by : (a b c : Bool) → is_of q x ≡ a → goes_on lists q x ≡ b → begins lists x ≡ c →
        cond a (cond b (reports_after lists (continued q x) xs) (Err (entry_key x))) (cond c (with_report q (reports_after lists (begun x) xs)) (Err (entry_key x))) ≡ Ok rs → Step lists q x xs rs
    by true true c i j k e = goes i j e
    by true false c i j k e = absurd (not_ok (entry_key x) rs e)
    by false b true i j k e = let w = with_ok q (reports_after lists (begun x) xs) rs e in ends w.0 i k w.1.0 w.1.1
    by false b false i j k e = absurd (not_ok (entry_key x) rs e)

step_of : (lists : Lists) (x : EntryItem) (xs : List EntryItem) (rs : List Report) → reports_of lists (x ∷ xs) ≡ Ok rs → reports_after lists (begun x) xs ≡ Ok rs
step_of lists x xs rs e = by (begins lists x) e
  where
    by : (b : Bool) → cond b (reports_after lists (begun x) xs) (Err (entry_key x)) ≡ Ok rs → reports_after lists (begun x) xs ≡ Ok rs
    by true k = k
    by false k = absurd (not_ok (entry_key x) rs k)

-- a place cannot both begin a trail and go on with one that has entries
begins_once : (lists : Lists) (q : Report) (x : EntryItem) → length q.trail ≢ 0 → begins lists x ≡ true → goes_on lists q x ≡ true → ⊥
unfolding begins goes_on
begins_once lists q x ne a b =
    let one : x.place ≡ 1 = place_of x.place 1 (is_first (days lists x.tenant) x.entry) a in
    let next : x.place ≡ length q.trail + 1 = place_of x.place (length q.trail + 1) (is_next (days lists q.tenant) (last_at 0 q.trail) q.trail x.entry) b in
    ne (omega (arith, one, next))
  where
    place_of : (m n : ℕ) (c : Bool) → (eqb m n && c) ≡ true → m ≡ n
    place_of m n c e = grind (arith, nat_tests, e)

same_of : (t r : ℕ) (q : Report) (x : EntryItem) → is_of q x ≡ true → is_entry t r x ≡ is_report t r q
same_of t r q x e = let a : q.tenant ≡ x.tenant = grind (arith, nat_tests, e) in let b : q.number ≡ x.number = grind (arith, nat_tests, e) in λ i. eqb (sym a i) t && eqb (sym b i) r

of_same : (t r : ℕ) (q : Report) (x : EntryItem) → is_report t r q ≡ true → is_entry t r x ≡ true → is_of q x ≡ true
of_same t r q x a b = grind (arith, nat_tests, a, b)

two_false : (b : Bool) → b ≡ true → b ≡ false → ⊥
two_false b e f = grind (arith, e, f)

begun_some : (x : EntryItem) → length (begun x).trail ≢ 0
begun_some x = grind arith

continued_some : (q : Report) (x : EntryItem) → length (continued q x).trail ≢ 0
continued_some q x = let k : length (q.trail ++ x.entry ∷ []) ≡ length q.trail + 1 = length-append q.trail (x.entry ∷ []) in omega (arith, k)

-- ---- all steps

record Sims (lists : Lists) (t r : ℕ) (xs : List EntryItem) : Type 0 where
  -- the report that is read is another
  other : (q : Report) (rs ss : List Report) → is_report t r q ≡ false → length q.trail ≢ 0 → reports_after lists q xs ≡ Ok rs → reports_after lists q (entries_but t r xs) ≡ Ok ss → ss ≡ reports_but t r rs
  -- it is the one that is left out, and p was read before it
  after : (q p : Report) (rs ss : List Report) → is_report t r q ≡ true → is_report t r p ≡ false → length p.trail ≢ 0 → reports_after lists q xs ≡ Ok rs → reports_after lists p (entries_but t r xs) ≡ Ok ss → ss ≡ p ∷ reports_but t r rs
  -- it is, and none was read before it
  first : (q : Report) (rs ss : List Report) → is_report t r q ≡ true → reports_after lists q xs ≡ Ok rs → reports_of lists (entries_but t r xs) ≡ Ok ss → ss ≡ reports_but t r rs

sims_none : (lists : Lists) (t r : ℕ) → Sims lists t r []
sims_none lists t r = record {
  other = λ q rs ss off ne a b. sym (ok_in (q ∷ []) ss b) ∙ (sym (keep_first t r q [] off) ∙ ap (reports_but t r) (ok_in (q ∷ []) rs a));
  after = λ q p rs ss on off ne a b. sym (ok_in (p ∷ []) ss b) ∙ ap (λ zs. p ∷ zs) (sym (drop_first t r q [] on) ∙ ap (reports_but t r) (ok_in (q ∷ []) rs a));
  first = λ q rs ss on a b. sym (ok_in [] ss b) ∙ (sym (drop_first t r q [] on) ∙ ap (reports_but t r) (ok_in (q ∷ []) rs a));
}

-- an entry of the report that is left out
sims_on : (lists : Lists) (t r : ℕ) (x : EntryItem) (xs : List EntryItem) → is_entry t r x ≡ true → Sims lists t r xs → Sims lists t r (x ∷ xs)
sims_on lists t r x xs on ih = record {
  other = λ q rs ss off ne a b. own q rs ss off ne (step lists q x xs rs a) (left_ok q ss b);
  after = λ q p rs ss is off ne a b. later q p rs ss is off ne (step lists q x xs rs a) (left_ok p ss b);
  first = λ q rs ss is a b. begin q rs ss is (step lists q x xs rs a) (ap (reports_of lists) (sym (drop_entry t r x xs on)) ∙ b);
}
  where
    left_ok : (q : Report) (ss : List Report) → reports_after lists q (entries_but t r (x ∷ xs)) ≡ Ok ss → reports_after lists q (entries_but t r xs) ≡ Ok ss
    left_ok q ss b = ap (reports_after lists q) (sym (drop_entry t r x xs on)) ∙ b

    own : (q : Report) (rs ss : List Report) → is_report t r q ≡ false → length q.trail ≢ 0 → Step lists q x xs rs → reports_after lists q (entries_but t r xs) ≡ Ok ss → ss ≡ reports_but t r rs
    own q rs ss off ne (goes i j k) b = absurd (two_false (is_report t r q) (sym (same_of t r q x i) ∙ on) off)
    own q rs ss off ne (ends more i j k e) b = ih.after (begun x) q more ss on off ne k b ∙ (sym (keep_first t r q more off) ∙ ap (reports_but t r) (sym e))

    later : (q p : Report) (rs ss : List Report) → is_report t r q ≡ true → is_report t r p ≡ false → length p.trail ≢ 0 → Step lists q x xs rs → reports_after lists p (entries_but t r xs) ≡ Ok ss → ss ≡ p ∷ reports_but t r rs
    later q p rs ss is off ne (goes i j k) b = ih.after (continued q x) p rs ss is off ne k b
    later q p rs ss is off ne (ends more i j k e) b = absurd (two_false (is_of q x) (of_same t r q x is on) i)

    begin : (q : Report) (rs ss : List Report) → is_report t r q ≡ true → Step lists q x xs rs → reports_of lists (entries_but t r xs) ≡ Ok ss → ss ≡ reports_but t r rs
    begin q rs ss is (goes i j k) b = ih.first (continued q x) rs ss is k b
    begin q rs ss is (ends more i j k e) b = absurd (two_false (is_of q x) (of_same t r q x is on) i)

-- another entry
sims_off : (lists : Lists) (t r : ℕ) (x : EntryItem) (xs : List EntryItem) → is_entry t r x ≡ false → Sims lists t r xs → Sims lists t r (x ∷ xs)
sims_off lists t r x xs off_x ih = record {
  other = λ q rs ss off ne a b. own q rs ss off (step lists q x xs rs a) (step lists q x (entries_but t r xs) ss (kept_ok q ss b));
  after = λ q p rs ss is off ne a b. later q p rs ss is ne (step lists q x xs rs a) (step lists p x (entries_but t r xs) ss (kept_ok p ss b));
  first = λ q rs ss is a b. begin q rs ss is (step lists q x xs rs a) (step_of lists x (entries_but t r xs) ss (ap (reports_of lists) (sym (keep_entry t r x xs off_x)) ∙ b));
}
  where
    kept_ok : (q : Report) (ss : List Report) → reports_after lists q (entries_but t r (x ∷ xs)) ≡ Ok ss → reports_after lists q (x ∷ entries_but t r xs) ≡ Ok ss
    kept_ok q ss b = ap (reports_after lists q) (sym (keep_entry t r x xs off_x)) ∙ b

    own : (q : Report) (rs ss : List Report) → is_report t r q ≡ false → Step lists q x xs rs → Step lists q x (entries_but t r xs) ss → ss ≡ reports_but t r rs
    own q rs ss off (goes i j k) (goes i' j' k') = ih.other (continued q x) rs ss off (continued_some q x) k k'
    own q rs ss off (goes i j k) (ends more i' j' k' e) = absurd (two_false (is_of q x) i i')
    own q rs ss off (ends more i j k e) (goes i' j' k') = absurd (two_false (is_of q x) i' i)
    own q rs ss off (ends more i j k e) (ends left i' j' k' e') =
        e' ∙ (ap (λ zs. q ∷ zs) (ih.other (begun x) more left off_x (begun_some x) k k') ∙ (sym (keep_first t r q more off) ∙ ap (reports_but t r) (sym e)))

    later : (q p : Report) (rs ss : List Report) → is_report t r q ≡ true → length p.trail ≢ 0 → Step lists q x xs rs → Step lists p x (entries_but t r xs) ss → ss ≡ p ∷ reports_but t r rs
    later q p rs ss is ne (goes i j k) b = absurd (two_false (is_entry t r x) (same_of t r q x i ∙ is) off_x)
    later q p rs ss is ne (ends more i j k e) (goes i' j' k') = absurd (begins_once lists p x ne j j')
    later q p rs ss is ne (ends more i j k e) (ends left i' j' k' e') =
        e' ∙ ap (λ zs. p ∷ zs) (ih.other (begun x) more left off_x (begun_some x) k k' ∙ (sym (drop_first t r q more is) ∙ ap (reports_but t r) (sym e)))

    begin : (q : Report) (rs ss : List Report) → is_report t r q ≡ true → Step lists q x xs rs → reports_after lists (begun x) (entries_but t r xs) ≡ Ok ss → ss ≡ reports_but t r rs
    begin q rs ss is (goes i j k) b = absurd (two_false (is_entry t r x) (same_of t r q x i ∙ is) off_x)
    begin q rs ss is (ends more i j k e) b = ih.other (begun x) more ss off_x (begun_some x) k b ∙ (sym (drop_first t r q more is) ∙ ap (reports_but t r) (sym e))

sims_more : (lists : Lists) (t r : ℕ) (x : EntryItem) (xs : List EntryItem) (b : Bool) → is_entry t r x ≡ b → Sims lists t r xs → Sims lists t r (x ∷ xs)
sims_more lists t r x xs true is ih = sims_on lists t r x xs is ih
sims_more lists t r x xs false is ih = sims_off lists t r x xs is ih

sims : (lists : Lists) (t r : ℕ) (xs : List EntryItem) → Sims lists t r xs
sims lists t r [] = sims_none lists t r
sims lists t r (x ∷ xs) = sims_more lists t r x xs (is_entry t r x) refl (sims lists t r xs)

pub reports_left : (lists : Lists) (t r : ℕ) (xs : List EntryItem) (rs ss : List Report) → reports_of lists xs ≡ Ok rs → reports_of lists (entries_but t r xs) ≡ Ok ss → ss ≡ reports_but t r rs
reports_left lists t r [] rs ss a b = sym (ok_in [] ss b) ∙ ap (reports_but t r) (ok_in [] rs a)
reports_left lists t r (x ∷ xs) rs ss a b = by (is_entry t r x) refl
  where
    by : (c : Bool) → is_entry t r x ≡ c → ss ≡ reports_but t r rs
    by true is = (sims lists t r xs).first (begun x) rs ss is (step_of lists x xs rs a) (ap (reports_of lists) (sym (drop_entry t r x xs is)) ∙ b)
    by false is = (sims lists t r xs).other (begun x) rs ss is (begun_some x) (step_of lists x xs rs a) (step_of lists x (entries_but t r xs) ss (ap (reports_of lists) (sym (keep_entry t r x xs is)) ∙ b))
