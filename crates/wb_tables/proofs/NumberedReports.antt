-- The indexes of the reports that pass a test, after a change of the table.
use Rattle.std.proofs.Common.{◌≡◌, ℕ, zero, suc, ◌<◌, ◌++◌, Bool, true, false, cond, not, List, [], ◌∷◌, length, map, find, Some, None, refl, sym, ap, ◌∙◌, arith}
use Rattle.std.specs.Prelude.{◌==◌, filter, slice_get}
use Rattle.std.specs.Option.{option_map}
use Rattle.std.specs.Ordering.{nat_cmp, match_ordering}
use Rattle.std.specs.Cmp.{unsigned_ties}
use Rattle.std.specs.declared.cmp.Ordering.{Ordering}
use Rattle.std.specs.declared.cmp.Ordering.TheVariants.{Less, Equal, Greater}
use Rattle.wb_list.specs.Keyed.{IsAscending, has_key, insert_item}
use Rattle.wb_model.specs.Access.{requests}
use Rattle.wb_model.specs.Opened.{Apart, AtMost}
use Rattle.wb_model.specs.Tables.{Case, has_number, others}
use Rattle.wb_model.specs.declared.access.AccessRequest.{AccessRequest}
use Rattle.wb_model.specs.declared.entry.Entry.{Entry}
use Rattle.wb_tables.specs.Indexed.{AreNumbersOf, AreCustodied, has_requests, number_where}
use Rattle.wb_tables.specs.Lives.{case_of}
use Rattle.wb_tables.specs.Noted.{IsNoted}
use Rattle.wb_tables.specs.declared.noting.NotedEntry.{NotedEntry}
use Rattle.wb_tables.specs.declared.numbered.Numbered.{Numbered}
use Rattle.wb_tables.specs.declared.tenancy.Report.{Report as KeptCase}
use Rattle.wb_tables.proofs.CaseLists.{number_of, report-found}
use Rattle.wb_tables.proofs.NotedReports.{custodied_found, number_found}
use Rattle.wb_tables.proofs.ReportNumbers.{at_place, gone, left, not_last, numbers, put, put_last, put_number, without}

-- ---- the numbers of an index

abbrev number_in : Numbered → ℕ
number_in n = n.number

put_in : (index : List Numbered) (n : ℕ) → map number_in (insert_item nat_cmp number_in index (record { number = n })) ≡ put_number (map number_in index) n
put_in [] n = refl
put_in (a ∷ index) n = by (nat_cmp a.number n) (put_in index n)
  where
    by : (r : Ordering) → map number_in (insert_item nat_cmp number_in index (record { number = n })) ≡ put_number (map number_in index) n
        → map number_in (match_ordering r (a ∷ insert_item nat_cmp number_in index (record { number = n })) (record { number = n } ∷ index) (record { number = n } ∷ a ∷ index)) ≡ match_ordering r (a.number ∷ put_number (map number_in index) n) (n ∷ map number_in index) (n ∷ a.number ∷ map number_in index)
    by Less e = ap (λ ks. a.number ∷ ks) e
    by Equal e = refl
    by Greater e = refl

left_in : (n : ℕ) (index : List Numbered) → map number_in (filter (λ a. not (has_key nat_cmp number_in n a)) index) ≡ filter (λ k. not (k == n)) (map number_in index)
left_in n [] = refl
left_in n (a ∷ index) = rw (← unsigned_ties a.number n) (by (a.number == n) (left_in n index))
  where
    by : (b : Bool) → map number_in (filter (λ a. not (has_key nat_cmp number_in n a)) index) ≡ filter (λ k. not (k == n)) (map number_in index)
        → map number_in (cond (not b) (a ∷ filter (λ a. not (has_key nat_cmp number_in n a)) index) (filter (λ a. not (has_key nat_cmp number_in n a)) index)) ≡ cond (not b) (a.number ∷ filter (λ k. not (k == n)) (map number_in index)) (filter (λ k. not (k == n)) (map number_in index))
    by true e = e
    by false e = ap (λ ks. a.number ∷ ks) e

-- ---- the requests of a report that was noted

pub has_requests_is : (n : ℕ) (e : Entry) (cs : List KeptCase) (x y : KeptCase) (answer : NotedEntry) → AreCustodied cs → find (has_key nat_cmp number_of n) cs ≡ Some x → IsNoted e x y answer → answer.has_requests ≡ has_requests (case_of y)
has_requests_is n e cs x y answer all found noting = noting.asked_is ∙ ap (λ (rs : List AccessRequest). not (length rs == 0)) (noting.requests x.case.items (custodied_found (has_key nat_cmp number_of n) cs x all found) ∙ sym (ap requests noting.items))

module _ (p : Case → Bool) where
  -- ---- the index after a change

  -- one more report, with the greatest number
  pub numbers_more : (last : ℕ) (cs : List Case) (index new : List Numbered) (y : KeptCase) (b : Bool) → AreNumbersOf p cs index → AtMost last cs → last < y.number → b ≡ p (case_of y) → new ≡ number_where b y.number index → AreNumbersOf p (cs ++ case_of y ∷ []) new
  numbers_more last cs index new y b are most lt tested is = ap (map number_in) is ∙ by b (sym tested)
    where
      by : (b : Bool) → p (case_of y) ≡ b → map number_in (number_where b y.number index) ≡ numbers p (cs ++ case_of y ∷ [])
      by true e = put_in index y.number ∙ (ap (λ ks. put_number ks y.number) are ∙ put_last p last cs (case_of y) most lt e)
      by false e = left_in y.number index ∙ (ap (without p y.number) are ∙ not_last p last cs (case_of y) most lt e)

  -- a report in its place
  pub numbers_noted : (n : ℕ) (cs : List KeptCase) (index new : List Numbered) (x y : KeptCase) (b : Bool) → AreNumbersOf p (map case_of cs) index → IsAscending nat_cmp number_of cs → find (has_key nat_cmp number_of n) cs ≡ Some x → y.number ≡ x.number → b ≡ p (case_of y)
      → new ≡ number_where b n index → AreNumbersOf p (map case_of (insert_item nat_cmp number_of cs y)) new
  numbers_noted n cs index new x y b are ascending found number tested is = ap (map number_in) (is ∙ ap (λ k. number_where b k index) (sym (number ∙ number_found n cs x found))) ∙ by b (sym tested)
    where
      by : (b : Bool) → p (case_of y) ≡ b → map number_in (number_where b y.number index) ≡ numbers p (map case_of (insert_item nat_cmp number_of cs y))
      by true e = put_in index y.number ∙ (ap (λ ks. put_number ks y.number) are ∙ put p cs y ascending e)
      by false e = left_in y.number index ∙ (ap (without p y.number) are ∙ gone p cs y ascending e)

  -- a report less
  pub numbers_left : (n : ℕ) (cs : List Case) (index left_index : List Numbered) → left_index ≡ filter (λ a. not (has_key nat_cmp number_in n a)) index → AreNumbersOf p cs index → AreNumbersOf p (others n cs) left_index
  numbers_left n cs index left_index is are = ap (map number_in) is ∙ (left_in n index ∙ (ap (without p n) are ∙ left p n cs))

  -- ---- what the index tells

  get_in : (index : List Numbered) (i : ℕ) (a : Numbered) → slice_get index i ≡ Some a → slice_get (map number_in index) i ≡ Some a.number
  get_in [] i a e = absurd (cc e)
  get_in (b ∷ index) zero a e = ap (option_map number_in) e
  get_in (b ∷ index) (suc i) a e = get_in index i a e

  -- the report of the number at a place
  pub numbers_found : (cs : List KeptCase) (index : List Numbered) (i : ℕ) (a : Numbered) → AreNumbersOf p (map case_of cs) index → Apart has_number (map case_of cs) → slice_get index i ≡ Some a
      → slice_get (filter p (map case_of cs)) i ≡ option_map case_of (find (has_key nat_cmp number_of a.number) cs)
  numbers_found cs index i a are apart e =
      at_place p i a.number (map case_of cs) apart (ap (λ ks. slice_get ks i) (sym are) ∙ get_in index i a e) ∙ report-found a.number cs

pub not_past : {X : Type 0} (xs : List X) (i : ℕ) → i < length xs → slice_get xs i ≡ None → ⊥
not_past [] i lt e = omega (arith, lt)
not_past (x ∷ xs) zero lt e = cc e
not_past (x ∷ xs) (suc i) lt e = not_past xs i (omega (arith, lt)) e
