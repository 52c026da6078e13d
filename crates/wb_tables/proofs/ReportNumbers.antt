-- The numbers of the reports that pass a test, in their order, after a change of the table.
use Rattle.std.proofs.Common.{◌≡◌, ℕ, zero, suc, ◌<◌, ◌≤◌, ◌++◌, Bool, true, false, cond, not, List, [], ◌∷◌, map, Option, Some, None, refl, sym, ap, ◌∙◌, arith}
use Rattle.std.specs.Prelude.{◌==◌, filter, slice_get}
use Rattle.std.specs.List.{AllByRecursion}
use Rattle.std.specs.List.Sorted.{IsStrictlySortedBy}
use Rattle.std.specs.Option.{option_map}
use Rattle.std.specs.Ordering.{nat_cmp, match_ordering}
use Rattle.std.specs.Cmp.{nat_cmp_is}
use Rattle.std.specs.declared.cmp.Ordering.{Ordering}
use Rattle.std.specs.declared.cmp.Ordering.TheVariants.{Less, Equal, Greater}
use Rattle.std.proofs.lemmas.Bool.Decides.{nat_tests}
use Rattle.std.proofs.lemmas.Cmp.{ranked}
use Rattle.std.proofs.lemmas.Option.{slice_get-map}
use Rattle.wb_list.specs.Keyed.{IsAscending, insert_item}
use Rattle.wb_model.specs.Opened.{Apart, AtMost}
use Rattle.wb_model.specs.Tables.{Case, has_number, report, others}
use Rattle.wb_tables.specs.Lives.{case_of}
use Rattle.wb_tables.specs.declared.tenancy.Report.{Report as KeptCase}
use Rattle.wb_tables.proofs.CaseLists.{number_of}

-- the numbers with one more at its place
abbrev pub put_number : List ℕ → ℕ → List ℕ
put_number ks n = insert_item nat_cmp (λ k. k) ks n

abbrev number : Case → ℕ
number c = c.number

module _ (p : Case → Bool) where
  -- the numbers of those that pass
  abbrev pub numbers : List Case → List ℕ
  numbers cs = map number (filter p cs)

  first_passes : (c : Case) (cs : List Case) → p c ≡ true → numbers (c ∷ cs) ≡ c.number ∷ numbers cs
  first_passes c cs is = rw is refl

  first_fails : (c : Case) (cs : List Case) → p c ≡ false → numbers (c ∷ cs) ≡ numbers cs
  first_fails c cs is = rw is refl

  -- ---- one that is changed in its place

  -- a number goes before those above it
  put_first : (m n : ℕ) (cs : List KeptCase) → AllByRecursion (λ k. nat_cmp m k ≡ Less) (map number_of cs) → n ≤ m → put_number (numbers (map case_of cs)) n ≡ n ∷ numbers (map case_of cs)
  put_first m n [] all le = refl
  put_first m n (c ∷ cs) all le = by (p (case_of c)) (put_first m n cs all.1 le)
    where
      by : (b : Bool) → put_number (numbers (map case_of cs)) n ≡ n ∷ numbers (map case_of cs)
          → put_number (map number (cond b (case_of c ∷ filter p (map case_of cs)) (filter p (map case_of cs)))) n ≡ n ∷ map number (cond b (case_of c ∷ filter p (map case_of cs)) (filter p (map case_of cs)))
      by true later =
          let less : m < c.number = ranked m c.number Less (sym all.0) in
          let above : nat_cmp c.number n ≡ Greater = sym (nat_cmp_is c.number n Greater (omega (arith, less, le))) in
          rw above refl
      by false later = later

  -- one that passes has its number put
  pub put : (cs : List KeptCase) (y : KeptCase) → IsAscending nat_cmp number_of cs → p (case_of y) ≡ true → put_number (numbers (map case_of cs)) y.number ≡ numbers (map case_of (insert_item nat_cmp number_of cs y))
  unfolding IsStrictlySortedBy
  put [] y ascending is = sym (first_passes (case_of y) [] is)
  put (c ∷ cs) y ascending is = by (nat_cmp c.number y.number) refl (p (case_of c)) refl (put cs y ascending.1 is)
    where
      by : (r : Ordering) → nat_cmp c.number y.number ≡ r → (b : Bool) → p (case_of c) ≡ b → put_number (numbers (map case_of cs)) y.number ≡ numbers (map case_of (insert_item nat_cmp number_of cs y))
          → put_number (numbers (case_of c ∷ map case_of cs)) y.number ≡ numbers (map case_of (match_ordering r (c ∷ insert_item nat_cmp number_of cs y) (y ∷ cs) (y ∷ c ∷ cs)))
      by Less side true e later = rw (e, side) (ap (λ ks. c.number ∷ ks) later)
      by Less side false e later = rw e later
      by Equal side true e later = rw (e, side) (sym (first_passes (case_of y) (map case_of cs) is))
      by Equal side false e later =
          let same : y.number ≤ c.number = omega (arith, ranked c.number y.number Equal (sym side)) in
          rw e (put_first c.number y.number cs ascending.0 same ∙ sym (first_passes (case_of y) (map case_of cs) is))
      by Greater side true e later = rw (e, side, is) refl
      by Greater side false e later =
          let less : y.number < c.number = ranked c.number y.number Greater (sym side) in
          rw (e, is) (put_first c.number y.number cs ascending.0 (omega (arith, less)))

  -- the numbers without one
  abbrev pub without : ℕ → List ℕ → List ℕ
  without n ks = filter (λ k. not (k == n)) ks

  -- without one below all, they are as they were
  above_stay : (m n : ℕ) (cs : List KeptCase) → AllByRecursion (λ k. nat_cmp m k ≡ Less) (map number_of cs) → n ≤ m → without n (numbers (map case_of cs)) ≡ numbers (map case_of cs)
  above_stay m n [] all le = refl
  above_stay m n (c ∷ cs) all le = by (p (case_of c)) (above_stay m n cs all.1 le)
    where
      by : (b : Bool) → without n (numbers (map case_of cs)) ≡ numbers (map case_of cs)
          → without n (map number (cond b (case_of c ∷ filter p (map case_of cs)) (filter p (map case_of cs)))) ≡ map number (cond b (case_of c ∷ filter p (map case_of cs)) (filter p (map case_of cs)))
      by true later =
          let less : m < c.number = ranked m c.number Less (sym all.0) in
          let other : (c.number == n) ≡ false = grind (arith, nat_tests, less, le) in
          rw other (ap (λ ks. c.number ∷ ks) later)
      by false later = later

  -- one that does not pass takes its number out
  pub gone : (cs : List KeptCase) (y : KeptCase) → IsAscending nat_cmp number_of cs → p (case_of y) ≡ false → without y.number (numbers (map case_of cs)) ≡ numbers (map case_of (insert_item nat_cmp number_of cs y))
  unfolding IsStrictlySortedBy
  gone [] y ascending is = sym (first_fails (case_of y) [] is)
  gone (c ∷ cs) y ascending is = by (nat_cmp c.number y.number) refl (p (case_of c)) refl (gone cs y ascending.1 is)
    where
      by : (r : Ordering) → nat_cmp c.number y.number ≡ r → (b : Bool) → p (case_of c) ≡ b → without y.number (numbers (map case_of cs)) ≡ numbers (map case_of (insert_item nat_cmp number_of cs y))
          → without y.number (numbers (case_of c ∷ map case_of cs)) ≡ numbers (map case_of (match_ordering r (c ∷ insert_item nat_cmp number_of cs y) (y ∷ cs) (y ∷ c ∷ cs)))
      by Less side true e later =
          let less : c.number < y.number = ranked c.number y.number Less (sym side) in
          let other : (c.number == y.number) ≡ false = grind (arith, nat_tests, less) in
          rw (e, other) (ap (λ ks. c.number ∷ ks) later)
      by Less side false e later = rw e later
      by Equal side true e later =
          let same : c.number ≡ y.number = ranked c.number y.number Equal (sym side) in
          let hit : (c.number == y.number) ≡ true = grind (arith, nat_tests, same) in
          rw (e, hit, is) (above_stay c.number y.number cs ascending.0 (omega (arith, same)))
      by Equal side false e later =
          let same : y.number ≤ c.number = omega (arith, ranked c.number y.number Equal (sym side)) in
          rw (e, is) (above_stay c.number y.number cs ascending.0 same)
      by Greater side true e later =
          let less : y.number < c.number = ranked c.number y.number Greater (sym side) in
          let other : (c.number == y.number) ≡ false = grind (arith, nat_tests, less) in
          rw (e, other, is) (ap (λ ks. c.number ∷ ks) (above_stay c.number y.number cs ascending.0 (omega (arith, less))))
      by Greater side false e later =
          let less : y.number < c.number = ranked c.number y.number Greater (sym side) in
          rw (e, is) (above_stay c.number y.number cs ascending.0 (omega (arith, less)))

  -- ---- one more, and one less

  -- a number above all goes to the end
  pub put_last : (last : ℕ) (cs : List Case) (c : Case) → AtMost last cs → last < c.number → p c ≡ true → put_number (numbers cs) c.number ≡ numbers (cs ++ c ∷ [])
  put_last last [] c most lt is = sym (first_passes c [] is)
  put_last last (d ∷ cs) c most lt is = by (p d) refl (put_last last cs c most.1 lt is)
    where
      by : (b : Bool) → p d ≡ b → put_number (numbers cs) c.number ≡ numbers (cs ++ c ∷ []) → put_number (numbers (d ∷ cs)) c.number ≡ numbers (d ∷ (cs ++ c ∷ []))
      by true e later =
          let less : nat_cmp d.number c.number ≡ Less = sym (nat_cmp_is d.number c.number Less (omega (arith, most.0, lt))) in
          rw (e, less) (ap (λ ks. d.number ∷ ks) later)
      by false e later = rw e later

  -- and one that does not pass is not there
  pub not_last : (last : ℕ) (cs : List Case) (c : Case) → AtMost last cs → last < c.number → p c ≡ false → without c.number (numbers cs) ≡ numbers (cs ++ c ∷ [])
  not_last last [] c most lt is = sym (first_fails c [] is)
  not_last last (d ∷ cs) c most lt is = by (p d) refl (not_last last cs c most.1 lt is)
    where
      by : (b : Bool) → p d ≡ b → without c.number (numbers cs) ≡ numbers (cs ++ c ∷ []) → without c.number (numbers (d ∷ cs)) ≡ numbers (d ∷ (cs ++ c ∷ []))
      by true e later =
          let other : (d.number == c.number) ≡ false = grind (arith, nat_tests, most.0, lt) in
          rw (e, other) (ap (λ ks. d.number ∷ ks) later)
      by false e later = rw e later

  -- without those of a number
  pub left : (n : ℕ) (cs : List Case) → without n (numbers cs) ≡ numbers (others n cs)
  left n [] = refl
  left n (c ∷ cs) = by (p c) refl (c.number == n) refl (left n cs)
    where
      by : (b : Bool) → p c ≡ b → (d : Bool) → (c.number == n) ≡ d → without n (numbers cs) ≡ numbers (others n cs)
          → without n (numbers (c ∷ cs)) ≡ numbers (cond (not d) (c ∷ others n cs) (others n cs))
      by true e true f later = rw (e, f) later
      by true e false f later = rw (e, f) (ap (λ ks. c.number ∷ ks) later)
      by false e true f later = rw e later
      by false e false f later = rw e later

  -- ---- the one at a place

  of_number : (i : ℕ) (cs : List Case) (c : Case) → Apart has_number cs → slice_get (filter p cs) i ≡ Some c → report c.number cs ≡ Some c
  of_number i [] c apart e = absurd (cc e)
  of_number i (d ∷ cs) c apart e = by (λ j f. of_number j cs c apart.1 f) (p d) i e
    where
      after : report c.number cs ≡ Some c → (b : Bool) → (d.number == c.number) ≡ b → cond b (Some d) (report c.number cs) ≡ Some c
      after g true is = absurd (cc (apart.0 c.number is, g))
      after g false is = g

      by : ((j : ℕ) → slice_get (filter p cs) j ≡ Some c → report c.number cs ≡ Some c) → (b : Bool) (i : ℕ) → slice_get (cond b (d ∷ filter p cs) (filter p cs)) i ≡ Some c → cond (d.number == c.number) (Some d) (report c.number cs) ≡ Some c
      by later true zero f =
          let same : d ≡ c = cc f in
          let self : (d.number == c.number) ≡ true = grind (arith, nat_tests, ap number same) in
          rw self f
      by later true (suc j) f = after (later j f) (d.number == c.number) refl
      by later false j f = after (later j f) (d.number == c.number) refl

  -- the report of the number at a place of the numbers is the one at that place of those that pass
  pub at_place : (i n : ℕ) (cs : List Case) → Apart has_number cs → slice_get (numbers cs) i ≡ Some n → slice_get (filter p cs) i ≡ report n cs
  at_place i n cs apart e = by (slice_get (filter p cs) i) refl (sym (slice_get-map number (filter p cs) i) ∙ e)
    where
      by : (o : Option Case) → slice_get (filter p cs) i ≡ o → option_map number o ≡ Some n → o ≡ report n cs
      by None is f = absurd (cc f)
      by (Some c) is f =
          let same : c.number ≡ n = cc f in
          sym (ap (λ k. report k cs) (sym same) ∙ of_number i cs c apart is)
