-- The index of expiry days has the reports' own, and so tells which reports do not live.
use Rattle.std.proofs.Common.{◌≡◌, ℕ, ◌<◌, ℤ, ◌++◌, Bool, true, false, cond, not, List, [], ◌∷◌, map, find, length, Option, Some, None, refl, sym, ap, ◌∙◌, subst, arith}
use Rattle.std.specs.Prelude.{filter, ◌==◌, ◌&&◌, ◌||◌, int_lt, is_some}
use Rattle.std.specs.List.{list_any, list_all}
use Rattle.std.specs.Ordering.{int_cmp, int_eq, nat_cmp, is_le, ordering_reverse}
use Rattle.std.specs.declared.cmp.Ordering.TheVariants.{Less, Equal, Greater}
use Rattle.std.specs.Cmp.{int_cmp_total, signed_Decides, unsigned_ties}
use Rattle.std.proofs.lemmas.Bool.Decides.{nat_tests}
use Rattle.std.proofs.lemmas.List.Folds.{list_any-append, list_all-append}
use Rattle.wb_base.specs.declared.kind.Kind.{Kind}
use Rattle.wb_base.specs.declared.kind.Kind.TheVariants.{Ack, Feedback, Expiry}
use Rattle.wb_list.specs.Keyed.{has_key}
use Rattle.wb_model.specs.Tables.{Case, has_number, report, others}
use Rattle.wb_model.specs.Trails.{expires}
use Rattle.wb_model.specs.Opened.{AtMost, Apart}
use Rattle.wb_model.proofs.Leaving.{apart_filter, apart_push}
use Rattle.wb_terms.specs.Index.{same_kind, same_term, is_up_to, first_of, numbers_up_to}
use Rattle.wb_terms.specs.declared.term_index.Term.{Term}
use Rattle.wb_tables.specs.Indexed.{expiry_of, is_begun, IsIndexed, AreExpired, IsTakenOut, AreCustodied}
use Rattle.wb_tables.specs.Kept.{case_of, lives_on}
use Rattle.wb_tables.specs.Places.{is_dead}
use Rattle.wb_tables.specs.declared.tenancy.Report.{Report as KeptCase}
use Rattle.wb_tables.proofs.CaseLists.{number_of}

-- ---- one of a list

-- what is so of an item is so of one of the list
abbrev pub IsOneOf : {X : Type 0} → X → List X → Type 0
IsOneOf {X} x xs = (q : X → Bool) → q x ≡ true → list_any q xs ≡ true

pub or_true : (b : Bool) → (b || true) ≡ true
or_true true = refl
or_true false = refl

pub record Found {X : Type 0} (p : X → Bool) (xs : List X) : Type 0 where
  pub item : X
  pub passes : p item ≡ true
  pub one : IsOneOf item xs

pub found : {X : Type 0} (p : X → Bool) (xs : List X) → list_any p xs ≡ true → Found p xs
found p [] e = absurd (grind (arith, e))
found p (x ∷ xs) e = by (λ g. found p xs g) (p x) refl e
  where
    by : (list_any p xs ≡ true → Found p xs) → (b : Bool) → p x ≡ b → (b || list_any p xs) ≡ true → Found p (x ∷ xs)
    by rest true is f = record { item = x; passes = is; one = λ q h. rw h refl }
    by rest false is f = let r = rest f in record { item = r.item; passes = r.passes; one = λ q h. rw (r.one q h) (or_true (q x)) }

pub both_and : (a b : Bool) → a ≡ true → b ≡ true → (a && b) ≡ true
both_and a b e f = rw (e, f) refl

pub first_and : (a b : Bool) → (a && b) ≡ true → a ≡ true
first_and true b e = refl
first_and false b e = e

pub second_and : (a b : Bool) → (a && b) ≡ true → b ≡ true
second_and true b e = e
second_and false b e = absurd (grind (arith, e))

-- two tests of which each gives the other
pub one_answer : (a b : Bool) → (a ≡ true → b ≡ true) → (b ≡ true → a ≡ true) → a ≡ b
one_answer true b f g = sym (f refl)
one_answer false true f g = g refl
one_answer false false f g = refl

pub any_found : {X : Type 0} (p : X → Bool) (xs : List X) → list_any p xs ≡ is_some (find p xs)
any_found p [] = refl
any_found p (x ∷ xs) = by (any_found p xs) (p x)
  where
    by : list_any p xs ≡ is_some (find p xs) → (b : Bool) → (b || list_any p xs) ≡ is_some (cond b (Some x) (find p xs))
    by rest true = refl
    by rest false = rest

pub some_none : {X : Type 0} (o : Option X) → is_some o ≡ false → o ≡ None
some_none None e = refl
some_none (Some x) e = absurd (grind (arith, e))

any_map : {X Y : Type 0} (f : X → Y) (p : Y → Bool) (xs : List X) → list_any p (map f xs) ≡ list_any (λ x. p (f x)) xs
any_map f p [] = refl
any_map f p (x ∷ xs) = ap (λ b. p (f x) || b) (any_map f p xs)

pub any_filter : {X : Type 0} (p q : X → Bool) (xs : List X) → list_any p (filter q xs) ≡ list_any (λ x. p x && q x) xs
any_filter p q [] = refl
any_filter p q (x ∷ xs) = by (q x) (p x) (any_filter p q xs)
  where
    by : (b a : Bool) → list_any p (filter q xs) ≡ list_any (λ x. p x && q x) xs → list_any p (cond b (x ∷ filter q xs) (filter q xs)) ≡ ((p x && b) || list_any (λ x. p x && q x) xs)
    by true a e = on (p x) e
      where
        on : (a : Bool) → list_any p (filter q xs) ≡ list_any (λ x. p x && q x) xs → (a || list_any p (filter q xs)) ≡ ((a && true) || list_any (λ x. p x && q x) xs)
        on true e = refl
        on false e = e
    by false a e = off (p x) e
      where
        off : (a : Bool) → list_any p (filter q xs) ≡ list_any (λ x. p x && q x) xs → list_any p (filter q xs) ≡ ((a && false) || list_any (λ x. p x && q x) xs)
        off true e = e
        off false e = e

all_one : {X : Type 0} (p q : X → Bool) (xs : List X) → list_all p xs ≡ true → list_any q xs ≡ true → list_any (λ x. p x && q x) xs ≡ true
all_one p q [] all one = absurd (grind (arith, one))
all_one p q (x ∷ xs) all one = by (λ f g. all_one p q xs f g) (p x) (q x) all one
  where
    by : (list_all p xs ≡ true → list_any q xs ≡ true → list_any (λ x. p x && q x) xs ≡ true) → (a b : Bool) → (a && list_all p xs) ≡ true → (b || list_any q xs) ≡ true → ((a && b) || list_any (λ x. p x && q x) xs) ≡ true
    by rest true true f g = refl
    by rest true false f g = rest f g
    by rest false b f g = absurd (grind (arith, f))

-- ---- terms

pub term_self : (t : Term) → same_term t t ≡ true
term_self t =
    let tenants : (t.tenant == t.tenant) ≡ true = grind (arith, nat_tests) in
    let days : int_eq t.day t.day ≡ true = (signed_Decides t.day t.day).1 refl in
    let numbers : (t.number == t.number) ≡ true = grind (arith, nat_tests) in
    rw (tenants, days, numbers) (kinds t.kind)
  where
    kinds : (k : Kind) → same_kind k k ≡ true
    kinds Ack = refl
    kinds Feedback = refl
    kinds Expiry = refl

pub kind_is : (k l : Kind) → same_kind k l ≡ true → k ≡ l
kind_is Ack Ack e = refl
kind_is Feedback Feedback e = refl
kind_is Expiry Expiry e = refl
kind_is Ack Feedback e = absurd (grind (arith, e))
kind_is Ack Expiry e = absurd (grind (arith, e))
kind_is Feedback Ack e = absurd (grind (arith, e))
kind_is Feedback Expiry e = absurd (grind (arith, e))
kind_is Expiry Ack e = absurd (grind (arith, e))
kind_is Expiry Feedback e = absurd (grind (arith, e))

nat_is : (a b : ℕ) → (a == b) ≡ true → a ≡ b
nat_is a b e = grind (arith, nat_tests, e)

pub term_is : (t x : Term) → same_term t x ≡ true → x ≡ t
term_is t x e =
    let a = first_and (x.tenant == t.tenant) _ e in
    let r = second_and (x.tenant == t.tenant) _ e in
    let b = first_and (int_eq x.day t.day) _ r in
    let s = second_and (int_eq x.day t.day) _ r in
    let c = first_and (x.number == t.number) _ s in
    let d = second_and (x.number == t.number) _ s in
    let tenants = nat_is x.tenant t.tenant a in
    let days = (signed_Decides x.day t.day).0 b in
    let numbers = nat_is x.number t.number c in
    let kinds = kind_is x.kind t.kind d in
    λ i. record { tenant = tenants i; day = days i; number = numbers i; kind = kinds i }

-- a day that is not before another is at or after it
due_is : (a b : ℤ) → not (int_lt a b) ≡ is_le (int_cmp b a)
due_is a b = by (int_lt a b) (int_lt b a) refl refl (int_cmp_total.antisymm a b)
  where
    by : (p q : Bool) → int_lt a b ≡ p → int_lt b a ≡ q → int_cmp a b ≡ ordering_reverse (int_cmp b a) → not p ≡ is_le (cond q Less (cond p Greater Equal))
    by true true e f h = let k : Less ≡ Greater = rw (e, f) at h in absurd (cc)
    by true false e f h = refl
    by false true e f h = refl
    by false false e f h = refl

dead_due : (tenant : ℕ) (today : ℤ) (c : Case) → is_begun c ≡ true → not (lives_on today c) ≡ is_up_to tenant today (expiry_of tenant c)
dead_due tenant today c begun =
    let self : (tenant == tenant) ≡ true = grind (arith, nat_tests) in
    rw (begun, self) (due_is today (expires c.trail))

-- ---- from the index to the reports, and back

-- the report that a term of the index is of
record OfTerm (tenant : ℕ) (cs : List Case) (t : Term) : Type 0 where
  case : Case
  one : IsOneOf case cs
  begun : is_begun case ≡ true
  is : expiry_of tenant case ≡ t

of_term : (tenant : ℕ) (cs : List Case) (terms : List Term) (t : Term) → IsIndexed tenant cs terms → list_any (same_term t) terms ≡ true → OfTerm tenant cs t
of_term tenant cs terms t h there =
    let f = found (λ c. is_begun c && same_term t (expiry_of tenant c)) cs (all_one is_begun (λ c. same_term t (expiry_of tenant c)) cs h.begun (sym (h.terms t) ∙ there)) in
    record {
      case = f.item;
      one = f.one;
      begun = first_and (is_begun f.item) _ f.passes;
      is = term_is t (expiry_of tenant f.item) (second_and (is_begun f.item) _ f.passes);
    }

-- the term of a report is in the index
in_index : (tenant : ℕ) (cs : List Case) (terms : List Term) (c : Case) → IsIndexed tenant cs terms → IsOneOf c cs → IsOneOf (expiry_of tenant c) terms
in_index tenant cs terms c h one q is =
    let f = found (same_term (expiry_of tenant c)) terms (h.terms (expiry_of tenant c) ∙ one (λ d. same_term (expiry_of tenant c) (expiry_of tenant d)) (term_self (expiry_of tenant c))) in
    f.one q (ap q (term_is (expiry_of tenant c) f.item f.passes) ∙ is)

-- a report of the list that does not live
record Dead (today : ℤ) (cs : List Case) (n : ℕ) : Type 0 where
  case : Case
  one : IsOneOf case cs
  begun : is_begun case ≡ true
  number : has_number n case ≡ true
  dead : not (lives_on today case) ≡ true

dead_of : (today : ℤ) (cs : List Case) (n : ℕ) → list_all is_begun cs ≡ true → is_dead n today cs ≡ true → Dead today cs n
dead_of today cs n begun dead =
    let f = found (λ c. is_begun c && (has_number n c && not (lives_on today c))) cs (all_one is_begun (λ c. has_number n c && not (lives_on today c)) cs begun dead) in
    let rest = second_and (is_begun f.item) _ f.passes in
    record {
      case = f.item;
      one = f.one;
      begun = first_and (is_begun f.item) _ f.passes;
      number = first_and (has_number n f.item) _ rest;
      dead = second_and (has_number n f.item) _ rest;
    }

-- ---- the numbers of the reports that do not live

abbrev is_due : ℕ → ℤ → ℕ → Term → Bool
is_due tenant today n t = ((t.number == n) && same_kind t.kind Expiry) && is_up_to tenant today t

numbers_any : (tenant : ℕ) (today : ℤ) (n : ℕ) (terms : List Term) → list_any (λ m. m == n) (numbers_up_to tenant today Expiry terms) ≡ list_any (is_due tenant today n) terms
numbers_any tenant today n terms =
    any_map (λ (t : Term). t.number) (λ m. m == n) (filter (λ t. same_kind t.kind Expiry) (filter (is_up_to tenant today) terms))
    ∙ (any_filter (λ (t : Term). t.number == n) (λ t. same_kind t.kind Expiry) (filter (is_up_to tenant today) terms)
    ∙ any_filter (λ (t : Term). (t.number == n) && same_kind t.kind Expiry) (is_up_to tenant today) terms)

pub expired_are : (tenant : ℕ) (today : ℤ) (cs : List Case) (terms : List Term) → IsIndexed tenant cs terms → AreExpired today cs (numbers_up_to tenant today Expiry terms)
expired_are tenant today cs terms h = λ n. numbers_any tenant today n terms ∙ one_answer (list_any (is_due tenant today n) terms) (is_dead n today cs) (to n) (back n)
  where
    to : (n : ℕ) → list_any (is_due tenant today n) terms ≡ true → is_dead n today cs ≡ true
    to n e =
        let f = found (is_due tenant today n) terms e in
        let t = f.item in
        let named = first_and ((t.number == n) && same_kind t.kind Expiry) _ f.passes in
        let upto = second_and ((t.number == n) && same_kind t.kind Expiry) _ f.passes in
        let o = of_term tenant cs terms t h (f.one (same_term t) (term_self t)) in
        o.one (λ c. has_number n c && not (lives_on today c)) (both_and (has_number n o.case) (not (lives_on today o.case)) (ap (λ (x : Term). x.number == n) o.is ∙ first_and (t.number == n) _ named) (dead_due tenant today o.case o.begun ∙ (ap (is_up_to tenant today) o.is ∙ upto)))

    back : (n : ℕ) → is_dead n today cs ≡ true → list_any (is_due tenant today n) terms ≡ true
    back n e =
        let d = dead_of today cs n h.begun e in
        in_index tenant cs terms d.case h d.one (is_due tenant today n) (both_and ((d.case.number == n) && true) (is_up_to tenant today (expiry_of tenant d.case)) (both_and (d.case.number == n) true d.number refl) (sym (dead_due tenant today d.case d.begun) ∙ d.dead))

pub some_expired : (today : ℤ) (cs : List Case) (ns : List ℕ) → AreExpired today cs ns → 0 < length ns → list_any (λ c. not (lives_on today c)) cs ≡ true
some_expired today cs [] h some = absurd (omega (arith, some))
some_expired today cs (n ∷ ns) h some =
    let self : (n == n) ≡ true = grind (arith, nat_tests) in
    let f = found (λ c. has_number n c && not (lives_on today c)) cs (sym (h n) ∙ rw self refl) in
    f.one (λ c. not (lives_on today c)) (second_and (has_number n f.item) _ f.passes)

-- ---- what the first term that is due says

find_filter : {X : Type 0} (p q : X → Bool) (xs : List X) → find p (filter q xs) ≡ find (λ x. p x && q x) xs
find_filter p q [] = refl
find_filter p q (x ∷ xs) = by (q x) (p x) refl refl (find_filter p q xs)
  where
    by : (b a : Bool) → q x ≡ b → p x ≡ a → find p (filter q xs) ≡ find (λ x. p x && q x) xs → find p (cond b (x ∷ filter q xs) (filter q xs)) ≡ cond (a && b) (Some x) (find (λ x. p x && q x) xs)
    by true true e f rest = rw f refl
    by true false e f rest = rw f rest
    by false true e f rest = rest
    by false false e f rest = rest

record First {X : Type 0} (p : X → Bool) (xs : List X) (x : X) : Type 0 where
  passes : p x ≡ true
  one : IsOneOf x xs

some_is : {X : Type 0} (x y : X) → Some x ≡ Some y → x ≡ y
some_is x y e = cc

first : {X : Type 0} (p : X → Bool) (xs : List X) (x : X) → find p xs ≡ Some x → First p xs x
first p [] x e = absurd (cc)
first {X} p (y ∷ ys) x e = by (λ g. first p ys x g) (p y) refl e
  where
    by : (find p ys ≡ Some x → First p ys x) → (b : Bool) → p y ≡ b → cond b (Some y) (find p ys) ≡ Some x → First p (y ∷ ys) x
    by rest true is f = let same = some_is y x f in record { passes = ap p (sym same) ∙ is; one = λ q h. rw (ap q same ∙ h) refl }
    by rest false is f = let r = rest f in record { passes = r.passes; one = λ q h. rw (r.one q h) (or_true (q y)) }

-- of the reports of a number there is one at most
none_and : (A : Case → Bool) (n : ℕ) (cs : List Case) → find (has_number n) cs ≡ None → list_any (λ c. has_number n c && A c) cs ≡ false
none_and A n [] e = refl
none_and A n (c ∷ cs) e = by (λ f. none_and A n cs f) (has_number n c) e
  where
    by : (find (has_number n) cs ≡ None → list_any (λ c. has_number n c && A c) cs ≡ false) → (b : Bool) → cond b (Some c) (find (has_number n) cs) ≡ None → ((b && A c) || list_any (λ c. has_number n c && A c) cs) ≡ false
    by rest true f = absurd (cc)
    by rest false f = rest f

alone : (a b : Bool) → (a || b) ≡ true → b ≡ false → a ≡ true
alone true b e f = refl
alone false b e f = sym f ∙ e

same_one : (A B : Case → Bool) (n : ℕ) (cs : List Case) → Apart has_number cs → list_any (λ c. has_number n c && A c) cs ≡ true → list_any (λ c. has_number n c && B c) cs ≡ true → Found (λ c. A c && B c) cs
same_one A B n [] apart a b = absurd (grind (arith, a))
same_one A B n (c ∷ cs) apart a b = by (λ f g. same_one A B n cs apart.1 f g) (has_number n c) refl a b
  where
    by : (list_any (λ c. has_number n c && A c) cs ≡ true → list_any (λ c. has_number n c && B c) cs ≡ true → Found (λ c. A c && B c) cs) → (h : Bool) → has_number n c ≡ h → ((h && A c) || list_any (λ c. has_number n c && A c) cs) ≡ true → ((h && B c) || list_any (λ c. has_number n c && B c) cs) ≡ true → Found (λ c. A c && B c) (c ∷ cs)
    by rest true is f g = record {
      item = c;
      passes = both_and (A c) (B c) (alone (A c) _ f (none_and A n cs (apart.0 n is))) (alone (B c) _ g (none_and B n cs (apart.0 n is)));
      one = λ q h. rw h refl;
    }
    by rest false is f g = let r = rest f g in record { item = r.item; passes = r.passes; one = λ q h. rw (r.one q h) (or_true (q c)) }

left_live : (today : ℤ) (n : ℕ) (cs : List Case) → list_any (λ c. has_number n c && lives_on today c) cs ≡ false → filter (lives_on today) (filter (λ c. not (has_number n c)) cs) ≡ filter (lives_on today) cs
left_live today n [] e = refl
left_live today n (c ∷ cs) e = by (λ g. left_live today n cs g) (has_number n c) (lives_on today c) refl e
  where
    by : (list_any (λ c. has_number n c && lives_on today c) cs ≡ false → filter (lives_on today) (filter (λ c. not (has_number n c)) cs) ≡ filter (lives_on today) cs) → (h l : Bool) → lives_on today c ≡ l → ((h && l) || list_any (λ c. has_number n c && lives_on today c) cs) ≡ false
        → filter (lives_on today) (cond (not h) (c ∷ filter (λ c. not (has_number n c)) cs) (filter (λ c. not (has_number n c)) cs)) ≡ cond l (c ∷ filter (lives_on today) cs) (filter (lives_on today) cs)
    by rest true true f g = absurd (grind (arith, g))
    by rest true false f g = rest g
    by rest false true f g = rw f (ap (λ ds. c ∷ ds) (rest g))
    by rest false false f g = rw f (rest g)

pub all_filter : {X : Type 0} (p q : X → Bool) (xs : List X) → list_all p xs ≡ true → list_all p (filter q xs) ≡ true
all_filter p q [] e = refl
all_filter p q (x ∷ xs) e = by (q x) (first_and (p x) _ e) (all_filter p q xs (second_and (p x) _ e))
  where
    by : (b : Bool) → p x ≡ true → list_all p (filter q xs) ≡ true → list_all p (cond b (x ∷ filter q xs) (filter q xs)) ≡ true
    by true is rest = rw is rest
    by false is rest = rest

not_of : (b : Bool) → (b ≡ true → ⊥) → b ≡ false
not_of true refuted = absurd (refuted refl)
not_of false refuted = refl

no_of : (b : Bool) → not b ≡ true → b ≡ true → ⊥
no_of true e f = grind (arith, e)
no_of false e f = grind (arith, f)

not_is : (b : Bool) → b ≡ false → not b ≡ true
not_is b e = rw e refl

module _ (tenant : ℕ) (cs : List Case) (terms : List Term) (h : IsIndexed tenant cs terms) where
  -- the terms that are left are those of the reports that are left
  left_terms : (t : Term) → IsOneOf t terms → (u : Term) → list_any (same_term u) (filter (λ x. not (same_term t x)) terms) ≡ list_any (λ c. same_term u (expiry_of tenant c)) (others t.number cs)
  left_terms t one u =
      any_filter (same_term u) (λ x. not (same_term t x)) terms
      ∙ (one_answer (list_any (λ x. same_term u x && not (same_term t x)) terms) (list_any (λ c. same_term u (expiry_of tenant c) && not (has_number t.number c)) cs) to back
      ∙ sym (any_filter (λ c. same_term u (expiry_of tenant c)) (λ c. not (has_number t.number c)) cs))
    where
      named : list_any (λ c. has_number t.number c && same_term t (expiry_of tenant c)) cs ≡ true
      named =
          let o = of_term tenant cs terms t h (one (same_term t) (term_self t)) in
          let self : (t.number == t.number) ≡ true = grind (arith, nat_tests) in
          o.one (λ c. has_number t.number c && same_term t (expiry_of tenant c)) (both_and (has_number t.number o.case) (same_term t (expiry_of tenant o.case)) (ap (λ (x : Term). x.number == t.number) o.is ∙ self) (ap (same_term t) o.is ∙ term_self t))

      to : list_any (λ x. same_term u x && not (same_term t x)) terms ≡ true → list_any (λ c. same_term u (expiry_of tenant c) && not (has_number t.number c)) cs ≡ true
      to e =
          let g = found (λ x. same_term u x && not (same_term t x)) terms e in
          let is = term_is u g.item (first_and (same_term u g.item) _ g.passes) in
          let other : not (same_term t u) ≡ true = ap (λ x. not (same_term t x)) (sym is) ∙ second_and (same_term u g.item) _ g.passes in
          let o = of_term tenant cs terms u h (g.one (same_term u) (first_and (same_term u g.item) _ g.passes)) in
          let apart : has_number t.number o.case ≡ false = not_of (has_number t.number o.case) (λ hit.
          let both = same_one (λ c. same_term t (expiry_of tenant c)) (λ c. same_term u (expiry_of tenant c)) t.number cs h.apart named (o.one (λ c. has_number t.number c && same_term u (expiry_of tenant c)) (both_and (has_number t.number o.case) (same_term u (expiry_of tenant o.case)) hit (ap (same_term u) o.is ∙ term_self u))) in
          let a = term_is t (expiry_of tenant both.item) (first_and (same_term t (expiry_of tenant both.item)) _ both.passes) in
          let b = term_is u (expiry_of tenant both.item) (second_and (same_term t (expiry_of tenant both.item)) _ both.passes) in
          no_of (same_term t u) other (ap (same_term t) (sym b ∙ a) ∙ term_self t)) in
          o.one (λ c. same_term u (expiry_of tenant c) && not (has_number t.number c)) (both_and (same_term u (expiry_of tenant o.case)) (not (has_number t.number o.case)) (ap (same_term u) o.is ∙ term_self u) (not_is (has_number t.number o.case) apart))

      back : list_any (λ c. same_term u (expiry_of tenant c) && not (has_number t.number c)) cs ≡ true → list_any (λ x. same_term u x && not (same_term t x)) terms ≡ true
      back e =
          let g = found (λ c. same_term u (expiry_of tenant c) && not (has_number t.number c)) cs e in
          let c = g.item in
          let here = first_and (same_term u (expiry_of tenant c)) _ g.passes in
          let apart = second_and (same_term u (expiry_of tenant c)) _ g.passes in
          let is = term_is u (expiry_of tenant c) here in
          let other : same_term t (expiry_of tenant c) ≡ false = not_of (same_term t (expiry_of tenant c)) (λ hit.
          let same = term_is t (expiry_of tenant c) hit in
          let self : (t.number == t.number) ≡ true = grind (arith, nat_tests) in
          no_of (has_number t.number c) apart (ap (λ (x : Term). x.number == t.number) same ∙ self)) in
          in_index tenant cs terms c h g.one (λ x. same_term u x && not (same_term t x)) (both_and (same_term u (expiry_of tenant c)) (not (same_term t (expiry_of tenant c))) here (not_is (same_term t (expiry_of tenant c)) other))

  left_index : (t : Term) → IsOneOf t terms → IsIndexed tenant (others t.number cs) (filter (λ x. not (same_term t x)) terms)
  left_index t one = record {
    apart = apart_filter has_number (λ c. not (has_number t.number c)) cs h.apart;
    begun = all_filter is_begun (λ c. not (has_number t.number c)) cs h.begun;
    terms = left_terms t one;
  }

  -- the report of a number is taken out, and its term
  pub removed : (n : ℕ) (c : Case) → report n cs ≡ Some c → IsIndexed tenant (others n cs) (filter (λ x. not (same_term (expiry_of tenant c) x)) terms)
  removed n c e =
      let f = first (has_number n) cs c e in
      subst (λ k. IsIndexed tenant (others k cs) (filter (λ x. not (same_term (expiry_of tenant c) x)) terms)) (nat_is c.number n f.passes) (left_index (expiry_of tenant c) (in_index tenant cs terms c h f.one))

module _ (tenant : ℕ) (today : ℤ) (cs : List Case) (terms : List Term) (h : IsIndexed tenant cs terms) where
  abbrev is_first : Term → Bool
  is_first t = same_kind t.kind Expiry && is_up_to tenant today t

  -- a term that is due is of a report that does not live
  taken_dead : (t : Term) → First is_first terms t → is_dead t.number today cs ≡ true
  taken_dead t f =
      let o = of_term tenant cs terms t h (f.one (same_term t) (term_self t)) in
      let self : (t.number == t.number) ≡ true = grind (arith, nat_tests) in
      o.one (λ c. has_number t.number c && not (lives_on today c)) (both_and (has_number t.number o.case) (not (lives_on today o.case)) (ap (λ (x : Term). x.number == t.number) o.is ∙ self) (dead_due tenant today o.case o.begun ∙ (ap (is_up_to tenant today) o.is ∙ second_and (same_kind t.kind Expiry) _ f.passes)))

  taken_live : (n : ℕ) → is_dead n today cs ≡ true → list_any (λ c. has_number n c && lives_on today c) cs ≡ false
  taken_live n dead = not_of (list_any (λ c. has_number n c && lives_on today c) cs) (λ live.
      let f = same_one (lives_on today) (λ c. not (lives_on today c)) n cs h.apart live dead in
      no_of (lives_on today f.item) (second_and (lives_on today f.item) _ f.passes) (first_and (lives_on today f.item) _ f.passes))

  pub taken : (t : Term) → Some t ≡ first_of Expiry (filter (is_up_to tenant today) terms) → IsTakenOut today t.number cs (others t.number cs)
  taken t e =
      let f = first is_first terms t (sym (find_filter (λ x. same_kind x.kind Expiry) (is_up_to tenant today) terms) ∙ sym e) in
      let dead = taken_dead t f in
      record { dead = dead; left = refl; live = left_live today t.number cs (taken_live t.number dead) }

  pub all_live : None ≡ first_of Expiry (filter (is_up_to tenant today) terms) → list_any (λ c. not (lives_on today c)) cs ≡ false
  all_live e = not_of (list_any (λ c. not (lives_on today c)) cs) (λ some.
      let g = found (λ c. is_begun c && not (lives_on today c)) cs (all_one is_begun (λ c. not (lives_on today c)) cs h.begun some) in
      let c = g.item in
      let upto : is_up_to tenant today (expiry_of tenant c) ≡ true = sym (dead_due tenant today c (first_and (is_begun c) _ g.passes)) ∙ second_and (is_begun c) _ g.passes in
      let there = in_index tenant cs terms c h g.one is_first (both_and true (is_up_to tenant today (expiry_of tenant c)) refl upto) in
      let none = sym (find_filter (λ x. same_kind x.kind Expiry) (is_up_to tenant today) terms) ∙ sym e in
      let nothing : list_any is_first terms ≡ false = any_found is_first terms ∙ ap is_some none in
      grind (arith, sym nothing ∙ there))

-- ---- one more report

absent : (last n : ℕ) (cs : List Case) → AtMost last cs → last < n → find (has_number n) cs ≡ None
absent last n [] most lt = refl
absent last n (c ∷ cs) most lt =
    let other : (c.number == n) ≡ false = grind (arith, nat_tests, most.0, lt) in
    rw other (absent last n cs most.1 lt)

pub free_term : (tenant last : ℕ) (cs : List Case) (terms : List Term) (c : Case) → IsIndexed tenant cs terms → AtMost last cs → last < c.number → find (same_term (expiry_of tenant c)) terms ≡ None
free_term tenant last cs terms c h most lt = some_none (find (same_term (expiry_of tenant c)) terms) (sym (any_found (same_term (expiry_of tenant c)) terms) ∙ not_of (list_any (same_term (expiry_of tenant c)) terms) (λ there.
    let o = of_term tenant cs terms (expiry_of tenant c) h there in
    let self : (c.number == c.number) ≡ true = grind (arith, nat_tests) in
    let hit = o.one (λ d. has_number c.number d && true) (both_and (has_number c.number o.case) true (ap (λ (x : Term). x.number == c.number) o.is ∙ self) refl) in
    grind (arith, sym (none_and (λ d. true) c.number cs (absent last c.number cs most lt)) ∙ hit)))

pub indexed_more : (tenant last : ℕ) (cs : List Case) (terms new : List Term) (c : Case) → IsIndexed tenant cs terms → AtMost last cs → last < c.number → is_begun c ≡ true
    → ((u : Term) → find (same_term u) new ≡ cond (same_term u (expiry_of tenant c)) (Some (expiry_of tenant c)) (find (same_term u) terms)) → IsIndexed tenant (cs ++ c ∷ []) new
indexed_more tenant last cs terms new c h most lt begun after = record {
  apart = apart_push has_number cs c h.apart (λ k is. ap (λ n. find (has_number n) cs) (sym (nat_is c.number k is)) ∙ absent last c.number cs most lt);
  begun = list_all-append is_begun cs (c ∷ []) ∙ rw (h.begun, begun) refl;
  terms = λ u. any_found (same_term u) new ∙ (ap is_some (after u) ∙ (by u (same_term u (expiry_of tenant c)) refl ∙ sym (list_any-append (λ d. same_term u (expiry_of tenant d)) cs (c ∷ []))));
}
  where
    by : (u : Term) (b : Bool) → same_term u (expiry_of tenant c) ≡ b → is_some (cond b (Some (expiry_of tenant c)) (find (same_term u) terms)) ≡ (list_any (λ d. same_term u (expiry_of tenant d)) cs || (same_term u (expiry_of tenant c) || false))
    by u true e = rw e (sym (or_true (list_any (λ d. same_term u (expiry_of tenant d)) cs)))
    by u false e = rw e (sym (any_found (same_term u) terms) ∙ (h.terms u ∙ or_none (list_any (λ d. same_term u (expiry_of tenant d)) cs)))
      where
        or_none : (b : Bool) → b ≡ (b || false)
        or_none true = refl
        or_none false = refl

-- ---- the table of the code

map_without : (n : ℕ) (ks : List KeptCase) → map case_of (filter (λ k. not (has_key nat_cmp number_of n k)) ks) ≡ others n (map case_of ks)
map_without n [] = refl
map_without n (k ∷ ks) = rw (← unsigned_ties k.number n) (by (k.number == n) (map_without n ks))
  where
    by : (b : Bool) → map case_of (filter (λ k. not (has_key nat_cmp number_of n k)) ks) ≡ others n (map case_of ks)
        → map case_of (cond (not b) (k ∷ filter (λ k. not (has_key nat_cmp number_of n k)) ks) (filter (λ k. not (has_key nat_cmp number_of n k)) ks)) ≡ cond (not b) (case_of k ∷ others n (map case_of ks)) (others n (map case_of ks))
    by true e = e
    by false e = ap (λ ds. case_of k ∷ ds) e

-- where it is not there, all stay
pub none_left : (n : ℕ) (ks : List KeptCase) → find (has_key nat_cmp number_of n) ks ≡ None → filter (λ k. not (has_key nat_cmp number_of n k)) ks ≡ ks
none_left n [] e = refl
none_left n (k ∷ ks) e = by (λ f. none_left n ks f) (has_key nat_cmp number_of n k) e
  where
    by : (find (has_key nat_cmp number_of n) ks ≡ None → filter (λ z. not (has_key nat_cmp number_of n z)) ks ≡ ks) → (b : Bool) → cond b (Some k) (find (has_key nat_cmp number_of n) ks) ≡ None
        → cond (not b) (k ∷ filter (λ z. not (has_key nat_cmp number_of n z)) ks) (filter (λ z. not (has_key nat_cmp number_of n z)) ks) ≡ k ∷ ks
    by rest true f = absurd (cc f)
    by rest false f = ap (λ zs. k ∷ zs) (rest f)

pub left_cases : (n : ℕ) (ks left : List KeptCase) → left ≡ filter (λ k. not (has_key nat_cmp number_of n k)) ks → map case_of left ≡ others n (map case_of ks)
left_cases n ks left e = ap (map case_of) e ∙ map_without n ks

-- the reports that live are those that were there, where what was taken out did not live
living_left : (today : ℤ) (n : ℕ) (ks : List KeptCase) → list_any (λ c. has_number n c && lives_on today c) (map case_of ks) ≡ false
    → filter (λ k. lives_on today (case_of k)) (filter (λ k. not (has_number n (case_of k))) ks) ≡ filter (λ k. lives_on today (case_of k)) ks
living_left today n [] e = refl
living_left today n (k ∷ ks) e = by (λ g. living_left today n ks g) (has_number n (case_of k)) (lives_on today (case_of k)) refl e
  where
    by : (list_any (λ c. has_number n c && lives_on today c) (map case_of ks) ≡ false → filter (λ k. lives_on today (case_of k)) (filter (λ k. not (has_number n (case_of k))) ks) ≡ filter (λ k. lives_on today (case_of k)) ks)
        → (h l : Bool) → lives_on today (case_of k) ≡ l → ((h && l) || list_any (λ c. has_number n c && lives_on today c) (map case_of ks)) ≡ false
        → filter (λ k. lives_on today (case_of k)) (cond (not h) (k ∷ filter (λ k. not (has_number n (case_of k))) ks) (filter (λ k. not (has_number n (case_of k))) ks)) ≡ cond l (k ∷ filter (λ k. lives_on today (case_of k)) ks) (filter (λ k. lives_on today (case_of k)) ks)
    by rest true true f g = absurd (grind (arith, g))
    by rest true false f g = rest g
    by rest false true f g = rw f (ap (λ ds. k ∷ ds) (rest g))
    by rest false false f g = rw f (rest g)

pub left_reports : (tenant : ℕ) (today : ℤ) (ks left : List KeptCase) (terms : List Term) → IsIndexed tenant (map case_of ks) terms → (t : Term) → Some t ≡ first_of Expiry (filter (is_up_to tenant today) terms) → left ≡ filter (λ k. not (has_number t.number (case_of k))) ks
    → filter (λ k. lives_on today (case_of k)) left ≡ filter (λ k. lives_on today (case_of k)) ks
left_reports tenant today ks left terms h t e is =
    let dead = (taken tenant today (map case_of ks) terms h t e).dead in
    ap (filter (λ k. lives_on today (case_of k))) is
    ∙ living_left today t.number ks (taken_live tenant today (map case_of ks) terms h t.number dead)

-- ---- the requests that are kept

pub custodied_filtered : (p : KeptCase → Bool) (cs : List KeptCase) → AreCustodied cs → AreCustodied (filter p cs)
custodied_filtered p [] all = tt
custodied_filtered p (c ∷ cs) all = by (custodied_filtered p cs all.1) (p c)
  where
    by : AreCustodied (filter p cs) → (b : Bool) → AreCustodied (cond b (c ∷ filter p cs) (filter p cs))
    by later true = (all.0, later)
    by later false = later

pub left_custodied : (n : ℕ) (ks left : List KeptCase) → left ≡ filter (λ k. not (has_key nat_cmp number_of n k)) ks → AreCustodied ks → AreCustodied left
left_custodied n ks left is all = subst AreCustodied (sym is) (custodied_filtered (λ k. not (has_key nat_cmp number_of n k)) ks all)
