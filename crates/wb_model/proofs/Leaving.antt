-- Lists without one report: what is found after a filter, and keys that are told apart.
use Rattle.std.proofs.Common.{◌≡◌, ◌≢◌, ◌⊎◌, inl, inr, ℕ, ◌+◌, Bool, true, false, cond, not, eqb, List, [], ◌∷◌, ◌++◌, Some, None, refl, sym, ap, ◌∙◌, arith}
use Rattle.std.specs.Prelude.{is_some, nat_lt, filter, map, find, ◌&&◌}
use Rattle.std.proofs.lemmas.Bool.Decides.{nat_tests}
use Rattle.wb_base.specs.declared.words.Digest.{Digest}
use Rattle.wb_model.specs.Tables.{Case, Session, Who, TheUser, TheReporter, report, has_number, has_receipt, with_receipt, is_there, stays, lasts, others, is_reporter_of, sessions_but}
use Rattle.wb_model.specs.Opened.{Apart}
use Rattle.wb_model.proofs.Found.{Held, same_number, other_number, decide, filter_twice, find_true}

pub truth : (b : Bool) → (b ≡ true) ⊎ (b ≡ false)
truth true = inl refl
truth false = inr refl

-- ---- filters

pub filter_swap : {X : Type 0} (p q : X → Bool) (xs : List X) → filter p (filter q xs) ≡ filter q (filter p xs)
filter_swap p q [] = refl
filter_swap p q (x ∷ xs) = grind (arith, filter_swap p q xs)

filter_both : {X : Type 0} (p q f : X → Bool) (xs : List X) → ((x : X) → (p x && f x) ≡ (q x && f x)) → filter p (filter f xs) ≡ filter f (filter q xs)
filter_both p q f [] same = refl
filter_both p q f (x ∷ xs) same = grind (arith, same x, filter_both p q f xs same)

-- what passes a filter passes a weaker one
filter_passed : {X : Type 0} (f g : X → Bool) (xs : List X) → ((x : X) → g x ≡ true → f x ≡ true) → filter f (filter g xs) ≡ filter g xs
filter_passed f g xs up = filter_swap f g xs ∙ filter_twice f g up xs

-- ---- what is found

pub none_filter : {X : Type 0} (p f : X → Bool) (xs : List X) → find p xs ≡ None → find p (filter f xs) ≡ None
none_filter p f [] e = refl
none_filter {X} p f (x ∷ xs) e = by (none_filter p f xs) (p x) (f x) refl e
  where
    by : (find p xs ≡ None → find p (filter f xs) ≡ None) → (b d : Bool) → p x ≡ b → cond b (Some x) (find p xs) ≡ None → find p (cond d (x ∷ filter f xs) (filter f xs)) ≡ None
    by ih true d is g = absurd (grind (arith, g))
    by ih false true is g = ap (λ b. cond b (Some x) (find p (filter f xs))) is ∙ ih g
    by ih false false is g = ih g

pub some_filter : {X : Type 0} (p f : X → Bool) (xs : List X) (x : X) → find p xs ≡ Some x → f x ≡ true → find p (filter f xs) ≡ Some x
some_filter p f [] x e k = absurd (grind (arith, e))
some_filter {X} p f (y ∷ ys) x e k = by (λ g. some_filter p f ys x g k) (p y) (f y) refl refl e
  where
    by : (find p ys ≡ Some x → find p (filter f ys) ≡ Some x) → (b d : Bool) → p y ≡ b → f y ≡ d → cond b (Some y) (find p ys) ≡ Some x → find p (cond d (y ∷ filter f ys) (filter f ys)) ≡ Some x
    by ih true true is at g = ap (λ b. cond b (Some y) (find p (filter f ys))) is ∙ g
    by ih true false is at g = let same : y ≡ x = cc in absurd (let bad : true ≡ false = sym k ∙ (ap f (sym same) ∙ at) in grind (arith, bad))
    by ih false true is at g = ap (λ b. cond b (Some y) (find p (filter f ys))) is ∙ ih g
    by ih false false is at g = ih g

-- where one test finds none, a narrower finds none
none_narrow : {X : Type 0} (p q : X → Bool) (xs : List X) → ((x : X) → q x ≡ true → p x ≡ true) → find p xs ≡ None → find q xs ≡ None
none_narrow p q [] up e = refl
none_narrow {X} p q (x ∷ xs) up e = by (none_narrow p q xs up) (p x) (q x) refl refl e
  where
    by : (find p xs ≡ None → find q xs ≡ None) → (b d : Bool) → p x ≡ b → q x ≡ d → cond b (Some x) (find p xs) ≡ None → cond d (Some x) (find q xs) ≡ None
    by ih true d is at g = absurd (grind (arith, g))
    by ih false true is at g = absurd (let bad : false ≡ true = sym is ∙ up x at in grind (arith, bad))
    by ih false false is at g = ih g

-- what was found and is left out leaves nothing behind that would be found
pub apart_gone : {K X : Type 0} (P : K → X → Bool) (q f : X → Bool) (k : K) → ((x : X) → q x ≡ true → P k x ≡ true) → (xs : List X) (x : X) → Apart P xs → find q xs ≡ Some x → f x ≡ false → find q (filter f xs) ≡ None
apart_gone P q f k up [] x a e out = absurd (grind (arith, e))
apart_gone {K} {X} P q f k up (y ∷ ys) x a e out = by (λ g. apart_gone P q f k up ys x a.1 g out) (q y) (f y) refl refl e
  where
    by : (find q ys ≡ Some x → find q (filter f ys) ≡ None) → (b d : Bool) → q y ≡ b → f y ≡ d → cond b (Some y) (find q ys) ≡ Some x → find q (cond d (y ∷ filter f ys) (filter f ys)) ≡ None
    by ih true true is at g = let same : y ≡ x = cc in absurd (let bad : true ≡ false = sym at ∙ (ap f same ∙ out) in grind (arith, bad))
    by ih true false is at g = none_filter q f ys (none_narrow (P k) q ys up (a.0 k (up y is)))
    by ih false true is at g = ap (λ b. cond b (Some y) (find q (filter f ys))) is ∙ ih g
    by ih false false is at g = ih g

apart_cond : {K X : Type 0} (P : K → X → Bool) (b : Bool) (x : X) (xs : List X) → ((k : K) → P k x ≡ true → find (P k) xs ≡ None) → Apart P xs → Apart P (cond b (x ∷ xs) xs)
apart_cond P true x xs h a = (h, a)
apart_cond P false x xs h a = a

pub apart_filter : {K X : Type 0} (P : K → X → Bool) (f : X → Bool) (xs : List X) → Apart P xs → Apart P (filter f xs)
apart_filter P f [] a = tt
apart_filter P f (x ∷ xs) a = apart_cond P (f x) x (filter f xs) (λ k is. none_filter (P k) f xs (a.0 k is)) (apart_filter P f xs a.1)

pub none_push : {X : Type 0} (p : X → Bool) (xs : List X) (x : X) → find p xs ≡ None → p x ≡ false → find p (xs ++ x ∷ []) ≡ None
none_push p [] x e is = ap (λ b. cond b (Some x) None) is
none_push {X} p (y ∷ ys) x e is = by (λ g. none_push p ys x g is) (p y) e
  where
    by : (find p ys ≡ None → find p (ys ++ x ∷ []) ≡ None) → (b : Bool) → cond b (Some y) (find p ys) ≡ None → cond b (Some y) (find p (ys ++ x ∷ [])) ≡ None
    by ih true g = absurd (grind (arith, g))
    by ih false g = ih g

none_head : {X : Type 0} (p : X → Bool) (y : X) (ys : List X) → find p (y ∷ ys) ≡ None → (p y ≡ false) × (find p ys ≡ None)
none_head {X} p y ys e = by (p y) e
  where
    by : (b : Bool) → cond b (Some y) (find p ys) ≡ None → (b ≡ false) × (find p ys ≡ None)
    by true g = absurd (grind (arith, g))
    by false g = (refl, g)

pub apart_push : {K X : Type 0} (P : K → X → Bool) (xs : List X) (x : X) → Apart P xs → ((k : K) → P k x ≡ true → find (P k) xs ≡ None) → Apart P (xs ++ x ∷ [])
apart_push P [] x a h = ((λ k is. refl), tt)
apart_push {K} {X} P (y ∷ ys) x a h = ((λ k is. first k is (truth (P k x))), apart_push P ys x a.1 (λ k at. (none_head (P k) y ys (h k at)).1))
  where
    first : (k : K) → P k y ≡ true → (P k x ≡ true) ⊎ (P k x ≡ false) → find (P k) (ys ++ x ∷ []) ≡ None
    first k is (inl at) = absurd (let bad : true ≡ false = sym is ∙ (none_head (P k) y ys (h k at)).0 in grind (arith, bad))
    first k is (inr at) = none_push (P k) ys x (a.0 k is) at

pub none_map : {X : Type 0} (p : X → Bool) (f : X → X) (xs : List X) → ((x : X) → p (f x) ≡ p x) → find p xs ≡ None → find p (map f xs) ≡ None
none_map p f [] same e = refl
none_map {X} p f (x ∷ xs) same e = by (none_map p f xs same) (p x) refl e
  where
    by : (find p xs ≡ None → find p (map f xs) ≡ None) → (b : Bool) → p x ≡ b → cond b (Some x) (find p xs) ≡ None → find p (f x ∷ map f xs) ≡ None
    by ih true is g = absurd (grind (arith, g))
    by ih false is g = ap (λ b. cond b (Some (f x)) (find p (map f xs))) (same x ∙ is) ∙ ih g

pub apart_map : {K X : Type 0} (P : K → X → Bool) (f : X → X) (xs : List X) → ((k : K) (x : X) → P k (f x) ≡ P k x) → Apart P xs → Apart P (map f xs)
apart_map P f [] same a = tt
apart_map P f (x ∷ xs) same a = ((λ k is. none_map (P k) f xs (same k) (a.0 k (sym (same k x) ∙ is))), apart_map P f xs same a.1)

-- ---- reports

-- a receipt that r does not have is taken without r where it is taken
pub taken_others : (d : Digest) (r : ℕ) (cs : List Case) → ((c : Case) → Held c cs → c.number ≡ r → has_receipt d c ≡ false) → is_some (with_receipt d (others r cs)) ≡ is_some (with_receipt d cs)
taken_others d r [] off = refl
taken_others d r (c ∷ cs) off = by (decide c.number r) (taken_others d r cs (λ x h e. off x (inr h) e))
  where
    on : (b : Bool) → is_some (with_receipt d (others r cs)) ≡ is_some (with_receipt d cs) → is_some (cond b (Some c) (with_receipt d (others r cs))) ≡ is_some (cond b (Some c) (with_receipt d cs))
    on true ih = refl
    on false ih = ih

    by : (c.number ≡ r) ⊎ (c.number ≢ r) → is_some (with_receipt d (others r cs)) ≡ is_some (with_receipt d cs) → is_some (with_receipt d (others r (c ∷ cs))) ≡ is_some (with_receipt d (c ∷ cs))
    by (inl here) ih = let k : eqb c.number r ≡ true = same_number c.number r here in let f : has_receipt d c ≡ false = off c (inl refl) here in rw (k, f) ih
    by (inr ne) ih = let k : eqb c.number r ≡ false = other_number c.number r ne in rw k (on (has_receipt d c) ih)

pub there_others : (r q : ℕ) (cs : List Case) → is_there q (others r cs) ≡ (is_there q cs && not (eqb q r))
there_others r q [] = refl
there_others r q (c ∷ cs) = grind (arith, nat_tests, there_others r q cs)

pub report_others : (n r : ℕ) (cs : List Case) → n ≢ r → report n (others r cs) ≡ report n cs
report_others n r [] ne = refl
report_others n r (c ∷ cs) ne = grind (arith, nat_tests, report_others n r cs ne)

pub report_gone : (r : ℕ) (cs : List Case) → report r (others r cs) ≡ None
report_gone r [] = refl
report_gone r (c ∷ cs) = grind (arith, nat_tests, report_gone r cs)

pub report_number : (n : ℕ) (cs : List Case) (c : Case) → report n cs ≡ Some c → c.number ≡ n
report_number n cs c e = let k : has_number n c ≡ true = find_true (has_number n) cs c e in grind (arith, nat_tests, k)

-- a report that is not there is not left out
pub others_all : (r : ℕ) (cs : List Case) → is_there r cs ≡ false → others r cs ≡ cs
others_all r [] e = refl
others_all r (c ∷ cs) e = grind (arith, nat_tests, others_all r cs, e)

-- ---- sessions

pub stays_without : (r : ℕ) (cs : List Case) (w : Who) → (stays (others r cs) w && not (is_reporter_of r w)) ≡ (stays cs w && not (is_reporter_of r w))
stays_without r cs (TheUser u) = refl
stays_without r cs (TheReporter n) = let k : is_there n (others r cs) ≡ (is_there n cs && not (eqb n r)) = there_others r n cs in grind (arith, k)

pub and_first : (a b c f : Bool) → (b && f) ≡ (c && f) → ((a && b) && f) ≡ ((a && c) && f)
and_first true b c f e = e
and_first false b c f e = refl

pub purge_sessions : (r time : ℕ) (cs : List Case) (ss : List Session) → filter (lasts time (others r cs)) (sessions_but r ss) ≡ sessions_but r (filter (lasts time cs) ss)
purge_sessions r time cs ss = filter_both (lasts time (others r cs)) (lasts time cs) (λ s. not (is_reporter_of r s.who)) ss (λ s. and_first (nat_lt time (s.at + 14_400)) (stays (others r cs) s.who) (stays cs s.who) (not (is_reporter_of r s.who)) (stays_without r cs s.who))

lasting_not : (r now : ℕ) (cs : List Case) (s : Session) → is_there r cs ≡ false → lasts now cs s ≡ true → not (is_reporter_of r s.who) ≡ true
lasting_not r now cs s none e = by s.who (let k : stays cs s.who ≡ true = grind (arith, e) in k)
  where
    by_number : (n : ℕ) → (n ≡ r) ⊎ (n ≢ r) → is_there n cs ≡ true → not (eqb n r) ≡ true
    by_number n (inl here) k = absurd (let bad : true ≡ false = sym k ∙ (ap (λ j. is_there j cs) here ∙ none) in grind (arith, bad))
    by_number n (inr ne) k = grind (arith, nat_tests, ne)

    by : (w : Who) → stays cs w ≡ true → not (is_reporter_of r w) ≡ true
    by (TheUser u) k = refl
    by (TheReporter n) k = by_number n (decide n r) k

-- the reporter of a report that is not there has no session
pub sessions_none : (r now : ℕ) (cs : List Case) (ss : List Session) → is_there r cs ≡ false → sessions_but r (filter (lasts now cs) ss) ≡ filter (lasts now cs) ss
sessions_none r now cs ss none = filter_passed _ (lasts now cs) ss (λ s e. lasting_not r now cs s none e)
