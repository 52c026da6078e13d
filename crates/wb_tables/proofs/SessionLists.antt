-- The sessions of a tenant: which one a caller shows, and what is left after a login, a logout and the end of a user's.
use Rattle.std.proofs.Common.{◌≡◌, ℕ, ◌<◌, ◌≤◌, ◌+◌, ◌++◌, Bool, true, false, cond, not, zero, suc, length, get_or, List, [], ◌∷◌, map, find, Option, Some, None, refl, sym, ap, ◌∙◌, subst, arith}
use Rattle.std.specs.Prelude.{◌==◌, ◌&&◌, nat_lt, filter, count_by, option_map}
use Rattle.std.specs.List.{AllByRecursion}
use Rattle.std.specs.List.Sorted.{IsStrictlySortedBy}
use Rattle.std.specs.Ordering.{nat_cmp}
use Rattle.std.specs.declared.cmp.Ordering.TheVariants.{Less}
use Rattle.std.proofs.lemmas.Bool.Decides.{nat_tests}
use Rattle.std.proofs.lemmas.Cmp.{ranked}
use Rattle.std.proofs.lemmas.List.Sums.{sum_by-cons, sum_by-append}
use Rattle.wb_base.specs.declared.callers.Presented.{Presented}
use Rattle.wb_base.specs.declared.callers.Presented.TheVariants as presented
use Rattle.wb_base.specs.declared.callers.Principal.{Principal}
use Rattle.wb_base.specs.declared.callers.Principal.TheVariants as principals
use Rattle.wb_base.specs.declared.words.Digest.{Digest}
use Rattle.wb_base.specs.declared.words.Salt.{Salt}
use Rattle.wb_base.specs.Secrets.{digest, same_digest}
use Rattle.wb_list.specs.Keyed.{IsAscending, without_first}
use Rattle.wb_access.specs.Sessions.{same_principal, is_of, is_standing, session_shown, opened}
use Rattle.wb_access.specs.declared.sessions.Session.{Session as KeptSession}
use Rattle.wb_model.specs.Changes.{LogsIn}
use Rattle.wb_model.specs.Host.{is_user, sessions_after}
use Rattle.wb_model.specs.Opened.{Apart, has_turn}
use Rattle.wb_model.specs.Past.{who_of}
use Rattle.wb_model.specs.Tables.{Case, Session, Who, same_who, lasts, stays, session as session_by, is_reporter_of}
use Rattle.wb_model.proofs.Eights.{fewer, eight}
use Rattle.wb_model.proofs.EightsOf as eights
use Rattle.wb_tables.specs.Kept.{is_session}
use Rattle.wb_tables.specs.Logins.{session_of, tenant_in, IsOf, AreOf, AreFew, AreEarlier}
use Rattle.wb_tables.proofs.Lookups.{kept, find_under}

abbrev pub turn_of : KeptSession → ℕ
turn_of s = s.turn

-- ---- one tenant's callers

same_caller : (t : ℕ) (p q : Principal) → tenant_in p ≡ t → tenant_in q ≡ t → same_principal p q ≡ same_who (who_of p) (who_of q)
same_caller t (principals.User a u) (principals.User b v) e f = let same : (a == b) ≡ true = grind (arith, nat_tests, e, f) in rw same refl
same_caller t (principals.Report a n) (principals.Report b m) e f = let same : (a == b) ≡ true = grind (arith, nat_tests, e, f) in rw same refl
same_caller t (principals.User a u) (principals.Report b m) e f = refl
same_caller t (principals.Report a n) (principals.User b v) e f = refl

-- ---- how many there are of a caller

counted : (p : Principal) (s : KeptSession) (ss : List KeptSession) → count_by (is_of p) (s ∷ ss) ≡ cond (is_of p s) 1 0 + count_by (is_of p) ss
counted p s ss = sum_by-cons (λ x. cond (is_of p x) 1 0) s ss

counted_end : (p : Principal) (ss : List KeptSession) (s : KeptSession) → count_by (is_of p) (ss ++ s ∷ []) ≡ count_by (is_of p) ss + cond (is_of p s) 1 0
counted_end p ss s = let e = sum_by-append (λ x. cond (is_of p x) 1 0) ss (s ∷ []) in let f = counted p s [] in omega (arith, e, f)

held_count : (t : ℕ) (p : Principal) → tenant_in p ≡ t → (ss : List KeptSession) → AreOf t ss → length (filter (λ z. same_who z.who (who_of p)) (map session_of ss)) ≡ count_by (is_of p) ss
held_count t p tp [] own = refl
held_count t p tp (s ∷ ss) own = by (is_of p s) (same_who (who_of s.principal) (who_of p)) (same_caller t s.principal p own.0.caller tp) (held_count t p tp ss own.1) ∙ sym (counted p s ss)
  where
    rest : List Session
    rest = filter (λ z. same_who z.who (who_of p)) (map session_of ss)

    by : (a b : Bool) → a ≡ b → length rest ≡ count_by (is_of p) ss → length (cond b (session_of s ∷ rest) rest) ≡ cond a 1 0 + count_by (is_of p) ss
    by true true e ih = omega (arith, ih)
    by false false e ih = omega (arith, ih)
    by true false e ih = absurd (grind (arith, e))
    by false true e ih = absurd (grind (arith, e))

-- the caller's first
first_same : (t : ℕ) (p : Principal) (who : Who) → who ≡ who_of p → tenant_in p ≡ t → (ss : List KeptSession) → AreOf t ss
    → map session_of (without_first (is_of p) ss) ≡ eights.but_first (λ (z : Session). z.turn) (λ (z : Session). same_who z.who who) (map session_of ss)
first_same t p who w tp [] own = refl
first_same t p who w tp (s ∷ ss) own = by (is_of p s) (same_who (who_of s.principal) who) (same_caller t s.principal p own.0.caller tp ∙ ap (same_who (who_of s.principal)) (sym w)) (first_same t p who w tp ss own.1)
  where
    later : List Session
    later = eights.but_first (λ (z : Session). z.turn) (λ (z : Session). same_who z.who who) (map session_of ss)

    by : (a b : Bool) → a ≡ b → map session_of (without_first (is_of p) ss) ≡ later → map session_of (cond a ss (s ∷ without_first (is_of p) ss)) ≡ cond b (map session_of ss) (session_of s ∷ later)
    by true true e ih = refl
    by false false e ih = ap (λ zs. session_of s ∷ zs) ih
    by true false e ih = absurd (grind (arith, e))
    by false true e ih = absurd (grind (arith, e))

-- ---- turns ascend

after_less : (m : ℕ) (ns : List ℕ) → AllByRecursion (λ n. nat_cmp m n ≡ Less) ns → AllByRecursion (λ n. m + 1 ≤ n) ns
after_less m [] h = tt
after_less m (n ∷ ns) h = (let less : m < n = ranked m n Less (sym h.0) in omega (arith, less), after_less m ns h.1)

rises : (who : Who) (k : ℕ) (ss : List KeptSession) → IsAscending nat_cmp turn_of ss → AllByRecursion (λ n. k ≤ n) (map turn_of ss)
    → eights.Rises (λ (z : Session). z.turn) (λ (z : Session). same_who z.who who) k (map session_of ss)
unfolding IsStrictlySortedBy
rises who k [] ascending all = tt
rises who k (s ∷ ss) ascending all = (all.0, rises who (s.turn + 1) ss ascending.1 (after_less s.turn (map turn_of ss) ascending.0))

all_from_zero : (ns : List ℕ) → AllByRecursion (λ n. 0 ≤ n) ns
all_from_zero [] = tt
all_from_zero (n ∷ ns) = (omega arith, all_from_zero ns)

-- ---- a login

pub earlier_all : (turn at : ℕ) (ss : List KeptSession) → at ≡ turn → AreEarlier turn (map session_of ss) → (k : ℕ) (d : KeptSession) → k < length ss → (get_or ss k d).turn < at
earlier_all turn at [] e all k d lt = absurd (omega (arith, lt))
earlier_all turn at (s ∷ ss) e all zero d lt = omega (arith, e, all.0)
earlier_all turn at (s ∷ ss) e all (suc k) d lt = earlier_all turn at ss e all.1 k d (omega (arith, lt))

pub opened_sessions : (t : ℕ) (ss : List KeptSession) (s : KeptSession) (new : Session) → session_of s ≡ new → AreOf t ss → IsOf t s → AreFew ss → IsAscending nat_cmp turn_of ss → map session_of (opened ss s) ≡ sessions_after (LogsIn new) (map session_of ss)
opened_sessions t ss s new e own mine few ascending = by (nat_lt (count_by (is_of s.principal) ss) 8) refl
  where
    who : new.who ≡ who_of s.principal
    who = ap (λ (z : Session). z.who) (sym e)

    held : length (filter (λ z. same_who z.who new.who) (map session_of ss)) ≡ count_by (is_of s.principal) ss
    held = ap (λ w. length (filter (λ z. same_who z.who w) (map session_of ss))) who ∙ held_count t s.principal mine.caller ss own

    joined : (xs : List KeptSession) → map session_of (xs ++ s ∷ []) ≡ map session_of xs ++ new ∷ []
    joined [] = ap (λ z. z ∷ []) e
    joined (x ∷ xs) = ap (λ zs. session_of x ∷ zs) (joined xs)

    by : (b : Bool) → nat_lt (count_by (is_of s.principal) ss) 8 ≡ b → map session_of (cond b ss (without_first (is_of s.principal) ss) ++ s ∷ []) ≡ sessions_after (LogsIn new) (map session_of ss)
    by true is =
        let lt : count_by (is_of s.principal) ss < 8 = grind (arith, nat_tests, is) in
        joined ss ∙ ap (λ zs. zs ++ new ∷ []) (sym (fewer new (map session_of ss) (omega (arith, held, lt))))
    by false is =
        let ge : 8 ≤ count_by (is_of s.principal) ss = grind (arith, nat_tests, is) in
        let le : count_by (is_of s.principal) ss ≤ 8 = few s.principal in
        joined (without_first (is_of s.principal) ss)
        ∙ ap (λ zs. zs ++ new ∷ []) (first_same t s.principal new.who who mine.caller ss own ∙ sym (eight new 0 (map session_of ss) (rises new.who 0 ss ascending (all_from_zero (map turn_of ss))) (omega (arith, held, ge, le))))

pub own_end : (t : ℕ) (ss : List KeptSession) (s : KeptSession) → AreOf t ss → IsOf t s → AreOf t (ss ++ s ∷ [])
own_end t [] s own mine = (mine, tt)
own_end t (x ∷ ss) s own mine = (own.0, own_end t ss s own.1 mine)

own_first : (t : ℕ) (f : KeptSession → Bool) (ss : List KeptSession) → AreOf t ss → AreOf t (without_first f ss)
own_first t f [] own = tt
own_first t f (x ∷ ss) own = by (own_first t f ss own.1) (f x)
  where
    by : AreOf t (without_first f ss) → (b : Bool) → AreOf t (cond b ss (x ∷ without_first f ss))
    by later true = own.1
    by later false = (own.0, later)

pub own_opened : (t : ℕ) (ss : List KeptSession) (s : KeptSession) → AreOf t ss → IsOf t s → AreOf t (opened ss s)
own_opened t ss s own mine = own_end t (cond (nat_lt (count_by (is_of s.principal) ss) 8) ss (without_first (is_of s.principal) ss)) s (by (nat_lt (count_by (is_of s.principal) ss) 8)) mine
  where
    by : (b : Bool) → AreOf t (cond b ss (without_first (is_of s.principal) ss))
    by true = own
    by false = own_first t (is_of s.principal) ss own

fewer_first : (f : KeptSession → Bool) (p : Principal) (ss : List KeptSession) → count_by (is_of p) (without_first f ss) ≤ count_by (is_of p) ss
fewer_first f p [] = omega arith
fewer_first f p (x ∷ ss) = by (f x) (fewer_first f p ss)
  where
    by : (b : Bool) → count_by (is_of p) (without_first f ss) ≤ count_by (is_of p) ss → count_by (is_of p) (cond b ss (x ∷ without_first f ss)) ≤ count_by (is_of p) (x ∷ ss)
    by true ih = let e = counted p x ss in omega (arith, e)
    by false ih = let e = counted p x ss in let g = counted p x (without_first f ss) in omega (arith, e, g, ih)

seven_left : (p : Principal) (ss : List KeptSession) → count_by (is_of p) ss ≤ 8 → count_by (is_of p) (without_first (is_of p) ss) ≤ 7
seven_left p [] le = omega arith
seven_left p (x ∷ ss) le = by (λ l. seven_left p ss l) (is_of p x) (counted p x ss) (counted p x (without_first (is_of p) ss))
  where
    by : (count_by (is_of p) ss ≤ 8 → count_by (is_of p) (without_first (is_of p) ss) ≤ 7) → (b : Bool) → count_by (is_of p) (x ∷ ss) ≡ cond b 1 0 + count_by (is_of p) ss → count_by (is_of p) (x ∷ without_first (is_of p) ss) ≡ cond b 1 0 + count_by (is_of p) (without_first (is_of p) ss) → count_by (is_of p) (cond b ss (x ∷ without_first (is_of p) ss)) ≤ 7
    by later true e f = omega (arith, e, le)
    by later false e f = let ih = later (omega (arith, e, le)) in omega (arith, f, ih)

caller_is : (p q : Principal) → same_principal p q ≡ true → p ≡ q
caller_is (principals.User t u) (principals.User s v) e = let a : t ≡ s = grind (arith, nat_tests, e) in let b : u ≡ v = grind (arith, nat_tests, e) in λ i. principals.User (a i) (b i)
caller_is (principals.Report t n) (principals.Report s m) e = let a : t ≡ s = grind (arith, nat_tests, e) in let b : n ≡ m = grind (arith, nat_tests, e) in λ i. principals.Report (a i) (b i)
caller_is (principals.User t u) (principals.Report s m) e = absurd (grind (arith, e))
caller_is (principals.Report t n) (principals.User s v) e = absurd (grind (arith, e))

pub few_opened : (ss : List KeptSession) (s : KeptSession) → AreFew ss → AreFew (opened ss s)
few_opened ss s few q = by (is_of q s) refl (nat_lt (count_by (is_of s.principal) ss) 8) refl
  where
    by : (a : Bool) → is_of q s ≡ a → (b : Bool) → nat_lt (count_by (is_of s.principal) ss) 8 ≡ b → count_by (is_of q) (cond b ss (without_first (is_of s.principal) ss) ++ s ∷ []) ≤ 8
    by true e true is =
        let same : s.principal ≡ q = caller_is s.principal q e in
        let lt : count_by (is_of s.principal) ss < 8 = grind (arith, nat_tests, is) in
        let lt' : count_by (is_of q) ss < 8 = subst (λ (p : Principal). count_by (is_of p) ss < 8) same lt in
        let c = counted_end q ss s ∙ ap (λ b. count_by (is_of q) ss + cond b 1 0) e in
        omega (arith, c, lt')
    by true e false is =
        let same : s.principal ≡ q = caller_is s.principal q e in
        let le : count_by (is_of q) (without_first (is_of s.principal) ss) ≤ 7 = subst (λ (p : Principal). count_by (is_of q) (without_first (is_of p) ss) ≤ 7) (sym same) (seven_left q ss (few q)) in
        let c = counted_end q (without_first (is_of s.principal) ss) s ∙ ap (λ b. count_by (is_of q) (without_first (is_of s.principal) ss) + cond b 1 0) e in
        omega (arith, c, le)
    by false e true is =
        let c = counted_end q ss s ∙ ap (λ b. count_by (is_of q) ss + cond b 1 0) e in
        let le = few q in
        omega (arith, c, le)
    by false e false is =
        let c = counted_end q (without_first (is_of s.principal) ss) s ∙ ap (λ b. count_by (is_of q) (without_first (is_of s.principal) ss) + cond b 1 0) e in
        let le = few q in
        let less = fewer_first (is_of s.principal) q ss in
        omega (arith, c, le, less)

-- ---- what is dropped

pub own_filter : (t : ℕ) (f : KeptSession → Bool) (ss : List KeptSession) → AreOf t ss → AreOf t (filter f ss)
own_filter t f [] own = tt
own_filter t f (x ∷ ss) own = by (own_filter t f ss own.1) (f x)
  where
    by : AreOf t (filter f ss) → (b : Bool) → AreOf t (cond b (x ∷ filter f ss) (filter f ss))
    by later true = (own.0, later)
    by later false = later

fewer_filter : (f : KeptSession → Bool) (p : Principal) (ss : List KeptSession) → count_by (is_of p) (filter f ss) ≤ count_by (is_of p) ss
fewer_filter f p [] = omega arith
fewer_filter f p (x ∷ ss) = by (f x) (fewer_filter f p ss)
  where
    by : (b : Bool) → count_by (is_of p) (filter f ss) ≤ count_by (is_of p) ss → count_by (is_of p) (cond b (x ∷ filter f ss) (filter f ss)) ≤ count_by (is_of p) (x ∷ ss)
    by true ih = let e = counted p x ss in let g = counted p x (filter f ss) in omega (arith, e, g, ih)
    by false ih = let e = counted p x ss in omega (arith, e, ih)

pub few_filter : (f : KeptSession → Bool) (ss : List KeptSession) → AreFew ss → AreFew (filter f ss)
few_filter f ss few p = let le = few p in let less = fewer_filter f p ss in omega (arith, le, less)

-- the same are dropped of what the sessions stand for
pub dropped_same : (t : ℕ) (f : KeptSession → Bool) (g : Session → Bool) (ss : List KeptSession) → AreOf t ss → ((s : KeptSession) → IsOf t s → f s ≡ g (session_of s)) → map session_of (filter f ss) ≡ filter g (map session_of ss)
dropped_same t f g [] own same = refl
dropped_same t f g (s ∷ ss) own same = by (f s) (g (session_of s)) (same s own.0) (dropped_same t f g ss own.1 same)
  where
    by : (a b : Bool) → a ≡ b → map session_of (filter f ss) ≡ filter g (map session_of ss) → map session_of (cond a (s ∷ filter f ss) (filter f ss)) ≡ cond b (session_of s ∷ filter g (map session_of ss)) (filter g (map session_of ss))
    by true true e ih = ap (λ zs. session_of s ∷ zs) ih
    by false false e ih = ih
    by true false e ih = absurd (grind (arith, e))
    by false true e ih = absurd (grind (arith, e))

-- a user's
pub user_is : (t u : ℕ) (s : KeptSession) → IsOf t s → not (is_of (principals.User t u) s) ≡ not (is_user u (who_of s.principal))
user_is t u s mine = ap not (by s.principal mine.caller)
  where
    by : (p : Principal) → tenant_in p ≡ t → same_principal p (principals.User t u) ≡ is_user u (who_of p)
    by (principals.User a v) e = let same : (a == t) ≡ true = grind (arith, nat_tests, e) in rw same refl
    by (principals.Report a n) e = refl

-- a reporter's
pub reporter_is : (t n : ℕ) (s : KeptSession) → IsOf t s → not (is_of (principals.Report t n) s) ≡ not (is_reporter_of n (who_of s.principal))
reporter_is t n s mine = ap not (by s.principal mine.caller)
  where
    by : (p : Principal) → tenant_in p ≡ t → same_principal p (principals.Report t n) ≡ is_reporter_of n (who_of p)
    by (principals.Report a m) e = let same : (a == t) ≡ true = grind (arith, nat_tests, e) in rw same refl
    by (principals.User a v) e = refl

-- ---- which one a caller shows

shown_same : (t turn : ℕ) (d : Digest) (now : ℕ) (ss : List KeptSession) → AreOf t ss
    → option_map session_of (find (is_standing t turn d now) ss) ≡ find (λ (z : Session). has_turn turn z && (same_digest z.digest d && nat_lt now (z.at + 14_400))) (map session_of ss)
shown_same t turn d now [] own = refl
shown_same t turn d now (s ∷ ss) own =
    let same : (s.tenant == t) ≡ true = (let e = own.0.session in grind (arith, nat_tests, e)) in
    by (s.turn == turn) (s.tenant == t) same (same_digest s.digest d && nat_lt now (s.at + 14_400)) (shown_same t turn d now ss own.1)
  where
    rest : Option Session
    rest = find (λ (z : Session). has_turn turn z && (same_digest z.digest d && nat_lt now (z.at + 14_400))) (map session_of ss)

    by : (a b : Bool) → b ≡ true → (c : Bool) → option_map session_of (find (is_standing t turn d now) ss) ≡ rest → option_map session_of (cond (a && (b && c)) (Some s) (find (is_standing t turn d now) ss)) ≡ cond (a && c) (Some (session_of s)) rest
    by true true e true ih = refl
    by true true e false ih = ih
    by false true e c ih = ih
    by a false e c ih = absurd (grind (arith, e))

-- of items with a key, of which there is one at most
find_both : {K X : Type 0} (P : K → X → Bool) (k : K) (D : X → Bool) (xs : List X) → Apart P xs → find (λ x. P k x && D x) xs ≡ kept D (find (P k) xs)
find_both P k D [] o = refl
find_both {K} {X} P k D (x ∷ xs) o = by (find_both P k D xs o.1) (P k x) (D x) refl refl
  where
    by : find (λ y. P k y && D y) xs ≡ kept D (find (P k) xs) → (a d : Bool) → P k x ≡ a → D x ≡ d → cond (a && d) (Some x) (find (λ y. P k y && D y) xs) ≡ kept D (cond a (Some x) (find (P k) xs))
    by rest true true e f = rw f refl
    by rest true false e f = rw f (rest ∙ ap (kept D) (o.0 k e))
    by rest false d e f = rest

kept_twice : (D T S : Session → Bool) (o : Option Session) → kept S (kept (λ z. D z && T z) o) ≡ kept (λ z. D z && (T z && S z)) o
kept_twice D T S None = refl
kept_twice D T S (Some z) = by (D z) (T z) (S z) refl
  where
    by : (d t s : Bool) → S z ≡ s → kept S (cond (d && t) (Some z) None) ≡ cond (d && (t && s)) (Some z) None
    by true true true e = rw e refl
    by true true false e = rw e refl
    by true false s e = refl
    by false t s e = refl

shown_stays : (t turn : ℕ) (d : Digest) (now : ℕ) (live : List Case) (ss : List KeptSession) → AreOf t ss → Apart has_turn (map session_of ss)
    → kept (λ (z : Session). stays live z.who) (option_map session_of (find (is_standing t turn d now) ss)) ≡ find (is_session turn d) (filter (lasts now live) (map session_of ss))
shown_stays t turn d now live ss own apart =
    let D : Session → Bool = λ z. same_digest z.digest d in
    let T : Session → Bool = λ z. nat_lt now (z.at + 14_400) in
    let S : Session → Bool = λ z. stays live z.who in
    ap (kept S) (shown_same t turn d now ss own ∙ find_both has_turn turn (λ z. D z && T z) (map session_of ss) apart)
    ∙ (kept_twice D T S (find (has_turn turn) (map session_of ss))
    ∙ sym (find_under has_turn turn D (λ z. T z && S z) (map session_of ss) apart))

shown_session : (t : ℕ) (salt : Salt) (p : Presented) (now : ℕ) (live : List Case) (ss : List KeptSession) → AreOf t ss → Apart has_turn (map session_of ss)
    → kept (λ (z : Session). stays live z.who) (option_map session_of (session_shown t salt p now ss)) ≡ session_by salt p (filter (lasts now live) (map session_of ss))
shown_session t salt presented.None now live ss own apart = refl
shown_session t salt presented.Bad now live ss own apart = refl
shown_session t salt (presented.Token turn secret) now live ss own apart = shown_stays t turn (digest salt secret) now live ss own apart

-- the session that was found, where it stays
pub found_session : (t : ℕ) (salt : Salt) (p : Presented) (now : ℕ) (live : List Case) (ss : List KeptSession) (shown o : Option KeptSession) → AreOf t ss → Apart has_turn (map session_of ss) → shown ≡ session_shown t salt p now ss → shown ≡ o
    → kept (λ (z : Session). stays live z.who) (option_map session_of o) ≡ session_by salt p (filter (lasts now live) (map session_of ss))
found_session t salt p now live ss shown o own apart is found =
    ap (λ z. kept (λ (z : Session). stays live z.who) (option_map session_of z)) (sym found ∙ is) ∙ shown_session t salt p now live ss own apart
