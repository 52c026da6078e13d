-- The numbers of reports that are not live, and the drops that they are.
use Rattle.std.proofs.Common.{drop, add-one, drop-cons, ◌≡◌, ◌≢◌, ℕ, ◌<◌, ◌≤◌, ◌+◌, Bool, true, false, cond, not, zero, suc, length, get_or, List, [], ◌∷◌, ◌++◌, map, find, None, refl, sym, ap, ◌∙◌, subst, arith}
use Rattle.std.specs.Prelude.{◌==◌, ◌&&◌, ◌||◌, filter, All, Result, Ok, Err, IfOk, IfErr, OnErr}
use Rattle.std.specs.List.{list_any}
use Rattle.std.proofs.lemmas.Bool.Decides.{nat_tests}
use Rattle.std.proofs.lemmas.List.Elements.{All-nil, All-cons}
use Rattle.wb_base.specs.KeptRows.{all_changed, IsGoodChange}
use Rattle.wb_base.specs.declared.rows.Change.{Change as RowChange}
use Rattle.wb_base.specs.declared.rows.Change.TheVariants.{Put, DropReport}
use Rattle.wb_custody.specs.declared.sealed.SealedItem.{SealedItem}
use Rattle.wb_model.specs.Tables.{Plain, Case, has_number, is_live}
use Rattle.wb_model.specs.Opened.{Apart}
use Rattle.wb_model.specs.Rows.{rows_of}
use Rattle.wb_model.specs.Tenants.{Tenancy, has_id}
use Rattle.wb_model.proofs.KindRows.{drops_in, drops}
use Rattle.wb_model.proofs.RowLaw.{is_dropped, AreDrops, AreNumbered, DropsDead, dropped_append, drops_append, dropped_is}
use Rattle.wb_model.proofs.TurnRows.{purge_rows}
use Rattle.wb_tables.specs.Dead.{has_dead, any_dead, AreDead, AreDropped}
use Rattle.wb_tables.specs.Kept.{PlainTenancy, place_of, tenancy_of, purged_tenancy}
use Rattle.wb_tables.specs.declared.tenancy.Tenancy.{Tenancy as KeptTenancy}
use Rattle.wb_tables.specs.Places.{ArePlaces}

-- ---- lists

-- one of them passes
pub any_at : {W X : Type 0} (p : X → Bool) (g : W → X) (i : ℕ) (xs : List W) (d : W) → i < length xs → p (g (get_or xs i d)) ≡ true → list_any p (map g xs) ≡ true
any_at p g i [] d lt is = absurd (omega arith)
any_at p g zero (x ∷ xs) d lt is = rw is refl
any_at p g (suc i) (x ∷ xs) d lt is = rw (any_at p g i xs d (omega arith) is) (or_true (p (g x)))
  where
    or_true : (b : Bool) → (b || true) ≡ true
    or_true true = refl
    or_true false = refl

pub any_err : {X E : Type 0} {A : Type 0} (r : Result X E) → A → OnErr r A
any_err (Ok x) a = tt
any_err (Err e) a = a

-- ---- the numbers

eq_swap : (a b : ℕ) → (a == b) ≡ (b == a)
eq_swap a b = by (a == b) refl
  where
    by : (h : Bool) → (a == b) ≡ h → h ≡ (b == a)
    by true e = grind (arith, nat_tests, e)
    by false e = grind (arith, nat_tests, e)

-- some number stands where some report is not live
pub dead_some : (now : ℕ) (p : Plain) (ns : List ℕ) → AreDead now p ns → ns ≢ [] → has_dead now p ≡ true
dead_some now p [] dead some = absurd (some refl)
dead_some now p (n ∷ ns) dead some = of_number n p.cases (sym (dead n) ∙ (let self : (n == n) ≡ true = grind (arith, nat_tests) in rw self refl))
  where
    of_number : (n : ℕ) (cs : List Case) → list_any (λ c. has_number n c && not (is_live p.registry.settings now c)) cs ≡ true → list_any (λ c. not (is_live p.registry.settings now c)) cs ≡ true
    of_number n [] e = absurd (grind (arith, e))
    of_number n (c ∷ cs) e = by (of_number n cs) (has_number n c) (not (is_live p.registry.settings now c)) e
      where
        by : (list_any (λ c. has_number n c && not (is_live p.registry.settings now c)) cs ≡ true → list_any (λ c. not (is_live p.registry.settings now c)) cs ≡ true) → (h d : Bool)
            → ((h && d) || list_any (λ c. has_number n c && not (is_live p.registry.settings now c)) cs) ≡ true → (d || list_any (λ c. not (is_live p.registry.settings now c)) cs) ≡ true
        by ih h true f = refl
        by ih true false f = ih f
        by ih false false f = ih f

-- ---- the drops

drops_hit : (t n u : ℕ) (q : Case → Bool) (cs : List Case) → is_dropped t n (map (λ (c : Case). DropReport u c.number) (filter q cs)) ≡ ((t == u) && list_any (λ c. has_number n c && q c) cs)
drops_hit t n u q [] = none (t == u)
  where
    none : (b : Bool) → false ≡ (b && false)
    none true = refl
    none false = refl
drops_hit t n u q (c ∷ cs) = by (drops_hit t n u q cs) (q c) refl
  where
    by : is_dropped t n (map (λ (c : Case). DropReport u c.number) (filter q cs)) ≡ ((t == u) && list_any (λ c. has_number n c && q c) cs) → (b : Bool) → q c ≡ b
        → is_dropped t n (map (λ (c : Case). DropReport u c.number) (cond b (c ∷ filter q cs) (filter q cs))) ≡ ((t == u) && ((has_number n c && b) || list_any (λ c. has_number n c && q c) cs))
    by ih true e = ap (λ b. ((t == u) && (n == c.number)) || b) ih ∙ (ap (λ b. ((t == u) && b) || ((t == u) && list_any (λ c. has_number n c && q c) cs)) (eq_swap n c.number) ∙ on (t == u) (c.number == n) (list_any (λ c. has_number n c && q c) cs))
      where
        on : (a b d : Bool) → ((a && b) || (a && d)) ≡ (a && ((b && true) || d))
        on true true d = refl
        on true false d = refl
        on false b d = refl
    by ih false e = ih ∙ off (has_number n c)
      where
        off : (b : Bool) → ((t == u) && list_any (λ c. has_number n c && q c) cs) ≡ ((t == u) && ((b && false) || list_any (λ c. has_number n c && q c) cs))
        off true = refl
        off false = refl

numbers_hit : (t n u : ℕ) (ns : List ℕ) → is_dropped t n (map (λ m. DropReport u m) ns) ≡ ((t == u) && list_any (λ m. m == n) ns)
numbers_hit t n u [] = none (t == u)
  where
    none : (b : Bool) → false ≡ (b && false)
    none true = refl
    none false = refl
numbers_hit t n u (m ∷ ns) = ap (λ b. ((t == u) && (n == m)) || b) (numbers_hit t n u ns) ∙ (ap (λ b. ((t == u) && b) || ((t == u) && list_any (λ m. m == n) ns)) (eq_swap n m) ∙ on (t == u) (m == n) (list_any (λ m. m == n) ns))
  where
    on : (a b d : Bool) → ((a && b) || (a && d)) ≡ (a && (b || d))
    on true b d = refl
    on false b d = refl

are_drops : (t : ℕ) (ns : List ℕ) → AreDrops (map (λ n. DropReport t n) ns)
are_drops t [] = tt
are_drops t (n ∷ ns) = are_drops t ns

-- ---- a batch

-- the tenants without their identity answers, on which drops do not hang
abbrev bare : List PlainTenancy → List Tenancy
bare xs = map (tenancy_of []) xs

-- of all tenants, what those before these drop is in the batch
pub record IsBatched (now : ℕ) (all left : List PlainTenancy) (batch : List RowChange) : Type 0 where
  pub only : AreDrops batch
  pub hit : (t n : ℕ) → (is_dropped t n batch || is_dropped t n (drops now (bare left))) ≡ is_dropped t n (drops now (bare all))

pub batched_next : (now : ℕ) (all left : List PlainTenancy) (x : PlainTenancy) (old new : List RowChange) → IsBatched now all (x ∷ left) old → AreDropped now x old new → IsBatched now all left new
batched_next now all left x old new h d = record {
  only = subst AreDrops (sym d.pushed) (drops_append old (map (λ n. DropReport x.id n) d.numbers) h.only (are_drops x.id d.numbers));
  hit = λ t n. ap (λ l. is_dropped t n l || is_dropped t n (drops now (bare left))) d.pushed ∙ (moved t n ∙ h.hit t n);
}
  where
    or_assoc : (a b c : Bool) → ((a || b) || c) ≡ (a || (b || c))
    or_assoc true b c = refl
    or_assoc false b c = refl

    same : (t n : ℕ) → is_dropped t n (map (λ n. DropReport x.id n) d.numbers) ≡ is_dropped t n (drops_in now (tenancy_of [] x))
    same t n = numbers_hit t n x.id d.numbers ∙ (ap (λ b. (t == x.id) && b) (d.dead n) ∙ sym (drops_hit t n x.id (λ c. not (is_live x.plain.registry.settings now c)) x.plain.cases))

    moved : (t n : ℕ) → (is_dropped t n (old ++ map (λ n. DropReport x.id n) d.numbers) || is_dropped t n (drops now (bare left))) ≡ (is_dropped t n old || is_dropped t n (drops now (bare (x ∷ left))))
    moved t n =
        ap (λ b. b || is_dropped t n (drops now (bare left))) (dropped_append t n old (map (λ n. DropReport x.id n) d.numbers) ∙ ap (λ b. is_dropped t n old || b) (same t n))
        ∙ (or_assoc (is_dropped t n old) (is_dropped t n (drops_in now (tenancy_of [] x))) (is_dropped t n (drops now (bare left)))
        ∙ ap (λ b. is_dropped t n old || b) (sym (dropped_append t n (drops_in now (tenancy_of [] x)) (drops now (bare left)))))

or_false : (b : Bool) → (b || false) ≡ b
or_false true = refl
or_false false = refl

-- the drops of a batch that is done
done_hit : (now : ℕ) (all : List PlainTenancy) (batch : List RowChange) (t n : ℕ) → IsBatched now all [] batch → is_dropped t n batch ≡ is_dropped t n (drops now (bare all))
done_hit now all batch t n h = sym (or_false (is_dropped t n batch)) ∙ h.hit t n

pub good_drops : (batch : List RowChange) → AreDrops batch → All IsGoodChange batch
good_drops [] h = All-nil IsGoodChange
good_drops (Put r ∷ ds) h = absurd h
good_drops (DropReport t n ∷ ds) h = All-cons IsGoodChange (DropReport t n) ds tt (good_drops ds h)

none_dropped : (now : ℕ) (all : List PlainTenancy) → any_dead now all ≡ false → drops now (bare all) ≡ []
none_dropped now [] e = refl
none_dropped now (x ∷ xs) e = by (none_dropped now xs) (has_dead now x.plain) refl e
  where
    none_in : (cs : List Case) → list_any (λ c. not (is_live x.plain.registry.settings now c)) cs ≡ false → map (λ (c : Case). DropReport x.id c.number) (filter (λ c. not (is_live x.plain.registry.settings now c)) cs) ≡ []
    none_in [] f = refl
    none_in (c ∷ cs) f = one (none_in cs) (not (is_live x.plain.registry.settings now c)) f
      where
        one : (list_any (λ c. not (is_live x.plain.registry.settings now c)) cs ≡ false → map (λ (c : Case). DropReport x.id c.number) (filter (λ c. not (is_live x.plain.registry.settings now c)) cs) ≡ []) → (d : Bool) → (d || list_any (λ c. not (is_live x.plain.registry.settings now c)) cs) ≡ false
            → map (λ (c : Case). DropReport x.id c.number) (cond d (c ∷ filter (λ c. not (is_live x.plain.registry.settings now c)) cs) (filter (λ c. not (is_live x.plain.registry.settings now c)) cs)) ≡ []
        one ih true f = absurd (grind (arith, f))
        one ih false f = ih f

    by : (any_dead now xs ≡ false → drops now (bare xs) ≡ []) → (d : Bool) → has_dead now x.plain ≡ d → (d || any_dead now xs) ≡ false → drops_in now (tenancy_of [] x) ++ drops now (bare xs) ≡ []
    by ih true is f = absurd (grind (arith, f))
    by ih false is f = ap (λ l. l ++ drops now (bare xs)) (none_in x.plain.cases is) ∙ ih f

-- where all reports are live, nothing is dropped
pub batched_none : (now : ℕ) (all : List PlainTenancy) (batch : List RowChange) → IsBatched now all [] batch → any_dead now all ≡ false → batch ≡ []
batched_none now all [] h none = refl
batched_none now all (Put r ∷ ds) h none = absurd h.only
batched_none now all (DropReport t n ∷ ds) h none = absurd (grind (arith, self, hit))
  where
    same_t : (t == t) ≡ true
    same_t = grind (arith, nat_tests)

    same_n : (n == n) ≡ true
    same_n = grind (arith, nat_tests)

    self : is_dropped t n (DropReport t n ∷ ds) ≡ true
    self = rw (same_t, same_n) refl

    hit : is_dropped t n (DropReport t n ∷ ds) ≡ false
    hit = done_hit now all (DropReport t n ∷ ds) t n h ∙ ap (is_dropped t n) (none_dropped now all none)

-- ---- the rows after it

bare_same : (now : ℕ) (items : List SealedItem) (xs : List PlainTenancy) → drops now (bare xs) ≡ drops now (map (tenancy_of items) xs)
bare_same now items [] = refl
bare_same now items (x ∷ xs) = ap (λ l. drops_in now (tenancy_of items x) ++ l) (bare_same now items xs)

none_above : (turns k t : ℕ) (sealed items : List SealedItem) (xs : List PlainTenancy) → t ≤ k → ArePlaces turns k sealed xs → find (has_id t) (map (tenancy_of items) xs) ≡ None
none_above turns k t sealed items [] le all = refl
none_above turns k t sealed items (x ∷ xs) le all =
    let ne : (x.id == t) ≡ false = grind (arith, nat_tests, le, all.0.0) in
    rw ne (none_above turns x.id t sealed items xs (omega (arith, le, all.0.0)) all.1)

pub apart_ids : (turns k : ℕ) (sealed items : List SealedItem) (xs : List PlainTenancy) → ArePlaces turns k sealed xs → Apart has_id (map (tenancy_of items) xs)
apart_ids turns k sealed items [] all = tt
apart_ids turns k sealed items (x ∷ xs) all = ((λ t is. none_above turns x.id t sealed items xs (let e : x.id ≡ t = grind (arith, nat_tests, is) in omega (arith, e)) all.1), apart_ids turns x.id sealed items xs all.1)

pub numbered : (turns k : ℕ) (sealed items : List SealedItem) (xs : List PlainTenancy) → ArePlaces turns k sealed xs → AreNumbered (map (tenancy_of items) xs)
numbered turns k sealed items [] all = tt
numbered turns k sealed items (x ∷ xs) all = (all.0.1.plain.cases, numbered turns x.id sealed items xs all.1)

pub batched_dead : (turns now : ℕ) (sealed items : List SealedItem) (xs : List PlainTenancy) (batch : List RowChange) → ArePlaces turns 0 sealed xs → IsBatched now xs [] batch → DropsDead now (map (tenancy_of items) xs) batch
batched_dead turns now sealed items xs batch all h = record {
  drops = h.only;
  dead = λ y held c here. done_hit now xs batch y.id c.number h ∙ (ap (is_dropped y.id c.number) (bare_same now items xs)
      ∙ dropped_is now (map (tenancy_of items) xs) y c (apart_ids turns 0 sealed items xs all) (numbered turns 0 sealed items xs all) held here);
}

pub batched_rows : (turns now : ℕ) (sealed items : List SealedItem) (xs : List PlainTenancy) (batch : List RowChange) → ArePlaces turns 0 sealed xs → IsBatched now xs [] batch
    → all_changed (rows_of (map (tenancy_of items) xs)) batch ≡ rows_of (map (purged_tenancy now) (map (tenancy_of items) xs))
batched_rows turns now sealed items xs batch all h = purge_rows now (map (tenancy_of items) xs) batch (batched_dead turns now sealed items xs batch all h)

-- ---- what the code made

pub on_ok : {X E : Type 0} {P Q : X → Type 0} (r : Result X E) → ((x : X) → P x → Q x) → IfOk r P → IfOk r Q
on_ok (Ok x) f h = f x h
on_ok (Err e) f h = tt

pub err_some : {X E : Type 0} {A B : Type 0} (r : Result X E) → (A → B) → IfErr r (λ e. A) → OnErr r B
err_some (Ok x) f h = tt
err_some (Err e) f h = f h

pub on_err : {X E : Type 0} {A B : Type 0} (r : Result X E) → (A → B) → OnErr r A → OnErr r B
on_err (Ok x) f h = tt
on_err (Err e) f h = f h

-- ---- at the loop's end and at its next step

drop_all : {X : Type 0} (i : ℕ) (xs : List X) → length xs ≤ i → drop i xs ≡ []
drop_all zero [] le = refl
drop_all (suc i) [] le = refl
drop_all zero (x ∷ xs) le = absurd (omega arith)
drop_all (suc i) (x ∷ xs) le = drop_all i xs (omega (arith, le))

pub batched_done : (now i : ℕ) (ks : List KeptTenancy) (batch : List RowChange) → length ks ≤ i → IsBatched now (map place_of ks) (map place_of (drop i ks)) batch → IsBatched now (map place_of ks) [] batch
batched_done now i ks batch le h = subst (λ (l : List KeptTenancy). IsBatched now (map place_of ks) (map place_of l) batch) (drop_all i ks le) h

pub batched_at : (now i : ℕ) (ks : List KeptTenancy) (x : KeptTenancy) (old new : List RowChange) → i < length ks → x ≡ get_or ks i x → IsBatched now (map place_of ks) (map place_of (drop i ks)) old → AreDropped now (place_of x) old new
    → IsBatched now (map place_of ks) (map place_of (drop (i + 1) ks)) new
batched_at now i ks x old new lt is h d =
    let split : drop i ks ≡ x ∷ drop (i + 1) ks = rw add-one (drop-cons ks i x lt ∙ ap (λ y. y ∷ drop (suc i) ks) (sym is)) in
    batched_next now (map place_of ks) (map place_of (drop (i + 1) ks)) (place_of x) old new (subst (λ (l : List KeptTenancy). IsBatched now (map place_of ks) (map place_of l) old) split h) d
