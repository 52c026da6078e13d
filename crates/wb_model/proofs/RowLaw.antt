-- The rows after a purge's changes are the rows of the purged tables.
use Rattle.std.proofs.Common.{◌≡◌, inl, inr, ℕ, ◌+◌, Bool, true, false, cond, not, List, [], ◌∷◌, ◌++◌, map, find, Option, Some, None, refl, sym, ap, ◌∙◌, subst, arith}
use Rattle.std.specs.Prelude.{filter, ◌==◌, ◌&&◌, ◌||◌, if◌then◌else◌}
use Rattle.std.proofs.lemmas.Bool.Decides.{nat_tests}
use Rattle.std.proofs.lemmas.List.Elements.{filter-append}
use Rattle.wb_base.specs.AnswerList.{Answered}
use Rattle.wb_base.specs.KeptRows.{is_of_report, all_changed}
use Rattle.wb_base.specs.declared.rows.Row.{Row}
use Rattle.wb_base.specs.declared.rows.Change.{Change as RowChange}
use Rattle.wb_base.specs.declared.rows.Change.TheVariants.{Put, DropReport}
use Rattle.wb_model.specs.declared.entry.Entry.{Entry}
use Rattle.wb_model.specs.Tables.{Case, has_number, is_there, is_live}
use Rattle.wb_model.specs.Opened.{Apart}
use Rattle.wb_model.specs.Host.{purged}
use Rattle.wb_model.specs.Tenants.{Tenancy, has_id}
use Rattle.wb_model.proofs.KindRows.{Texts, row, each, settings_rows, numbering_rows, user_rows, form_rows, context_rows, entry_rows, trail_rows, sealed_row, sealed_rows, rows_of, drops_in, drops}
use Rattle.wb_model.proofs.Found.{Held}

abbrev pub purged_one : ℕ → Tenancy → Tenancy
purged_one now y = record { id = y.id; tables = purged now y.tables }

-- ---- reports that are dropped

abbrev pub hits : ℕ → ℕ → RowChange → Bool
hits t n (Put r) = false
hits t n (DropReport u k) = (t == u) && (n == k)

abbrev pub is_dropped : ℕ → ℕ → List RowChange → Bool
is_dropped t n [] = false
is_dropped t n (d ∷ ds) = hits t n d || is_dropped t n ds

-- a row of a report that is dropped
abbrev drops_row : List RowChange → Row → Bool
drops_row ds r = ((r.key.kind == 6) || (r.key.kind == 7)) && is_dropped r.key.tenant r.key.a ds

-- all changes are drops
abbrev pub AreDrops : List RowChange → Type 0
AreDrops [] = Unit {0}
AreDrops (Put r ∷ ds) = ⊥
AreDrops (DropReport t n ∷ ds) = AreDrops ds

filter_then : {X : Type 0} (p q r : X → Bool) (xs : List X) → ((x : X) → r x ≡ (p x && q x)) → filter q (filter p xs) ≡ filter r xs
filter_then p q r [] is = refl
filter_then p q r (x ∷ xs) is = grind (arith, is x, filter_then p q r xs is)

all_pass : {X : Type 0} (p : X → Bool) (xs : List X) → ((x : X) → p x ≡ true) → filter p xs ≡ xs
all_pass p [] is = refl
all_pass p (x ∷ xs) is = rw (is x, all_pass p xs is) refl

dropped_rows : (ds : List RowChange) (rows : List Row) → AreDrops ds → all_changed rows ds ≡ filter (λ r. not (drops_row ds r)) rows
dropped_rows [] rows a = sym (all_pass (λ r. not (drops_row [] r)) rows (λ r. none ((r.key.kind == 6) || (r.key.kind == 7))))
  where
    none : (b : Bool) → not (b && false) ≡ true
    none true = refl
    none false = refl
dropped_rows (Put r ∷ ds) rows a = absurd a
dropped_rows (DropReport t n ∷ ds) rows a =
    dropped_rows ds (filter (λ r. not (is_of_report t n r.key)) rows) a
    ∙ filter_then (λ r. not (is_of_report t n r.key)) (λ r. not (drops_row ds r)) (λ r. not (drops_row (DropReport t n ∷ ds) r)) rows (λ r. both ((r.key.kind == 6) || (r.key.kind == 7)) (r.key.tenant == t) (r.key.a == n) (is_dropped r.key.tenant r.key.a ds))
  where
    both : (k u m d : Bool) → not (k && ((u && m) || d)) ≡ (not (k && u && m) && not (k && d))
    both true true true d = refl
    both true true false d = refl
    both true false m d = refl
    both false u m d = refl

pub drops_append : (ds es : List RowChange) → AreDrops ds → AreDrops es → AreDrops (ds ++ es)
drops_append [] es a b = b
drops_append (Put r ∷ ds) es a b = absurd a
drops_append (DropReport t n ∷ ds) es a b = drops_append ds es a b

drops_map : (t : ℕ) (cs : List Case) → AreDrops (map (λ (c : Case). DropReport t c.number) cs)
drops_map t [] = tt
drops_map t (c ∷ cs) = drops_map t cs

pub are_drops : (now : ℕ) (ys : List Tenancy) → AreDrops (drops now ys)
are_drops now [] = tt
are_drops now (y ∷ ys) = drops_append (drops_in now y) (drops now ys) (drops_map y.id (filter (λ c. not (is_live y.tables.plain.registry.settings now c)) y.tables.plain.cases)) (are_drops now ys)

-- ---- which they are

pub dropped_append : (t n : ℕ) (ds es : List RowChange) → is_dropped t n (ds ++ es) ≡ (is_dropped t n ds || is_dropped t n es)
dropped_append t n [] es = refl
dropped_append t n (d ∷ ds) es = grind (arith, dropped_append t n ds es)

-- no report of another tenant
dropped_other : (t n u : ℕ) (cs : List Case) → (t == u) ≡ false → is_dropped t n (map (λ (c : Case). DropReport u c.number) cs) ≡ false
dropped_other t n u [] ne = refl
dropped_other t n u (c ∷ cs) ne = rw (ne, dropped_other t n u cs ne) refl

none_dropped : (t n : ℕ) (p : Case → Bool) (cs : List Case) → find (has_number n) cs ≡ None → is_dropped t n (map (λ (c : Case). DropReport t c.number) (filter p cs)) ≡ false
none_dropped t n p [] e = refl
none_dropped t n p (c ∷ cs) e = by (none_dropped t n p cs) (has_number n c) refl (p c) e
  where
    by : (find (has_number n) cs ≡ None → is_dropped t n (map (λ (c : Case). DropReport t c.number) (filter p cs)) ≡ false) → (h : Bool) → has_number n c ≡ h → (b : Bool) → cond h (Some c) (find (has_number n) cs) ≡ None
        → is_dropped t n (map (λ (c : Case). DropReport t c.number) (cond b (c ∷ filter p cs) (filter p cs))) ≡ false
    by ih true is b f = absurd (grind (arith, f))
    by ih false is true f = let ne : (n == c.number) ≡ false = grind (arith, nat_tests, is) in rw (ne, ih f) (off (t == t))
      where
        off : (b : Bool) → (b && false || false) ≡ false
        off true = refl
        off false = refl
    by ih false is false f = ih f

-- of a tenant's own, those that pass
dropped_own : (t : ℕ) (p : Case → Bool) (cs : List Case) (c : Case) → Apart has_number cs → Held c cs → is_dropped t c.number (map (λ (c : Case). DropReport t c.number) (filter p cs)) ≡ p c
dropped_own t p [] c apart held = absurd held
dropped_own t p (d ∷ cs) c apart (inl e) = rw e (by (p d) refl)
  where
    same : (d.number == d.number) ≡ true
    same = grind (arith, nat_tests)

    self : (t == t) ≡ true
    self = grind (arith, nat_tests)

    by : (b : Bool) → p d ≡ b → is_dropped t d.number (map (λ (c : Case). DropReport t c.number) (cond b (d ∷ filter p cs) (filter p cs))) ≡ b
    by true is = rw (self, same) refl
    by false is = none_dropped t d.number p cs (apart.0 d.number same)
dropped_own t p (d ∷ cs) c apart (inr later) = by (dropped_own t p cs c apart.1 later) (p d) refl
  where
    there : (n : ℕ) (xs : List Case) (x : Case) → Held x xs → x.number ≡ n → find (has_number n) xs ≡ None → ⊥
    there n [] x held is none = held
    there n (y ∷ ys) x (inl e) is none = let found : has_number n y ≡ true = (let at : y.number ≡ n = sym (ap (λ (z : Case). z.number) e) ∙ is in grind (arith, nat_tests, at)) in absurd (grind (arith, found, none))
    there n (y ∷ ys) x (inr held) is none = there n ys x held is (step (has_number n y) none)
      where
        step : (b : Bool) → cond b (Some y) (find (has_number n) ys) ≡ None → find (has_number n) ys ≡ None
        step true f = absurd (grind (arith, f))
        step false f = f

    other : (c.number == d.number) ≡ false
    other = grind (arith, nat_tests, λ (is : c.number ≡ d.number). there d.number cs c later is (apart.0 d.number (let self : (d.number == d.number) ≡ true = grind (arith, nat_tests) in self)))

    by : is_dropped t c.number (map (λ (c : Case). DropReport t c.number) (filter p cs)) ≡ p c → (b : Bool) → p d ≡ b → is_dropped t c.number (map (λ (c : Case). DropReport t c.number) (cond b (d ∷ filter p cs) (filter p cs))) ≡ p c
    by ih true is = rw other (off (t == t) ih)
      where
        off : (b : Bool) → is_dropped t c.number (map (λ (c : Case). DropReport t c.number) (filter p cs)) ≡ p c → (b && false || is_dropped t c.number (map (λ (c : Case). DropReport t c.number) (filter p cs))) ≡ p c
        off true e = e
        off false e = e
    by ih false is = ih

-- no report of the other tenants
dropped_none : (now t n : ℕ) (ys : List Tenancy) → find (has_id t) ys ≡ None → is_dropped t n (drops now ys) ≡ false
dropped_none now t n [] e = refl
dropped_none now t n (y ∷ ys) e = by (dropped_none now t n ys) (has_id t y) refl e
  where
    by : (find (has_id t) ys ≡ None → is_dropped t n (drops now ys) ≡ false) → (h : Bool) → has_id t y ≡ h → cond h (Some y) (find (has_id t) ys) ≡ None → is_dropped t n (drops_in now y ++ drops now ys) ≡ false
    by ih true is f = absurd (grind (arith, f))
    by ih false is f =
        let ne : (t == y.id) ≡ false = grind (arith, nat_tests, is) in
        dropped_append t n (drops_in now y) (drops now ys) ∙ rw (dropped_other t n y.id (filter (λ c. not (is_live y.tables.plain.registry.settings now c)) y.tables.plain.cases) ne, ih f) refl

abbrev pub AreNumbered : List Tenancy → Type 0
AreNumbered [] = Unit {0}
AreNumbered (y ∷ ys) = Apart has_number y.tables.plain.cases × AreNumbered ys

found_none : (t : ℕ) (ys : List Tenancy) (y : Tenancy) → Held y ys → y.id ≡ t → find (has_id t) ys ≡ None → ⊥
found_none t [] y held is none = held
found_none t (x ∷ ys) y (inl e) is none = let found : has_id t x ≡ true = (let at : x.id ≡ t = sym (ap (λ (z : Tenancy). z.id) e) ∙ is in grind (arith, nat_tests, at)) in absurd (grind (arith, found, none))
found_none t (x ∷ ys) y (inr held) is none = found_none t ys y held is (step (has_id t x) none)
  where
    step : (b : Bool) → cond b (Some x) (find (has_id t) ys) ≡ None → find (has_id t) ys ≡ None
    step true f = absurd (grind (arith, f))
    step false f = f

-- a report is dropped where it is not live
pub dropped_is : (now : ℕ) (ys : List Tenancy) (y : Tenancy) (c : Case) → Apart has_id ys → AreNumbered ys → Held y ys → Held c y.tables.plain.cases → is_dropped y.id c.number (drops now ys) ≡ not (is_live y.tables.plain.registry.settings now c)
dropped_is now [] y c apart all held here = absurd held
dropped_is now (x ∷ ys) y c apart all (inl e) here = rw e at_x
  where
    cs : List Case
    cs = x.tables.plain.cases

    own : is_dropped x.id c.number (drops_in now x) ≡ not (is_live x.tables.plain.registry.settings now c)
    own = dropped_own x.id (λ d. not (is_live x.tables.plain.registry.settings now d)) cs c all.0 (subst (λ (z : Tenancy). Held c z.tables.plain.cases) e here)

    rest : is_dropped x.id c.number (drops now ys) ≡ false
    rest = dropped_none now x.id c.number ys (apart.0 x.id (let self : (x.id == x.id) ≡ true = grind (arith, nat_tests) in self))

    at_x : is_dropped x.id c.number (drops_in now x ++ drops now ys) ≡ not (is_live x.tables.plain.registry.settings now c)
    at_x = dropped_append x.id c.number (drops_in now x) (drops now ys) ∙ (ap (λ b. is_dropped x.id c.number (drops_in now x) || b) rest ∙ (or_false (is_dropped x.id c.number (drops_in now x)) ∙ own))
      where
        or_false : (b : Bool) → (b || false) ≡ b
        or_false true = refl
        or_false false = refl
dropped_is now (x ∷ ys) y c apart all (inr held) here =
    let ne : (y.id == x.id) ≡ false = grind (arith, nat_tests, λ (is : y.id ≡ x.id). found_none x.id ys y held is (apart.0 x.id (let self : (x.id == x.id) ≡ true = grind (arith, nat_tests) in self))) in
    dropped_append y.id c.number (drops_in now x) (drops now ys)
    ∙ (ap (λ b. b || is_dropped y.id c.number (drops now ys)) (dropped_other y.id c.number x.id (filter (λ d. not (is_live x.tables.plain.registry.settings now d)) x.tables.plain.cases) ne)
    ∙ dropped_is now ys y c apart.1 all.1 held here)

-- ---- the rows that are left

each_filter : {X Y : Type 0} (p : Y → Bool) (f g : X → List Y) (h : X → X) (xs : List X) → ((x : X) → Held x xs → filter p (f x) ≡ g (h x)) → filter p (each f xs) ≡ each g (map h xs)
each_filter p f g h [] is = refl
each_filter p f g h (x ∷ xs) is =
    filter-append p (f x) (each f xs)
    ∙ (ap (λ l. l ++ filter p (each f xs)) (is x (inl refl)) ∙ ap (λ l. g (h x) ++ l) (each_filter p f g h xs (λ y held. is y (inr held))))

other_kind : (ds : List RowChange) (r : Row) → ((r.key.kind == 6) || (r.key.kind == 7)) ≡ false → not (drops_row ds r) ≡ true
other_kind ds r e = rw e refl

kept_map : {X : Type 0} (ds : List RowChange) (f : X → Row) (xs : List X) → ((x : X) → (((f x).key.kind == 6) || ((f x).key.kind == 7)) ≡ false) → filter (λ r. not (drops_row ds r)) (map f xs) ≡ map f xs
kept_map ds f [] is = refl
kept_map ds f (x ∷ xs) is = rw (other_kind ds (f x) (is x), kept_map ds f xs is) refl

alike : (b : Bool) (l : List Row) → l ≡ (if b then l else l)
alike true l = refl
alike false l = refl

entries_left : (w : Texts) (ds : List RowChange) (t n k : ℕ) (es : List Entry) → filter (λ r. not (drops_row ds r)) (entry_rows w t n k es) ≡ (if is_dropped t n ds then [] else entry_rows w t n k es)
entries_left w ds t n k [] = alike (is_dropped t n ds) []
entries_left w ds t n k (e ∷ es) = by (is_dropped t n ds) refl (entries_left w ds t n (k + 1) es)
  where
    by : (b : Bool) → is_dropped t n ds ≡ b → filter (λ r. not (drops_row ds r)) (entry_rows w t n (k + 1) es) ≡ (if b then [] else entry_rows w t n (k + 1) es)
        → cond (not b) (row 6 t n k (w.entry e) ∷ filter (λ r. not (drops_row ds r)) (entry_rows w t n (k + 1) es)) (filter (λ r. not (drops_row ds r)) (entry_rows w t n (k + 1) es)) ≡ cond b [] (row 6 t n k (w.entry e) ∷ entry_rows w t n (k + 1) es)
    by true is rest = rest
    by false is rest = ap (λ l. row 6 t n k (w.entry e) ∷ l) rest

sealed_left : (w : Texts) (ds : List RowChange) (t n : ℕ) (o : Option Answered) → filter (λ r. not (drops_row ds r)) (sealed_row w t n o) ≡ (if is_dropped t n ds then [] else sealed_row w t n o)
sealed_left w ds t n None = alike (is_dropped t n ds) []
sealed_left w ds t n (Some a) = by (is_dropped t n ds)
  where
    by : (b : Bool) → cond (not b) (row 7 t n 0 (w.sealed a) ∷ []) [] ≡ cond b [] (row 7 t n 0 (w.sealed a) ∷ [])
    by true = refl
    by false = refl

-- of a list of reports, those that are live give the rows that are left
each_live : {Y : Type 0} (p : Y → Bool) (live : Case → Bool) (f g : Case → List Y) (cs : List Case) → ((c : Case) → Held c cs → live c ≡ true → filter p (f c) ≡ g c) → ((c : Case) → Held c cs → live c ≡ false → filter p (f c) ≡ []) → filter p (each f cs) ≡ each g (filter live cs)
each_live p live f g [] lives dead = refl
each_live {Y} p live f g (c ∷ cs) lives dead =
    filter-append p (f c) (each f cs) ∙ by (each_live p live f g cs (λ d held. lives d (inr held)) (λ d held. dead d (inr held))) (live c) refl
  where
    by : filter p (each f cs) ≡ each g (filter live cs) → (b : Bool) → live c ≡ b → filter p (f c) ++ filter p (each f cs) ≡ each g (cond b (c ∷ filter live cs) (filter live cs))
    by ih true is = ap (λ l. l ++ filter p (each f cs)) (lives c (inl refl) is) ∙ ap (λ l. g c ++ l) ih
    by ih false is = ap (λ l. l ++ filter p (each f cs)) (dead c (inl refl) is) ∙ ih

there_live : (live : Case → Bool) (cs : List Case) (c : Case) → Held c cs → live c ≡ true → is_there c.number (filter live cs) ≡ true
there_live live [] c held is = absurd held
there_live live (d ∷ cs) c (inl e) is = rw (sym (ap live e) ∙ is) (let self : (d.number == c.number) ≡ true = (let at : c.number ≡ d.number = ap (λ (z : Case). z.number) e in grind (arith, nat_tests, at)) in rw self refl)
there_live live (d ∷ cs) c (inr held) is = by (there_live live cs c held is) (live d)
  where
    by : is_there c.number (filter live cs) ≡ true → (b : Bool) → is_there c.number (cond b (d ∷ filter live cs) (filter live cs)) ≡ true
    by ih true = rw ih (or_true (d.number == c.number))
      where
        or_true : (b : Bool) → (b || true) ≡ true
        or_true true = refl
        or_true false = refl
    by ih false = ih

-- a batch drops exactly the reports that are not live
pub record DropsDead (now : ℕ) (ys : List Tenancy) (ds : List RowChange) : Type 0 where
  pub drops : AreDrops ds
  pub dead : (y : Tenancy) → Held y ys → (c : Case) → Held c y.tables.plain.cases → is_dropped y.id c.number ds ≡ not (is_live y.tables.plain.registry.settings now c)

-- THE LAW: the rows after the drops of what is not live, in whatever order, are the rows of the purged tables
pub dead_rows : (w : Texts) (now : ℕ) (ys : List Tenancy) (ds : List RowChange) → DropsDead now ys ds → all_changed (rows_of w ys) ds ≡ rows_of w (map (purged_one now) ys)
dead_rows w now ys ds dead = dropped_rows ds (rows_of w ys) dead.drops ∙ whole
  where
    p : Row → Bool
    p r = not (drops_row ds r)

    left : (y : Tenancy) → Held y ys → (c : Case) → Held c y.tables.plain.cases → is_dropped y.id c.number ds ≡ not (is_live y.tables.plain.registry.settings now c)
    left y held c here = dead.dead y held c here

    trails : (y : Tenancy) → Held y ys → filter p (trail_rows w y) ≡ trail_rows w (purged_one now y)
    trails y held = each_live p (is_live y.tables.plain.registry.settings now) (λ c. entry_rows w y.id c.number 1 c.trail) (λ c. entry_rows w y.id c.number 1 c.trail) y.tables.plain.cases
        (λ c here is. entries_left w ds y.id c.number 1 c.trail ∙ rw (left y held c here ∙ ap not is) refl)
        (λ c here is. entries_left w ds y.id c.number 1 c.trail ∙ rw (left y held c here ∙ ap not is) refl)

    seals : (y : Tenancy) → Held y ys → filter p (sealed_rows w y) ≡ sealed_rows w (purged_one now y)
    seals y held = each_live p (is_live y.tables.plain.registry.settings now) (λ c. sealed_row w y.id c.number (y.tables.sealed c.number)) (λ c. sealed_row w y.id c.number ((purged now y.tables).sealed c.number)) y.tables.plain.cases
        (λ c here is. sealed_left w ds y.id c.number (y.tables.sealed c.number) ∙ rw (left y held c here ∙ ap not is, there_live (is_live y.tables.plain.registry.settings now) y.tables.plain.cases c here is) refl)
        (λ c here is. sealed_left w ds y.id c.number (y.tables.sealed c.number) ∙ rw (left y held c here ∙ ap not is) refl)

    whole : filter p (rows_of w ys) ≡ rows_of w (map (purged_one now) ys)
    whole =
        filter-append p (each (settings_rows w) ys) _ ∙ both (each_filter p (settings_rows w) (settings_rows w) (purged_one now) ys (λ y held. refl))
        (filter-append p (each (numbering_rows w) ys) _ ∙ both (each_filter p (numbering_rows w) (numbering_rows w) (purged_one now) ys (λ y held. refl))
        (filter-append p (each (user_rows w) ys) _ ∙ both (each_filter p (user_rows w) (user_rows w) (purged_one now) ys (λ y held. kept_map ds (λ u. row 3 y.id u.id 0 (w.user u)) y.tables.plain.registry.users (λ u. refl)))
        (filter-append p (each (form_rows w) ys) _ ∙ both (each_filter p (form_rows w) (form_rows w) (purged_one now) ys (λ y held. kept_map ds (λ f. row 4 y.id f.id f.version (w.form f)) y.tables.plain.registry.forms (λ f. refl)))
        (filter-append p (each (context_rows w) ys) _ ∙ both (each_filter p (context_rows w) (context_rows w) (purged_one now) ys (λ y held. kept_map ds (λ c. row 5 y.id c.id 0 (w.context c)) y.tables.plain.registry.contexts (λ c. refl)))
        (filter-append p (each (trail_rows w) ys) _ ∙ both (each_filter p (trail_rows w) (trail_rows w) (purged_one now) ys trails) (each_filter p (sealed_rows w) (sealed_rows w) (purged_one now) ys seals))))))
      where
        both : {a b c d : List Row} → a ≡ b → c ≡ d → a ++ c ≡ b ++ d
        both e f = λ i. e i ++ f i

-- the drops of all reports that are not live are such a batch
pub all_dead : (now : ℕ) (ys : List Tenancy) → Apart has_id ys → AreNumbered ys → DropsDead now ys (drops now ys)
all_dead now ys apart all = record { drops = are_drops now ys; dead = λ y held c here. dropped_is now ys y c apart all held here }
