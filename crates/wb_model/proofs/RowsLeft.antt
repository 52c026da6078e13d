-- The rows of hosts of which the second lacks a report are those of the first without that report's.
use Rattle.std.proofs.Common.{◌≡◌, ◌≢◌, ◌⊎◌, inl, inr, ℕ, ◌+◌, Bool, true, false, cond, not, eqb, List, [], ◌∷◌, ◌++◌, Option, Some, None, refl, sym, ap, ◌∙◌, arith}
use Rattle.std.specs.Prelude.{map, ◌&&◌}
use Rattle.std.proofs.lemmas.List.Elements.{filter-append}
use Rattle.wb_base.specs.AnswerList.{Answered}
use Rattle.wb_base.specs.FormJson.{kept_data}
use Rattle.wb_base.specs.KeptRows.{is_of_report}
use Rattle.wb_base.specs.declared.rows.Row.{Row}
use Rattle.serde_json.specs.Data.{Data}
use Rattle.wb_model.specs.declared.entry.Entry.{Entry}
use Rattle.wb_model.specs.declared.registry.ContextItem.{ContextItem}
use Rattle.wb_model.specs.declared.registry.FormItem.{FormItem}
use Rattle.wb_model.specs.declared.registry.UserItem.{UserItem}
use Rattle.wb_model.specs.Tables.{Case, others}
use Rattle.wb_model.specs.Tenants.{Tenancy}
use Rattle.wb_model.specs.Rows.{row, entries_from, trail_rows, sealed_row, sealed_rows, settings_rows, numbering_rows, user_rows, form_rows, context_rows, entry_rows, answer_rows, kinds, of_tenants, of_kinds, format_row, rows_of}
use Rattle.wb_model.specs.Absence.{without}
use Rattle.wb_model.specs.Rows.{rows}
use Rattle.wb_model.specs.OtherOpenings.{rows_without}
use Rattle.wb_model.proofs.Found.{decide, same_number, other_number}

-- ---- what is left of rows

-- no row is of the report
abbrev AllStay : ℕ → ℕ → List Row → Type 0
AllStay t r rows = rows_without t r rows ≡ rows

joined : (t r : ℕ) (xs ys : List Row) → rows_without t r (xs ++ ys) ≡ rows_without t r xs ++ rows_without t r ys
joined t r xs ys = filter-append (λ x. not (is_of_report t r x.key)) xs ys

users_stay : (t r u : ℕ) (json : UserItem → Data) (us : List UserItem) → AllStay t r (map (λ (x : UserItem). row 3 u x.id 0 (json x)) us)
users_stay t r u json [] = refl
users_stay t r u json (x ∷ us) = ap (λ rows. row 3 u x.id 0 (json x) ∷ rows) (users_stay t r u json us)

forms_stay : (t r u : ℕ) (json : FormItem → Data) (fs : List FormItem) → AllStay t r (map (λ (x : FormItem). row 4 u x.id x.version (json x)) fs)
forms_stay t r u json [] = refl
forms_stay t r u json (x ∷ fs) = ap (λ rows. row 4 u x.id x.version (json x) ∷ rows) (forms_stay t r u json fs)

contexts_stay : (t r u : ℕ) (json : ContextItem → Data) (cs : List ContextItem) → AllStay t r (map (λ (x : ContextItem). row 5 u x.id 0 (json x)) cs)
contexts_stay t r u json [] = refl
contexts_stay t r u json (x ∷ cs) = ap (λ rows. row 5 u x.id 0 (json x) ∷ rows) (contexts_stay t r u json cs)

-- entries of the report go, and others stay
entries_by : (t r u n place : ℕ) (b : Bool) (es : List Entry) → (eqb u t && eqb n r) ≡ b → rows_without t r (entries_from u n place es) ≡ cond b [] (entries_from u n place es)
entries_by t r u n place true [] is = refl
entries_by t r u n place false [] is = refl
entries_by t r u n place true (e ∷ es) is = let ih : rows_without t r (entries_from u n (place + 1) es) ≡ [] = entries_by t r u n (place + 1) true es is in grind (arith, is, ih)
entries_by t r u n place false (e ∷ es) is = let ih : rows_without t r (entries_from u n (place + 1) es) ≡ entries_from u n (place + 1) es = entries_by t r u n (place + 1) false es is in grind (arith, is, ih)

sealed_by : (t r u n : ℕ) (b : Bool) (o : Option Answered) → (eqb u t && eqb n r) ≡ b → rows_without t r (sealed_row u n o) ≡ cond b [] (sealed_row u n o)
sealed_by t r u n true None is = refl
sealed_by t r u n false None is = refl
sealed_by t r u n true (Some x) is = grind (arith, is)
sealed_by t r u n false (Some x) is = grind (arith, is)

away : (t u n r : ℕ) → u ≢ t → (eqb u t && eqb n r) ≡ false
away t u n r ne = ap (λ b. b && eqb n r) (other_number u t ne)

at_own : (t u n r : ℕ) → u ≡ t → (eqb u t && eqb n r) ≡ eqb n r
at_own t u n r e = ap (λ b. b && eqb n r) (same_number u t e)

trails_away : (t r u : ℕ) (cs : List Case) → u ≢ t → AllStay t r (trail_rows u cs)
trails_away t r u [] ne = refl
trails_away t r u (c ∷ cs) ne =
    joined t r (entries_from u c.number 1 c.trail) (trail_rows u cs)
    ∙ (ap (λ rows. rows ++ rows_without t r (trail_rows u cs)) (entries_by t r u c.number 1 false c.trail (away t u c.number r ne))
    ∙ ap (λ rows. entries_from u c.number 1 c.trail ++ rows) (trails_away t r u cs ne))

trails_here : (t r u : ℕ) (cs : List Case) → u ≡ t → rows_without t r (trail_rows u cs) ≡ trail_rows u (others r cs)
trails_here t r u [] e = refl
trails_here t r u (c ∷ cs) e =
    joined t r (entries_from u c.number 1 c.trail) (trail_rows u cs)
    ∙ (ap (λ rows. rows_without t r (entries_from u c.number 1 c.trail) ++ rows) (trails_here t r u cs e)
    ∙ by (eqb c.number r) refl)
  where
    by : (b : Bool) → eqb c.number r ≡ b → rows_without t r (entries_from u c.number 1 c.trail) ++ trail_rows u (others r cs) ≡ trail_rows u (cond (not (eqb c.number r)) (c ∷ others r cs) (others r cs))
    by true is =
        ap (λ rows. rows ++ trail_rows u (others r cs)) (entries_by t r u c.number 1 true c.trail (at_own t u c.number r e ∙ is))
        ∙ ap (λ b. trail_rows u (cond (not b) (c ∷ others r cs) (others r cs))) (sym is)
    by false is =
        ap (λ rows. rows ++ trail_rows u (others r cs)) (entries_by t r u c.number 1 false c.trail (at_own t u c.number r e ∙ is))
        ∙ ap (λ b. trail_rows u (cond (not b) (c ∷ others r cs) (others r cs))) (sym is)

answers_away : (t r u : ℕ) (s : ℕ → Option Answered) (cs : List Case) → u ≢ t → AllStay t r (sealed_rows u s cs)
answers_away t r u s [] ne = refl
answers_away t r u s (c ∷ cs) ne =
    joined t r (sealed_row u c.number (s c.number)) (sealed_rows u s cs)
    ∙ (ap (λ rows. rows ++ rows_without t r (sealed_rows u s cs)) (sealed_by t r u c.number false (s c.number) (away t u c.number r ne))
    ∙ ap (λ rows. sealed_row u c.number (s c.number) ++ rows) (answers_away t r u s cs ne))

answers_here : (t r u : ℕ) (s : ℕ → Option Answered) (cs : List Case) → u ≡ t → rows_without t r (sealed_rows u s cs) ≡ sealed_rows u (λ n. cond (eqb n r) None (s n)) (others r cs)
answers_here t r u s [] e = refl
answers_here t r u s (c ∷ cs) e =
    joined t r (sealed_row u c.number (s c.number)) (sealed_rows u s cs)
    ∙ (ap (λ rows. rows_without t r (sealed_row u c.number (s c.number)) ++ rows) (answers_here t r u s cs e)
    ∙ by (eqb c.number r) refl)
  where
    by : (b : Bool) → eqb c.number r ≡ b → rows_without t r (sealed_row u c.number (s c.number)) ++ sealed_rows u (λ n. cond (eqb n r) None (s n)) (others r cs)
        ≡ sealed_rows u (λ n. cond (eqb n r) None (s n)) (cond (not (eqb c.number r)) (c ∷ others r cs) (others r cs))
    by true is =
        ap (λ rows. rows ++ sealed_rows u (λ n. cond (eqb n r) None (s n)) (others r cs)) (sealed_by t r u c.number true (s c.number) (at_own t u c.number r e ∙ is))
        ∙ ap (λ b. sealed_rows u (λ n. cond (eqb n r) None (s n)) (cond (not b) (c ∷ others r cs) (others r cs))) (sym is)
    by false is =
        ap (λ rows. rows ++ sealed_rows u (λ n. cond (eqb n r) None (s n)) (others r cs)) (sealed_by t r u c.number false (s c.number) (at_own t u c.number r e ∙ is))
        ∙ (ap (λ b. sealed_row u c.number (cond b None (s c.number)) ++ sealed_rows u (λ n. cond (eqb n r) None (s n)) (others r cs)) (sym is)
        ∙ ap (λ b. sealed_rows u (λ n. cond (eqb n r) None (s n)) (cond (not b) (c ∷ others r cs) (others r cs))) (sym is))

-- ---- kind by kind

-- the second tenancy is the first, without the report where it is of its tenant
abbrev pub TenancyWithout : ℕ → ℕ → Tenancy → Tenancy → Type 0
TenancyWithout t r x y = (y.id ≡ x.id) × (x.id ≡ t → y.tables ≡ without r x.tables) × (x.id ≢ t → y.tables ≡ x.tables)

abbrev LeavesKind : ℕ → ℕ → (Tenancy → List Row) → Type 0
LeavesKind t r kind = (x y : Tenancy) → TenancyWithout t r x y → kind y ≡ rows_without t r (kind x)

-- by whether it is of its tenant
by_tenant : (t r : ℕ) (kind : Tenancy → List Row) → ((x : Tenancy) → x.id ≡ t → kind (record { id = x.id; tables = without r x.tables }) ≡ rows_without t r (kind x)) → ((x : Tenancy) → x.id ≢ t → AllStay t r (kind x)) → LeavesKind t r kind
by_tenant t r kind own rest x y w = by (decide x.id t)
  where
    by : (x.id ≡ t) ⊎ (x.id ≢ t) → kind y ≡ rows_without t r (kind x)
    by (inl e) = (λ i. kind (record { id = w.0 i; tables = w.1 e i })) ∙ own x e
    by (inr ne) = (λ i. kind (record { id = w.0 i; tables = w.2 ne i })) ∙ sym (rest x ne)

settings_left : (t r : ℕ) → LeavesKind t r settings_rows
settings_left t r = by_tenant t r settings_rows (λ x e. refl) (λ x ne. refl)

numbering_left : (t r : ℕ) → LeavesKind t r numbering_rows
numbering_left t r = by_tenant t r numbering_rows (λ x e. refl) (λ x ne. refl)

user_left : (t r : ℕ) → LeavesKind t r user_rows
user_left t r = by_tenant t r user_rows (λ x e. sym (users_stay t r x.id _ x.tables.plain.registry.users)) (λ x ne. users_stay t r x.id _ x.tables.plain.registry.users)

form_left : (t r : ℕ) → LeavesKind t r form_rows
form_left t r = by_tenant t r form_rows (λ x e. sym (forms_stay t r x.id (λ (f : FormItem). kept_data f.form) x.tables.plain.registry.forms)) (λ x ne. forms_stay t r x.id (λ (f : FormItem). kept_data f.form) x.tables.plain.registry.forms)

context_left : (t r : ℕ) → LeavesKind t r context_rows
context_left t r = by_tenant t r context_rows (λ x e. sym (contexts_stay t r x.id _ x.tables.plain.registry.contexts)) (λ x ne. contexts_stay t r x.id _ x.tables.plain.registry.contexts)

entry_left : (t r : ℕ) → LeavesKind t r entry_rows
entry_left t r = by_tenant t r entry_rows (λ x e. sym (trails_here t r x.id x.tables.plain.cases e)) (λ x ne. trails_away t r x.id x.tables.plain.cases ne)

answer_left : (t r : ℕ) → LeavesKind t r answer_rows
answer_left t r = by_tenant t r answer_rows (λ x e. sym (answers_here t r x.id x.tables.sealed x.tables.plain.cases e)) (λ x ne. answers_away t r x.id x.tables.sealed x.tables.plain.cases ne)

-- ---- all rows

abbrev pub AllWithout : ℕ → ℕ → List Tenancy → List Tenancy → Type 0
AllWithout t r [] [] = Unit {0}
AllWithout t r (x ∷ xs) [] = ⊥
AllWithout t r [] (y ∷ ys) = ⊥
AllWithout t r (x ∷ xs) (y ∷ ys) = TenancyWithout t r x y × AllWithout t r xs ys

tenants_left : (t r : ℕ) (kind : Tenancy → List Row) (xs ys : List Tenancy) → LeavesKind t r kind → AllWithout t r xs ys → of_tenants kind ys ≡ rows_without t r (of_tenants kind xs)
tenants_left t r kind [] [] leaves w = refl
tenants_left t r kind (x ∷ xs) [] leaves w = absurd w
tenants_left t r kind [] (y ∷ ys) leaves w = absurd w
tenants_left t r kind (x ∷ xs) (y ∷ ys) leaves w =
    ap (λ rows. rows ++ of_tenants kind ys) (leaves x y w.0)
    ∙ (ap (λ rows. rows_without t r (kind x) ++ rows) (tenants_left t r kind xs ys leaves w.1) ∙ sym (joined t r (kind x) (of_tenants kind xs)))

abbrev AllLeave : ℕ → ℕ → List (Tenancy → List Row) → Type 0
AllLeave t r [] = Unit {0}
AllLeave t r (kind ∷ more) = LeavesKind t r kind × AllLeave t r more

kinds_left : (t r : ℕ) (ks : List (Tenancy → List Row)) (xs ys : List Tenancy) → AllLeave t r ks → AllWithout t r xs ys → of_kinds ks ys ≡ rows_without t r (of_kinds ks xs)
kinds_left t r [] xs ys leave w = refl
kinds_left t r (kind ∷ more) xs ys leave w =
    ap (λ rows. rows ++ of_kinds more ys) (tenants_left t r kind xs ys leave.0 w)
    ∙ (ap (λ rows. rows_without t r (of_tenants kind xs) ++ rows) (kinds_left t r more xs ys leave.1 w) ∙ sym (joined t r (of_tenants kind xs) (of_kinds more xs)))

pub rows_left : (t r : ℕ) (xs ys : List Tenancy) → AllWithout t r xs ys → rows_of ys ≡ rows_without t r (rows_of xs)
rows_left t r xs ys w = ap (λ l. format_row ∷ l) (kinds_left t r kinds xs ys (settings_left t r, (numbering_left t r, (user_left t r, (form_left t r, (context_left t r, (entry_left t r, (answer_left t r, tt))))))) w)
