-- Rows of format 1 become those of format 2: the row of the format comes first, and each row of a form takes the place of the old one.
use Rattle.std.proofs.Common.{◌≡◌, ℕ, ◌<◌, ◌+◌, List, [], ◌∷◌, ◌++◌, append_assoc, map, Option, Some, None, refl, sym, ap, ◌∙◌, subst, arith}
use Rattle.std.specs.List.{AllByRecursion}
use Rattle.std.specs.List.Sorted.{IsStrictlySortedBy}
use Rattle.std.proofs.lemmas.List.{map-append}
use Rattle.std.specs.declared.cmp.Ordering.TheVariants.{Less, Equal, Greater}
use Rattle.std.specs.Cmp.{nat_cmp_is}
use Rattle.wb_base.specs.AnswerList.{Answered}
use Rattle.wb_base.specs.FormJson.{form_in}
use Rattle.wb_base.specs.KeptRows.{key_cmp, key_of, all_changed}
use Rattle.wb_base.specs.declared.form.Format.{Format}
use Rattle.wb_base.specs.declared.form.Format.TheVariants.{Plain, Weighed}
use Rattle.wb_base.specs.declared.rows.Key.{Key}
use Rattle.wb_base.specs.declared.rows.Row.{Row}
use Rattle.wb_base.specs.declared.rows.Change.TheVariants.{Put}
use Rattle.wb_model.specs.declared.entry.Entry.{Entry}
use Rattle.wb_model.specs.declared.registry.FormItem.{FormItem}
use Rattle.wb_model.specs.Tables.{Case}
use Rattle.wb_model.specs.Tenants.{Tenancy}
use Rattle.wb_model.specs.Rows.{row, format_row, entries_from, trail_rows, sealed_row, sealed_rows, settings_rows, numbering_rows, user_rows, form_rows, form_rows_in, context_rows, entry_rows, answer_rows, kinds_in, own_rows_in, of_tenants, of_kinds, rows_in, rows_of, converted}
use Rattle.wb_model.proofs.FormatRow.{AreBehind, all_behind}
use Rattle.wb_model.proofs.PutLaw.{AreBefore, AreAfter, put, put_here, same_key}

-- ---- rows that take the place of others with their keys

self : (k : Key) → key_cmp k k ≡ Equal
self k = same_key k.tenant k.a k.b k.kind

put_between : (a b : List Row) (r x : Row) → AreBefore x.key a → r.key ≡ x.key → put (a ++ (r ∷ b)) x ≡ (a ++ (x ∷ [])) ++ b
put_between [] b r x h is = rw (ap (λ k. key_cmp k x.key) is ∙ self x.key) refl
put_between (s ∷ a) b r x h is = rw h.0 (ap (λ l. s ∷ l) (put_between a b r x h.1 is))

among : (P : Key → Type 0) (a rest : List Row) (o : Row) → AllByRecursion P (map key_of (a ++ (o ∷ rest))) → P o.key
among P [] rest o all = all.0
among P (r ∷ a) rest o all = among P a rest o all.1

is_before : (a rest : List Row) (o : Row) → IsStrictlySortedBy key_cmp (map key_of (a ++ (o ∷ rest))) → AreBefore o.key a
unfolding IsStrictlySortedBy
is_before [] rest o up = tt
is_before (r ∷ a) rest o up = (among (λ k. key_cmp r.key k ≡ Less) a rest o up.0, is_before a rest o up.1)

keys_stay : (a rest : List Row) (o n : Row) → o.key ≡ n.key → map key_of (a ++ (o ∷ rest)) ≡ map key_of ((a ++ (n ∷ [])) ++ rest)
keys_stay [] rest o n is = ap (λ k. k ∷ map key_of rest) is
keys_stay (r ∷ a) rest o n is = ap (λ ks. r.key ∷ ks) (keys_stay a rest o n is)

first_key : (k m : Key) (ks ms : List Key) → k ∷ ks ≡ m ∷ ms → (k ≡ m) × (ks ≡ ms)
first_key k m ks ms e = (cc, cc)

replaced : (a olds news b : List Row) → map key_of olds ≡ map key_of news → IsStrictlySortedBy key_cmp (map key_of (a ++ (olds ++ b))) → all_changed (a ++ (olds ++ b)) (map Put news) ≡ a ++ (news ++ b)
replaced a [] [] b same up = refl
replaced a [] (n ∷ news) b same up = absurd cc
replaced a (o ∷ olds) [] b same up = absurd cc
replaced a (o ∷ olds) (n ∷ news) b same up =
    let is = first_key o.key n.key (map key_of olds) (map key_of news) same in
    let before = subst (λ k. AreBefore k a) is.0 (is_before a (olds ++ b) o up) in
    ap (λ l. all_changed l (map Put news)) (put_between a (olds ++ b) o n before is.0)
    ∙ (replaced (a ++ (n ∷ [])) olds news b is.1 (subst (IsStrictlySortedBy key_cmp) (keys_stay a (olds ++ b) o n is.0) up)
    ∙ append_assoc a (n ∷ []) (news ++ b))

-- ---- rows of forms in either format have the same keys

one_tenant : (format other : Format) (t : ℕ) (fs : List FormItem) → map key_of (map (λ (f : FormItem). row 4 t f.id f.version (form_in format f.form)) fs) ≡ map key_of (map (λ (f : FormItem). row 4 t f.id f.version (form_in other f.form)) fs)
one_tenant format other t [] = refl
one_tenant format other t (f ∷ fs) = ap (λ ks. record { kind = 4; tenant = t; a = f.id; b = f.version } ∷ ks) (one_tenant format other t fs)

form_keys : (format other : Format) (xs : List Tenancy) → map key_of (of_tenants (form_rows_in format) xs) ≡ map key_of (of_tenants (form_rows_in other) xs)
form_keys format other [] = refl
form_keys format other (x ∷ xs) =
    map-append key_of (form_rows_in format x) (of_tenants (form_rows_in format) xs)
    ∙ ((λ i. one_tenant format other x.id x.tables.plain.registry.forms i ++ form_keys format other xs i)
    ∙ sym (map-append key_of (form_rows_in other x) (of_tenants (form_rows_in other) xs)))

-- ---- no other row is of kind 0, so each comes after the row of the format

abbrev pub ArePositive : List Row → Type 0
ArePositive [] = Unit {0}
ArePositive (r ∷ rs) = (0 < r.key.kind) × ArePositive rs

positive_append : (a b : List Row) → ArePositive a → ArePositive b → ArePositive (a ++ b)
positive_append [] b h k = k
positive_append (r ∷ a) b h k = (h.0, positive_append a b h.1 k)

positive_map : {X : Type 0} (f : X → Row) (xs : List X) → ((x : X) → 0 < (f x).key.kind) → ArePositive (map f xs)
positive_map f [] h = tt
positive_map f (x ∷ xs) h = (h x, positive_map f xs h)

positive_entries : (t n place : ℕ) (es : List Entry) → ArePositive (entries_from t n place es)
positive_entries t n place [] = tt
positive_entries t n place (e ∷ es) = (omega arith, positive_entries t n (place + 1) es)

positive_trails : (t : ℕ) (cs : List Case) → ArePositive (trail_rows t cs)
positive_trails t [] = tt
positive_trails t (c ∷ cs) = positive_append (entries_from t c.number 1 c.trail) (trail_rows t cs) (positive_entries t c.number 1 c.trail) (positive_trails t cs)

positive_sealed : (t n : ℕ) (o : Option Answered) → ArePositive (sealed_row t n o)
positive_sealed t n None = tt
positive_sealed t n (Some a) = (omega arith, tt)

positive_answers : (t : ℕ) (sealed : ℕ → Option Answered) (cs : List Case) → ArePositive (sealed_rows t sealed cs)
positive_answers t sealed [] = tt
positive_answers t sealed (c ∷ cs) = positive_append (sealed_row t c.number (sealed c.number)) (sealed_rows t sealed cs) (positive_sealed t c.number (sealed c.number)) (positive_answers t sealed cs)

positive_tenants : (kind : Tenancy → List Row) → ((x : Tenancy) → ArePositive (kind x)) → (xs : List Tenancy) → ArePositive (of_tenants kind xs)
positive_tenants kind h [] = tt
positive_tenants kind h (x ∷ xs) = positive_append (kind x) (of_tenants kind xs) (h x) (positive_tenants kind h xs)

abbrev AllPositive : List (Tenancy → List Row) → Type 0
AllPositive [] = Unit {0}
AllPositive (kind ∷ more) = ((x : Tenancy) → ArePositive (kind x)) × AllPositive more

positive_kinds : (ks : List (Tenancy → List Row)) → AllPositive ks → (xs : List Tenancy) → ArePositive (of_kinds ks xs)
positive_kinds [] h xs = tt
positive_kinds (kind ∷ more) h xs = positive_append (of_tenants kind xs) (of_kinds more xs) (positive_tenants kind h.0 xs) (positive_kinds more h.1 xs)

positive_forms : (format : Format) (t : ℕ) (fs : List FormItem) → ArePositive (map (λ (f : FormItem). row 4 t f.id f.version (form_in format f.form)) fs)
positive_forms format t [] = tt
positive_forms format t (f ∷ fs) = (omega arith, positive_forms format t fs)

all_positive : (format : Format) → AllPositive (kinds_in format)
all_positive format = (
  λ x. (omega arith, tt),
  (
    λ x. (omega arith, tt),
    (
      λ x. positive_map _ x.tables.plain.registry.users (λ u. omega arith),
      (
        λ x. positive_forms format x.id x.tables.plain.registry.forms,
        (λ x. positive_map _ x.tables.plain.registry.contexts (λ c. omega arith), (λ x. positive_trails x.id x.tables.plain.cases, (λ x. positive_answers x.id x.tables.sealed x.tables.plain.cases, tt))),
      ),
    ),
  ),
)

-- the rows of tenants, in either format
pub own_positive : (format : Format) (xs : List Tenancy) → ArePositive (own_rows_in format xs)
own_positive format xs = positive_kinds (kinds_in format) (all_positive format) xs

pub positive_puts : (rows : List Row) → ArePositive rows → AreBehind (map Put rows)
positive_puts [] h = tt
positive_puts (r ∷ rows) h = (h.0, positive_puts rows h.1)

positive_later : (rows : List Row) → ArePositive rows → AreAfter format_row.key rows
positive_later [] h = tt
positive_later (r ∷ rows) h = (rw (sym (nat_cmp_is r.key.kind 0 Greater h.0)) refl, positive_later rows h.1)

forms_behind : (xs : List Tenancy) → AreBehind (map Put (of_tenants form_rows xs))
forms_behind xs = positive_puts (of_tenants form_rows xs) (positive_tenants form_rows (λ x. positive_forms Weighed x.id x.tables.plain.registry.forms) xs)

-- ---- the law

regrouped : (s n u r : List Row) → s ++ (n ++ (u ++ r)) ≡ ((s ++ n) ++ u) ++ r
regrouped s n u r = sym (append_assoc s n (u ++ r)) ∙ sym (append_assoc (s ++ n) u r)

pub rows_become : (format : Format) (xs : List Tenancy) → IsStrictlySortedBy key_cmp (map key_of (rows_in format xs)) → all_changed (rows_in format xs) (converted format xs) ≡ rows_of xs
rows_become Weighed xs up = refl
rows_become Plain xs up =
    let s = of_tenants settings_rows xs in
    let n = of_tenants numbering_rows xs in
    let u = of_tenants user_rows xs in
    let olds = of_tenants (form_rows_in Plain) xs in
    let news = of_tenants form_rows xs in
    let rest = of_kinds (context_rows ∷ entry_rows ∷ answer_rows ∷ []) xs in
    let old = rows_in Plain xs in
    let apart : old ≡ ((s ++ n) ++ u) ++ (olds ++ rest) = regrouped s n u (olds ++ rest) in
    let first : put old format_row ≡ format_row ∷ old = put_here [] old format_row tt (positive_later old (own_positive Plain xs)) in
    ap (λ l. all_changed l (map Put news)) first
    ∙ (all_behind old (map Put news) (forms_behind xs)
    ∙ ap (λ l. format_row ∷ l) (ap (λ l. all_changed l (map Put news)) apart
    ∙ (replaced ((s ++ n) ++ u) olds news rest (form_keys Plain Weighed xs) (subst (λ l. IsStrictlySortedBy key_cmp (map key_of l)) apart up)
    ∙ sym (regrouped s n u (news ++ rest)))))
