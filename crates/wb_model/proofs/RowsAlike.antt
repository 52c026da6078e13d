-- Alike hosts have the same rows, but for those of the report's identity answers.
use Rattle.std.proofs.Common.{◌≡◌, ◌≢◌, ◌⊎◌, inl, inr, ℕ, Bool, true, false, not, eqb, List, [], ◌∷◌, ◌++◌, Option, Some, None, refl, sym, ap, ◌∙◌, arith}
use Rattle.std.specs.Prelude.{filter}
use Rattle.std.proofs.lemmas.Bool.Decides.{nat_tests}
use Rattle.std.proofs.lemmas.List.Elements.{filter-append}
use Rattle.wb_base.specs.AnswerList.{Answered}
use Rattle.wb_base.specs.declared.rows.Row.{Row}
use Rattle.wb_model.specs.Tables.{Plain, Case}
use Rattle.wb_model.specs.Host.{Tables}
use Rattle.wb_model.specs.Tenants.{Tenancy, Hosts, AlikeWhere, AllAlike, AllHostsAlike}
use Rattle.wb_model.specs.Rows.{sealed_row, sealed_rows, settings_rows, numbering_rows, user_rows, form_rows, context_rows, entry_rows, answer_rows, kinds, of_tenants, of_kinds, format_row, rows_of, is_sealed_row, rows_but}
use Rattle.wb_model.proofs.Found.{decide, same_number}

-- the rows of one tenant but for those identity answers
abbrev but : ℕ → ℕ → List Row → List Row
but t r rows = filter (λ x. not (is_sealed_row t r x)) rows

pub one_plain : (b : Bool) (r : ℕ) (x y : Tables) → AlikeWhere b r x y → x.plain ≡ y.plain
one_plain true r x y al = al.plain
one_plain false r x y al = ap (λ (z : Tables). z.plain) al

-- ---- rows that the plain tables tell

-- the rows are told by a tenant's number and its plain tables
abbrev IsPlain : (Tenancy → List Row) → Type 0
IsPlain kind = (x y : Tenancy) → x.id ≡ y.id → x.tables.plain ≡ y.tables.plain → kind x ≡ kind y

plain_same : (kind : Tenancy → List Row) → IsPlain kind → (t r : ℕ) (xs ys : List Tenancy) → AllAlike t r xs ys → of_tenants kind xs ≡ of_tenants kind ys
plain_same kind is t r [] [] al = refl
plain_same kind is t r [] (y ∷ ys) al = absurd al
plain_same kind is t r (x ∷ xs) [] al = absurd al
plain_same kind is t r (x ∷ xs) (y ∷ ys) al = ap (λ rows. rows ++ of_tenants kind xs) (is x y al.0.0 (one_plain (eqb x.id t) r x.tables y.tables al.0.1)) ∙ ap (λ rows. kind y ++ rows) (plain_same kind is t r xs ys al.1)

settings_plain : IsPlain settings_rows
settings_plain x y i p = λ j. settings_rows (record { id = i j; tables = record { plain = p j; sealed = λ n. None } })

numbering_plain : IsPlain numbering_rows
numbering_plain x y i p = λ j. numbering_rows (record { id = i j; tables = record { plain = p j; sealed = λ n. None } })

user_plain : IsPlain user_rows
user_plain x y i p = λ j. user_rows (record { id = i j; tables = record { plain = p j; sealed = λ n. None } })

form_plain : IsPlain form_rows
form_plain x y i p = λ j. form_rows (record { id = i j; tables = record { plain = p j; sealed = λ n. None } })

context_plain : IsPlain context_rows
context_plain x y i p = λ j. context_rows (record { id = i j; tables = record { plain = p j; sealed = λ n. None } })

entry_plain : IsPlain entry_rows
entry_plain x y i p = λ j. entry_rows (record { id = i j; tables = record { plain = p j; sealed = λ n. None } })

-- ---- the rows of identity answers

hidden_row : (t r n : ℕ) (o : Option Answered) → n ≡ r → but t r (sealed_row t n o) ≡ []
hidden_row t r n None e = refl
hidden_row t r n (Some answers) e = let k : eqb n r ≡ true = same_number n r e in let l : eqb t t ≡ true = same_number t t refl in grind (arith, nat_tests, k, l)

one_row : (t r n : ℕ) (o p : Option Answered) → (n ≢ r → o ≡ p) → but t r (sealed_row t n o) ≡ but t r (sealed_row t n p)
one_row t r n o p same = by (decide n r)
  where
    by : (n ≡ r) ⊎ (n ≢ r) → but t r (sealed_row t n o) ≡ but t r (sealed_row t n p)
    by (inl e) = hidden_row t r n o e ∙ sym (hidden_row t r n p e)
    by (inr ne) = ap (λ x. but t r (sealed_row t n x)) (same ne)

case_rows : (t r : ℕ) (s u : ℕ → Option Answered) (cs : List Case) → ((n : ℕ) → n ≢ r → s n ≡ u n) → but t r (sealed_rows t s cs) ≡ but t r (sealed_rows t u cs)
case_rows t r s u [] same = refl
case_rows t r s u (c ∷ cs) same =
    filter-append (λ x. not (is_sealed_row t r x)) (sealed_row t c.number (s c.number)) (sealed_rows t s cs)
    ∙ (ap (λ rows. rows ++ but t r (sealed_rows t s cs)) (one_row t r c.number (s c.number) (u c.number) (same c.number))
    ∙ (ap (λ rows. but t r (sealed_row t c.number (u c.number)) ++ rows) (case_rows t r s u cs same)
    ∙ sym (filter-append (λ x. not (is_sealed_row t r x)) (sealed_row t c.number (u c.number)) (sealed_rows t u cs))))

tenant_rows : (t r : ℕ) (x y : Tenancy) (b : Bool) → eqb x.id t ≡ b → x.id ≡ y.id → AlikeWhere b r x.tables y.tables → but t r (answer_rows x) ≡ but t r (answer_rows y)
tenant_rows t r x y true is i al =
    let here : x.id ≡ t = grind (arith, nat_tests, is) in
    ap (λ n. but t r (sealed_rows n x.tables.sealed x.tables.plain.cases)) here
    ∙ (case_rows t r x.tables.sealed y.tables.sealed x.tables.plain.cases al.others
    ∙ (ap (λ (p : Plain). but t r (sealed_rows t y.tables.sealed p.cases)) al.plain
    ∙ ap (λ n. but t r (sealed_rows n y.tables.sealed y.tables.plain.cases)) (sym here ∙ i)))
tenant_rows t r x y false is i al = λ j. but t r (answer_rows (record { id = i j; tables = al j }))

answers_same : (t r : ℕ) (xs ys : List Tenancy) → AllAlike t r xs ys → but t r (of_tenants answer_rows xs) ≡ but t r (of_tenants answer_rows ys)
answers_same t r [] [] al = refl
answers_same t r [] (y ∷ ys) al = absurd al
answers_same t r (x ∷ xs) [] al = absurd al
answers_same t r (x ∷ xs) (y ∷ ys) al =
    filter-append (λ z. not (is_sealed_row t r z)) (answer_rows x) (of_tenants answer_rows xs)
    ∙ (ap (λ rows. rows ++ but t r (of_tenants answer_rows xs)) (tenant_rows t r x y (eqb x.id t) refl al.0.0 al.0.1)
    ∙ (ap (λ rows. but t r (answer_rows y) ++ rows) (answers_same t r xs ys al.1)
    ∙ sym (filter-append (λ z. not (is_sealed_row t r z)) (answer_rows y) (of_tenants answer_rows ys))))

-- ---- all rows

abbrev SameBut : ℕ → ℕ → List Tenancy → List Tenancy → (Tenancy → List Row) → Type 0
SameBut t r xs ys kind = but t r (of_tenants kind xs) ≡ but t r (of_tenants kind ys)

abbrev AllSame : ℕ → ℕ → List Tenancy → List Tenancy → List (Tenancy → List Row) → Type 0
AllSame t r xs ys [] = Unit {0}
AllSame t r xs ys (kind ∷ more) = SameBut t r xs ys kind × AllSame t r xs ys more

kinds_same : (t r : ℕ) (xs ys : List Tenancy) (ks : List (Tenancy → List Row)) → AllSame t r xs ys ks → but t r (of_kinds ks xs) ≡ but t r (of_kinds ks ys)
kinds_same t r xs ys [] same = refl
kinds_same t r xs ys (kind ∷ more) same =
    filter-append (λ z. not (is_sealed_row t r z)) (of_tenants kind xs) (of_kinds more xs)
    ∙ (ap (λ rows. rows ++ but t r (of_kinds more xs)) same.0
    ∙ (ap (λ rows. but t r (of_tenants kind ys) ++ rows) (kinds_same t r xs ys more same.1)
    ∙ sym (filter-append (λ z. not (is_sealed_row t r z)) (of_tenants kind ys) (of_kinds more ys))))

pub rows_alike : (t r : ℕ) (h k : Hosts) → AllHostsAlike t r h k → rows_but t r (rows_of h.list) ≡ rows_but t r (rows_of k.list)
rows_alike t r h k al = ap (λ l. format_row ∷ l) (kinds_same t r h.list k.list kinds (
  ap (but t r) (plain_same settings_rows settings_plain t r h.list k.list al.list),
  (
    ap (but t r) (plain_same numbering_rows numbering_plain t r h.list k.list al.list),
    (
      ap (but t r) (plain_same user_rows user_plain t r h.list k.list al.list),
      (
        ap (but t r) (plain_same form_rows form_plain t r h.list k.list al.list),
        (
          ap (but t r) (plain_same context_rows context_plain t r h.list k.list al.list),
          (
            ap (but t r) (plain_same entry_rows entry_plain t r h.list k.list al.list),
            (answers_same t r h.list k.list al.list, tt),
          ),
        ),
      ),
    ),
  ),
))
