-- The rows of a host as the rows of its tenants kind by kind, whatever the texts of the rows are, and the changes of a turn.
use Rattle.std.proofs.Common.{◌≡◌, ℕ, ◌+◌, not, List, [], ◌∷◌, ◌++◌, map, Option, Some, None, refl, ap, ◌∙◌}
use Rattle.std.specs.Prelude.{filter}
use Rattle.std.proofs.lemmas.List.{append-nil}
use Rattle.serde_json.specs.Written.{compact_text}
use Rattle.wb_base.specs.FormJson.{kept_data}
use Rattle.wb_base.specs.AnswerList.{Answered}
use Rattle.wb_base.specs.declared.rows.Row.{Row}
use Rattle.wb_base.specs.declared.rows.Change.{Change as RowChange}
use Rattle.wb_base.specs.declared.rows.Change.TheVariants.{Put, DropReport}
use Rattle.wb_model.specs.declared.entry.Entry.{Entry}
use Rattle.wb_model.specs.declared.numbering.Numbering.{Numbering}
use Rattle.wb_model.specs.declared.registry.TenantItem.{TenantItem}
use Rattle.wb_model.specs.declared.registry.UserItem.{UserItem}
use Rattle.wb_model.specs.declared.registry.FormItem.{FormItem}
use Rattle.wb_model.specs.declared.registry.ContextItem.{ContextItem}
use Rattle.wb_model.specs.Json.{answers_data}
use Rattle.wb_model.specs.Tables.{Plain, Case, is_live}
use Rattle.wb_model.specs.Host.{drawn}
use Rattle.wb_model.specs.Tenants.{Tenancy}
use Rattle.wb_model.specs.Rows as rows

-- the texts of rows, by their kinds
pub record Texts : Type 0 where
  pub settings : TenantItem → List ℕ
  pub numbering : Numbering → List ℕ
  pub user : UserItem → List ℕ
  pub form : FormItem → List ℕ
  pub context : ContextItem → List ℕ
  pub entry : Entry → List ℕ
  pub sealed : Answered → List ℕ

abbrev pub row : ℕ → ℕ → ℕ → ℕ → List ℕ → Row
row kind t a b text = record { key = record { kind = kind; tenant = t; a = a; b = b }; text = text }

-- what each of a list gives, one after another
abbrev pub each : {X Y : Type 0} → (X → List Y) → List X → List Y
each f [] = []
each f (x ∷ xs) = f x ++ each f xs

-- ---- the rows of a tenant, by their kinds

abbrev pub settings_rows : Texts → Tenancy → List Row
settings_rows w y = row 1 y.id 0 0 (w.settings y.tables.plain.registry.settings) ∷ []

abbrev pub numbering_rows : Texts → Tenancy → List Row
numbering_rows w y = row 2 y.id 0 0 (w.numbering y.tables.plain.numbering) ∷ []

abbrev pub user_rows : Texts → Tenancy → List Row
user_rows w y = map (λ u. row 3 y.id u.id 0 (w.user u)) y.tables.plain.registry.users

abbrev pub form_rows : Texts → Tenancy → List Row
form_rows w y = map (λ f. row 4 y.id f.id f.version (w.form f)) y.tables.plain.registry.forms

abbrev pub context_rows : Texts → Tenancy → List Row
context_rows w y = map (λ c. row 5 y.id c.id 0 (w.context c)) y.tables.plain.registry.contexts

abbrev pub entry_rows : Texts → ℕ → ℕ → ℕ → List Entry → List Row
entry_rows w t n k [] = []
entry_rows w t n k (e ∷ es) = row 6 t n k (w.entry e) ∷ entry_rows w t n (k + 1) es

abbrev pub trail_rows : Texts → Tenancy → List Row
trail_rows w y = each (λ c. entry_rows w y.id c.number 1 c.trail) y.tables.plain.cases

abbrev pub sealed_row : Texts → ℕ → ℕ → Option Answered → List Row
sealed_row w t n None = []
sealed_row w t n (Some given) = row 7 t n 0 (w.sealed given) ∷ []

abbrev pub sealed_rows : Texts → Tenancy → List Row
sealed_rows w y = each (λ c. sealed_row w y.id c.number (y.tables.sealed c.number)) y.tables.plain.cases

-- the rows of all tenants, in the order of their keys
abbrev pub rows_of : Texts → List Tenancy → List Row
rows_of w ys = each (settings_rows w) ys ++ (each (numbering_rows w) ys ++ (each (user_rows w) ys ++ (each (form_rows w) ys ++ (each (context_rows w) ys ++ (each (trail_rows w) ys ++ each (sealed_rows w) ys)))))

-- ---- the changes of a turn

-- the reports of a tenant that are not live
abbrev pub drops_in : ℕ → Tenancy → List RowChange
drops_in now y = map (λ (c : Case). DropReport y.id c.number) (filter (λ c. not (is_live y.tables.plain.registry.settings now c)) y.tables.plain.cases)

-- those of all tenants
abbrev pub drops : ℕ → List Tenancy → List RowChange
drops now ys = each (drops_in now) ys

abbrev pub sealed_put : Texts → ℕ → ℕ → Option Answered → List RowChange
sealed_put w t n None = []
sealed_put w t n (Some given) = Put (row 7 t n 0 (w.sealed given)) ∷ []

-- what is put where a report begins with an entry at a moment: the numbering, the entry, and its identity answers where there are any
abbrev pub opened_puts : Texts → ℕ → ℕ → Entry → Option Answered → Plain → List RowChange
opened_puts w t now entry given p = Put (row 2 t 0 0 (w.numbering (drawn now p.registry.settings p.numbering))) ∷ Put (row 6 t (p.numbering.last + 1) 1 (w.entry entry)) ∷ sealed_put w t (p.numbering.last + 1) given

-- ---- with the texts that are kept

abbrev pub texts : Texts
texts = record {
  settings = λ s. compact_text (rows.settings_data s);
  numbering = λ n. compact_text (rows.numbering_data n);
  user = λ u. compact_text (rows.user_data u);
  form = λ f. compact_text (kept_data f.form);
  context = λ c. compact_text (rows.context_data c);
  entry = λ e. compact_text (rows.entry_data e);
  sealed = λ a. compact_text (answers_data a);
}

entries_same : (t n k : ℕ) (es : List Entry) → rows.entries_from t n k es ≡ entry_rows texts t n k es
entries_same t n k [] = refl
entries_same t n k (e ∷ es) = ap (λ l. row 6 t n k (texts.entry e) ∷ l) (entries_same t n (k + 1) es)

trails_same : (t : ℕ) (cs : List Case) → rows.trail_rows t cs ≡ each (λ c. entry_rows texts t c.number 1 c.trail) cs
trails_same t [] = refl
trails_same t (c ∷ cs) = λ i. entries_same t c.number 1 c.trail i ++ trails_same t cs i

answers_same : (t n : ℕ) (o : Option Answered) → rows.sealed_row t n o ≡ sealed_row texts t n o
answers_same t n None = refl
answers_same t n (Some a) = refl

sealed_same : (t : ℕ) (sealed : ℕ → Option Answered) (cs : List Case) → rows.sealed_rows t sealed cs ≡ each (λ c. sealed_row texts t c.number (sealed c.number)) cs
sealed_same t sealed [] = refl
sealed_same t sealed (c ∷ cs) = λ i. answers_same t c.number (sealed c.number) i ++ sealed_same t sealed cs i

tenants_same : (f g : Tenancy → List Row) (xs : List Tenancy) → ((x : Tenancy) → f x ≡ g x) → rows.of_tenants f xs ≡ each g xs
tenants_same f g [] same = refl
tenants_same f g (x ∷ xs) same = λ i. same x i ++ tenants_same f g xs same i

-- the rows that are kept are these
pub rows_same : (xs : List Tenancy) → rows.tenants_rows xs ≡ rows_of texts xs
rows_same xs =
    joined (tenants_same rows.settings_rows (settings_rows texts) xs (λ x. refl))
    (joined (tenants_same rows.numbering_rows (numbering_rows texts) xs (λ x. refl))
    (joined (tenants_same rows.user_rows (user_rows texts) xs (λ x. refl))
    (joined (tenants_same rows.form_rows (form_rows texts) xs (λ x. refl))
    (joined (tenants_same rows.context_rows (context_rows texts) xs (λ x. refl))
    (joined (tenants_same rows.entry_rows (trail_rows texts) xs (λ x. trails_same x.id x.tables.plain.cases))
    (append-nil (rows.of_tenants rows.answer_rows xs) ∙ tenants_same rows.answer_rows (sealed_rows texts) xs (λ x. sealed_same x.id x.tables.sealed x.tables.plain.cases)))))))
  where
    joined : {a b c d : List Row} → a ≡ b → c ≡ d → a ++ c ≡ b ++ d
    joined e f = λ i. e i ++ f i
