-- The rows after the rows of one more entry are the rows of the changed tables.
use Rattle.std.proofs.Common.{◌≡◌, ◌≢◌, inl, inr, ℕ, ◌+◌, ◌<◌, List, [], ◌∷◌, ◌++◌, length, map, Option, Some, None, refl, sym, ap, ◌∙◌, subst, arith}
use Rattle.std.specs.declared.cmp.Ordering.TheVariants.{Less, Equal, Greater}
use Rattle.std.specs.Ordering.{ordering_then}
use Rattle.std.specs.Cmp.{nat_cmp_is}
use Rattle.std.specs.Prelude.{true}
use Rattle.std.proofs.lemmas.Bool.Decides.{nat_tests}
use Rattle.wb_base.specs.AnswerList.{Answered}
use Rattle.wb_base.specs.KeptRows.{key_cmp, all_changed}
use Rattle.wb_base.specs.declared.rows.Change.TheVariants.{Put}
use Rattle.wb_base.specs.declared.rows.Row.{Row}
use Rattle.wb_model.specs.declared.entry.Entry.{Entry}
use Rattle.wb_model.specs.Changes.{Notes}
use Rattle.wb_model.specs.Host.{changed, noted, sealed_under}
use Rattle.wb_model.specs.Json.{answers_data}
use Rattle.wb_model.specs.Opened.{Ascend}
use Rattle.wb_model.specs.Rows.{row, entry_data, entries_from, trail_rows, sealed_row, sealed_rows, tenants_rows}
use Rattle.wb_model.specs.Tables.{Case, has_number, report}
use Rattle.wb_model.specs.Tenants.{Tenancy}
use Rattle.wb_model.proofs.Found.{Held, find_held, find_true, other_number, same_number}
use Rattle.wb_model.proofs.KindRows.{each}
use Rattle.wb_model.proofs.PutLaw.{AreBefore, AreAfter, put, same_key, under_other}
use Rattle.wb_rows.specs.Puts.{sealed_put}
use Rattle.wb_rows.proofs.RowPuts.{numbers_order, number_below, number_above, keys_before, keys_after, entry_keys, answer_keys, put_each, put_rows}

-- ---- the reports before and after one

record Parted (n : ℕ) (case : Case) (cs : List Case) : Type 0 where
  pub before : List Case
  pub after : List Case
  pub whole : cs ≡ before ++ (case ∷ after)
  pub number : case.number ≡ n
  pub below : (c : Case) → Held c before → c.number < n
  pub above : (c : Case) → Held c after → n < c.number

held_above : (k : ℕ) (cs : List Case) (c : Case) → Ascend k cs → Held c cs → k < c.number
held_above k [] c ascend held = absurd held
held_above k (d ∷ cs) c ascend (inl e) = let same : c.number ≡ d.number = ap (λ (z : Case). z.number) e in omega (arith, same, ascend.0)
held_above k (d ∷ cs) c ascend (inr held) = let more : d.number < c.number = held_above d.number cs c ascend.1 held in omega (arith, more, ascend.0)

parted_at : (k n : ℕ) (cs : List Case) (case : Case) → Ascend k cs → Held case cs → case.number ≡ n → Parted n case cs
parted_at k n [] case ascend held is = absurd held
parted_at k n (d ∷ cs) case ascend (inl e) is = record {
  before = [];
  after = cs;
  whole = ap (λ c. c ∷ cs) (sym e);
  number = is;
  below = λ c held. absurd held;
  above = λ c held. let higher : d.number < c.number = held_above d.number cs c ascend.1 held in let same : case.number ≡ d.number = ap (λ (z : Case). z.number) e in omega (arith, higher, same, is);
}
parted_at k n (d ∷ cs) case ascend (inr held) is =
    let rest : Parted n case cs = parted_at d.number n cs case ascend.1 held is in
    let lower : d.number < case.number = held_above d.number cs case ascend.1 held in
    record { before = d ∷ rest.before; after = rest.after; whole = ap (λ l. d ∷ l) rest.whole; number = is; below = by rest (omega (arith, lower, is)); above = rest.above }
  where
    by : (rest : Parted n case cs) → d.number < n → (c : Case) → Held c (d ∷ rest.before) → c.number < n
    by rest lower c (inl e) = let same : c.number ≡ d.number = ap (λ (z : Case). z.number) e in omega (arith, same, lower)
    by rest lower c (inr h) = rest.below c h

parted : (k n : ℕ) (cs : List Case) (case : Case) → Ascend k cs → report n cs ≡ Some case → Parted n case cs
parted k n cs case ascend found = let is : has_number n case ≡ true = find_true (has_number n) cs case found in parted_at k n cs case ascend (find_held (has_number n) cs case found) (grind (arith, nat_tests, is))

-- where a row that is put changes the rows of the report of a number alone
put_report : (k n : ℕ) (cs : List Case) (case : Case) (f g : Case → List Row) (x : Row) → Ascend k cs → report n cs ≡ Some case → ((c : Case) → c.number < n → AreBefore x.key (f c)) → ((c : Case) → n < c.number → AreAfter x.key (f c))
    → ((c : Case) → c.number ≢ n → f c ≡ g c) → (case.number ≡ n → put (f case) x ≡ g case) → put (each f cs) x ≡ each g cs
put_report k n cs case f g x ascend found low high others is =
    ap (λ l. put (each f l) x) at.whole
    ∙ (put_each f g at.before at.after case case x (λ c held. low c (at.below c held)) (λ c held. high c (at.above c held))
    (λ c held. others c (λ same. let lower = at.below c held in absurd (omega (arith, same, lower))))
    (λ c held. others c (λ same. let higher = at.above c held in absurd (omega (arith, same, higher))))
    (is at.number)
    ∙ ap (each g) (sym at.whole))
  where
    at : Parted n case cs
    at = parted k n cs case ascend found

-- ---- the rows of trails

trails_each : (t : ℕ) (cs : List Case) → trail_rows t cs ≡ each (λ c. entries_from t c.number 1 c.trail) cs
trails_each t [] = refl
trails_each t (c ∷ cs) = ap (λ l. entries_from t c.number 1 c.trail ++ l) (trails_each t cs)

noted_each : (t n : ℕ) (entry : Entry) (cs : List Case) → trail_rows t (map (noted n entry) cs) ≡ each (λ c. entries_from t c.number 1 (noted n entry c).trail) cs
noted_each t n entry [] = refl
noted_each t n entry (c ∷ cs) = ap (λ l. entries_from t c.number 1 (noted n entry c).trail ++ l) (noted_each t n entry cs)

-- one more entry comes last of its trail
entry_last : (t n place last : ℕ) (es : List Entry) (entry : Entry) → last ≡ place + length es → put (entries_from t n place es) (row 6 t n last (entry_data entry)) ≡ entries_from t n place (es ++ (entry ∷ []))
entry_last t n place last [] entry is = let same : last ≡ place = omega (arith, is) in ap (λ (b : ℕ). row 6 t n b (entry_data entry) ∷ []) same
entry_last t n place last (e ∷ es) entry is =
    rw (numbers_order 6 t n place n last ∙ (λ i. ordering_then (sym (nat_cmp_is n n Equal refl) i) (sym (nat_cmp_is place last Less (omega (arith, is))) i)))
    (ap (λ l. row 6 t n place (entry_data e) ∷ l) (entry_last t n (place + 1) last es entry (omega (arith, is))))

trail_same : (n : ℕ) (entry : Entry) (c : Case) → c.number ≢ n → (noted n entry c).trail ≡ c.trail
trail_same n entry c other = rw (other_number c.number n other) refl

trail_more : (n : ℕ) (entry : Entry) (c : Case) → c.number ≡ n → (noted n entry c).trail ≡ c.trail ++ (entry ∷ [])
trail_more n entry c same = rw (same_number c.number n same) refl

-- an entry's row is put at the end of its report's trail
entry_made : (t k n : ℕ) (cs : List Case) (case : Case) (entry : Entry) → Ascend k cs → report n cs ≡ Some case → put (trail_rows t cs) (row 6 t n (length case.trail + 1) (entry_data entry)) ≡ trail_rows t (map (noted n entry) cs)
entry_made t k n cs case entry ascend found =
    ap (λ l. put l x) (trails_each t cs)
    ∙ (put_report k n cs case (λ c. entries_from t c.number 1 c.trail) (λ c. entries_from t c.number 1 (noted n entry c).trail) x ascend found
    (λ c lower. keys_before (λ m. key_cmp m x.key ≡ Less) x.key (entries_from t c.number 1 c.trail) (λ m less. less) (entry_keys (λ m. key_cmp m x.key ≡ Less) t c.number 1 c.trail (λ b. number_below 6 t c.number b n (length case.trail + 1) lower)))
    (λ c higher. keys_after (λ m. key_cmp m x.key ≡ Greater) x.key (entries_from t c.number 1 c.trail) (λ m greater. greater) (entry_keys (λ m. key_cmp m x.key ≡ Greater) t c.number 1 c.trail (λ b. number_above 6 t c.number b n (length case.trail + 1) higher)))
    (λ c other. ap (entries_from t c.number 1) (sym (trail_same n entry c other)))
    (λ same. subst (λ (m : ℕ). put (entries_from t case.number 1 case.trail) (row 6 t m (length case.trail + 1) (entry_data entry)) ≡ entries_from t case.number 1 (noted n entry case).trail) same
    (entry_last t case.number 1 (length case.trail + 1) case.trail entry (omega arith) ∙ ap (entries_from t case.number 1) (sym (trail_more n entry case same))))
    ∙ sym (noted_each t n entry cs))
  where
    x : Row
    x = row 6 t n (length case.trail + 1) (entry_data entry)

-- ---- the rows of identity answers

sealed_each : (t : ℕ) (sealed : ℕ → Option Answered) (cs : List Case) → sealed_rows t sealed cs ≡ each (λ c. sealed_row t c.number (sealed c.number)) cs
sealed_each t sealed [] = refl
sealed_each t sealed (c ∷ cs) = ap (λ l. sealed_row t c.number (sealed c.number) ++ l) (sealed_each t sealed cs)

-- one more entry leaves them as they were
sealed_noted : (t n : ℕ) (entry : Entry) (sealed : ℕ → Option Answered) (cs : List Case) → sealed_rows t sealed (map (noted n entry) cs) ≡ sealed_rows t sealed cs
sealed_noted t n entry sealed [] = refl
sealed_noted t n entry sealed (c ∷ cs) = ap (λ l. sealed_row t c.number (sealed c.number) ++ l) (sealed_noted t n entry sealed cs)

-- the row is put in the place of the one that was there, or is new
answers_put : (t n : ℕ) (old : Option Answered) (answers : Answered) → put (sealed_row t n old) (row 7 t n 0 (answers_data answers)) ≡ sealed_row t n (Some answers)
answers_put t n None answers = refl
answers_put t n (Some old) answers = rw (same_key t n 0 7) refl

under_this : (n k : ℕ) (answers : Answered) (sealed : ℕ → Option Answered) → k ≡ n → sealed_under n (Some answers) sealed k ≡ Some answers
under_this n k answers sealed same = rw (same_number k n same) refl

answers_made : (t k n : ℕ) (cs : List Case) (case : Case) (sealed : ℕ → Option Answered) (answers : Answered) → Ascend k cs → report n cs ≡ Some case
    → put (sealed_rows t sealed cs) (row 7 t n 0 (answers_data answers)) ≡ sealed_rows t (sealed_under n (Some answers) sealed) cs
answers_made t k n cs case sealed answers ascend found =
    ap (λ l. put l x) (sealed_each t sealed cs)
    ∙ (put_report k n cs case (λ c. sealed_row t c.number (sealed c.number)) (λ c. sealed_row t c.number (sealed_under n (Some answers) sealed c.number)) x ascend found
    (λ c lower. keys_before (λ m. key_cmp m x.key ≡ Less) x.key (sealed_row t c.number (sealed c.number)) (λ m less. less) (answer_keys (λ m. key_cmp m x.key ≡ Less) t c.number (sealed c.number) (number_below 7 t c.number 0 n 0 lower)))
    (λ c higher. keys_after (λ m. key_cmp m x.key ≡ Greater) x.key (sealed_row t c.number (sealed c.number)) (λ m greater. greater) (answer_keys (λ m. key_cmp m x.key ≡ Greater) t c.number (sealed c.number) (number_above 7 t c.number 0 n 0 higher)))
    (λ c other. ap (sealed_row t c.number) (sym (under_other c.number n (Some answers) sealed (other_number c.number n other))))
    (λ same. subst (λ (m : ℕ). put (sealed_row t case.number (sealed case.number)) (row 7 t m 0 (answers_data answers)) ≡ sealed_row t case.number (sealed_under n (Some answers) sealed case.number)) same
    (answers_put t case.number (sealed case.number) answers ∙ ap (sealed_row t case.number) (sym (under_this n case.number answers sealed same))))
    ∙ sym (sealed_each t (sealed_under n (Some answers) sealed) cs))
  where
    x : Row
    x = row 7 t n 0 (answers_data answers)

-- ---- the whole

abbrev noted_one : ℕ → ℕ → Entry → Option Answered → Tenancy → Tenancy
noted_one now n entry given y = record { id = y.id; tables = changed now (Notes n entry) given y.tables }

module _ (before after : List Tenancy) (y : Tenancy) (below : (x : Tenancy) → Held x before → x.id < y.id) (above : (x : Tenancy) → Held x after → y.id < x.id) (ascend : Ascend 0 y.tables.plain.cases) (n : ℕ) (case : Case) (found : report n y.tables.plain.cases ≡ Some case) (now : ℕ) (entry : Entry) where
  entry_put : put (tenants_rows (before ++ (y ∷ after))) (row 6 y.id n (length case.trail + 1) (entry_data entry)) ≡ tenants_rows (before ++ (noted_one now n entry None y ∷ after))
  entry_put =
      put_rows before after y (noted_one now n entry None y) below above 5 (row 6 y.id n (length case.trail + 1) (entry_data entry)) refl refl
      (refl, (refl, (refl, (refl, (refl, (entry_made y.id 0 n y.tables.plain.cases case entry ascend found, (sym (sealed_noted y.id n entry y.tables.sealed y.tables.plain.cases), tt)))))))

  given_put : (answers : Answered) → put (tenants_rows (before ++ (noted_one now n entry None y ∷ after))) (row 7 y.id n 0 (answers_data answers)) ≡ tenants_rows (before ++ (noted_one now n entry (Some answers) y ∷ after))
  given_put answers =
      put_rows before after (noted_one now n entry None y) (noted_one now n entry (Some answers) y) below above 6 (row 7 y.id n 0 (answers_data answers)) refl refl
      (refl, (refl, (refl, (refl, (refl, (refl, (made, tt)))))))
    where
      made : put (sealed_rows y.id y.tables.sealed (map (noted n entry) y.tables.plain.cases)) (row 7 y.id n 0 (answers_data answers)) ≡ sealed_rows y.id (sealed_under n (Some answers) y.tables.sealed) (map (noted n entry) y.tables.plain.cases)
      made =
          ap (λ l. put l (row 7 y.id n 0 (answers_data answers))) (sealed_noted y.id n entry y.tables.sealed y.tables.plain.cases)
          ∙ (answers_made y.id 0 n y.tables.plain.cases case y.tables.sealed answers ascend found
          ∙ sym (sealed_noted y.id n entry (sealed_under n (Some answers) y.tables.sealed) y.tables.plain.cases))

-- THE LAW of one more entry: the rows after its row, and that of the identity answers that come with it, are the rows of the changed tables
pub noted_rows : (before after : List Tenancy) (y : Tenancy) → ((x : Tenancy) → Held x before → x.id < y.id) → ((x : Tenancy) → Held x after → y.id < x.id) → Ascend 0 y.tables.plain.cases
    → (n : ℕ) (case : Case) → report n y.tables.plain.cases ≡ Some case → (now : ℕ) (entry : Entry) (given : Option Answered)
    → all_changed (tenants_rows (before ++ (y ∷ after))) (Put (row 6 y.id n (length case.trail + 1) (entry_data entry)) ∷ sealed_put y.id n given)
    ≡ tenants_rows (before ++ (record { id = y.id; tables = changed now (Notes n entry) given y.tables } ∷ after))
noted_rows before after y below above ascend n case found now entry None = entry_put before after y below above ascend n case found now entry
noted_rows before after y below above ascend n case found now entry (Some answers) =
    ap (λ l. put l (row 7 y.id n 0 (answers_data answers))) (entry_put before after y below above ascend n case found now entry)
    ∙ given_put before after y below above ascend n case found now entry answers
