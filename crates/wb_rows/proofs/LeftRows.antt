-- THE LAW of what hosts leave: the rows of what tenants hold are those of what is held of all tenants, and are read as that.
use Rattle.std.proofs.Common.{◌≡◌, inl, inr, ℕ, ◌≤◌, true, List, [], ◌∷◌, ◌++◌, append-nil, append_assoc, map, Option, Ok, refl, sym, ap, ◌∙◌, arith}
use Rattle.wb_base.specs.AnswerList.{Answered}
use Rattle.wb_base.specs.FormJson.{kept_data}
use Rattle.wb_base.specs.declared.form.Format.TheVariants.{Weighed}
use Rattle.wb_base.specs.declared.rows.Row.{Row}
use Rattle.wb_model.specs.declared.registry.ContextItem.{ContextItem}
use Rattle.wb_model.specs.declared.registry.FormItem.{FormItem}
use Rattle.wb_model.specs.declared.registry.UserItem.{UserItem}
use Rattle.wb_model.specs.LeftLists.{of_each, lists_of}
use Rattle.wb_model.specs.Legal.{ascends}
use Rattle.wb_model.specs.Opened.{AreOrdered, AreOpened}
use Rattle.wb_model.specs.Past.{Past}
use Rattle.wb_model.specs.Pasts.{AllOpened, standing_hosts, time}
use Rattle.wb_model.specs.Readable.{IsOwn, AreReadable}
use Rattle.wb_model.specs.Reopened.{left_time, without_sessions}
use Rattle.wb_model.specs.Rows as model_rows
use Rattle.wb_model.specs.Rows.{row, format_row, tenants_rows, settings_data, user_data, context_data, entries_from, of_tenants, settings_rows, numbering_rows, user_rows, form_rows, context_rows, entry_rows, answer_rows}
use Rattle.wb_model.specs.Tables.{Case}
use Rattle.wb_model.specs.Tenants.{Tenancy}
use Rattle.wb_model.proofs.Found.{Held as In}
use Rattle.wb_model.proofs.LeftKept.{left_ids, hosts_readable, hosts_opened}
use Rattle.wb_model.proofs.LeftSetUps.{ids, settings_parts, user_parts, form_parts, context_parts}
use Rattle.wb_model.proofs.LeftTimes.{left_before}
use Rattle.wb_rows.specs.Reports.{Report}
use Rattle.wb_rows.specs.Good.{AreGood}
use Rattle.wb_rows.specs.HeldRows.{settings_row, numbering_row, user_row, form_row, context_row, trail_rows, sealed_rows, own_rows, rows_of}
use Rattle.wb_rows.specs.Judged.{judged}
use Rattle.wb_rows.specs.Left.{numbering_item, report_in, reports_in, held_of, left, IsReadBack}
use Rattle.wb_rows.proofs.LeftItems.{fits_all}
use Rattle.wb_rows.proofs.LeftTables.{own, order, sealed_back, kept_all, numbered_all, reports_ordered, reports_owned}
use Rattle.wb_rows.proofs.RowsBack.{together}
use Rattle.wb_rows.proofs.TablesBack.{tables-back}

-- ---- rows of lists

map_append : {X : Type 0} (f : X → Row) (xs ys : List X) → map f (xs ++ ys) ≡ map f xs ++ map f ys
map_append f [] ys = refl
map_append f (x ∷ xs) ys = ap (λ rs. f x ∷ rs) (map_append f xs ys)

map_same : {X : Type 0} (f g : X → Row) (xs : List X) → ((x : X) → In x xs → f x ≡ g x) → map f xs ≡ map g xs
map_same f g [] same = refl
map_same f g (x ∷ xs) same = (λ i. same x (inl refl) i ∷ map_same f g xs (λ y h. same y (inr h)) i)

-- the rows of what each tenant has are each tenant's
each_rows : {Y : Type 0} (f : Tenancy → List Y) (r : Y → Row) (kind : Tenancy → List Row) (xs : List Tenancy) → ((x : Tenancy) → In x xs → map r (f x) ≡ kind x) → map r (of_each f xs) ≡ of_tenants kind xs
each_rows f r kind [] same = refl
each_rows f r kind (x ∷ xs) same = map_append r (f x) (of_each f xs) ∙ (λ i. same x (inl refl) i ++ each_rows f r kind xs (λ z h. same z (inr h)) i)

one_rows : (f : Tenancy → Row) (kind : Tenancy → List Row) (xs : List Tenancy) → ((x : Tenancy) → In x xs → f x ∷ [] ≡ kind x) → map f xs ≡ of_tenants kind xs
one_rows f kind [] same = refl
one_rows f kind (x ∷ xs) same = (λ i. same x (inl refl) i ++ one_rows f kind xs (λ z h. same z (inr h)) i)

map_map : {X Y : Type 0} (f : X → Y) (g : Y → Row) (xs : List X) → map g (map f xs) ≡ map (λ x. g (f x)) xs
map_map f g [] = refl
map_map f g (x ∷ xs) = ap (λ rs. g (f x) ∷ rs) (map_map f g xs)

-- ---- rows of trails and of identity answers

trails_append : (rs ss : List Report) → trail_rows (rs ++ ss) ≡ trail_rows rs ++ trail_rows ss
trails_append [] ss = refl
trails_append (r ∷ rs) ss = ap (λ l. entries_from r.tenant r.number 1 r.trail ++ l) (trails_append rs ss) ∙ sym (append_assoc (entries_from r.tenant r.number 1 r.trail) (trail_rows rs) (trail_rows ss))

trails_of : (t : ℕ) (cs : List Case) → trail_rows (map (report_in t) cs) ≡ model_rows.trail_rows t cs
trails_of t [] = refl
trails_of t (c ∷ cs) = ap (λ l. entries_from t c.number 1 c.trail ++ l) (trails_of t cs)

each_trails : (xs : List Tenancy) → trail_rows (of_each reports_in xs) ≡ of_tenants entry_rows xs
each_trails [] = refl
each_trails (x ∷ xs) = trails_append (reports_in x) (of_each reports_in xs) ∙ (λ i. trails_of x.id x.tables.plain.cases i ++ each_trails xs i)

sealed_append : (sealed : ℕ → ℕ → Option Answered) (rs ss : List Report) → sealed_rows sealed (rs ++ ss) ≡ sealed_rows sealed rs ++ sealed_rows sealed ss
sealed_append sealed [] ss = refl
sealed_append sealed (r ∷ rs) ss = ap (λ l. model_rows.sealed_row r.tenant r.number (sealed r.tenant r.number) ++ l) (sealed_append sealed rs ss) ∙ sym (append_assoc (model_rows.sealed_row r.tenant r.number (sealed r.tenant r.number)) (sealed_rows sealed rs) (sealed_rows sealed ss))

sealed_of : (sealed : ℕ → ℕ → Option Answered) (t : ℕ) (own : ℕ → Option Answered) (cs : List Case) → ((n : ℕ) → sealed t n ≡ own n) → sealed_rows sealed (map (report_in t) cs) ≡ model_rows.sealed_rows t own cs
sealed_of sealed t own [] same = refl
sealed_of sealed t own (c ∷ cs) same = (λ i. model_rows.sealed_row t c.number (same c.number i) ++ sealed_of sealed t own cs same i)

each_sealed : (sealed : ℕ → ℕ → Option Answered) (xs : List Tenancy) → ((x : Tenancy) → In x xs → (n : ℕ) → sealed x.id n ≡ x.tables.sealed n) → sealed_rows sealed (of_each reports_in xs) ≡ of_tenants answer_rows xs
each_sealed sealed [] same = refl
each_sealed sealed (x ∷ xs) same = sealed_append sealed (reports_in x) (of_each reports_in xs) ∙ (λ i. sealed_of sealed x.id x.tables.sealed x.tables.plain.cases (same x (inl refl)) i ++ each_sealed sealed xs (λ z h. same z (inr h)) i)

-- ---- the whole

module _ (at : ℕ) (small : at ≤ 99_999_999_999) (xs : List Tenancy) (up : ascends (ids xs) ≡ true) (readable : (x : Tenancy) → In x xs → AreReadable x.id x.tables) (opened : (x : Tenancy) → In x xs → AreOpened at (without_sessions x.tables)) where
  pub left_good : AreGood at (held_of xs)
  left_good = record {
    kept = kept_all at xs up readable opened;
    numbered = numbered_all at xs up readable opened;
    order = reports_ordered at xs up readable opened;
    owned = reports_owned at xs up readable opened;
    fits = fits_all at small xs up readable opened;
  }

  abbrev owned : (x : Tenancy) → In x xs → IsOwn x.id x.tables.plain.registry
  owned = own at xs up readable opened

  abbrev ordered : (x : Tenancy) → In x xs → AreOrdered x.tables.plain.registry
  ordered = order at xs up readable opened

  settings_kind : map settings_row (lists_of xs).tenants ≡ of_tenants settings_rows xs
  settings_kind = map_map (λ (x : Tenancy). x.tables.plain.registry.settings) settings_row xs
      ∙ one_rows (λ (x : Tenancy). settings_row x.tables.plain.registry.settings) settings_rows xs (λ x h. (λ i. row 1 ((settings_parts xs up owned ordered x h).0 i) 0 0 (settings_data x.tables.plain.registry.settings) ∷ []))

  numberings_kind : map numbering_row (map numbering_item xs) ≡ of_tenants numbering_rows xs
  numberings_kind = map_map numbering_item numbering_row xs ∙ one_rows (λ (x : Tenancy). numbering_row (numbering_item x)) numbering_rows xs (λ x h. refl)

  users_kind : map user_row (lists_of xs).users ≡ of_tenants user_rows xs
  users_kind = each_rows (λ (x : Tenancy). x.tables.plain.registry.users) user_row user_rows xs
      (λ x h. map_same user_row (λ (u : UserItem). row 3 x.id u.id 0 (user_data u)) x.tables.plain.registry.users (λ u k. (λ i. row 3 ((user_parts xs up owned ordered x h u k).0 i) u.id 0 (user_data u))))

  forms_kind : map (form_row Weighed) (lists_of xs).forms ≡ of_tenants form_rows xs
  forms_kind = each_rows (λ (x : Tenancy). x.tables.plain.registry.forms) (form_row Weighed) form_rows xs
      (λ x h. map_same (form_row Weighed) (λ (f : FormItem). row 4 x.id f.id f.version (kept_data f.form)) x.tables.plain.registry.forms (λ f k. (λ i. row 4 ((form_parts xs up owned ordered x h f k).0 i) f.id f.version (kept_data f.form))))

  contexts_kind : map context_row (lists_of xs).contexts ≡ of_tenants context_rows xs
  contexts_kind = each_rows (λ (x : Tenancy). x.tables.plain.registry.contexts) context_row context_rows xs
      (λ x h. map_same context_row (λ (c : ContextItem). row 5 x.id c.id 0 (context_data c)) x.tables.plain.registry.contexts (λ c k. (λ i. row 5 ((context_parts xs up owned ordered x h c k).0 i) c.id 0 (context_data c))))

  own_left : own_rows Weighed (held_of xs) ≡ tenants_rows xs
  own_left =
      together (map settings_row (lists_of xs).tenants) (map numbering_row (map numbering_item xs)) (map user_row (lists_of xs).users) (map (form_row Weighed) (lists_of xs).forms) (map context_row (lists_of xs).contexts) (trail_rows (of_each reports_in xs)) (sealed_rows (held_of xs).sealed (of_each reports_in xs))
      ∙ (λ i. settings_kind i ++ (numberings_kind i ++ (users_kind i ++ (forms_kind i ++ (contexts_kind i ++ (each_trails xs i ++ answers_last i))))))
    where
      answers_last : sealed_rows (held_of xs).sealed (of_each reports_in xs) ≡ of_tenants answer_rows xs ++ []
      answers_last = each_sealed (held_of xs).sealed xs (λ x h n. sealed_back at xs up readable opened x h n) ∙ sym (append-nil (of_tenants answer_rows xs))

  pub left_rows : rows_of (held_of xs) ≡ model_rows.rows_of xs
  left_rows = ap (λ rs. format_row ∷ rs) own_left

  pub left_judged : judged (model_rows.rows_of xs) ≡ Ok (held_of xs)
  left_judged = ap judged (sym left_rows) ∙ tables-back at (held_of xs) left_good

-- ---- the hosts of a past

module _ (past : Past AllOpened) (is : IsReadBack past) where
  small : left_time past ≤ 99_999_999_999
  small = let before : left_time past ≤ time past = left_before past is.verdicts in let le : time past ≤ 99_999_999_999 = is.moment in omega (arith, before, le)

  pub past_good : AreGood (left_time past) (left past)
  past_good = left_good (left_time past) small (standing_hosts past).list (left_ids past) (hosts_readable past is.verdicts is.ranged is.opens) (hosts_opened past is.verdicts is.ranged is.opens)

  pub past_rows : rows_of (left past) ≡ model_rows.rows past
  past_rows = left_rows (left_time past) small (standing_hosts past).list (left_ids past) (hosts_readable past is.verdicts is.ranged is.opens) (hosts_opened past is.verdicts is.ranged is.opens)

  pub past_judged : judged (model_rows.rows past) ≡ Ok (left past)
  past_judged = left_judged (left_time past) small (standing_hosts past).list (left_ids past) (hosts_readable past is.verdicts is.ranged is.opens) (hosts_opened past is.verdicts is.ranged is.opens)
