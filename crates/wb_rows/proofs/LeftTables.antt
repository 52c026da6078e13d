-- Tables that tenants hold keep the rules of kept rows as what is held of all tenants.
use Rattle.std.proofs.Common.{◌≡◌, inl, inr, ℕ, ◌<◌, Bool, true, false, cond, List, [], ◌∷◌, Option, Some, None, option_map, refl, sym, ap, ◌∙◌, subst, arith}
use Rattle.std.specs.Prelude.{map, find, ◌||◌, ◌==◌}
use Rattle.std.specs.List.{list_all, list_any}
use Rattle.std.specs.Option.{option_map_or}
use Rattle.std.proofs.lemmas.Bool.{and_from}
use Rattle.std.proofs.lemmas.Bool.Decides.{nat_tests}
use Rattle.wb_custody.specs.SealedAnswers.{pair_cmp}
use Rattle.wb_row_codec.specs.declared.item.NumberingItem.{NumberingItem}
use Rattle.wb_list.specs.Keyed.{IsAscending}
use Rattle.wb_model.specs.KeptRules.{AreKept}
use Rattle.wb_model.specs.LeftLists.{of_each, lists_of}
use Rattle.wb_model.specs.Legal.{ascends, ascends_from}
use Rattle.wb_model.specs.Opened.{Ascend, AreOrdered, AreOpened}
use Rattle.wb_model.specs.Openings.{registry_of, empty_tables}
use Rattle.wb_model.specs.Readable.{IsOwn, AreReadable}
use Rattle.wb_model.specs.Reopened.{without_sessions}
use Rattle.wb_model.specs.SetUps.{has_tenant, tenant_ids, AreSetUp}
use Rattle.wb_model.specs.Tables.{Case}
use Rattle.wb_model.specs.Tenants.{Tenancy, has_id}
use Rattle.wb_model.proofs.Found.{Held as In, held_map, same_number, other_number}
use Rattle.wb_model.proofs.ItemPuts.{all_held}
use Rattle.wb_model.proofs.LeftKept.{left_kept}
use Rattle.wb_model.proofs.LeftSetUps.{ids, above, rest_up, own_part, each_held, each_all, any_none, some_of, filter_none, comes_before, ordered_each, ordered_within, ordered_across, lists_set_up, registry_back, same_ids, there}
use Rattle.wb_model.proofs.ReadablePasts.{left_readable}
use Rattle.wb_rows.specs.Places.{report_place}
use Rattle.wb_rows.specs.ReportRules.{is_numbering_of}
use Rattle.wb_rows.specs.Reports.{Report}
use Rattle.wb_rows.specs.Left.{numbering_item, report_in, reports_in, held_of}
use Rattle.wb_rows.specs.Openings.{numbering_of, case_of, cases_of, tables_of}
use Rattle.wb_setup.proofs.Orders.{ascending}

find_mapped : {X Y : Type 0} (f : X → Y) (p : Y → Bool) (xs : List X) → find p (map f xs) ≡ option_map f (find (λ x. p (f x)) xs)
find_mapped f p [] = refl
find_mapped {X} {Y} f p (x ∷ xs) = by (p (f x)) (find_mapped f p xs)
  where
    by : (b : Bool) → find p (map f xs) ≡ option_map f (find (λ z. p (f z)) xs) → cond b (Some (f x)) (find p (map f xs)) ≡ option_map f (cond b (Some x) (find (λ z. p (f z)) xs))
    by true ih = refl
    by false ih = ih

cases_same : (t : ℕ) (cs : List Case) → map case_of (map (report_in t) cs) ≡ cs
cases_same t [] = refl
cases_same t (c ∷ cs) = ap (λ ds. c ∷ ds) (cases_same t cs)

numbers_same : (t : ℕ) (cs : List Case) → map (λ (r : Report). r.number) (map (report_in t) cs) ≡ map (λ (c : Case). c.number) cs
numbers_same t [] = refl
numbers_same t (c ∷ cs) = ap (λ ns. c.number ∷ ns) (numbers_same t cs)

numbers_up : (k : ℕ) (cs : List Case) → Ascend k cs → ascends_from k (map (λ (c : Case). c.number) cs) ≡ true
numbers_up k [] up = refl
numbers_up k (c ∷ cs) up = and_from _ _ (let lt = up.0 in grind (arith, nat_tests, lt)) (numbers_up c.number cs up.1)

numberings_same : (xs : List Tenancy) → map (λ (x : NumberingItem). x.tenant) (map numbering_item xs) ≡ ids xs
numberings_same [] = refl
numberings_same (x ∷ xs) = ap (λ ns. x.id ∷ ns) (numberings_same xs)

module _ (at : ℕ) (xs : List Tenancy) (up : ascends (ids xs) ≡ true) (readable : (x : Tenancy) → In x xs → AreReadable x.id x.tables) (opened : (x : Tenancy) → In x xs → AreOpened at (without_sessions x.tables)) where
  pub own : (x : Tenancy) → In x xs → IsOwn x.id x.tables.plain.registry
  own x h = (readable x h).registry

  pub order : (x : Tenancy) → In x xs → AreOrdered x.tables.plain.registry
  order x h = (opened x h).ordered

  set_up : AreSetUp (lists_of xs)
  set_up = lists_set_up xs up own order

  -- ---- each tenant is found

  found : (x : Tenancy) → In x xs → find (has_id x.id) xs ≡ Some x
  found x h = of xs up h
    where
      of : (zs : List Tenancy) → ascends (ids zs) ≡ true → In x zs → find (has_id x.id) zs ≡ Some x
      of [] u k = absurd k
      of (z ∷ zs) u (inl e) = ap (λ b. cond b (Some z) (find (has_id x.id) zs)) (same_number z.id x.id (ap (λ (w : Tenancy). w.id) (sym e))) ∙ ap Some (sym e)
      of (z ∷ zs) u (inr k) = ap (λ b. cond b (Some z) (find (has_id x.id) zs)) (other_number z.id x.id (λ same. let lt : z.id < x.id = above z.id zs x u k in omega (arith, lt, same))) ∙ of zs (rest_up z.id (ids zs) u) k

  numbering_back : (x : Tenancy) → In x xs → numbering_of (map numbering_item xs) x.id ≡ x.tables.plain.numbering
  numbering_back x h = ap (λ (o : Option NumberingItem). option_map_or (λ (y : NumberingItem). y.numbering) o (record { at = 0; drawn = 0; last = 0 })) (find_mapped numbering_item (is_numbering_of x.id) xs ∙ ap (option_map numbering_item) (found x h))

  of_report : (x : Tenancy) → In x xs → (r : Report) → In r (reports_in x) → r.tenant ≡ x.id
  of_report x h r k = let c = held_map (report_in x.id) x.tables.plain.cases r k in ap (λ (s : Report). s.tenant) c.1

  cases_back : (x : Tenancy) → In x xs → cases_of (of_each reports_in xs) x.id ≡ x.tables.plain.cases
  cases_back x h = ap (map case_of) (own_part (λ (r : Report). r.tenant) reports_in xs up of_report x h) ∙ cases_same x.id x.tables.plain.cases

  pub sealed_back : (x : Tenancy) → In x xs → (n : ℕ) → (held_of xs).sealed x.id n ≡ x.tables.sealed n
  sealed_back x h n = ap (λ (o : Option Tenancy). option_map_or (λ (z : Tenancy). z.tables.sealed n) o None) (found x h)

  pub tables_back : (x : Tenancy) → In x xs → tables_of (held_of xs) x.id ≡ without_sessions x.tables
  tables_back x h = λ i. record {
    plain = record { registry = registry_back xs up own order x h i; numbering = numbering_back x h i; cases = cases_back x h i; sessions = [] };
    sealed = λ n. sealed_back x h n i;
  }

  -- ---- the rules

  kept_there : (x : Tenancy) → In x xs → AreKept at (lists_of xs) x.id (tables_of (held_of xs) x.id)
  kept_there x h = subst (AreKept at (lists_of xs) x.id) (sym (tables_back x h)) (left_kept at x.id (lists_of xs) (without_sessions x.tables) set_up (sym (registry_back xs up own order x h)) (opened x h) (left_readable x.id x.tables (readable x h)))

  nothing_kept : (t : ℕ) → AreKept at (lists_of xs) t (empty_tables (registry_of (lists_of xs) t))
  nothing_kept t = record {
    set_up = set_up;
    registry = refl;
    keys = refl;
    legal = refl;
    forms = refl;
    named = refl;
    answers = refl;
    numbers = refl;
    marks = λ r. refl;
    sealed = refl;
    receipts = refl;
    numbering = refl;
    begun = refl;
    drawn = grind (arith, nat_tests);
    entries = refl;
    sessions = refl;
  }

  none_found : (t : ℕ) → list_any (has_id t) xs ≡ false → find (has_id t) xs ≡ None
  none_found t none = of xs none
    where
      of : (zs : List Tenancy) → list_any (has_id t) zs ≡ false → find (has_id t) zs ≡ None
      of [] k = refl
      of (z ∷ zs) k = by (z.id == t) refl k (of zs)
        where
          by : (b : Bool) → (z.id == t) ≡ b → (b || list_any (has_id t) zs) ≡ false → (list_any (has_id t) zs ≡ false → find (has_id t) zs ≡ None) → cond b (Some z) (find (has_id t) zs) ≡ None
          by true is f ih = absurd (grind (arith, f))
          by false is f ih = ih f

  tables_away : (t : ℕ) → list_any (has_id t) xs ≡ false → tables_of (held_of xs) t ≡ empty_tables (registry_of (lists_of xs) t)
  tables_away t none = λ i. record {
    plain = record {
      registry = registry_of (lists_of xs) t;
      numbering = (ap (λ (o : Option NumberingItem). option_map_or (λ (y : NumberingItem). y.numbering) o (record { at = 0; drawn = 0; last = 0 })) (find_mapped numbering_item (is_numbering_of t) xs ∙ ap (option_map numbering_item) (none_found t none))) i;
      cases = ap (map case_of) (filter_none (λ (r : Report). r.tenant == t) (of_each reports_in xs) (λ r k. let x = each_held reports_in xs r k in ap (λ n. n == t) (of_report x.0 x.1 r x.2) ∙ any_none (has_id t) xs x.0 none x.1)) i;
      sessions = [];
    };
    sealed = λ n. ap (λ (o : Option Tenancy). option_map_or (λ (z : Tenancy). z.tables.sealed n) o None) (none_found t none) i;
  }

  pub kept_all : (t : ℕ) → AreKept at (lists_of xs) t (tables_of (held_of xs) t)
  kept_all t = by (list_any (has_id t) xs) refl
    where
      by : (b : Bool) → list_any (has_id t) xs ≡ b → AreKept at (lists_of xs) t (tables_of (held_of xs) t)
      by true is = let x = some_of (has_id t) xs is in let same : x.0.id ≡ t = (let k : (x.0.id == t) ≡ true = x.2 in grind (arith, nat_tests, k)) in subst (λ u. AreKept at (lists_of xs) u (tables_of (held_of xs) u)) same (kept_there x.0 x.1)
      by false is = subst (AreKept at (lists_of xs) t) (sym (tables_away t is)) (nothing_kept t)

  pub numbered_all : map (λ (x : NumberingItem). x.tenant) (map numbering_item xs) ≡ tenant_ids (lists_of xs)
  numbered_all = numberings_same xs ∙ sym (same_ids xs up own order xs (λ z h. h))

  pub reports_ordered : IsAscending pair_cmp report_place (of_each reports_in xs)
  reports_ordered = ascending (λ (r : Report). r.tenant) (λ (r : Report). r.number) (of_each reports_in xs)
      (ordered_each (comes_before (λ (r : Report). r.tenant) (λ (r : Report). r.number)) reports_in xs up (λ x h. ordered_within (λ (r : Report). r.tenant) (λ (r : Report). r.number) x.id (reports_in x) (of_report x h) (ap ascends (numbers_same x.id x.tables.plain.cases) ∙ rest_up 0 (map (λ (c : Case). c.number) x.tables.plain.cases) (numbers_up 0 x.tables.plain.cases (opened x h).ascend)))
      (λ x z h k lt y w a b. ordered_across (λ (r : Report). r.tenant) (λ (r : Report). r.number) x.id z.id y w lt (of_report x h y a) (of_report z k w b)))

  pub reports_owned : list_all (λ (r : Report). has_tenant (lists_of xs) r.tenant) (of_each reports_in xs) ≡ true
  reports_owned = each_all (λ (r : Report). has_tenant (lists_of xs) r.tenant) reports_in xs (λ x h. all_held (λ (r : Report). has_tenant (lists_of xs) r.tenant) (reports_in x) (λ r k. ap (has_tenant (lists_of xs)) (of_report x h r k) ∙ there xs up own order x h))
