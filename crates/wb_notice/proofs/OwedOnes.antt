-- What is owed of a tenant's live reports, where they stand among those of others.
use Rattle.std.proofs.Common.{◌≡◌, inl, inr, ℕ, ◌<◌, ◌+◌, ◌++◌, Bool, true, false, List, [], ◌∷◌, length, map, drop, get_or, find, filter, unwrap_or, Some, ℤ, refl, sym, ap, ◌∙◌, append_assoc, arith}
use Rattle.std.proofs.lemmas.Bool.{and_parts, eq-eqb, ne_eqb}
use Rattle.std.specs.List.{flat_map, list_all}
use Rattle.std.specs.Prelude.{◌==◌, ◌&&◌, if◌then◌else◌}
use Rattle.wb_custody.specs.Desks.{have_right_actors}
use Rattle.wb_model.specs.declared.registry.Lists.{Lists}
use Rattle.wb_model.specs.declared.registry.TenantItem.{TenantItem}
use Rattle.wb_model.specs.Legal.{ascends}
use Rattle.wb_model.specs.Openings.{no_settings, registry_of}
use Rattle.wb_model.specs.SetUps.{AreSetUp}
use Rattle.wb_model.specs.Tables.{Case}
use Rattle.wb_model.proofs.Found.{Held}
use Rattle.wb_rows.specs.declared.cases.CaseItem.{CaseItem}
use Rattle.wb_rows.specs.Reports.{Report, case_report}
use Rattle.wb_rows.specs.Openings.{case_of, cases_of}
use Rattle.wb_notice.specs.declared.notice.Notice.{Notice}
use Rattle.wb_notice.specs.Owed.{is_live_on}
use Rattle.wb_rows.proofs.Ascending.{held-above, rest-ascends}
use Rattle.wb_notice.proofs.ListFacts.{here, held_here}

abbrev case_in : CaseItem → Case
case_in x = case_of (case_report x)

module _ (t : ℕ) (today : ℤ) (f : Case → List Notice) where
  -- what is told of those of these reports that are the tenant's and live
  abbrev pub told_of : List CaseItem → List Notice
  told_of items = flat_map f (filter (is_live_on today) (cases_of (map case_report items) t))

  abbrev pub is_told : CaseItem → Bool
  is_told x = (x.tenant == t) && is_live_on today (case_in x)

  one_told : (x : CaseItem) (xs : List CaseItem) → is_told x ≡ true → told_of (x ∷ xs) ≡ f (case_in x) ++ told_of xs
  one_told x xs e = by (x.tenant == t) refl (is_live_on today (case_in x)) refl e
    where
      by : (p : Bool) → (x.tenant == t) ≡ p → (q : Bool) → is_live_on today (case_in x) ≡ q → (p && q) ≡ true → told_of (x ∷ xs) ≡ f (case_in x) ++ told_of xs
      by true a true b e = rw (a, b) refl
      by true a false b e = absurd (cc (e))
      by false a q b e = absurd (cc (e))

  none_told : (x : CaseItem) (xs : List CaseItem) → is_told x ≡ false → told_of (x ∷ xs) ≡ told_of xs
  none_told x xs e = by (x.tenant == t) refl (is_live_on today (case_in x)) refl e
    where
      by : (p : Bool) → (x.tenant == t) ≡ p → (q : Bool) → is_live_on today (case_in x) ≡ q → (p && q) ≡ false → told_of (x ∷ xs) ≡ told_of xs
      by true a true b e = absurd (cc (e))
      by true a false b e = rw (a, b) refl
      by false a q b e = rw a refl

  module _ (items : List CaseItem) (i : ℕ) (x : CaseItem) (within : i < length items) (is : x ≡ get_or items i x) (all done : List Notice) (so_far : (done ++ told_of (drop i items)) ≡ all) where
    -- with what is told of the next report, all is told still
    pub told_more : (new : List Notice) → is_told x ≡ true → new ≡ done ++ f (case_in x) → (new ++ told_of (drop (i + 1) items)) ≡ all
    told_more new told more =
        ap (λ l. l ++ told_of (drop (i + 1) items)) more
        ∙ (append_assoc done (f (case_in x)) (told_of (drop (i + 1) items))
        ∙ (ap (λ l. done ++ l) (sym (one_told x (drop (i + 1) items) told) ∙ ap told_of (sym (here items i x within is))) ∙ so_far))

    pub told_as : is_told x ≡ false → (done ++ told_of (drop (i + 1) items)) ≡ all
    told_as none = ap (λ l. done ++ l) (sym (none_told x (drop (i + 1) items) none) ∙ ap told_of (sym (here items i x within is))) ∙ so_far

-- ---- who acted on them

abbrev pub have_actors : ℕ → List CaseItem → Bool
have_actors t items = list_all (λ (c : Case). have_right_actors c.trail) (cases_of (map case_report items) t)

module _ (t : ℕ) (items : List CaseItem) (i : ℕ) (x : CaseItem) (within : i < length items) (is : x ≡ get_or items i x) (all : have_actors t (drop i items) ≡ true) where
  split : have_actors t (x ∷ drop (i + 1) items) ≡ true
  split = ap (have_actors t) (sym (here items i x within is)) ∙ all

  pub own_actors : (x.tenant == t) ≡ true → have_right_actors x.case.items ≡ true
  own_actors own = (and_parts (have_right_actors x.case.items) (have_actors t (drop (i + 1) items)) (by (x.tenant == t) own split)).0
    where
      by : (p : Bool) → p ≡ true → list_all (λ (c : Case). have_right_actors c.trail) (map case_of (if p then case_report x ∷ filter (λ (r : Report). r.tenant == t) (map case_report (drop (i + 1) items)) else filter (λ (r : Report). r.tenant == t) (map case_report (drop (i + 1) items)))) ≡ true
          → (have_right_actors x.case.items && have_actors t (drop (i + 1) items)) ≡ true
      by true own e = e
      by false own e = absurd (cc (own))

  pub later_actors : have_actors t (drop (i + 1) items) ≡ true
  later_actors = by (x.tenant == t) split
    where
      by : (p : Bool) → list_all (λ (c : Case). have_right_actors c.trail) (map case_of (if p then case_report x ∷ filter (λ (r : Report). r.tenant == t) (map case_report (drop (i + 1) items)) else filter (λ (r : Report). r.tenant == t) (map case_report (drop (i + 1) items)))) ≡ true
          → have_actors t (drop (i + 1) items) ≡ true
      by true e = (and_parts (have_right_actors x.case.items) (have_actors t (drop (i + 1) items)) e).1
      by false e = e

-- ---- a tenant's settings

-- of items whose tenants ascend, each is the first of its tenant
found_own : (xs : List TenantItem) (x : TenantItem) → ascends (map (λ (y : TenantItem). y.tenant) xs) ≡ true → Held x xs → find (λ (y : TenantItem). y.tenant == x.tenant) xs ≡ Some x
found_own [] x up held = absurd held
found_own (y ∷ ys) x up (inl is) = rw (eq-eqb y.tenant x.tenant (ap (λ (z : TenantItem). z.tenant) (sym is))) (ap Some (sym is))
found_own (y ∷ ys) x up (inr held) =
    let above = held-above (λ (z : TenantItem). z.tenant) y.tenant ys x up held in
    rw (ne_eqb y.tenant x.tenant (λ e. omega (arith, above, e))) (found_own ys x (rest-ascends y.tenant (map (λ (z : TenantItem). z.tenant) ys) up) held)

pub own_settings : (lists : Lists) (i : ℕ) (x : TenantItem) → AreSetUp lists → i < length lists.tenants → x ≡ get_or lists.tenants i x → (registry_of lists x.tenant).settings ≡ x
own_settings lists i x set_up within is = ap (λ o. unwrap_or o (no_settings x.tenant)) (found_own lists.tenants x set_up.order (held_here lists.tenants i x within is))

-- each that is listed passes what all pass
pub passes_here : {X : Type 0} (p : X → Bool) (xs : List X) (x : X) → list_all p xs ≡ true → Held x xs → p x ≡ true
passes_here p [] x all held = absurd held
passes_here p (y ∷ ys) x all (inl is) = ap p is ∙ (and_parts (p y) (list_all p ys) all).0
passes_here p (y ∷ ys) x all (inr held) = passes_here p ys x (and_parts (p y) (list_all p ys) all).1 held
