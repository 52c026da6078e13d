-- A report is live: by a look-up of its tenant, and among the reports of its tenant.
use Rattle.std.proofs.Common.{◌≡◌, ℕ, ◌+◌, ◌<◌, Bool, true, false, cond, List, [], ◌∷◌, length, map, drop, get_or, find, filter, is_some, Some, None, refl, sym, ap, ◌∙◌}
use Rattle.std.proofs.lemmas.Bool.{eqb-true}
use Rattle.std.specs.Cmp.{both_tied, unsigned_ties}
use Rattle.std.specs.List.{list_any}
use Rattle.std.specs.Ordering.{is_eq}
use Rattle.std.specs.Prelude.{◌==◌, ◌&&◌, ◌||◌, if◌then◌else◌}
use Rattle.wb_custody.specs.SealedAnswers.{pair_cmp}
use Rattle.wb_model.specs.declared.registry.Lists.{Lists}
use Rattle.wb_model.specs.Openings.{registry_of}
use Rattle.wb_model.specs.SetUps.{has_tenant}
use Rattle.wb_model.specs.Tables.{Case, is_live, is_there}
use Rattle.wb_rows.specs.declared.cases.CaseItem.{CaseItem}
use Rattle.wb_rows.specs.Reports.{Report, case_report}
use Rattle.wb_rows.specs.Openings.{case_of, cases_of}
use Rattle.wb_list.specs.Keyed.{has_key}
use Rattle.wb_notice.specs.declared.live.LiveReport.{LiveReport}
use Rattle.wb_notice.specs.LiveReports.{has_report, live_place}
use Rattle.wb_notice.specs.Outbox.{lives}
use Rattle.wb_notice.proofs.ListFacts.{here}

pub found_any : {X : Type 0} (p : X → Bool) (xs : List X) (x : X) → find p xs ≡ Some x → list_any p xs ≡ true
found_any p [] x e = absurd (cc (e))
found_any p (y ∷ ys) x e = by (p y) e (λ more. found_any p ys x more)
  where
    by : (b : Bool) → cond b (Some y) (find p ys) ≡ Some x → (find p ys ≡ Some x → list_any p ys ≡ true) → (b || list_any p ys) ≡ true
    by true e more = refl
    by false e more = more e

pub none_any : {X : Type 0} (p : X → Bool) (xs : List X) → find p xs ≡ None → list_any p xs ≡ false
none_any p [] e = refl
none_any p (y ∷ ys) e = by (p y) e (λ more. none_any p ys more)
  where
    by : (b : Bool) → cond b (Some y) (find p ys) ≡ None → (find p ys ≡ None → list_any p ys ≡ false) → (b || list_any p ys) ≡ false
    by true e more = absurd (cc (e))
    by false e more = more e

pub same_place : (a b c d : ℕ) → is_eq (pair_cmp (a, b) (c, d)) ≡ ((a == c) && (b == d))
same_place a b c d = sym (both_tied _ _ _ _ (unsigned_ties a c) (unsigned_ties b d))

-- a report is live, and its tenant is there
abbrev pub lives_itself : Lists → ℕ → CaseItem → Bool
lives_itself lists now x = has_tenant lists x.tenant && is_live (registry_of lists x.tenant).settings now (case_of (case_report x))

-- .. and it is that of a number of a tenant
abbrev pub is_here : Lists → ℕ → ℕ → ℕ → CaseItem → Bool
is_here lists now t n x = ((x.tenant == t) && (x.number == n)) && lives_itself lists now x

module _ (lists : Lists) (now t n : ℕ) where
  abbrev live_ones : List CaseItem → List Case
  live_ones xs = filter (is_live (registry_of lists t).settings now) (cases_of (map case_report xs) t)

  -- so is one of the reports, where one of the tenant's is live and of that number
  pub any_here : (xs : List CaseItem) → list_any (is_here lists now t n) xs ≡ lives (record { lists = lists; reports = map case_report xs }) now t n
  any_here [] = none (has_tenant lists t)
    where
      none : (b : Bool) → false ≡ (b && false)
      none true = refl
      none false = refl
  any_here (x ∷ xs) = by (x.tenant == t) refl (any_here xs)
    where
      here : (k h l rest : Bool) → ((k && (h && l)) || (h && rest)) ≡ (h && (if l then k || rest else rest))
      here k false l rest = neither k
        where
          neither : (k : Bool) → ((k && false) || false) ≡ false
          neither true = refl
          neither false = refl
      here k true true rest = both k rest
        where
          both : (k rest : Bool) → ((k && true) || rest) ≡ (k || rest)
          both true rest = refl
          both false rest = refl
      here k true false rest = only k rest
        where
          only : (k rest : Bool) → ((k && false) || rest) ≡ rest
          only true rest = refl
          only false rest = refl

      joined : (l : Bool) → (if l then (x.number == n) || is_there n (live_ones xs) else is_there n (live_ones xs)) ≡ is_there n (if l then case_of (case_report x) ∷ live_ones xs else live_ones xs)
      joined true = refl
      joined false = refl

      by : (b : Bool) → (x.tenant == t) ≡ b → list_any (is_here lists now t n) xs ≡ (has_tenant lists t && is_there n (live_ones xs))
          → (((b && (x.number == n)) && lives_itself lists now x) || list_any (is_here lists now t n) xs) ≡ (has_tenant lists t && is_there n (filter (is_live (registry_of lists t).settings now) (map case_of (if b then case_report x ∷ filter (λ (r : Report). r.tenant == t) (map case_report xs) else filter (λ (r : Report). r.tenant == t) (map case_report xs)))))
      by true is ih =
          let same : x.tenant ≡ t = eqb-true x.tenant t is in
          let own : lives_itself lists now x ≡ (has_tenant lists t && is_live (registry_of lists t).settings now (case_of (case_report x))) = ap (λ u. has_tenant lists u && is_live (registry_of lists u).settings now (case_of (case_report x))) same in
          rw (own, ih) (here (x.number == n) (has_tenant lists t) (is_live (registry_of lists t).settings now (case_of (case_report x))) (is_there n (live_ones xs)) ∙ ap (λ b. has_tenant lists t && b) (joined (is_live (registry_of lists t).settings now (case_of (case_report x)))))
      by false is ih = ih

-- ---- a list of them, report by report

module _ (lists : Lists) (now : ℕ) (items : List CaseItem) (i : ℕ) (x : CaseItem) (within : i < length items) (is : x ≡ get_or items i x) (t n : ℕ) where
  split : list_any (is_here lists now t n) (drop i items) ≡ (is_here lists now t n x || list_any (is_here lists now t n) (drop (i + 1) items))
  split = ap (list_any (is_here lists now t n)) (here items i x within is)

  -- one that is live comes to them
  pub one_live : (old new : Bool) → lives_itself lists now x ≡ true → new ≡ (if (x.tenant == t) && (x.number == n) then true else old)
      → (old || list_any (is_here lists now t n) (drop i items)) ≡ list_any (is_here lists now t n) items
      → (new || list_any (is_here lists now t n) (drop (i + 1) items)) ≡ list_any (is_here lists now t n) items
  one_live old new live more all =
      rw more (by ((x.tenant == t) && (x.number == n)) old (list_any (is_here lists now t n) (drop (i + 1) items)))
      ∙ (ap (λ b. old || ((((x.tenant == t) && (x.number == n)) && b) || list_any (is_here lists now t n) (drop (i + 1) items))) (sym live)
      ∙ (ap (λ b. old || b) (sym split) ∙ all))
    where
      by : (h old rest : Bool) → ((if h then true else old) || rest) ≡ (old || ((h && true) || rest))
      by true true rest = refl
      by true false rest = refl
      by false true rest = refl
      by false false rest = refl

  -- one that is not does not
  pub none_live : (old : Bool) → lives_itself lists now x ≡ false
      → (old || list_any (is_here lists now t n) (drop i items)) ≡ list_any (is_here lists now t n) items
      → (old || list_any (is_here lists now t n) (drop (i + 1) items)) ≡ list_any (is_here lists now t n) items
  none_live old dead all =
      by ((x.tenant == t) && (x.number == n)) old (list_any (is_here lists now t n) (drop (i + 1) items))
      ∙ (ap (λ b. old || ((((x.tenant == t) && (x.number == n)) && b) || list_any (is_here lists now t n) (drop (i + 1) items))) (sym dead)
      ∙ (ap (λ b. old || b) (sym split) ∙ all))
    where
      by : (h old rest : Bool) → (old || rest) ≡ (old || ((h && false) || rest))
      by true old rest = refl
      by false old rest = refl

  -- what a look-up finds among them with one more
  pub found_with : (live : List LiveReport) (more : List LiveReport) (y : LiveReport) → y.tenant ≡ x.tenant → y.number ≡ x.number
      → find (has_key pair_cmp live_place (t, n)) more ≡ (if has_key pair_cmp live_place (t, n) y then Some y else find (has_key pair_cmp live_place (t, n)) live)
      → has_report more t n ≡ (if (x.tenant == t) && (x.number == n) then true else has_report live t n)
  found_with live more y tenant number found =
      ap (λ o. is_some o) found
      ∙ (by (is_eq (pair_cmp (y.tenant, y.number) (t, n)))
      ∙ ap (λ b. if b then true else has_report live t n) (same_place y.tenant y.number t n ∙ rw (tenant, number) refl))
    where
      by : (b : Bool) → is_some (if b then Some y else find (has_key pair_cmp live_place (t, n)) live) ≡ (if b then true else has_report live t n)
      by true = refl
      by false = refl
