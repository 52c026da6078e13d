-- What is read of the rows that hosts leave is what they left: their tenants, the greatest moment, and each tenant's tables without sessions.
use Rattle.std.proofs.Common.{◌≡◌, inl, inr, ℕ, ◌≤◌, ◌==◌, ◌||◌, Bool, true, false, List, [], ◌∷◌, ◌++◌, map, refl, sym, ap, ◌∙◌, arith}
use Rattle.std.proofs.lemmas.Bool.Decides.{nat_tests}
use Rattle.std.specs.List.{list_any}
use Rattle.std.specs.Prelude.{max}
use Rattle.wb_model.specs.LeftLists.{of_each}
use Rattle.wb_model.specs.Past.{Past}
use Rattle.wb_model.specs.Pasts.{AllOpened, tenants, held_tenancy, standing_hosts}
use Rattle.wb_model.specs.Reopened.{entry_moments, all_moments, latest, left_time}
use Rattle.wb_model.specs.Tables.{Case}
use Rattle.wb_model.specs.Tenants.{Tenancy}
use Rattle.wb_model.specs.declared.entry.Entry.{Entry}
use Rattle.wb_model.proofs.Found.{Held as In}
use Rattle.wb_model.proofs.KeptPasts.{latest_first, latest_rest}
use Rattle.wb_model.proofs.LeftKept.{left_ids, hosts_readable, hosts_opened}
use Rattle.wb_model.proofs.LeftSetUps.{ids, same_ids}
use Rattle.wb_model.proofs.LeftTimes.{latest_both}
use Rattle.wb_row_codec.specs.declared.item.NumberingItem.{NumberingItem}
use Rattle.wb_rows.specs.Left.{numbering_item, report_in, reports_in, left, HoldsWhatIsLeft, IsReadBack}
use Rattle.wb_rows.specs.Openings.{report_moments}
use Rattle.wb_rows.specs.Reports.{Report}
use Rattle.wb_rows.proofs.LeftTables.{own, order, tables_back}

-- ---- the greatest moment

latest_append : (ms ns : List ℕ) → latest (ms ++ ns) ≡ max (latest ms) (latest ns)
latest_append ms ns =
    let both : latest (ms ++ ns) ≤ max (latest ms) (latest ns) = latest_both ms ns in
    let first : latest ms ≤ latest (ms ++ ns) = latest_first ms ns in
    let rest : latest ns ≤ latest (ms ++ ns) = latest_rest ms ns in
    omega (arith, both, first, rest)

moments_append : (rs ss : List Report) → latest (report_moments (rs ++ ss)) ≡ max (latest (report_moments rs)) (latest (report_moments ss))
moments_append [] ss = omega arith
moments_append (r ∷ rs) ss =
    let own : List ℕ = map (λ (e : Entry). e.at) r.trail in
    let more : latest (own ++ report_moments (rs ++ ss)) ≡ max (latest own) (latest (report_moments (rs ++ ss))) = latest_append own (report_moments (rs ++ ss)) in
    let here : latest (own ++ report_moments rs) ≡ max (latest own) (latest (report_moments rs)) = latest_append own (report_moments rs) in
    let ih : latest (report_moments (rs ++ ss)) ≡ max (latest (report_moments rs)) (latest (report_moments ss)) = moments_append rs ss in
    omega (arith, more, here, ih)

moments_in : (t : ℕ) (cs : List Case) → report_moments (map (report_in t) cs) ≡ entry_moments cs
moments_in t [] = refl
moments_in t (c ∷ cs) = ap (λ ms. map (λ (e : Entry). e.at) c.trail ++ ms) (moments_in t cs)

abbrev draws : List Tenancy → List ℕ
draws xs = map (λ (x : NumberingItem). x.numbering.at) (map numbering_item xs)

latest_of : (xs : List Tenancy) → max (latest (draws xs)) (latest (report_moments (of_each reports_in xs))) ≡ latest (all_moments xs)
latest_of [] = refl
latest_of (x ∷ xs) =
    let entries : List ℕ = entry_moments x.tables.plain.cases in
    let own : latest (report_moments (reports_in x)) ≡ latest entries = ap latest (moments_in x.id x.tables.plain.cases) in
    let reports : latest (report_moments (reports_in x ++ of_each reports_in xs)) ≡ max (latest (report_moments (reports_in x))) (latest (report_moments (of_each reports_in xs))) = moments_append (reports_in x) (of_each reports_in xs) in
    let all : latest ((x.tables.plain.numbering.at ∷ entries) ++ all_moments xs) ≡ max (latest (x.tables.plain.numbering.at ∷ entries)) (latest (all_moments xs)) = latest_append (x.tables.plain.numbering.at ∷ entries) (all_moments xs) in
    let ih : max (latest (draws xs)) (latest (report_moments (of_each reports_in xs))) ≡ latest (all_moments xs) = latest_of xs in
    omega (arith, own, reports, all, ih)

-- ---- the hosts of a past

ids_of : (past : Past AllOpened) (ts : List ℕ) → ids (map (held_tenancy past) ts) ≡ ts
ids_of past [] = refl
ids_of past (t ∷ ts) = ap (λ us. t ∷ us) (ids_of past ts)

tenant_in : (past : Past AllOpened) (t : ℕ) (ts : List ℕ) → list_any (λ u. u == t) ts ≡ true → In (held_tenancy past t) (map (held_tenancy past) ts)
tenant_in past t [] is = absurd (grind (arith, is))
tenant_in past t (u ∷ us) is = by (u == t) refl is (tenant_in past t us)
  where
    by : (b : Bool) → (u == t) ≡ b → (b || list_any (λ v. v == t) us) ≡ true → (list_any (λ v. v == t) us ≡ true → In (held_tenancy past t) (map (held_tenancy past) us)) → In (held_tenancy past t) (held_tenancy past u ∷ map (held_tenancy past) us)
    by true same e rest = let one : t ≡ u = grind (arith, nat_tests, same) in inl (ap (held_tenancy past) one)
    by false other e rest = inr (rest e)

module _ (past : Past AllOpened) (is : IsReadBack past) where
  pub holds_left : HoldsWhatIsLeft past (left past)
  holds_left =
      let up = left_ids past in
      let readable = hosts_readable past is.verdicts is.ranged is.opens in
      let opened = hosts_opened past is.verdicts is.ranged is.opens in
      let owned = own (left_time past) (standing_hosts past).list up readable opened in
      let ordered = order (left_time past) (standing_hosts past).list up readable opened in
      record {
        tenants = same_ids (standing_hosts past).list up owned ordered (standing_hosts past).list (λ z h. h) ∙ ids_of past (tenants past);
        time = latest_append (draws (standing_hosts past).list) (report_moments (of_each reports_in (standing_hosts past).list)) ∙ latest_of (standing_hosts past).list;
        tables = λ t there. tables_back (left_time past) (standing_hosts past).list up readable opened (held_tenancy past t) (tenant_in past t (tenants past) there) ∙ sym (rw there refl);
      }
