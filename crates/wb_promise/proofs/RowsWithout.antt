-- Kept rows without those of one report open the host without it.
use Rattle.std.proofs.Common.{◌≡◌, ◌≢◌, ◌⊎◌, inl, inr, ℕ, ◌≤◌, Bool, true, false, cond, eqb, not, List, [], ◌∷◌, ◌++◌, Option, Some, None, option_map, refl, sym, ap, ◌∙◌, subst, arith}
use Rattle.std.specs.Prelude.{Ok, filter, find, map, max, ◌&&◌, ◌||◌}
use Rattle.std.specs.List.{filter_map}
use Rattle.std.proofs.Math.Path.{fun_ext}
use Rattle.std.proofs.lemmas.Bool.Decides.{nat_tests}
use Rattle.wb_base.specs.declared.rows.Row.{Row}
use Rattle.wb_base.specs.declared.rows.Key.{Key}
use Rattle.wb_custody.specs.declared.sealed.SealedItem.{SealedItem}
use Rattle.wb_custody.specs.SealedAnswers.{is_of}
use Rattle.wb_row_codec.specs.declared.item.NumberingItem.{NumberingItem}
use Rattle.wb_row_codec.specs.declared.item.Item.{Item}
use Rattle.wb_row_codec.specs.declared.item.Item.TheVariants as items
use Rattle.wb_row_codec.specs.Items.{item_of, item_row, is_key}
use Rattle.wb_model.specs.declared.entry.Entry.{Entry}
use Rattle.wb_model.specs.declared.registry.Lists.{Lists}
use Rattle.wb_model.specs.Absence.{without}
use Rattle.wb_model.specs.Tables.{others}
use Rattle.wb_model.specs.Pasts.{AllOpened}
use Rattle.wb_model.specs.Reopened.{latest}
use Rattle.wb_model.specs.SetUps.{tenant_ids}
use Rattle.wb_model.proofs.Found.{decide, same_number, other_number}
use Rattle.wb_model.proofs.KeptPasts.{latest_first, latest_rest}
use Rattle.wb_model.proofs.LeftTimes.{latest_both}
use Rattle.wb_rows.specs.Reports.{Report}
use Rattle.wb_rows.specs.TrailRule.{reports_of}
use Rattle.wb_rows.specs.Held.{Held}
use Rattle.wb_rows.specs.Judged.{held, judged, with_format}
use Rattle.wb_rows.specs.KeptItems.{tenant_in, numbering_in, user_in, form_in, context_in, entry_in, sealed_in, kept_of}
use Rattle.wb_rows.specs.ReadItems.{items_in}
use Rattle.wb_rows.specs.Openings.{cases_of, tables_of, report_moments, time_of, with_setup}
use Rattle.wb_setup.specs.Joined.{joined}
use Rattle.wb_desk.specs.Openings.{IsOpeningOver}
use Rattle.wb_base.specs.KeptRows.{is_of_report}
use Rattle.wb_base.specs.declared.form.Format.{Format}
use Rattle.wb_model.specs.OtherOpenings.{IsOpenedWithout, rows_without}
use Rattle.wb_promise.proofs.JudgedRows.{ok_in, IsJudged, is_judged, item_key, items_left, kind_left, one_format, format_left}
use Rattle.wb_promise.proofs.AlikeRows.{other_of}
use Rattle.wb_promise.proofs.ReportsLeft.{is_entry, is_report, entries_but, reports_but, reports_left}

-- ---- items

abbrev is_item : ℕ → ℕ → Item → Bool
is_item t r (items.Entry x) = is_entry t r x
is_item t r (items.Sealed s) = is_of t r s
is_item t r _ = false

by_key : (format : Format) (t r : ℕ) (k : Key) (item : Item) → is_key (item_row format item).key k ≡ true → ((eqb k.kind 6 || eqb k.kind 7) && eqb k.tenant t && eqb k.a r) ≡ is_item t r item
by_key format t r k (items.Settings x) e = grind (arith, nat_tests, e)
by_key format t r k (items.Numbering x) e = grind (arith, nat_tests, e)
by_key format t r k (items.User x) e = grind (arith, nat_tests, e)
by_key format t r k (items.Form x) e = grind (arith, nat_tests, e)
by_key format t r k (items.Context x) e = grind (arith, nat_tests, e)
by_key format t r k (items.Entry x) e = grind (arith, nat_tests, e)
by_key format t r k (items.Sealed x) e = grind (arith, nat_tests, e)

row_item : (format : Format) (t r : ℕ) (x : Row) (item : Item) → item_of format x ≡ Some item → is_of_report t r x.key ≡ is_item t r item
row_item format t r x item e = by_key format t r x.key item (item_key format x item e)

abbrev items_but : ℕ → ℕ → List Item → List Item
items_but t r all = filter (λ i. not (is_item t r i)) all

no_tenant : (t r : ℕ) (item : Item) → is_item t r item ≡ true → tenant_in item ≡ None
no_tenant t r (items.Settings x) e = absurd (grind (arith, e))
no_tenant t r _ e = refl

no_numbering : (t r : ℕ) (item : Item) → is_item t r item ≡ true → numbering_in item ≡ None
no_numbering t r (items.Numbering x) e = absurd (grind (arith, e))
no_numbering t r _ e = refl

no_user : (t r : ℕ) (item : Item) → is_item t r item ≡ true → user_in item ≡ None
no_user t r (items.User x) e = absurd (grind (arith, e))
no_user t r _ e = refl

no_form : (t r : ℕ) (item : Item) → is_item t r item ≡ true → form_in item ≡ None
no_form t r (items.Form x) e = absurd (grind (arith, e))
no_form t r _ e = refl

no_context : (t r : ℕ) (item : Item) → is_item t r item ≡ true → context_in item ≡ None
no_context t r (items.Context x) e = absurd (grind (arith, e))
no_context t r _ e = refl

entries_left : (t r : ℕ) (all : List Item) → filter_map entry_in (items_but t r all) ≡ entries_but t r (filter_map entry_in all)
entries_left t r [] = refl
entries_left t r (items.Entry x ∷ all) = by (is_entry t r x) (entries_left t r all)
  where
    by : (b : Bool) → filter_map entry_in (items_but t r all) ≡ entries_but t r (filter_map entry_in all) →
        filter_map entry_in (cond (not b) (items.Entry x ∷ items_but t r all) (items_but t r all)) ≡ cond (not b) (x ∷ entries_but t r (filter_map entry_in all)) (entries_but t r (filter_map entry_in all))
    by true ih = ih
    by false ih = ap (λ xs. x ∷ xs) ih
entries_left t r (items.Sealed s ∷ all) = by (is_of t r s) (entries_left t r all)
  where
    by : (b : Bool) → filter_map entry_in (items_but t r all) ≡ entries_but t r (filter_map entry_in all) → filter_map entry_in (cond (not b) (items.Sealed s ∷ items_but t r all) (items_but t r all)) ≡ entries_but t r (filter_map entry_in all)
    by true ih = ih
    by false ih = ih
entries_left t r (items.Settings x ∷ all) = entries_left t r all
entries_left t r (items.Numbering x ∷ all) = entries_left t r all
entries_left t r (items.User x ∷ all) = entries_left t r all
entries_left t r (items.Form x ∷ all) = entries_left t r all
entries_left t r (items.Context x ∷ all) = entries_left t r all

sealed_but : ℕ → ℕ → List SealedItem → List SealedItem
sealed_but t r xs = filter (λ s. not (is_of t r s)) xs

sealed_left : (t r : ℕ) (all : List Item) → filter_map sealed_in (items_but t r all) ≡ sealed_but t r (filter_map sealed_in all)
unfolding sealed_but
sealed_left t r [] = refl
sealed_left t r (items.Sealed s ∷ all) = by (is_of t r s) (sealed_left t r all)
  where
    by : (b : Bool) → filter_map sealed_in (items_but t r all) ≡ sealed_but t r (filter_map sealed_in all) →
        filter_map sealed_in (cond (not b) (items.Sealed s ∷ items_but t r all) (items_but t r all)) ≡ cond (not b) (s ∷ sealed_but t r (filter_map sealed_in all)) (sealed_but t r (filter_map sealed_in all))
    by true ih = ih
    by false ih = ap (λ xs. s ∷ xs) ih
sealed_left t r (items.Entry x ∷ all) = by (is_entry t r x) (sealed_left t r all)
  where
    by : (b : Bool) → filter_map sealed_in (items_but t r all) ≡ sealed_but t r (filter_map sealed_in all) → filter_map sealed_in (cond (not b) (items.Entry x ∷ items_but t r all) (items_but t r all)) ≡ sealed_but t r (filter_map sealed_in all)
    by true ih = ih
    by false ih = ih
sealed_left t r (items.Settings x ∷ all) = sealed_left t r all
sealed_left t r (items.Numbering x ∷ all) = sealed_left t r all
sealed_left t r (items.User x ∷ all) = sealed_left t r all
sealed_left t r (items.Form x ∷ all) = sealed_left t r all
sealed_left t r (items.Context x ∷ all) = sealed_left t r all

found_other : (t r u n : ℕ) (xs : List SealedItem) → ((u ≡ t) × (n ≡ r) → ⊥) → find (is_of u n) (sealed_but t r xs) ≡ find (is_of u n) xs
unfolding sealed_but
found_other t r u n [] ne = refl
found_other t r u n (s ∷ xs) ne = by (is_of t r s) refl (found_other t r u n xs ne)
  where
    by : (b : Bool) → is_of t r s ≡ b → find (is_of u n) (sealed_but t r xs) ≡ find (is_of u n) xs → find (is_of u n) (cond (not (is_of t r s)) (s ∷ sealed_but t r xs) (sealed_but t r xs)) ≡ find (is_of u n) (s ∷ xs)
    by true is ih =
        ap (λ c. find (is_of u n) (cond (not c) (s ∷ sealed_but t r xs) (sealed_but t r xs))) is
        ∙ (ih ∙ ap (λ c. cond c (Some s) (find (is_of u n) xs)) (sym (other_of t r u n s ne is)))
    by false is ih =
        ap (λ c. find (is_of u n) (cond (not c) (s ∷ sealed_but t r xs) (sealed_but t r xs))) is
        ∙ ap (λ o. cond (is_of u n s) (Some s) o) ih

found_none : (t r : ℕ) (xs : List SealedItem) → find (is_of t r) (sealed_but t r xs) ≡ None
unfolding sealed_but
found_none t r [] = refl
found_none t r (s ∷ xs) = by (is_of t r s) refl (found_none t r xs)
  where
    by : (b : Bool) → is_of t r s ≡ b → find (is_of t r) (sealed_but t r xs) ≡ None → find (is_of t r) (cond (not (is_of t r s)) (s ∷ sealed_but t r xs) (sealed_but t r xs)) ≡ None
    by true is ih = ap (λ c. find (is_of t r) (cond (not c) (s ∷ sealed_but t r xs) (sealed_but t r xs))) is ∙ ih
    by false is ih =
        ap (λ c. find (is_of t r) (cond (not c) (s ∷ sealed_but t r xs) (sealed_but t r xs))) is
        ∙ (ap (λ c. cond c (Some s) (find (is_of t r) (sealed_but t r xs))) is ∙ ih)

-- ---- what is held

pub record HeldWithout (t r : ℕ) (h g : Held) : Type 0 where
  pub lists : g.lists ≡ h.lists
  pub numberings : g.numberings ≡ h.numberings
  pub reports : g.reports ≡ reports_but t r h.reports
  pub sealed : (u n : ℕ) → ((u ≡ t) × (n ≡ r) → ⊥) → g.sealed u n ≡ h.sealed u n
  pub gone : g.sealed t r ≡ None

of_kind : {X : Type 0} (kind : Item → Option X) (t r : ℕ) (all more : List Item) → ((item : Item) → is_item t r item ≡ true → kind item ≡ None) → more ≡ items_but t r all → filter_map kind more ≡ filter_map kind all
of_kind kind t r all more none e = ap (filter_map kind) e ∙ kind_left kind (is_item t r) none all

items_without : (t r : ℕ) (all more : List Item) (rs ss : List Report) → more ≡ items_but t r all → reports_of (kept_of all).lists (kept_of all).entries ≡ Ok rs → reports_of (kept_of more).lists (kept_of more).entries ≡ Ok ss → HeldWithout t r (held (kept_of all) rs) (held (kept_of more) ss)
items_without t r all more rs ss e x y = record {
  lists = lists;
  numberings = of_kind numbering_in t r all more (no_numbering t r) e;
  reports = reports_left (kept_of all).lists t r (kept_of all).entries rs ss x ((λ i. reports_of (sym lists i) (sym entries i)) ∙ y);
  sealed = λ u n ne. ap (option_map (λ (s : SealedItem). s.answers)) (ap (find (is_of u n)) sealed ∙ found_other t r u n (filter_map sealed_in all) ne);
  gone = ap (option_map (λ (s : SealedItem). s.answers)) (ap (find (is_of t r)) sealed ∙ found_none t r (filter_map sealed_in all));
}
  where
    lists : (kept_of more).lists ≡ (kept_of all).lists
    lists = λ i. record {
      tenants = of_kind tenant_in t r all more (no_tenant t r) e i;
      users = of_kind user_in t r all more (no_user t r) e i;
      forms = of_kind form_in t r all more (no_form t r) e i;
      contexts = of_kind context_in t r all more (no_context t r) e i;
    }

    entries : (kept_of more).entries ≡ entries_but t r (kept_of all).entries
    entries = ap (filter_map entry_in) e ∙ entries_left t r all

    sealed : (kept_of more).sealed ≡ sealed_but t r (filter_map sealed_in all)
    sealed = ap (filter_map sealed_in) e ∙ sealed_left t r all

pub held_without : (t r : ℕ) (rows more : List Row) (h g : Held) → more ≡ rows_without t r rows → judged rows ≡ Ok h → judged more ≡ Ok g → HeldWithout t r h g
held_without t r rows more h g e x y =
    let a : IsJudged rows h = is_judged rows h x in
    let b : IsJudged more g = is_judged more g y in
    let left : items_in a.format (rows_without t r a.own) ≡ Ok (items_but t r a.all) = items_left a.format (λ x. is_of_report t r x.key) (is_item t r) (row_item a.format t r) a.own a.all a.reads in
    let own : with_format b.format b.own ≡ with_format a.format (rows_without t r a.own) = sym b.whole ∙ (e ∙ (ap (rows_without t r) a.whole ∙ format_left (λ x. is_of_report t r x.key) refl a.format a.own)) in
    let one = one_format b.format a.format b.own (rows_without t r a.own) b.all (items_but t r a.all) b.reads left own in
    let kept : b.all ≡ items_but t r a.all = ok_in _ _ (sym b.reads ∙ ((λ i. items_in (one.0 i) (one.1 i)) ∙ left)) in
    subst (λ z. HeldWithout t r z g) (sym a.gives) (subst (λ z. HeldWithout t r (held (kept_of a.all) a.reports) z) (sym b.gives) (items_without t r a.all b.all a.reports b.reports kept a.trails b.trails))

-- ---- openings

cases_away : (t r u : ℕ) (rs : List Report) → u ≢ t → cases_of (reports_but t r rs) u ≡ cases_of rs u
cases_away t r u [] ne = refl
cases_away t r u (q ∷ rs) ne = grind (arith, nat_tests, cases_away t r u rs ne, ne)

cases_here : (t r : ℕ) (rs : List Report) → cases_of (reports_but t r rs) t ≡ others r (cases_of rs t)
cases_here t r [] = refl
cases_here t r (q ∷ rs) = grind (arith, nat_tests, cases_here t r rs)

pick : (b : Bool) (Q : List Report → Type 0) (q : Report) (ds : List Report) → Q (q ∷ ds) → Q ds → Q (cond b (q ∷ ds) ds)
pick true Q q ds x y = x
pick false Q q ds x y = y

moments_less : (t r : ℕ) (rs : List Report) → latest (report_moments (reports_but t r rs)) ≤ latest (report_moments rs)
moments_less t r [] = omega arith
moments_less t r (q ∷ rs) =
    let ih : latest (report_moments (reports_but t r rs)) ≤ latest (report_moments rs) = moments_less t r rs in
    let own : List ℕ = map (λ (e : Entry). e.at) q.trail in
    let rest : latest (report_moments rs) ≤ latest (own ++ report_moments rs) = latest_rest own (report_moments rs) in
    let first : latest own ≤ latest (own ++ report_moments rs) = latest_first own (report_moments rs) in
    let both : latest (own ++ report_moments (reports_but t r rs)) ≤ max (latest own) (latest (report_moments (reports_but t r rs))) = latest_both own (report_moments (reports_but t r rs)) in
    pick (not (is_report t r q)) (λ ds. latest (report_moments ds) ≤ latest (report_moments (q ∷ rs))) q (reports_but t r rs) (omega (arith, ih, rest, first, both)) (omega (arith, ih, rest))

time_less : (t r : ℕ) (h g : Held) → HeldWithout t r h g → time_of g ≤ time_of h
time_less t r h g w =
    let ns : List ℕ = map (λ (x : NumberingItem). x.numbering.at) h.numberings in
    let less : latest (report_moments (reports_but t r h.reports)) ≤ latest (report_moments h.reports) = moments_less t r h.reports in
    let both : latest (ns ++ report_moments (reports_but t r h.reports)) ≤ max (latest ns) (latest (report_moments (reports_but t r h.reports))) = latest_both ns (report_moments (reports_but t r h.reports)) in
    let first : latest ns ≤ latest (ns ++ report_moments h.reports) = latest_first ns (report_moments h.reports) in
    let rest : latest (report_moments h.reports) ≤ latest (ns ++ report_moments h.reports) = latest_rest ns (report_moments h.reports) in
    subst (λ xs. latest (map (λ (x : NumberingItem). x.numbering.at) xs ++ report_moments g.reports) ≤ time_of h) (sym w.numberings)
    (subst (λ rs. latest (ns ++ report_moments rs) ≤ time_of h) (sym w.reports) (omega (arith, less, both, first, rest)))

pub opened_without : (t r : ℕ) (setup : Lists) (h g : Held) (o p : AllOpened) → HeldWithout t r h g → IsOpeningOver setup h o → IsOpeningOver setup g p → r ≤ (o.tables t).plain.numbering.last → IsOpenedWithout t r o p
opened_without t r setup h g o p w x y drawn = record {
  at = subst (λ m. p.at ≤ m) (sym x.at) (subst (λ m. m ≤ time_of h) (sym y.at) (time_less t r h g w));
  tenants = y.tenants ∙ (ap (λ (l : Lists). tenant_ids (joined setup l)) w.lists ∙ sym x.tenants);
  others = λ u ne. y.tables u ∙ (away u ne ∙ sym (x.tables u));
  own = y.tables t ∙ (here ∙ ap (without r) (sym (x.tables t)));
  drawn = drawn;
}
  where
    plain : (u : ℕ) → (tables_of (with_setup setup g) u).plain ≡ (tables_of (with_setup setup (record { lists = h.lists; numberings = h.numberings; reports = reports_but t r h.reports; sealed = h.sealed })) u).plain
    plain u = λ i. (tables_of (with_setup setup (record { lists = w.lists i; numberings = w.numberings i; reports = w.reports i; sealed = h.sealed })) u).plain

    away : (u : ℕ) → u ≢ t → tables_of (with_setup setup g) u ≡ tables_of (with_setup setup h) u
    away u ne = λ i. record {
      plain = (plain u ∙ (λ j. record (tables_of (with_setup setup h) u).plain { cases = cases_away t r u h.reports ne j })) i;
      sealed = fun_ext (λ n. w.sealed u n (λ k. ne k.0)) i;
    }

    sealed_here : (n : ℕ) → g.sealed t n ≡ cond (eqb n r) None (h.sealed t n)
    sealed_here n = by (decide n r)
      where
        by : (n ≡ r) ⊎ (n ≢ r) → g.sealed t n ≡ cond (eqb n r) None (h.sealed t n)
        by (inl e) = ap (g.sealed t) e ∙ (w.gone ∙ ap (λ b. cond b None (h.sealed t n)) (sym (same_number n r e)))
        by (inr ne) = w.sealed t n (λ k. ne k.1) ∙ ap (λ b. cond b None (h.sealed t n)) (sym (other_number n r ne))

    here : tables_of (with_setup setup g) t ≡ without r (tables_of (with_setup setup h) t)
    here = λ i. record {
      plain = (plain t ∙ (λ j. record (tables_of (with_setup setup h) t).plain { cases = cases_here t r h.reports j })) i;
      sealed = fun_ext sealed_here i;
    }
