-- Kept rows that differ in one report's identity answers alone open hosts that do.
use Rattle.std.proofs.Common.{◌≡◌, ◌≢◌, ℕ, Bool, true, false, cond, eqb, not, List, [], ◌∷◌, Option, Some, None, refl, sym, ap, ◌∙◌, subst, arith}
use Rattle.std.specs.Prelude.{Ok, option_map, filter, find, ◌&&◌}
use Rattle.std.specs.List.{filter_map}
use Rattle.std.proofs.Math.Path.{fun_ext}
use Rattle.std.proofs.lemmas.Bool.Decides.{nat_tests}
use Rattle.wb_base.specs.declared.form.Format.{Format}
use Rattle.wb_base.specs.declared.rows.Key.{Key}
use Rattle.wb_base.specs.declared.rows.Row.{Row}
use Rattle.wb_custody.specs.declared.sealed.SealedItem.{SealedItem}
use Rattle.wb_custody.specs.SealedAnswers.{is_of, answers_of}
use Rattle.wb_desk.specs.Openings.{IsOpeningOver}
use Rattle.wb_row_codec.specs.declared.item.Item.{Item}
use Rattle.wb_row_codec.specs.declared.item.Item.TheVariants as items
use Rattle.wb_row_codec.specs.Items.{item_of, item_row, is_key}
use Rattle.wb_model.specs.declared.registry.Lists.{Lists}
use Rattle.wb_model.specs.Alike.{TablesAlike}
use Rattle.wb_model.specs.OtherOpenings.{OpeningsAlike}
use Rattle.wb_model.specs.Pasts.{AllOpened}
use Rattle.wb_model.specs.Rows.{is_sealed_row, rows_but}
use Rattle.wb_model.specs.SetUps.{tenant_ids}
use Rattle.wb_rows.specs.Reports.{Report}
use Rattle.wb_rows.specs.TrailRule.{reports_of}
use Rattle.wb_rows.specs.declared.items.ItemsByKind.{ItemsByKind}
use Rattle.wb_rows.specs.Held.{Held}
use Rattle.wb_rows.specs.Judged.{held, judged, with_format}
use Rattle.wb_rows.specs.KeptItems.{tenant_in, numbering_in, user_in, form_in, context_in, entry_in, sealed_in, kept_of}
use Rattle.wb_rows.specs.ReadItems.{items_in}
use Rattle.wb_rows.specs.Openings.{tables_of, time_of, with_setup}
use Rattle.wb_setup.specs.Joined.{joined}
use Rattle.wb_promise.proofs.JudgedRows.{ok_in, IsJudged, is_judged, item_key, items_left, kind_left, one_format, format_left}

-- the item has identity answers of report r of tenant t
abbrev pub is_sealed_item : ℕ → ℕ → Item → Bool
is_sealed_item t r (items.Sealed s) = is_of t r s
is_sealed_item t r _ = false

sealed_by_key : (format : Format) (t r : ℕ) (k : Key) (item : Item) → is_key (item_row format item).key k ≡ true → (eqb k.kind 7 && eqb k.tenant t && eqb k.a r) ≡ is_sealed_item t r item
sealed_by_key format t r k (items.Settings x) e = grind (arith, nat_tests, e)
sealed_by_key format t r k (items.Numbering x) e = grind (arith, nat_tests, e)
sealed_by_key format t r k (items.User x) e = grind (arith, nat_tests, e)
sealed_by_key format t r k (items.Form x) e = grind (arith, nat_tests, e)
sealed_by_key format t r k (items.Context x) e = grind (arith, nat_tests, e)
sealed_by_key format t r k (items.Entry x) e = grind (arith, nat_tests, e)
sealed_by_key format t r k (items.Sealed x) e = grind (arith, nat_tests, e)

sealed_row_item : (format : Format) (t r : ℕ) (x : Row) (item : Item) → item_of format x ≡ Some item → is_sealed_row t r x ≡ is_sealed_item t r item
sealed_row_item format t r x item e = sealed_by_key format t r x.key item (item_key format x item e)

-- all other items
abbrev unsealed : ℕ → ℕ → List Item → List Item
unsealed t r all = filter (λ i. not (is_sealed_item t r i)) all

-- the items are alike
record ItemsAlike (t r : ℕ) (k m : ItemsByKind) : Type 0 where
  lists : k.lists ≡ m.lists
  numberings : k.numberings ≡ m.numberings
  entries : k.entries ≡ m.entries
  sealed : (u n : ℕ) → ((u ≡ t) × (n ≡ r) → ⊥) → answers_of k.sealed u n ≡ answers_of m.sealed u n

no_tenant : (t r : ℕ) (item : Item) → is_sealed_item t r item ≡ true → tenant_in item ≡ None
no_tenant t r (items.Settings x) e = absurd (grind (arith, e))
no_tenant t r _ e = refl

no_numbering : (t r : ℕ) (item : Item) → is_sealed_item t r item ≡ true → numbering_in item ≡ None
no_numbering t r (items.Numbering x) e = absurd (grind (arith, e))
no_numbering t r _ e = refl

no_user : (t r : ℕ) (item : Item) → is_sealed_item t r item ≡ true → user_in item ≡ None
no_user t r (items.User x) e = absurd (grind (arith, e))
no_user t r _ e = refl

no_form : (t r : ℕ) (item : Item) → is_sealed_item t r item ≡ true → form_in item ≡ None
no_form t r (items.Form x) e = absurd (grind (arith, e))
no_form t r _ e = refl

no_context : (t r : ℕ) (item : Item) → is_sealed_item t r item ≡ true → context_in item ≡ None
no_context t r (items.Context x) e = absurd (grind (arith, e))
no_context t r _ e = refl

no_entry : (t r : ℕ) (item : Item) → is_sealed_item t r item ≡ true → entry_in item ≡ None
no_entry t r (items.Entry x) e = absurd (grind (arith, e))
no_entry t r _ e = refl

-- what is found under another report is found without the items of this one
pub other_of : (t r u n : ℕ) (s : SealedItem) → ((u ≡ t) × (n ≡ r) → ⊥) → is_of t r s ≡ true → is_of u n s ≡ false
other_of t r u n s ne is = by (is_of u n s) refl
  where
    by : (b : Bool) → is_of u n s ≡ b → b ≡ false
    by true k = absurd (ne (grind (arith, nat_tests, is, k), grind (arith, nat_tests, is, k)))
    by false k = refl

sealed_left : (t r u n : ℕ) (all : List Item) → ((u ≡ t) × (n ≡ r) → ⊥) → find (is_of u n) (filter_map sealed_in (filter (λ i. not (is_sealed_item t r i)) all)) ≡ find (is_of u n) (filter_map sealed_in all)
sealed_left t r u n [] ne = refl
sealed_left t r u n (items.Sealed s ∷ all) ne = by (is_of t r s) refl (sealed_left t r u n all ne)
  where
    by : (b : Bool) → is_of t r s ≡ b → find (is_of u n) (filter_map sealed_in (filter (λ i. not (is_sealed_item t r i)) all)) ≡ find (is_of u n) (filter_map sealed_in all) →
        find (is_of u n) (filter_map sealed_in (cond (not (is_of t r s)) (items.Sealed s ∷ filter (λ i. not (is_sealed_item t r i)) all) (filter (λ i. not (is_sealed_item t r i)) all))) ≡ find (is_of u n) (s ∷ filter_map sealed_in all)
    by true is ih =
        ap (λ c. find (is_of u n) (filter_map sealed_in (cond (not c) (items.Sealed s ∷ filter (λ i. not (is_sealed_item t r i)) all) (filter (λ i. not (is_sealed_item t r i)) all)))) is
        ∙ (ih ∙ ap (λ c. cond c (Some s) (find (is_of u n) (filter_map sealed_in all))) (sym (other_of t r u n s ne is)))
    by false is ih =
        ap (λ c. find (is_of u n) (filter_map sealed_in (cond (not c) (items.Sealed s ∷ filter (λ i. not (is_sealed_item t r i)) all) (filter (λ i. not (is_sealed_item t r i)) all)))) is
        ∙ ap (λ o. cond (is_of u n s) (Some s) o) ih
sealed_left t r u n (items.Settings x ∷ all) ne = sealed_left t r u n all ne
sealed_left t r u n (items.Numbering x ∷ all) ne = sealed_left t r u n all ne
sealed_left t r u n (items.User x ∷ all) ne = sealed_left t r u n all ne
sealed_left t r u n (items.Form x ∷ all) ne = sealed_left t r u n all ne
sealed_left t r u n (items.Context x ∷ all) ne = sealed_left t r u n all ne
sealed_left t r u n (items.Entry x ∷ all) ne = sealed_left t r u n all ne

same_of : {X : Type 0} (kind : Item → Option X) (t r : ℕ) (all more : List Item) → ((item : Item) → is_sealed_item t r item ≡ true → kind item ≡ None) → filter (λ i. not (is_sealed_item t r i)) all ≡ filter (λ i. not (is_sealed_item t r i)) more → filter_map kind all ≡ filter_map kind more
same_of kind t r all more none e = sym (kind_left kind (is_sealed_item t r) none all) ∙ (ap (filter_map kind) e ∙ kind_left kind (is_sealed_item t r) none more)

items_alike : (t r : ℕ) (all more : List Item) → filter (λ i. not (is_sealed_item t r i)) all ≡ filter (λ i. not (is_sealed_item t r i)) more → ItemsAlike t r (kept_of all) (kept_of more)
items_alike t r all more e = record {
  lists = λ i. record {
    tenants = same_of tenant_in t r all more (no_tenant t r) e i;
    users = same_of user_in t r all more (no_user t r) e i;
    forms = same_of form_in t r all more (no_form t r) e i;
    contexts = same_of context_in t r all more (no_context t r) e i;
  };
  numberings = same_of numbering_in t r all more (no_numbering t r) e;
  entries = same_of entry_in t r all more (no_entry t r) e;
  sealed = λ u n ne. ap (option_map (λ (s : SealedItem). s.answers)) (sym (sealed_left t r u n all ne) ∙ (ap (λ (xs : List Item). find (is_of u n) (filter_map sealed_in xs)) e ∙ sealed_left t r u n more ne));
}

-- ---- what is held

pub record HeldAlike (t r : ℕ) (h g : Held) : Type 0 where
  pub lists : h.lists ≡ g.lists
  pub numberings : h.numberings ≡ g.numberings
  pub reports : h.reports ≡ g.reports
  pub sealed : (u n : ℕ) → ((u ≡ t) × (n ≡ r) → ⊥) → h.sealed u n ≡ g.sealed u n

held_items : (t r : ℕ) (k m : ItemsByKind) (rs ss : List Report) → ItemsAlike t r k m → reports_of k.lists k.entries ≡ Ok rs → reports_of m.lists m.entries ≡ Ok ss → HeldAlike t r (held k rs) (held m ss)
held_items t r k m rs ss a x y = record {
  lists = a.lists;
  numberings = a.numberings;
  reports = ok_in rs ss (sym x ∙ ((λ i. reports_of (a.lists i) (a.entries i)) ∙ y));
  sealed = a.sealed;
}

pub held_alike : (t r : ℕ) (rows others : List Row) (h g : Held) → rows_but t r rows ≡ rows_but t r others → judged rows ≡ Ok h → judged others ≡ Ok g → HeldAlike t r h g
held_alike t r rows others h g e x y =
    let a : IsJudged rows h = is_judged rows h x in
    let b : IsJudged others g = is_judged others g y in
    let left : items_in a.format (rows_but t r a.own) ≡ Ok (unsealed t r a.all) = items_left a.format (is_sealed_row t r) (is_sealed_item t r) (sealed_row_item a.format t r) a.own a.all a.reads in
    let right : items_in b.format (rows_but t r b.own) ≡ Ok (unsealed t r b.all) = items_left b.format (is_sealed_row t r) (is_sealed_item t r) (sealed_row_item b.format t r) b.own b.all b.reads in
    let own : with_format a.format (rows_but t r a.own) ≡ with_format b.format (rows_but t r b.own) =
    sym (format_left (is_sealed_row t r) refl a.format a.own) ∙ (ap (rows_but t r) (sym a.whole) ∙ (e ∙ (ap (rows_but t r) b.whole ∙ format_left (is_sealed_row t r) refl b.format b.own))) in
    let one = one_format a.format b.format (rows_but t r a.own) (rows_but t r b.own) (unsealed t r a.all) (unsealed t r b.all) left right own in
    let same : unsealed t r a.all ≡ unsealed t r b.all = ok_in _ _ (sym left ∙ ((λ i. items_in (one.0 i) (one.1 i)) ∙ right)) in
    subst (λ z. HeldAlike t r z g) (sym a.gives) (subst (λ z. HeldAlike t r (held (kept_of a.all) a.reports) z) (sym b.gives) (held_items t r (kept_of a.all) (kept_of b.all) a.reports b.reports (items_alike t r a.all b.all same) a.trails b.trails))

-- ---- openings

-- what is held, on the way from the first to the second, with the identity answers of the first
between : (t r : ℕ) (h g : Held) → HeldAlike t r h g → h ≡ record g { sealed = h.sealed }
between t r h g a = λ i. record { lists = a.lists i; numberings = a.numberings i; reports = a.reports i; sealed = h.sealed }

pub opened_alike : (t r : ℕ) (setup : Lists) (h g : Held) (o p : AllOpened) → HeldAlike t r h g → IsOpeningOver setup h o → IsOpeningOver setup g p → OpeningsAlike t r o p
opened_alike t r setup h g o p a x y = record {
  at = x.at ∙ (ap time_of (between t r h g a) ∙ sym y.at);
  tenants = x.tenants ∙ (ap (λ (l : Lists). tenant_ids (joined setup l)) a.lists ∙ sym y.tenants);
  others = λ u ne. x.tables u ∙ (same u ne ∙ sym (y.tables u));
  own = subst (λ z. TablesAlike r z (p.tables t)) (sym (x.tables t)) (subst (TablesAlike r (tables_of (with_setup setup h) t)) (sym (y.tables t)) here);
}
  where
    plain : (u : ℕ) → (tables_of (with_setup setup h) u).plain ≡ (tables_of (with_setup setup g) u).plain
    plain u = ap (λ (z : Held). (tables_of (with_setup setup z) u).plain) (between t r h g a)

    same : (u : ℕ) → u ≢ t → tables_of (with_setup setup h) u ≡ tables_of (with_setup setup g) u
    same u ne = λ i. record { plain = plain u i; sealed = fun_ext (λ n. a.sealed u n (λ k. ne k.0)) i }

    here : TablesAlike r (tables_of (with_setup setup h) t) (tables_of (with_setup setup g) t)
    here = record { plain = plain t; others = λ n ne. a.sealed t n (λ k. ne k.1) }
