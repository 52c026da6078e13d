-- Rows that are read: their format, their items and their reports.
use Rattle.std.proofs.Common.{◌≡◌, Bool, true, false, cond, not, List, [], ◌∷◌, Option, Some, None, refl, sym, ap, ◌∙◌, subst, arith}
use Rattle.std.specs.Prelude.{Result, Ok, Err, filter, option_and_then, ◌&&◌}
use Rattle.std.specs.List.{filter_map}
use Rattle.std.proofs.lemmas.Bool.{and_from}
use Rattle.wb_base.specs.AnswerList.{is_text}
use Rattle.wb_base.specs.FormShape.{keep}
use Rattle.wb_base.specs.declared.form.Format.{Format}
use Rattle.wb_base.specs.declared.form.Format.TheVariants.{Plain, Weighed}
use Rattle.wb_base.specs.declared.rows.Key.{Key}
use Rattle.wb_base.specs.declared.rows.Row.{Row}
use Rattle.wb_row_codec.specs.declared.item.Item.{Item}
use Rattle.wb_row_codec.specs.declared.item.Item.TheVariants as items
use Rattle.wb_row_codec.specs.Items.{item_of, item_row, is_row, is_key}
use Rattle.wb_model.specs.Rows.{format_row}
use Rattle.wb_rows.specs.declared.faults.RowFault.{RowFault}
use Rattle.wb_rows.specs.declared.faults.RowFault.TheVariants.{BadRow}
use Rattle.wb_rows.specs.Reports.{Report}
use Rattle.wb_rows.specs.TrailRule.{reports_of}
use Rattle.wb_rows.specs.declared.items.ItemsByKind.{ItemsByKind}
use Rattle.wb_rows.specs.Held.{Held}
use Rattle.wb_rows.specs.Judged.{held, unless, report_fault, judged_reports, judged_items, judged_in, judged, is_format_key, with_format}
use Rattle.wb_rows.specs.KeptItems.{kept_of}
use Rattle.wb_rows.specs.ListRules.{list_fault}
use Rattle.wb_rows.specs.ReadItems.{with_first, items_in}
use Rattle.wb_rows.proofs.ItemOrder.{is_same_row}

-- ---- what is judged

or_else : {X E : Type 0} → X → Result X E → X
or_else z (Ok x) = x
or_else z (Err e) = z

pub ok_in : {X E : Type 0} (a b : X) → ◌≡◌ {A = Result X E} (Ok a) (Ok b) → a ≡ b
unfolding or_else
ok_in {X} {E} a b e = ap {A = Result X E} (λ r. or_else a r) e

pub ok_same : {X E : Type 0} (a b : X) (r : Result X E) → r ≡ Ok a → r ≡ Ok b → a ≡ b
ok_same a b r e f = ok_in a b (sym e ∙ f)

pub not_ok : {X E : Type 0} (e : E) (a : X) → ◌≡◌ {A = Result X E} (Err e) (Ok a) → ⊥
not_ok e a k = cc

pub record IsJudged (rows : List Row) (h : Held) : Type 0 where
  pub format : Format
  pub own : List Row
  pub whole : rows ≡ with_format format own
  pub all : List Item
  pub reads : items_in format own ≡ Ok all
  pub reports : List Report
  pub trails : reports_of (kept_of all).lists (kept_of all).entries ≡ Ok reports
  pub gives : h ≡ held (kept_of all) reports

unless_ok : (o : Option RowFault) (rest : Result Held RowFault) (h : Held) → unless o rest ≡ Ok h → rest ≡ Ok h
unless_ok None rest h e = e
unless_ok (Some fault) rest h e = absurd (not_ok fault h e)

reports_ok : (k : ItemsByKind) (o : Result (List Report) Key) (h : Held) → judged_reports k o ≡ Ok h → (rs : List Report) × ((o ≡ Ok rs) × (h ≡ held k rs))
reports_ok k (Ok rs) h e = (rs, (refl, sym (ok_in (held k rs) h (unless_ok (report_fault k rs) (Ok (held k rs)) h e))))
reports_ok k (Err key) h e = absurd (not_ok _ h e)

items_ok : (format : Format) (rows own : List Row) → rows ≡ with_format format own → (o : Result (List Item) RowFault) (h : Held) → items_in format own ≡ o → judged_items own o ≡ Ok h → IsJudged rows h
items_ok format rows own whole (Ok all) h e k =
    let rs = reports_ok (kept_of all) (reports_of (kept_of all).lists (kept_of all).entries) h (unless_ok (list_fault own (kept_of all).lists (kept_of all).numberings) _ h k) in
    record { format = format; own = own; whole = whole; all = all; reads = e; reports = rs.0; trails = rs.1.0; gives = rs.1.1 }
items_ok format rows own whole (Err fault) h e k = absurd (not_ok fault h k)

pub is_judged : (rows : List Row) (h : Held) → judged rows ≡ Ok h → IsJudged rows h
is_judged [] h e = items_ok Plain [] [] refl (items_in Plain []) h refl e
is_judged (row ∷ rows) h e = by (is_format_key row.key) (is_text row.text format_row.text) refl refl e
  where
    by : (a b : Bool) → is_format_key row.key ≡ a → is_text row.text format_row.text ≡ b → cond a (cond b (judged_in Weighed rows) (Err (BadRow row.key))) (judged_in Plain (row ∷ rows)) ≡ Ok h → IsJudged (row ∷ rows) h
    by true true key text k =
        items_ok Weighed (row ∷ rows) rows (ap (λ x. x ∷ rows) (is_same_row row format_row (and_from (is_key row.key format_row.key) (is_text row.text format_row.text) key text))) (items_in Weighed rows) h refl k
    by true false key text k = absurd (not_ok (BadRow row.key) h k)
    by false b key text k = items_ok Plain (row ∷ rows) (row ∷ rows) refl (items_in Plain (row ∷ rows)) h refl k

-- ---- rows and items

-- an item has the key of its row
and_first : (a b : Bool) → (a && b) ≡ true → a ≡ true
and_first true b e = refl
and_first false b e = absurd (grind (arith, e))

kept_back : (p : Item → Bool) (o : Option Item) (x : Item) → option_and_then (keep p) o ≡ Some x → p x ≡ true
kept_back p None x e = absurd (grind (arith, e))
kept_back p (Some y) x e = by (p y) refl e
  where
    by : (b : Bool) → p y ≡ b → cond b (Some y) None ≡ Some x → p x ≡ true
    by true is k = let same : y ≡ x = cc in subst (λ z. p z ≡ true) same is
    by false is k = absurd (grind (arith, k))

pub item_key : (format : Format) (x : Row) (item : Item) → item_of format x ≡ Some item → is_key (item_row format item).key x.key ≡ true
unfolding item_of
item_key format x item e = and_first (is_key (item_row format item).key x.key) (is_text (item_row format item).text x.text) (kept_back (λ i. is_row (item_row format i) x) _ item e)

first_of_all : (o : Option Item) (k : Key) (rest : Result (List Item) RowFault) (all : List Item) → with_first o k rest ≡ Ok all → (item : Item) × (more : List Item) × (o ≡ Some item) × (rest ≡ Ok more) × (all ≡ item ∷ more)
first_of_all None k rest all e = absurd (not_ok _ all e)
first_of_all (Some item) k (Err fault) all e = absurd (not_ok fault all e)
first_of_all (Some item) k (Ok more) all e = (item, more, refl, refl, sym (ok_in (item ∷ more) all e))

-- ---- the format

-- the row that says the format stands for no item
no_item : (format : Format) (item : Item) → is_key (item_row format item).key format_row.key ≡ true → ⊥
no_item format (items.Settings x) e = grind (arith, e)
no_item format (items.Numbering x) e = grind (arith, e)
no_item format (items.User x) e = grind (arith, e)
no_item format (items.Form x) e = grind (arith, e)
no_item format (items.Context x) e = grind (arith, e)
no_item format (items.Entry x) e = grind (arith, e)
no_item format (items.Sealed x) e = grind (arith, e)

not_plain : (rows : List Row) (all : List Item) → items_in Plain (format_row ∷ rows) ≡ Ok all → ⊥
not_plain rows all e = let f = first_of_all (item_of Plain format_row) format_row.key (items_in Plain rows) all e in no_item Plain f.0 (item_key Plain format_row f.0 f.2)

rest_of : List Row → List Row
rest_of [] = []
rest_of (x ∷ xs) = xs

-- rows that are read have one format
pub one_format : (f g : Format) (xs ys : List Row) (all more : List Item) → items_in f xs ≡ Ok all → items_in g ys ≡ Ok more → with_format f xs ≡ with_format g ys → (f ≡ g) × (xs ≡ ys)
unfolding rest_of
one_format Plain Plain xs ys all more i j e = (refl, e)
one_format Weighed Weighed xs ys all more i j e = (refl, ap rest_of e)
one_format Plain Weighed xs ys all more i j e = absurd (not_plain ys all (subst (λ l. items_in Plain l ≡ Ok all) e i))
one_format Weighed Plain xs ys all more i j e = absurd (not_plain xs more (subst (λ l. items_in Plain l ≡ Ok more) (sym e) j))

-- a test that leaves the row of the format leaves the format
pub format_left : (drop : Row → Bool) → drop format_row ≡ false → (f : Format) (own : List Row) → filter (λ x. not (drop x)) (with_format f own) ≡ with_format f (filter (λ x. not (drop x)) own)
format_left drop stays Plain own = refl
format_left drop stays Weighed own = ap (λ b. cond (not b) (format_row ∷ filter (λ x. not (drop x)) own) (filter (λ x. not (drop x)) own)) stays

-- ---- items that are left

-- what rows are left out by a test is left out of their items, where the test is told by the item
module _ (format : Format) (drop_row : Row → Bool) (drop_item : Item → Bool) (told : (x : Row) (item : Item) → item_of format x ≡ Some item → drop_row x ≡ drop_item item) where
  pub items_left : (rows : List Row) (all : List Item) → items_in format rows ≡ Ok all → items_in format (filter (λ x. not (drop_row x)) rows) ≡ Ok (filter (λ i. not (drop_item i)) all)
  items_left [] all e = ap (λ xs. Ok (filter (λ i. not (drop_item i)) xs)) (ok_in [] all e)
  items_left (x ∷ xs) all e =
      let f = first_of_all (item_of format x) x.key (items_in format xs) all e in
      let ih : items_in format (filter (λ y. not (drop_row y)) xs) ≡ Ok (filter (λ i. not (drop_item i)) f.1) = items_left xs f.1 f.3 in
      by (drop_item f.0) f.0 f.1 (told x f.0 f.2) refl f.2 ih ∙ ap (λ (ys : List Item). Ok (filter (λ i. not (drop_item i)) ys)) (sym f.4)
    where
      by : (b : Bool) (item : Item) (more : List Item) → drop_row x ≡ drop_item item → drop_item item ≡ b → item_of format x ≡ Some item → items_in format (filter (λ y. not (drop_row y)) xs) ≡ Ok (filter (λ i. not (drop_item i)) more) →
          items_in format (cond (not (drop_row x)) (x ∷ filter (λ y. not (drop_row y)) xs) (filter (λ y. not (drop_row y)) xs)) ≡ Ok (cond (not (drop_item item)) (item ∷ filter (λ i. not (drop_item i)) more) (filter (λ i. not (drop_item i)) more))
      by true item more same is e ih =
          ap (λ c. items_in format (cond (not c) (x ∷ filter (λ y. not (drop_row y)) xs) (filter (λ y. not (drop_row y)) xs))) (same ∙ is)
          ∙ (ih ∙ ap (λ c. Ok (cond (not c) (item ∷ filter (λ i. not (drop_item i)) more) (filter (λ i. not (drop_item i)) more))) (sym is))
      by false item more same is e ih =
          ap (λ c. items_in format (cond (not c) (x ∷ filter (λ y. not (drop_row y)) xs) (filter (λ y. not (drop_row y)) xs))) (same ∙ is)
          ∙ (ap (λ o. with_first o x.key (items_in format (filter (λ y. not (drop_row y)) xs))) e
          ∙ (ap (with_first (Some item) x.key) ih
          ∙ ap (λ c. Ok (cond (not c) (item ∷ filter (λ i. not (drop_item i)) more) (filter (λ i. not (drop_item i)) more))) (sym is)))

-- a kind without the items that are left out
pub kind_left : {X : Type 0} (kind : Item → Option X) (drop : Item → Bool) → ((item : Item) → drop item ≡ true → kind item ≡ None) → (all : List Item) → filter_map kind (filter (λ i. not (drop i)) all) ≡ filter_map kind all
kind_left kind drop none [] = refl
kind_left {X} kind drop none (i ∷ all) = by (drop i) refl (kind_left kind drop none all)
  where
    by : (b : Bool) → drop i ≡ b → filter_map kind (filter (λ j. not (drop j)) all) ≡ filter_map kind all → filter_map kind (cond (not (drop i)) (i ∷ filter (λ j. not (drop j)) all) (filter (λ j. not (drop j)) all)) ≡ filter_map kind (i ∷ all)
    by true is ih = let n : kind i ≡ None = none i is in let d : drop i ≡ true = is in grind (arith, n, d, ih)
    by false is ih = let d : drop i ≡ false = is in grind (arith, d, ih)
