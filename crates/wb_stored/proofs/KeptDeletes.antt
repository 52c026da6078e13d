-- A deletion by rowids, as a filter.
use Rattle.std.proofs.Common.{◌≡◌, inl, inr, ℕ, ℤ, Bool, true, false, cond, not, ◌||◌, List, [], ◌∷◌, map, filter, refl, sym, ap, subst, ◌∙◌}
use Rattle.std.specs.List.{list_any}
use Rattle.std.specs.List.Sorted.{IsPermutation}
use Rattle.std.proofs.lemmas.Bool.{cases_Bool}
use Rattle.std.proofs.lemmas.List.Sorted.{IsPermutation-map, list_any-IsPermutation}
use Rattle.sqlite_schema.specs.declared.schema.Column.{Column}
use Rattle.sqlite_rules.specs.Calls.{ids_of}
use Rattle.sqlite_rules.specs.Lists.{Has}
use Rattle.sqlite_rules.proofs.ListLemmas.{has_filtered, has_kept}
use Rattle.sqlite_rules.proofs.PlaceLemmas.{row_at_is}
use Rattle.sqlite.specs.Order.{Row}
use Rattle.sqlite.specs.Term.{Term, col}
use Rattle.sqlite.specs.Schema.{Schema}
use Rattle.sqlite.specs.Tree.{Trees, rowid, has_rowid, without_rowid, IsTable}
use Rattle.sqlite.specs.Edit.{without_all, id_in}
use Rattle.wb_stored.proofs.Texts.{doomed_by}
use Rattle.wb_stored.proofs.Parts.{passes, chosen}
use Rattle.wb_stored.proofs.Deleting.{Deleted}

abbrev id_row : Row → Row
id_row r = rowid r ∷ []

-- the rowid is one of these
abbrev is_named_by : List ℤ → Row → Bool
is_named_by ids r = list_any (λ id. has_rowid id r) ids

filter_twice : (p q : Row → Bool) (rows : List Row) → filter q (filter p rows) ≡ filter (λ r. cond (p r) (q r) false) rows
filter_twice p q [] = refl
filter_twice p q (r ∷ more) = elim (cases_Bool (p r)) [
  | inl e ↦ rw e (elim (cases_Bool (q r)) [ inl f ↦ rw f (ap (λ rest. r ∷ rest) (filter_twice p q more)) | inr f ↦ rw f (filter_twice p q more) ])
  | inr e ↦ rw e (filter_twice p q more)
]

pub same_filter : (p q : Row → Bool) (rows : List Row) → ((r : Row) → Has rows r → p r ≡ q r) → filter p rows ≡ filter q rows
same_filter p q [] same = refl
same_filter p q (r ∷ more) same =
    let rest = same_filter p q more (λ x h. same x (inr h)) in
    elim (cases_Bool (q r)) [
      | inl e ↦ rw (same r (inl refl), e) (ap (λ xs. r ∷ xs) rest)
      | inr e ↦ rw (same r (inl refl), e) rest
    ]

nor : (a b : Bool) → cond (not a) (not b) false ≡ not (a || b)
nor true b = refl
nor false b = refl

filter_none : (rows : List Row) → rows ≡ filter (λ r. true) rows
filter_none [] = refl
filter_none (r ∷ more) = ap (λ rest. r ∷ rest) (filter_none more)

without_is : (ids : List ℤ) (rows : List Row) → without_all rows ids ≡ filter (λ r. not (is_named_by ids r)) rows
without_is [] rows = filter_none rows
without_is (id ∷ ids) rows = without_is ids (without_rowid id rows) ∙ (filter_twice _ _ rows ∙ same_filter _ _ rows (λ r h. nor (has_rowid id r) (is_named_by ids r)))

abbrev own_id : Row → ℤ
own_id r = id_in (rowid r)

or_true : (b : Bool) → (b || true) ≡ true
or_true true = refl
or_true false = refl

named_here : (rows : List Row) (r : Row) → Has rows r → has_rowid (own_id r) r ≡ true → is_named_by (ids_of (map id_row rows)) r ≡ true
named_here [] r h own = absurd h
named_here (x ∷ more) r h own = elim h [
  | inl same ↦ rw (← same, own) refl
  | inr later ↦ rw (named_here more r later own) (or_true (has_rowid (own_id x) r))
]

named_nowhere : (m : Row → Bool) (table rows : List Row) (r : Row) → IsTable table → ((x : Row) → Has table x → has_rowid (own_id x) x ≡ true) → Has table r → m r ≡ false
    → ((x : Row) → Has rows x → Has table x × (m x ≡ true)) → is_named_by (ids_of (map id_row rows)) r ≡ false
named_nowhere m table [] r up keyed h none all = refl
named_nowhere m table (x ∷ more) r up keyed h none all = elim (cases_Bool (has_rowid (own_id x) r)) [
  | inl hit ↦ absurd (
      let here = all x (inl refl) in
      let same : x ≡ r = sym (row_at_is table (own_id x) x up here.0 (keyed x here.0)) ∙ row_at_is table (own_id x) r up h hit in
      let hits : m r ≡ true = subst (λ y. m y ≡ true) same here.1 in
      let bad = sym hits ∙ none in cc
      )
  | inr miss ↦ rw miss (named_nowhere m table more r up keyed h none (λ y k. all y (inr k)))
]

-- the rows that pass are gone, and the others stay as they are
pub deleted_is : (schema : Schema) (name : List ℕ) (columns : List Column) (places : List ℕ) (tree : ℕ) (terms : List Term) (params : Row) (db next : Trees)
    → IsTable (db tree) → ((x : Row) → Has (db tree) x → has_rowid (own_id x) x ≡ true)
    → Deleted schema name columns places tree (doomed_by tree terms) params db next → next tree ≡ filter (λ r. not (passes terms params r)) (db tree)
deleted_is schema name columns places tree terms params db next up keyed d =
    let m = passes terms params in
    let table = db tree in
    let named = map id_row (filter m table) in
    let moved : IsPermutation named d.gone = chosen tree terms (col 1 0 ∷ []) [] db params d.gone d.answer in
    let ids = IsPermutation-map own_id named d.gone moved in
    d.applied.rows ∙ (without_is (ids_of d.gone) table ∙ same_filter _ _ table (λ r h. ap not (
    sym (list_any-IsPermutation (λ id. has_rowid id r) (ids_of named) (ids_of d.gone) ids) ∙ elim (cases_Bool (m r)) [
      | inl hits ↦ named_here (filter m table) r (has_kept m table r h hits) (keyed r h) ∙ sym hits
      | inr none ↦ named_nowhere m table (filter m table) r up keyed h none (has_filtered m table) ∙ sym none
    ]
    )))
