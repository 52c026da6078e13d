-- What an index tells, and how it stays one with a field more.
use Rattle.std.proofs.Common.{◌≡◌, ℕ, ◌+◌, Bool, true, false, cond, ◌&&◌, ◌||◌, nat_lt, List, [], ◌∷◌, ◌++◌, length, map, take, find, Option, Some, None, refl, sym, ap, ◌∙◌, arith, inl, inr, is_some, length-append, add-one, ◌<◌, get_or, drop, if◌then◌else◌}
use Rattle.std.specs.Option.{option_map_or}
use Rattle.std.specs.List.{list_any}
use Rattle.std.specs.Ordering.{nat_cmp, is_eq, match_ordering}
use Rattle.std.specs.declared.cmp.Ordering.TheVariants.{Less, Equal, Greater}
use Rattle.std.specs.Cmp.Lexicographic.{slice_cmp, texts_ties, bytes_decides}
use Rattle.std.proofs.lemmas.Bool.{cases_Bool, lt-ltb, ltb-true, ltb-false}
use Rattle.std.proofs.lemmas.List.{take_all, take-append-le, get_or-map, length-map}
use Rattle.std.proofs.lemmas.List.Folds.{list_any-append}
use Rattle.std.proofs.Math.Seq.{take-suc, drop-cons}
use Rattle.std.proofs.Math.Bool.{or-false, and-false, and-true}
use Rattle.wb_list.specs.Keyed.{has_key, insert_item}
use Rattle.wb_base.specs.declared.form.Field.{Field}
use Rattle.wb_base.specs.FormFields.{is_field}
use Rattle.wb_base.specs.FormFaults.{Rule, first_from}
use Rattle.wb_form.specs.declared.index.Placed.{Placed}
use Rattle.wb_form.specs.Index.{id_of, is_before, IsIndexOf}

abbrev has_id : List ℕ → Placed → Bool
has_id id = has_key (slice_cmp nat_cmp) id_of id

abbrev put_in : List Placed → Placed → List Placed
put_in places new = insert_item (slice_cmp nat_cmp) id_of places new

id-is : (id : List ℕ) (p : Placed) → has_id id p ≡ true → id_of p ≡ id
id-is id p e = (bytes_decides (id_of p) id).0 (texts_ties (id_of p) id ∙ e)

not_first : (b : Bool) (x : Placed) (o : Option Placed) → cond b (Some x) o ≡ None → (b ≡ false) × (o ≡ None)
not_first true x o e = absurd cc
not_first false x o e = (refl, e)

swap : {X : Type 0} (a b : Bool) (x y r : X) → (a ≡ true → b ≡ true → ⊥) → cond a x (cond b y r) ≡ cond b y (cond a x r)
swap true true x y r h = absurd (h refl refl)
swap true false x y r h = refl
swap false true x y r h = refl
swap false false x y r h = refl

-- a field of a free id is found where it was put, and the others as before
find-put_in : (places : List Placed) (new : Placed) (id : List ℕ) → find (has_id (id_of new)) places ≡ None → find (has_id id) (put_in places new) ≡ cond (has_id id new) (Some new) (find (has_id id) places)
find-put_in [] new id free = refl
find-put_in (p ∷ ps) new id free =
    let parts = not_first (has_id (id_of new) p) p (find (has_id (id_of new)) ps) free in
    let apart : has_id id p ≡ true → has_id id new ≡ true → ⊥ = λ here there.
    let same : has_id (id_of new) p ≡ has_id id p = ap (λ (k : List ℕ). has_id k p) (id-is id new there) in
    let no : false ≡ true = sym parts.0 ∙ same ∙ here in absurd cc in
    elim (slice_cmp nat_cmp (id_of p) (id_of new)) as (λ r. is_eq r ≡ false → find (has_id id) (match_ordering r (p ∷ put_in ps new) (new ∷ ps) (new ∷ p ∷ ps)) ≡ cond (has_id id new) (Some new) (find (has_id id) (p ∷ ps))) [
      | Less ↦ λ _. ap (cond (has_id id p) (Some p)) (find-put_in ps new id parts.1) ∙ swap (has_id id p) (has_id id new) (Some p) (Some new) (find (has_id id) ps) apart
      | Equal ↦ λ e. absurd cc
      | Greater ↦ λ _. refl
    ] parts.0

any-take-more : {X : Type 0} (t : X → Bool) (xs : List X) (x : X) (at : ℕ) → list_any t (take at (xs ++ x ∷ [])) ≡ (list_any t (take at xs) || (nat_lt (length xs) at && t x))
any-take-more t xs x at = elim (cases_Bool (nat_lt (length xs) at)) [
  | inl past ↦
      let low = ltb-true _ _ past in
      let whole : take at (xs ++ x ∷ []) ≡ xs ++ x ∷ [] = take_all at (xs ++ x ∷ []) (omega (arith, length-append xs (x ∷ []))) in
      rw (past, whole, take_all at xs (omega arith)) (list_any-append t xs (x ∷ []) ∙ ap (λ b. list_any t xs || b) (or-false (t x)))
  | inr within ↦ rw (within, take-append-le at xs (x ∷ []) (ltb-false _ _ within), or-false) refl
]

any-and_true : {X : Type 0} (t : X → Bool) (xs : List X) → list_any (λ x. t x && true) xs ≡ list_any t xs
any-and_true t [] = refl
any-and_true t (x ∷ xs) = rw (and-true (t x), any-and_true t xs) refl

-- an id that no field has is free
pub free-id : (fields : List Field) (places : List Placed) (id : List ℕ) → IsIndexOf fields places → list_any (is_field id) fields ≡ false → find (has_id id) places ≡ None
free-id fields places id is none = elim (find (has_id id) places) as (λ o. find (has_id id) places ≡ o → o ≡ None) [
  | None ↦ λ e. refl
  | Some p ↦ λ e.
      let at = length fields + (p.place + 1) in
      let told : list_any (λ f. is_field id f && true) (take at fields) ≡ option_map_or (is_before at (λ f. true)) (Some p) false = is id (λ f. true) at ∙ ap (λ o. option_map_or (is_before at (λ f. true)) o false) e in
      let below : nat_lt p.place at ≡ true = lt-ltb _ _ (omega arith) in
      let no : false ≡ true = sym none ∙ sym (any-and_true (is_field id) fields) ∙ ap (list_any (λ f. is_field id f && true)) (sym (take_all at fields (omega arith))) ∙ told ∙ ap (λ b. b && true) below in
      absurd cc
] refl

with_more : (fields : List Field) (places : List Placed) (new : Placed) → new.place ≡ length fields → find (has_id (id_of new)) places ≡ None → (id : List ℕ) (test : Field → Bool) (at : ℕ)
    → (option_map_or (is_before at test) (find (has_id id) places) false || (nat_lt (length fields) at && (has_id id new && test new.field.now))) ≡ option_map_or (is_before at test) (cond (has_id id new) (Some new) (find (has_id id) places)) false
with_more fields places new last free id test at = elim (cases_Bool (has_id id new)) [
  | inl here ↦
      let none : find (has_id id) places ≡ None = ap (λ (k : List ℕ). find (has_id k) places) (sym (id-is id new here)) ∙ free in
      rw (here, none, last) refl
  | inr there ↦ rw (there, and-false, or-false) refl
]

-- a field of a free id at the end, put where it is found
pub index-more : (fields : List Field) (places : List Placed) (new : Placed) → new.place ≡ length fields → find (has_id (id_of new)) places ≡ None → IsIndexOf fields places → IsIndexOf (fields ++ new.field.now ∷ []) (put_in places new)
index-more fields places new last free is = λ id test at.
    any-take-more (λ f. is_field id f && test f) fields new.field.now at
    ∙ rw (is id test at, texts_ties (id_of new) id) (with_more fields places new last free id test at)
    ∙ ap (λ o. option_map_or (is_before at test) o false) (sym (find-put_in places new id free))

-- what an index tells of the fields before a place
module _ (fields : List Field) (places : List Placed) (id : List ℕ) (at : ℕ) (is : IsIndexOf fields places) where
  pub found-before : (p : Placed) → find (has_id id) places ≡ Some p → nat_lt p.place at ≡ true → (test : Field → Bool) → list_any (λ f. is_field id f && test f) (take at fields) ≡ test p.field.now
  found-before p e before = λ test. is id test at ∙ ap (λ o. option_map_or (is_before at test) o false) e ∙ ap (λ b. b && test p.field.now) before

  pub found-late : (p : Placed) → find (has_id id) places ≡ Some p → nat_lt p.place at ≡ false → (test : Field → Bool) → list_any (λ f. is_field id f && test f) (take at fields) ≡ false
  found-late p e late = λ test. is id test at ∙ ap (λ o. option_map_or (is_before at test) o false) e ∙ ap (λ b. b && test p.field.now) late

  pub not-found : find (has_id id) places ≡ None → (test : Field → Bool) → list_any (λ f. is_field id f && test f) (take at fields) ≡ false
  not-found e = λ test. is id test at ∙ ap (λ o. option_map_or (is_before at test) o false) e

-- where each found field passes, a field of the id is before the place if one is found
pub has-found : {X : Type 0} (fields : List Field) (id : List ℕ) (at : ℕ) (o : Option X) → list_any (λ f. is_field id f && true) (take at fields) ≡ option_map_or (λ x. true) o false → is_some o ≡ list_any (is_field id) (take at fields)
has-found fields id at None e = sym e ∙ any-and_true (is_field id) (take at fields)
has-found fields id at (Some x) e = sym e ∙ any-and_true (is_field id) (take at fields)

-- the next step of a walk for the first field that a rule refuses
first_from-at : (rule : Rule) (fields : List Field) (at : ℕ) (f : Field) → at < length fields → f ≡ get_or fields at f
    → first_from rule (take at fields) (drop at fields) ≡ (if rule (take at fields) f then Some f.id else first_from rule (take (at + 1) fields) (drop (at + 1) fields))
first_from-at rule fields at f low is = rw (add-one, take-suc fields at f low, drop-cons fields at f low, ← is) refl

-- the same, of items that stand for the fields
module _ {X : Type 0} (now : X → Field) (rule : Rule) (items : List X) (fields : List Field) (at : ℕ) (x : X) (all : map now items ≡ fields) (low : at < length items) (is : x ≡ get_or items at x) where
  first_from-item : first_from rule (take at fields) (drop at fields) ≡ (if rule (take at fields) (now x) then Some (now x).id else first_from rule (take (at + 1) fields) (drop (at + 1) fields))
  first_from-item =
      rw (← all) (first_from-at rule (map now items) at (now x) (omega (arith, length-map items now)) (ap now is ∙ sym (get_or-map now items at x (now x) low)))

  pub refused-item : rule (take at fields) (now x) ≡ true → Some (now x).id ≡ first_from rule (take at fields) (drop at fields)
  refused-item e = sym (rw e at first_from-item)

  pub passed-item : rule (take at fields) (now x) ≡ false → first_from rule (take (at + 1) fields) (drop (at + 1) fields) ≡ first_from rule (take at fields) (drop at fields)
  passed-item e = sym (rw e at first_from-item)
