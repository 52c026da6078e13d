-- The parts of a statement that was made, and what a selection answers.
use Rattle.std.proofs.Common.{◌≡◌, ◌⊎◌, inl, inr, ℕ, ◌^◌, nat_le, List, [], ◌∷◌, ◌++◌, map, filter, cond, Bool, true, false, Ok, Err, Result, refl, sym, ap, subst, ◌∙◌}
use Rattle.std.specs.List.{list_all, flat_map}
use Rattle.std.specs.List.Sorted.{IsPermutation}
use Rattle.std.proofs.lemmas.Bool.{cases_Bool}
use Rattle.std.proofs.lemmas.List.Sorted.{IsPermutation-map}
use Rattle.sqlite_value.specs.declared.keys.Key.{Key}
use Rattle.sqlite.specs.Order.{Row}
use Rattle.sqlite.specs.Term.{Term, Env, holds, eval_all}
use Rattle.sqlite.specs.Query.{IsAnswer, output, Output}
use Rattle.sqlite.specs.Program.{overlay}
use Rattle.sqlite.specs.Tree.{Trees}
use Rattle.wb_stored.proofs.Texts.{query_over}

-- a part that gave a value did not stop on the way
pub went : {B E R : Type 0} {b : B} {Stops : E → Type 0} → ((stop : E) × Stops stop × (Ok b ≡ Err stop)) ⊎ R → R
went (inl stopped) = absurd (let e = stopped.2 in cc)
went (inr on) = on

pub same_value : {B E : Type 0} {a b : B} → ◌≡◌ {A = Result B E} (Ok a) (Ok b) → a ≡ b
same_value e = cc

-- with no table of WITH, each tree is read as it is
pub over_nothing : (db : Trees) (tree : ℕ) → overlay db [] tree ≡ db tree
over_nothing db tree = elim (cases_Bool (nat_le (2 ^ 31) tree)) [ inl e ↦ rw e refl | inr e ↦ rw e refl ]

abbrev pub passes : List Term → Row → Row → Bool
passes terms params r = list_all (holds (params ∷ r ∷ [])) terms

abbrev pub shows : List Term → Row → Row → Row
shows project params r = eval_all project (params ∷ r ∷ [])

abbrev last : Output → Row
last o = o.1

module _ (tree : ℕ) (terms project : List Term) (order : List (Term × Key)) where
  abbrev found : Row → Row → List Env
  found params r = cond (passes terms params r) ((params ∷ r ∷ []) ∷ []) []

  one_more : (params r : Row) (xs : List Env) (ys : List Row) → map last (map (output (query_over tree terms project order)) xs) ≡ map (shows project params) ys → (b : Bool)
      → map last (map (output (query_over tree terms project order)) (cond b ((params ∷ r ∷ []) ∷ []) [] ++ xs)) ≡ map (shows project params) (cond b (r ∷ ys) ys)
  one_more params r xs ys same true = ap (λ rest. shows project params r ∷ rest) same
  one_more params r xs ys same false = same

  answers_are : (params : Row) (table : List Row) → map last (map (output (query_over tree terms project order)) (flat_map (found params) table)) ≡ map (shows project params) (filter (passes terms params) table)
  answers_are params [] = refl
  answers_are params (r ∷ more) = one_more params r _ _ (answers_are params more) (passes terms params r)

  -- it answers what it shows of the rows that pass, in some order
  pub chosen : (db : Trees) (params : Row) (rows : List Row) → IsAnswer (query_over tree terms project order) (overlay db []) params rows → IsPermutation (map (shows project params) (filter (passes terms params) (db tree))) rows
  chosen db params rows a =
      let q = query_over tree terms project order in
      let moved : IsPermutation (map last a.kept) (map last a.ordered) = IsPermutation-map last _ _ a.same in
      let staged : a.staged ≡ flat_map (found params) (db tree) = a.grouped ∙ ap (flat_map (found params)) (over_nothing db tree) in
      let kept : map last a.kept ≡ map (shows project params) (filter (passes terms params) (db tree)) = ap (map last) (a.distinct ∙ ap (map (output q)) staged) ∙ answers_are params (db tree) in
      subst (IsPermutation _) (sym a.shown) (subst (λ k. IsPermutation k (map last a.ordered)) kept moved)
