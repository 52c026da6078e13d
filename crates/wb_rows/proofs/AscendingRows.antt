-- Rows that ascend by their keys, put one after another between others.
use Rattle.std.proofs.Common.{◌≡◌, inl, inr, ℕ, ◌<◌, true, List, [], ◌∷◌, ◌++◌, append_assoc, map, refl, sym, ap, ◌∙◌}
use Rattle.std.specs.List.{AllByRecursion}
use Rattle.std.specs.declared.cmp.Ordering.TheVariants.{Less}
use Rattle.wb_base.specs.KeptRows.{key_cmp, all_changed}
use Rattle.wb_base.specs.declared.rows.Change.TheVariants.{Put}
use Rattle.wb_base.specs.declared.rows.Row.{Row}
use Rattle.wb_model.specs.Legal.{ascends}
use Rattle.wb_model.proofs.Found.{Held}
use Rattle.wb_model.proofs.PutLaw.{AreBefore, AreAfter, before_append, put, put_past, put_last}
use Rattle.wb_rows.proofs.Ascending.{held-above, rest-ascends}

abbrev pub Ascends : List Row → Type 0
Ascends [] = Unit {0}
Ascends (r ∷ rs) = AllByRecursion (λ s. key_cmp r.key s.key ≡ Less) rs × Ascends rs

-- ---- rows that are put

-- all of the first come before each of the second
abbrev pub AllBefore : List Row → List Row → Type 0
AllBefore a rs = AllByRecursion (λ r. AreBefore r.key a) rs

abbrev pub AllAfter : List Row → List Row → Type 0
AllAfter b rs = AllByRecursion (λ r. AreAfter r.key b) rs

one_before : (a : List Row) (r : Row) (rs : List Row) → AllBefore a rs → AllByRecursion (λ s. key_cmp r.key s.key ≡ Less) rs → AllBefore (a ++ r ∷ []) rs
one_before a r [] before less = tt
one_before a r (s ∷ rs) before less = (before_append s.key a (r ∷ []) before.0 (less.0, tt), one_before a r rs before.1 less.1)

-- put between rows before them and rows after them, they stand there
pub puts_between : (a b rs : List Row) → AllBefore a rs → AllAfter b rs → Ascends rs → all_changed (a ++ b) (map Put rs) ≡ a ++ (rs ++ b)
puts_between a b [] before after up = refl
puts_between a b (r ∷ rs) before after up =
    ap (λ l. all_changed l (map Put rs)) (put_last a b r before.0 after.0 ∙ sym (append_assoc a (r ∷ []) b))
    ∙ (puts_between (a ++ r ∷ []) b rs (one_before a r rs before.1 up.0) after.1 up.1 ∙ append_assoc a (r ∷ []) (rs ++ b))

-- rows that come before them stay as they are
pub puts_past : (a b rs : List Row) → AllBefore a rs → all_changed (a ++ b) (map Put rs) ≡ a ++ all_changed b (map Put rs)
puts_past a b [] before = refl
puts_past a b (r ∷ rs) before = ap (λ l. all_changed l (map Put rs)) (put_past a b r before.0) ∙ puts_past a (put b r) rs before.1

-- ---- the rows of items in order

module _ {X : Type 0} (number : X → ℕ) (r : X → Row) where
  all_less : (x : X) (ys : List X) → ((y : X) → Held y ys → key_cmp (r x).key (r y).key ≡ Less) → AllByRecursion (λ s. key_cmp (r x).key s.key ≡ Less) (map r ys)
  all_less x [] less = tt
  all_less x (y ∷ ys) less = (less y (inl refl), all_less x ys (λ z held. less z (inr held)))

  -- where the order of the rows is that of the items
  pub rows_ascend : (xs : List X) → ((x y : X) → Held x xs → Held y xs → number x < number y → key_cmp (r x).key (r y).key ≡ Less) → ascends (map number xs) ≡ true → Ascends (map r xs)
  rows_ascend [] less up = tt
  rows_ascend (x ∷ xs) less up = (
    all_less x xs (λ y held. less x y (inl refl) (inr held) (held-above number (number x) xs y up held)),
    rows_ascend xs (λ y z here there. less y z (inr here) (inr there)) (rest-ascends (number x) (map number xs) up),
  )
