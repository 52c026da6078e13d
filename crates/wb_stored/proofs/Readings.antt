-- What is read of both tables are the told rows.
use Rattle.std.proofs.Common.{◌≡◌, ◌⊎◌, ◌↔◌, inl, inr, pos, ℤ, List, [], ◌∷◌, ◌++◌, map, refl, sym, ap, subst, ◌∙◌}
use Rattle.std.specs.List.{AllByRecursion}
use Rattle.std.specs.List.Sorted.{IsPermutation}
use Rattle.std.proofs.lemmas.List.Sorted.{IsPermutation-sym}
use Rattle.sqlite_value.specs.declared.value.Value.TheVariants.{Int, Text as Words}
use Rattle.sqlite_value.specs.Order.{Row as SqlRow}
use Rattle.sqlite_trees.proofs.ListLemmas.{all-permutation}
use Rattle.sqlite_rules.specs.Lists.{Has}
use Rattle.sqlite_rules.proofs.ListLemmas.{all_has, all_from, has_left, has_right, has_either}
use Rattle.sqlite_sql.specs.Term.{Term, col}
use Rattle.sqlite.specs.Effect.{Database}
use Rattle.sqlite.specs.State.{State, Shown}
use Rattle.wb_list.specs.Keyed.{IsAscending}
use Rattle.wb_base.specs.declared.rows.Row.{Row}
use Rattle.wb_base.specs.KeptRows.{key_cmp, key_of}
use Rattle.wb_stored.specs.StoredRows.{IsRecordRow, IsSealedRow, AreInTurn}
use Rattle.wb_stored.specs.Told.{IsKept, Stores, AreTold, stored_record, stored_sealed, IsOfRecord, IsOfSealed}
use Rattle.wb_stored.proofs.Texts as text
use Rattle.wb_stored.proofs.Parts.{shows}
use Rattle.wb_stored.proofs.Selecting.{selects}
use Rattle.wb_stored.proofs.Layouts.{Layout, both, turned}
use Rattle.wb_stored.proofs.Stands.{TellsHere, TellsBoth}
use Rattle.wb_stored.proofs.ToldRows.{same_list}
use Rattle.wb_stored.proofs.Values.{record_back, sealed_back}

has_itself : {X : Type 0} (xs : List X) → AllByRecursion (Has xs) xs
has_itself xs = all_from (Has xs) xs (λ x h. h)

-- the same rows in some order
permuted_has : {X : Type 0} (xs ys : List X) (x : X) → IsPermutation xs ys → Has ys x → Has xs x
permuted_has xs ys x moved h = all_has (Has xs) ys x (all-permutation (Has xs) xs ys moved (has_itself xs)) h

mapped_from : {X Y : Type 0} (f : X → Y) (xs : List X) (y : Y) → Has (map f xs) y → (x : X) × Has xs x × (y ≡ f x)
mapped_from f [] y h = absurd h
mapped_from f (x ∷ xs) y (inl e) = (x, inl refl, e)
mapped_from f (x ∷ xs) y (inr h) = let it = mapped_from f xs y h in (it.0, inr it.1, it.2)

mapped_has : {X Y : Type 0} (f : X → Y) (xs : List X) (x : X) → Has xs x → Has (map f xs) (f x)
mapped_has f [] x h = absurd h
mapped_has f (y ∷ xs) x (inl e) = inl (ap f e)
mapped_has f (y ∷ xs) x (inr h) = inr (mapped_has f xs x h)

turn_from : (IsRow : SqlRow → Row → Type 0) (cs : List SqlRow) (rs : List Row) (r : Row) → AreInTurn IsRow cs rs → Has rs r → (c : SqlRow) × Has cs c × IsRow c r
turn_from IsRow [] [] r each h = absurd h
turn_from IsRow [] (y ∷ ys) r each h = absurd each
turn_from IsRow (x ∷ xs) [] r each h = absurd h
turn_from IsRow (x ∷ xs) (y ∷ ys) r each (inl e) = (x, inl refl, subst (IsRow x) (sym e) each.0)
turn_from IsRow (x ∷ xs) (y ∷ ys) r each (inr h) = let it = turn_from IsRow xs ys r each.1 h in (it.0, inr it.1, it.2)

turn_has : (IsRow : SqlRow → Row → Type 0) (cs : List SqlRow) (rs : List Row) (c : SqlRow) → AreInTurn IsRow cs rs → Has cs c → (r : Row) × Has rs r × IsRow c r
turn_has IsRow [] [] c each h = absurd h
turn_has IsRow [] (y ∷ ys) c each h = absurd each
turn_has IsRow (x ∷ xs) [] c each h = absurd each
turn_has IsRow (x ∷ xs) (y ∷ ys) c each (inl e) = (y, inl refl, subst (λ (z : SqlRow). IsRow z y) (sym e) each.0)
turn_has IsRow (x ∷ xs) (y ∷ ys) c each (inr h) = let it = turn_has IsRow xs ys c each.1 h in (it.0, inr it.1, it.2)

module _ (stored : ℤ → Row → SqlRow) (IsOf : Row → Type 0) (IsRow : SqlRow → Row → Type 0) (project : List Term) (cells : Row → SqlRow)
    (shows_is : (id : ℤ) (x : Row) → shows project [] (stored id x) ≡ cells x) (is_row : (x r : Row) → IsOf x → IsRow (cells x) r → r ≡ x) where
  -- what is read of a table are the rows that it stores
  pub read_stores : (table shown : List SqlRow) (added : List Row) → IsKept stored IsOf table → IsPermutation (map (shows project []) table) shown → AreInTurn IsRow shown added
      → (r : Row) → Has added r ↔ Stores stored IsOf table r
  read_stores table shown added kept moved each r = (
    λ h.
        let at = turn_from IsRow shown added r each h in
        let from = mapped_from (shows project []) table at.0 (permuted_has _ shown at.0 moved at.1) in
        let it = kept.each from.0 from.1 in
        let is : at.0 ≡ cells it.1 = from.2 ∙ ap (shows project []) it.3 ∙ shows_is it.0 it.1 in
        let same : r ≡ it.1 = is_row it.1 r it.2 (subst (λ (c : SqlRow). IsRow c r) is at.2) in
        subst (Stores stored IsOf table) (sym same) (it.0, it.2, subst (Has table) it.3 from.1),
    λ s.
        let in_shown = permuted_has shown _ (cells r) (IsPermutation-sym _ shown moved) (subst (Has (map (shows project []) table)) (shows_is s.0 r) (mapped_has (shows project []) table (stored s.0 r) s.2)) in
        let at = turn_has IsRow shown added (cells r) each in_shown in
        subst (Has added) (is_row r at.0 s.1 at.2) at.1,
  )

abbrev record_shown : List Term
record_shown = col 1 1 ∷ col 1 2 ∷ col 1 3 ∷ col 1 4 ∷ col 1 5 ∷ []

abbrev sealed_shown : List Term
sealed_shown = col 1 1 ∷ col 1 2 ∷ col 1 3 ∷ []

abbrev record_cells : Row → SqlRow
record_cells row = Int (pos row.key.kind) ∷ Int (pos row.key.tenant) ∷ Int (pos row.key.a) ∷ Int (pos row.key.b) ∷ Words row.text ∷ []

abbrev sealed_cells : Row → SqlRow
sealed_cells row = Int (pos row.key.tenant) ∷ Int (pos row.key.a) ∷ Words row.text ∷ []

is_record : (x r : Row) → IsOfRecord x → IsRecordRow (record_cells x) r → r ≡ x
is_record x r of is = sym (record_back (pos 0) (pos 0) x r (same is) of is.unsealed)
  where
    same : IsRecordRow (record_cells x) r → stored_record (pos 0) x ≡ stored_record (pos 0) r
    same is = rw (is.kind, is.tenant, is.a, is.b, is.text) refl

is_sealed : (x r : Row) → IsOfSealed x → IsSealedRow (sealed_cells x) r → r ≡ x
is_sealed x r of is = sym (sealed_back (pos 0) (pos 0) x r (rw (is.tenant, is.a, is.text) refl) of (is.kind, is.b))

-- a list with another one put into it
has_part : (low more high : List Row) (r : Row) → Has (low ++ more ++ high) r → Has (low ++ high) r ⊎ Has more r
has_part low more high r h = elim (has_either (low ++ more) high r h) [
  | inl front ↦ elim (has_either low more r front) [ inl k ↦ inl (has_left low high r k) | inr k ↦ inr k ]
  | inr k ↦ inl (has_right low high r k)
]

has_outer : (low more high : List Row) (r : Row) → Has (low ++ high) r → Has (low ++ more ++ high) r
has_outer low more high r h = elim (has_either low high r h) [
  | inl k ↦ has_left (low ++ more) high r (has_left low more r k)
  | inr k ↦ has_right (low ++ more) high r k
]

module _ (l : Layout) where
  read_here : (s t u v : State) (first second : List SqlRow) (rows low high more : List Row) → TellsHere l s.now rows → Shown text.read_record [] s t first → AreInTurn IsRecordRow first (low ++ high)
      → u.now ≡ s.now → Shown text.read_sealed [] u v second → AreInTurn IsSealedRow second more → IsAscending key_cmp key_of (low ++ more ++ high) → low ++ more ++ high ≡ rows
  read_here s t u v first second rows low high more here one each_one same two each_two up =
      let records = s.now.trees l.record_tree in
      let sealed = s.now.trees l.sealed_tree in
      let told : AreTold records sealed rows = subst (λ c. AreTold records c rows) here.lays.2 (subst (λ c. AreTold c here.sealed rows) here.lays.1 here.told) in
      let moved_one = selects l.schema l.record_tree record_shown _ _ text.read_record s t first here.lays.0 l.select_record l.select_record_plain l.select_record_unlisted one in
      let there : u.now.schema ≡ l.schema = ap (λ (d : Database). d.schema) same ∙ here.lays.0 in
      let moved_u = selects l.schema l.sealed_tree sealed_shown _ _ text.read_sealed u v second there l.select_sealed l.select_sealed_plain l.select_sealed_unlisted two in
      let moved_two : IsPermutation (map (shows sealed_shown []) sealed) second = subst (λ (d : Database). IsPermutation (map (shows sealed_shown []) (d.trees l.sealed_tree)) second) same moved_u in
      let read_one = read_stores stored_record IsOfRecord IsRecordRow record_shown record_cells (λ id x. refl) is_record records first (low ++ high) told.record_kept moved_one each_one in
      let read_two = read_stores stored_sealed IsOfSealed IsSealedRow sealed_shown sealed_cells (λ id x. refl) is_sealed sealed second more told.sealed_kept moved_two each_two in
      same_list (low ++ more ++ high) rows up told.ascending
      (λ r h. elim (has_part low more high r h) [ inl k ↦ (told.each r).1 (inl ((read_one r).0 k)) | inr k ↦ (told.each r).1 (inr ((read_two r).0 k)) ])
      (λ r h. elim ((told.each r).0 h) [ inl k ↦ has_outer low more high r ((read_one r).1 k) | inr k ↦ has_left (low ++ more) high r (has_right low more r ((read_two r).1 k)) ])

-- both tables, read one after the other, give the told rows, where those of `sealed` are put between two parts of those of `record`
pub read_both : (s t u v : State) (first second : List SqlRow) (rows low high more : List Row) → TellsBoth s.now rows → Shown text.read_record [] s t first → AreInTurn IsRecordRow first (low ++ high)
    → u.now ≡ s.now → Shown text.read_sealed [] u v second → AreInTurn IsSealedRow second more → IsAscending key_cmp key_of (low ++ more ++ high) → low ++ more ++ high ≡ rows
read_both s t u v first second rows low high more (inl here) one each_one same two each_two up = read_here both s t u v first second rows low high more here one each_one same two each_two up
read_both s t u v first second rows low high more (inr here) one each_one same two each_two up = read_here turned s t u v first second rows low high more here one each_one same two each_two up
