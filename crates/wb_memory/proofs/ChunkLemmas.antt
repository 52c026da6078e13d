-- Chunks of items: what they are joined, and what of them is ready or filled.
use Rattle.std.proofs.Common.{◌≡◌, ℕ, zero, suc, ◌+◌, ◌<◌, ◌≤◌, true, false, List, [], ◌∷◌, ◌++◌, length, get_or, set, take, drop, refl, sym, ap, subst, ◌∙◌, arith}
use Rattle.std.specs.List.{AllByRecursion}
use Rattle.std.proofs.lemmas.List.{append_assoc, append-nil, length-append, take_more, take-append-drop, drop_more, set_split}
use Rattle.std.proofs.lemmas.List.Concat.{flat_map-append}
use Rattle.wb_list.specs.Room.{Room}
use Rattle.wb_memory.specs.Chunks.{joined, is_filled, IsReady}

module _ {X : Type 0} where
  pub all_moved : (xs ys zs : List X) → xs ++ ys ≡ zs → length ys ≡ length zs → ys ≡ zs
  all_moved [] ys zs e same = e
  all_moved (x ∷ xs) ys zs e same = absurd (omega (arith, same, ap length e, length-append xs ys))

  pub copied_more : (cs zs xs : List X) (i : ℕ) (x : X) → i < length xs → cs ≡ zs ++ take i xs → x ≡ get_or xs i x → cs ++ x ∷ [] ≡ zs ++ take (i + 1) xs
  copied_more cs zs xs i x within so_far here =
      ap (λ t. t ++ x ∷ []) so_far ∙ (append_assoc zs (take i xs) (x ∷ []) ∙ ap (λ t. zs ++ t) (ap (λ y. take i xs ++ y ∷ []) here ∙ sym (take_more xs i x within)))

  pub joined-append : (cs ds : List (Room X)) → joined (cs ++ ds) ≡ joined cs ++ joined ds
  joined-append cs ds = flat_map-append (λ (c : Room X). c.items) cs ds

  pub joined_more : (cs zs : List X) (chunks : List (Room X)) (i : ℕ) (c : Room X) → i < length chunks → cs ≡ zs ++ joined (take i chunks) → c ≡ get_or chunks i c → cs ++ c.items ≡ zs ++ joined (take (i + 1) chunks)
  joined_more cs zs chunks i c within so_far here =
      let more : joined (take (i + 1) chunks) ≡ joined (take i chunks) ++ c.items = ap joined (take_more chunks i c within) ∙ (joined-append (take i chunks) (get_or chunks i c ∷ []) ∙ ap (λ t. joined (take i chunks) ++ t) (append-nil (get_or chunks i c).items ∙ ap (λ (b : Room X). b.items) (sym here))) in
      ap (λ t. t ++ c.items) so_far ∙ (append_assoc zs (joined (take i chunks)) c.items ∙ ap (λ t. zs ++ t) (sym more))

  -- the chunk at a place stands between those before it and those after it
  pub joined_at : (cs : List (Room X)) (q : ℕ) (d : Room X) → q < length cs → joined cs ≡ joined (take q cs) ++ ((get_or cs q d).items ++ joined (drop (q + 1) cs))
  joined_at cs q d within =
      ap joined (sym (take-append-drop q cs)) ∙ (ap (λ t. joined (take q cs ++ t)) (drop_more cs q d within) ∙ joined-append (take q cs) (get_or cs q d ∷ drop (q + 1) cs))

  pub joined_set : (cs : List (Room X)) (q : ℕ) (c : Room X) → q < length cs → joined (set cs q c) ≡ joined (take q cs) ++ (c.items ++ joined (drop (q + 1) cs))
  joined_set cs q c within =
      let same : suc q ≡ q + 1 = omega arith in
      ap joined (set_split cs q c within) ∙ (joined-append (take q cs) (c ∷ drop (suc q) cs) ∙ ap (λ n. joined (take q cs) ++ (c.items ++ joined (drop n cs))) same)

module _ {X : Type 0} (P : X → Type 0) where
  pub every_front : (xs ys : List X) → AllByRecursion P (xs ++ ys) → AllByRecursion P xs
  every_front [] ys all = tt
  every_front (x ∷ xs) ys all = (all.0, every_front xs ys all.1)

  pub every_back : (xs ys : List X) → AllByRecursion P (xs ++ ys) → AllByRecursion P ys
  every_back [] ys all = all
  every_back (x ∷ xs) ys all = every_back xs ys all.1

  pub every_at : (xs : List X) (i : ℕ) (d : X) → AllByRecursion P xs → i < length xs → P (get_or xs i d)
  every_at [] i d all within = absurd (omega arith)
  every_at (x ∷ xs) zero d all within = all.0
  every_at (x ∷ xs) (suc i) d all within = every_at xs i d all.1 (omega arith)

module _ {X : Type 0} where
  -- the last of some empty chunks, and the others
  pub ready_empty : (xs zs : List (Room X)) (x : Room X) → zs ≡ xs ++ x ∷ [] → AllByRecursion IsReady zs → x.items ≡ []
  ready_empty xs zs x e all = (every_back IsReady xs (x ∷ []) (subst (λ t. AllByRecursion IsReady t) e all)).0.empty

  pub ready_room : (xs zs : List (Room X)) (x : Room X) → zs ≡ xs ++ x ∷ [] → AllByRecursion IsReady zs → 64 ≤ x.spare
  ready_room xs zs x e all = (every_back IsReady xs (x ∷ []) (subst (λ t. AllByRecursion IsReady t) e all)).0.room

  pub ready_rest : (xs zs : List (Room X)) (x : Room X) → zs ≡ xs ++ x ∷ [] → AllByRecursion IsReady zs → AllByRecursion IsReady xs
  ready_rest xs zs x e all = every_front IsReady xs (x ∷ []) (subst (λ t. AllByRecursion IsReady t) e all)

module _ {X : Type 0} where
  pub unfilled : (xs : List X) → is_filled xs ≡ false → xs ≡ []
  unfilled [] empty = refl
  unfilled (x ∷ xs) empty = cc

  pub filled_length : (xs : List X) → is_filled xs ≡ true → 0 < length xs
  filled_length [] filled = cc
  filled_length (x ∷ xs) filled = omega arith
