-- Lists, item by item.
use Rattle.std.proofs.Common.{◌≡◌, inl, inr, ℕ, zero, suc, ◌<◌, ◌≤◌, ◌+◌, ◌++◌, Bool, true, false, cond, List, [], ◌∷◌, length, map, filter, drop, get_or, refl, sym, ap, ◌∙◌, append_assoc, append-nil, arith}
use Rattle.std.proofs.lemmas.Bool.{and_from, and_parts}
use Rattle.std.proofs.lemmas.List.{drop_all, drop_more}
use Rattle.std.specs.List.{flat_map, list_all}
use Rattle.wb_model.proofs.Found.{Held}

pub filter-map : {X Y : Type 0} (f : X → Y) (p : Y → Bool) (xs : List X) → filter p (map f xs) ≡ map f (filter (λ x. p (f x)) xs)
filter-map f p [] = refl
filter-map f p (x ∷ xs) = by (p (f x)) (filter-map f p xs)
  where
    by : (b : Bool) → filter p (map f xs) ≡ map f (filter (λ y. p (f y)) xs) → cond b (f x ∷ filter p (map f xs)) (filter p (map f xs)) ≡ map f (cond b (x ∷ filter (λ y. p (f y)) xs) (filter (λ y. p (f y)) xs))
    by true ih = ap (λ l. f x ∷ l) ih
    by false ih = ih

pub all_weaker : {X : Type 0} (p q : X → Bool) → ((x : X) → p x ≡ true → q x ≡ true) → (xs : List X) → list_all p xs ≡ true → list_all q xs ≡ true
all_weaker p q weaker [] all = refl
all_weaker p q weaker (x ∷ xs) all = let parts = and_parts (p x) (list_all p xs) all in and_from (q x) (list_all q xs) (weaker x parts.0) (all_weaker p q weaker xs parts.1)

pub all_push : {X : Type 0} (p : X → Bool) (xs : List X) (x : X) → list_all p xs ≡ true → p x ≡ true → list_all p (xs ++ x ∷ []) ≡ true
all_push p [] x all own = and_from (p x) true own refl
all_push p (y ∷ ys) x all own = let parts = and_parts (p y) (list_all p ys) all in and_from (p y) (list_all p (ys ++ x ∷ [])) parts.0 (all_push p ys x parts.1 own)

-- the list from an item on
pub here : {X : Type 0} (items : List X) (i : ℕ) (x : X) → i < length items → x ≡ get_or items i x → drop i items ≡ x ∷ drop (i + 1) items
here items i x within is = drop_more items i x within ∙ ap (λ y. y ∷ drop (i + 1) items) (sym is)

pub held_here : {X : Type 0} (items : List X) (i : ℕ) (x : X) → i < length items → x ≡ get_or items i x → Held x items
held_here [] i x within is = absurd (omega arith)
held_here (y ∷ ys) zero x within is = inl is
held_here (y ∷ ys) (suc i) x within is = inr (held_here ys i x (omega arith) is)

-- with what comes of the next item, what comes of all is there still
pub flat_more : {X Z Y : Type 0} (h : X → Z) (f : Z → List Y) (items : List X) (i : ℕ) (x : X) → i < length items → x ≡ get_or items i x → (done new all : List Y)
    → (done ++ flat_map f (map h (drop i items))) ≡ all → new ≡ done ++ f (h x) → (new ++ flat_map f (map h (drop (i + 1) items))) ≡ all
flat_more h f items i x within is done new all so_far more =
    ap (λ l. l ++ flat_map f (map h (drop (i + 1) items))) more
    ∙ (append_assoc done (f (h x)) (flat_map f (map h (drop (i + 1) items)))
    ∙ (ap (λ l. done ++ flat_map f (map h l)) (sym (here items i x within is)) ∙ so_far))

pub map_itself : {X : Type 0} (xs : List X) → map (λ x. x) xs ≡ xs
map_itself [] = refl
map_itself (x ∷ xs) = ap (λ l. x ∷ l) (map_itself xs)

-- after the last item all is there
pub flat_all : {X Z Y : Type 0} (h : X → Z) (f : Z → List Y) (items : List X) (i : ℕ) (done all : List Y) → length items ≤ i → (done ++ flat_map f (map h (drop i items))) ≡ all → done ≡ all
flat_all h f items i done all over e = sym (append-nil done) ∙ (ap (λ l. done ++ flat_map f (map h l)) (sym (drop_all i items over)) ∙ e)
