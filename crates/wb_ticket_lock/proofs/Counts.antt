-- Sums over views.
use Rattle.std.proofs.Common.{◌≡◌, ℕ, zero, suc, ◌+◌, ◌<◌, ◌≤◌, ◌≢◌, List, [], ◌∷◌, ◌++◌, Bool, true, false, set, sym, refl, ap, ◌∙◌, arith, map, length}
use Rattle.std.proofs.lemmas.List.{map-append}
use Rattle.std.specs.Prelude.{nat_lt, if◌then◌else◌}
use Rattle.std.proofs.lemmas.Bool.Decides.{nat_tests}
use mathlib.Core.Option.{some, some-injective, some-ne-none}
use lib.ListN.{get_elem?}
use Rattle.atomic_table.proofs.Lists.{at_longer}
use Rattle.wb_ticket_lock.specs.declared.entry.Entry.{Entry}
use Rattle.wb_ticket_lock.specs.declared.entry.View.{View}
use Rattle.wb_ticket_lock.specs.Histories.{total, is_at, times, places, once_below, StandIn, Leads, is_below_all, is_rising, AllStandIn, AllRise, count_all, times_in_all}

pub total_set : {X D : Type 0} → (f : View X D → ℕ) (vs : List (View X D)) (id : ℕ) (v w : View X D) → get_elem? vs id ≡ some v → total f (set vs id w) + f v ≡ total f vs + f w
total_set f [] id v w e = absurd (some-ne-none v (sym e))
total_set f (x ∷ vs) zero v w e = let q : f x ≡ f v = ap f (some-injective x v e) in omega arith
total_set f (x ∷ vs) (suc id) v w e = let r = total_set f vs id v w e in omega arith

-- what one view has is within what all have
pub at_le_total : {X D : Type 0} → (f : View X D → ℕ) (vs : List (View X D)) (id : ℕ) (v : View X D) → get_elem? vs id ≡ some v → f v ≤ total f vs
at_le_total f [] id v e = absurd (some-ne-none v (sym e))
at_le_total f (x ∷ vs) zero v e = let q : f x ≡ f v = ap f (some-injective x v e) in omega arith
at_le_total f (x ∷ vs) (suc id) v e = let r = at_le_total f vs id v e in omega arith

-- and so is what two have
pub two_le_total : {X D : Type 0} → (f : View X D → ℕ) (vs : List (View X D)) (id other : ℕ) (v w : View X D) → get_elem? vs id ≡ some v → get_elem? vs other ≡ some w → other ≢ id → f v + f w ≤ total f vs
two_le_total f [] id other v w e e' ne = absurd (some-ne-none v (sym e))
two_le_total f (x ∷ vs) zero zero v w e e' ne = absurd (ne refl)
two_le_total f (x ∷ vs) zero (suc o) v w e e' ne =
    let q : f x ≡ f v = ap f (some-injective x v e) in let r = at_le_total f vs o w e' in omega arith
two_le_total f (x ∷ vs) (suc i) zero v w e e' ne =
    let q : f x ≡ f w = ap f (some-injective x w e') in let r = at_le_total f vs i v e in omega arith
two_le_total f (x ∷ vs) (suc i) (suc o) v w e e' ne =
    let r = two_le_total f vs i o v w e e' (λ s. ne (ap suc s)) in omega arith

pub total_le : {X D : Type 0} → (f g : View X D → ℕ) (vs : List (View X D)) → ((k : ℕ) (u : View X D) → get_elem? vs k ≡ some u → f u ≤ g u) → total f vs ≤ total g vs
total_le f g [] le = omega arith
total_le f g (x ∷ vs) le =
    let h = le 0 x refl in let r = total_le f g vs (λ k u a. le (suc k) u a) in omega arith

-- where f is never above g, and below it at one view
pub total_below : {X D : Type 0} → (f g : View X D → ℕ) (vs : List (View X D)) (id : ℕ) (v : View X D) → ((k : ℕ) (u : View X D) → get_elem? vs k ≡ some u → f u ≤ g u) → get_elem? vs id ≡ some v → f v < g v → total f vs < total g vs
total_below f g [] id v le e lt = absurd (some-ne-none v (sym e))
total_below f g (x ∷ vs) zero v le e lt =
    let q : f x ≡ f v = ap f (some-injective x v e) in
    let q' : g x ≡ g v = ap g (some-injective x v e) in
    let r = total_le f g vs (λ k u a. le (suc k) u a) in omega arith
total_below f g (x ∷ vs) (suc id) v le e lt =
    let h = le 0 x refl in let r = total_below f g vs id v (λ k u a. le (suc k) u a) e lt in omega arith

pub once-more : (x n : ℕ) → once_below x (n + 1) ≡ once_below x n + is_at x n
once-more x n = grind (arith, nat_tests)

pub once_le : (x n : ℕ) → once_below x n ≤ 1
once_le x n = grind (arith, nat_tests)

pub once_under : (x n : ℕ) → 0 < once_below x n → x < n
once_under x n h = grind (arith, nat_tests)

pub is_at_same : (x : ℕ) → is_at x x ≡ 1
is_at_same x = grind (arith, nat_tests)

pub times-places-more : {X D : Type 0} → (x : ℕ) (es : List (Entry X D)) (e : Entry X D) → times x (places (es ++ e ∷ [])) ≡ times x (places es) + is_at x e.place
times-places-more x [] e = omega arith
times-places-more x (d ∷ es) e = let r = times-places-more x es e in omega arith

pub total_snoc : {X D : Type 0} → (f : View X D → ℕ) (vs : List (View X D)) (v : View X D) → total f (vs ++ v ∷ []) ≡ total f vs + f v
total_snoc f [] v = omega arith
total_snoc f (x ∷ vs) v = let r = total_snoc f vs v in omega arith

pub times-places-append : {X D : Type 0} → (x : ℕ) (es ds : List (Entry X D)) → times x (places (es ++ ds)) ≡ times x (places es) + times x (places ds)
times-places-append x [] ds = omega arith
times-places-append x (e ∷ es) ds = let r = times-places-append x es ds in omega arith

-- where one view has every part, and who has no part has nothing of f, it has all of f
pub total_none : {X D : Type 0} → (f : View X D → ℕ) (vs : List (View X D)) → ((k : ℕ) (u : View X D) → get_elem? vs k ≡ some u → u.parts ≡ 0 → f u ≡ 0) → total (λ v. v.parts) vs ≡ 0 → total f vs ≡ 0
total_none f [] none' e = refl
total_none f (x ∷ vs) none' e =
    let h : f x ≡ 0 = none' 0 x refl (omega arith) in
    let r = total_none f vs (λ k u a. none' (suc k) u a) (omega arith) in omega arith

pub total_whole : {X D : Type 0} → (f : View X D → ℕ) (vs : List (View X D)) (id : ℕ) (v : View X D) → ((k : ℕ) (u : View X D) → get_elem? vs k ≡ some u → u.parts ≡ 0 → f u ≡ 0) → get_elem? vs id ≡ some v → total (λ v. v.parts) vs ≡ v.parts → total f vs ≡ f v
total_whole f [] id v none' at e = absurd (some-ne-none v (sym at))
total_whole f (x ∷ vs) zero v none' at e =
    let q : f x ≡ f v = ap f (some-injective x v at) in
    let p : x.parts ≡ v.parts = ap (λ (z : View _ _). z.parts) (some-injective x v at) in
    let r = total_none f vs (λ k u a. none' (suc k) u a) (omega arith) in omega arith
total_whole f (x ∷ vs) (suc id) v none' at e =
    let l = at_le_total (λ u. u.parts) vs id v at in
    let h : f x ≡ 0 = none' 0 x refl (omega arith) in
    let r = total_whole f vs id v (λ k u a. none' (suc k) u a) at (omega arith) in omega arith

pub length-more : {X : Type 0} (xs : List X) (x : X) → length (xs ++ x ∷ []) ≡ length xs + 1
length-more [] x = refl
length-more (y ∷ xs) x = let r = length-more xs x in omega arith

pub length-both : {X : Type 0} (xs ys : List X) → length (xs ++ ys) ≡ length xs + length ys
length-both [] ys = omega arith
length-both (x ∷ xs) ys = let r = length-both xs ys in omega arith

-- ---- histories

pub stand-longer : {X D : Type 0} → (es more ms : List (Entry X D)) → StandIn es ms → StandIn (es ++ more) ms
stand-longer es more [] h = tt
stand-longer es more (m ∷ ms) h = (at_longer es more m.place m h.0, stand-longer es more ms h.1)

pub stand-both : {X D : Type 0} → (es ms ns : List (Entry X D)) → StandIn es ms → StandIn es ns → StandIn es (ms ++ ns)
stand-both es [] ns h k = k
stand-both es (m ∷ ms) ns h k = (h.0, stand-both es ms ns h.1 k)

pub stand-front : {X D : Type 0} → (es ms ns : List (Entry X D)) → StandIn es (ms ++ ns) → StandIn es ms
stand-front es [] ns h = tt
stand-front es (m ∷ ms) ns h = (h.0, stand-front es ms ns h.1)

pub stand-back : {X D : Type 0} → (es ms ns : List (Entry X D)) → StandIn es (ms ++ ns) → StandIn es ns
stand-back es [] ns h = h
stand-back es (m ∷ ms) ns h = stand-back es ms ns h.1

-- one entry more, which begins where the history ended
pub leads-on : {X D : Type 0} → (does : X → D → X → Type 0) (place : ℕ) (x : X) (es : List (Entry X D)) (y : X) → Leads does place x es y
    → (e : Entry X D) → e.place ≡ place + length es → e.before ≡ y → does e.before e.deed e.after → Leads does place x (es ++ e ∷ []) e.after
leads-on does place x [] y h e at begins done = (omega arith, begins ∙ h, done, refl)
leads-on does place x (d ∷ es) y h e at begins done = (h.0, h.1, h.2, leads-on does (suc place) d.after es y h.3 e (omega arith) begins done)

-- ---- lists of a history, the last of which is set apart

pub mapped-last : {X Y : Type 0} (f : X → Y) (xs ys : List X) (x : X) → xs ≡ ys ++ x ∷ [] → map f xs ≡ map f ys ++ f x ∷ []
mapped-last f xs ys x e = ap (map f) e ∙ map-append f ys (x ∷ [])

pub mapped-none : {X Y : Type 0} (f : X → Y) (xs : List X) → length xs ≡ 0 → map f xs ≡ []
mapped-none f [] e = refl
mapped-none f (x ∷ xs) e = absurd (omega arith)

pub count-last : {X D : Type 0} → (ms : List (List (Entry X D))) (m : List (Entry X D)) → count_all (ms ++ m ∷ []) ≡ count_all ms + length m
count-last [] m = omega arith
count-last (n ∷ ms) m = let r = count-last ms m in omega arith

pub times-last : {X D : Type 0} → (x : ℕ) (ms : List (List (Entry X D))) (m : List (Entry X D)) → times_in_all x (ms ++ m ∷ []) ≡ times_in_all x ms + times x (places m)
times-last x [] m = omega arith
times-last x (n ∷ ms) m = let r = times-last x ms m in omega arith

pub stand-last : {X D : Type 0} → (es : List (Entry X D)) (ms : List (List (Entry X D))) (m : List (Entry X D)) → AllStandIn es ms → StandIn es m → AllStandIn es (ms ++ m ∷ [])
stand-last es [] m h k = (k, tt)
stand-last es (n ∷ ms) m h k = (h.0, stand-last es ms m h.1 k)

pub rise-last : {X D : Type 0} → (ms : List (List (Entry X D))) (m : List (Entry X D)) → AllRise ms → is_rising (places m) ≡ true → AllRise (ms ++ m ∷ [])
rise-last [] m h k = (k, tt)
rise-last (n ∷ ms) m h k = (h.0, rise-last ms m h.1 k)

below-more : {X D : Type 0} → (x : ℕ) (es : List (Entry X D)) (e : Entry X D) → is_below_all x (places es) ≡ true → x < e.place → is_below_all x (places (es ++ e ∷ [])) ≡ true
below-more x [] e h lt = grind (arith, nat_tests)
below-more x (d ∷ es) e h lt = go (λ t. below-more x es e t lt) (nat_lt x d.place) refl
  where
    go : (is_below_all x (places es) ≡ true → is_below_all x (places (es ++ e ∷ [])) ≡ true) → (b : Bool) → nat_lt x d.place ≡ b → is_below_all x (places ((d ∷ es) ++ e ∷ [])) ≡ true
    go more true is =
        let t : is_below_all x (places es) ≡ true = ap (λ (b : Bool). if b then is_below_all x (places es) else false) (sym is) ∙ h in
        ap (λ (b : Bool). if b then is_below_all x (places (es ++ e ∷ [])) else false) is ∙ more t
    go more false is = absurd (let q : false ≡ true = ap (λ (b : Bool). if b then is_below_all x (places es) else false) (sym is) ∙ h in cc)

pub rising-more : {X D : Type 0} → (es : List (Entry X D)) (e : Entry X D) → is_rising (places es) ≡ true → ((i : ℕ) → 0 < times i (places es) → i < e.place) → is_rising (places (es ++ e ∷ [])) ≡ true
rising-more [] e h above = refl
rising-more (d ∷ es) e h above = go (λ t. rising-more es e t (λ i some_place. above i (omega arith))) (is_below_all d.place (places es)) refl
  where
    go : (is_rising (places es) ≡ true → is_rising (places (es ++ e ∷ [])) ≡ true) → (b : Bool) → is_below_all d.place (places es) ≡ b → is_rising (places ((d ∷ es) ++ e ∷ [])) ≡ true
    go more true is =
        let t : is_rising (places es) ≡ true = ap (λ (b : Bool). if b then is_rising (places es) else false) (sym is) ∙ h in
        let low = below-more d.place es e is (above d.place (let s = is_at_same d.place in omega arith)) in
        ap (λ (b : Bool). if b then is_rising (places (es ++ e ∷ [])) else false) low ∙ more t
    go more false is = absurd (let q : false ≡ true = ap (λ (b : Bool). if b then is_rising (places es) else false) (sym is) ∙ h in cc)
