-- The order of sealed answers, and what is found of them by hash.
use Rattle.std.proofs.Common.{◌≡◌, ◌≢◌, ◌⊎◌, inl, inr, ℕ, Bool, true, false, ◌&&◌, nat_eq, List, [], ◌∷◌, map, find, cond, Option, Some, None, Result, Ok, Err, OnOk, refl, sym, ap, ◌∙◌, subst}
use Rattle.std.specs.declared.cmp.Ordering.{Ordering}
use Rattle.std.specs.declared.cmp.Ordering.TheVariants.{Less, Equal, Greater}
use Rattle.std.specs.Option.{option_map}
use Rattle.std.specs.Ordering.{is_eq, nat_cmp}
use Rattle.std.specs.List.{AllByRecursion}
use Rattle.std.specs.List.Sorted.{IsStrictlySortedBy}
use Rattle.std.specs.Map.{lookup}
use Rattle.std.proofs.lemmas.Map.Keys.{sorted_head, sorted_tail}
use Rattle.std.specs.Cmp.{IsTotalOrder, nat_cmp_is, nat_cmp_total, nat_eq_equiv, on_total, then_total, both_tied, unsigned_Decides, unsigned_ties}
use Rattle.wb_base.specs.AnswerList.{Answered}
use Rattle.wb_base.proofs.AnswerLemmas.{find-same}
use Rattle.wb_list.specs.Keyed.{IsAscending, has_key}
use Rattle.wb_list.proofs.KeyedLemmas.{ascending-insert_item}
use Rattle.wb_list.proofs.KeyedLookups.{find-after}
use Rattle.wb_custody.specs.declared.sealed.SealedItem.{SealedItem}
use Rattle.wb_custody.specs.SealedAnswers.{answers_of, in_order, is_of, item_at, pair_cmp, sealed_place}

pub pair_total : IsTotalOrder pair_cmp
pair_total = then_total (on_total (λ (p : ℕ × ℕ). p.0) nat_cmp_total) (on_total (λ (p : ℕ × ℕ). p.1) nat_cmp_total)

same_number : (n : ℕ) → nat_cmp n n ≡ Equal
same_number n = sym (nat_cmp_is n n Equal refl)

same_pair : (t n : ℕ) → pair_cmp (t, n) (t, n) ≡ Equal
same_pair t n = rw (same_number t, same_number n) refl

-- the look-up by the order of keys
abbrev looked_up : List SealedItem → ℕ → ℕ → Option Answered
looked_up items t n = option_map (λ (x : SealedItem). x.answers) (find (has_key pair_cmp sealed_place (t, n)) items)

same_look_up : (items : List SealedItem) (t n : ℕ) → answers_of items t n ≡ looked_up items t n
same_look_up items t n = ap (option_map (λ (x : SealedItem). x.answers)) (find-same (is_of t n) (has_key pair_cmp sealed_place (t, n)) (λ x. both_tied _ _ _ _ (unsigned_ties x.tenant t) (unsigned_ties x.number n)) items)

-- ---- lists in that order

is_equal : (r : Ordering) → is_eq r ≡ true → r ≡ Equal
is_equal Less e = cc
is_equal Equal e = refl
is_equal Greater e = cc

not_equal : (r : Ordering) → r ≡ Greater → is_eq r ≡ false
not_equal r e = rw e refl

behind : (a b : ℕ × ℕ) → pair_cmp a b ≡ Less → pair_cmp b a ≡ Greater
behind a b less = rw (pair_total.antisymm b a, less) refl

before : (a b : ℕ × ℕ) → pair_cmp a b ≡ Greater → pair_cmp b a ≡ Less
before a b greater = rw (pair_total.antisymm b a, greater) refl

beside : (a b : ℕ × ℕ) → pair_cmp a b ≡ Equal → pair_cmp b a ≡ Equal
beside a b equal = rw (pair_total.antisymm b a, equal) refl

abbrev Above : ℕ × ℕ → List SealedItem → Type 0
Above k items = AllByRecursion (λ q. pair_cmp k q ≡ Less) (map sealed_place items)

-- a key below all is not found
none_below : (items : List SealedItem) (k : ℕ × ℕ) → Above k items → find (has_key pair_cmp sealed_place k) items ≡ None
none_below [] k all = refl
none_below (y ∷ ys) k all = rw (not_equal (pair_cmp (sealed_place y) k) (behind k (sealed_place y) all.0)) (none_below ys k all.1)

-- what is above a key is above one that it ties with, and above one below it
tied : (k q : ℕ × ℕ) → pair_cmp k q ≡ Equal → (items : List SealedItem) → Above k items → Above q items
tied k q same [] all = tt
tied k q same (z ∷ zs) all = (sym (pair_total.congr k q (sealed_place z) same) ∙ all.0, tied k q same zs all.1)

lower : (k q : ℕ × ℕ) → pair_cmp q k ≡ Less → (items : List SealedItem) → Above k items → Above q items
lower k q less [] all = tt
lower k q less (z ∷ zs) all = (pair_total.trans q k (sealed_place z) less all.0, lower k q less zs all.1)

own : (x : SealedItem) (xs : List SealedItem) → find (has_key pair_cmp sealed_place (sealed_place x)) (x ∷ xs) ≡ Some x
own x xs = rw (same_pair x.tenant x.number) refl

-- two lists in that order in which each key finds the same are the same
pub same_items : (xs ys : List SealedItem) → IsAscending pair_cmp sealed_place xs → IsAscending pair_cmp sealed_place ys → ((k : ℕ × ℕ) → find (has_key pair_cmp sealed_place k) xs ≡ find (has_key pair_cmp sealed_place k) ys) → xs ≡ ys
same_items [] [] a b f = refl
same_items [] (y ∷ ys) a b f = absurd (cc (f (sealed_place y) ∙ own y ys))
same_items (x ∷ xs) [] a b f = absurd (cc (sym (own x xs) ∙ f (sealed_place x)))
same_items (x ∷ xs) (y ∷ ys) a b f = by (pair_cmp (sealed_place x) (sealed_place y)) refl (λ c d g. same_items xs ys c d g)
  where
    above_x : Above (sealed_place x) xs
    above_x = sorted_head pair_cmp (sealed_place x) (map sealed_place xs) a

    above_y : Above (sealed_place y) ys
    above_y = sorted_head pair_cmp (sealed_place y) (map sealed_place ys) b

    first : pair_cmp (sealed_place x) (sealed_place y) ≡ Equal → x ≡ y
    first equal =
        let found : find (has_key pair_cmp sealed_place (sealed_place x)) (y ∷ ys) ≡ Some y = rw (beside (sealed_place x) (sealed_place y) equal) refl in
        cc (sym (own x xs) ∙ (f (sealed_place x) ∙ found))

    rest : x ≡ y → (k : ℕ × ℕ) → find (has_key pair_cmp sealed_place k) xs ≡ find (has_key pair_cmp sealed_place k) ys
    rest same k = on (has_key pair_cmp sealed_place k x) refl
      where
        on : (h : Bool) → has_key pair_cmp sealed_place k x ≡ h → find (has_key pair_cmp sealed_place k) xs ≡ find (has_key pair_cmp sealed_place k) ys
        on true hit =
            let tie = is_equal (pair_cmp (sealed_place x) k) hit in
            none_below xs k (tied (sealed_place x) k tie xs above_x) ∙ sym (none_below ys k (tied (sealed_place x) k tie ys (subst (λ (z : SealedItem). Above (sealed_place z) ys) (sym same) above_y)))
        on false off = rw off at (subst (λ (z : SealedItem). find (has_key pair_cmp sealed_place k) (x ∷ xs) ≡ find (has_key pair_cmp sealed_place k) (z ∷ ys)) (sym same) (f k))

    by : (r : Ordering) → pair_cmp (sealed_place x) (sealed_place y) ≡ r → (IsAscending pair_cmp sealed_place xs → IsAscending pair_cmp sealed_place ys → ((k : ℕ × ℕ) → find (has_key pair_cmp sealed_place k) xs ≡ find (has_key pair_cmp sealed_place k) ys) → xs ≡ ys) → x ∷ xs ≡ y ∷ ys
    by Less is more = absurd (cc (sym (own x xs) ∙ (f (sealed_place x) ∙ none_below (y ∷ ys) (sealed_place x) (is, lower (sealed_place y) (sealed_place x) is ys above_y))))
    by Greater is more =
        let less = before (sealed_place x) (sealed_place y) is in
        absurd (cc (sym (own y ys) ∙ (sym (f (sealed_place y)) ∙ none_below (x ∷ xs) (sealed_place y) (less, lower (sealed_place x) (sealed_place y) less xs above_x))))
    by Equal is more =
        let same = first is in
        ap (λ z. z ∷ xs) same ∙ ap (λ zs. y ∷ zs) (more (sorted_tail pair_cmp (sealed_place x) (map sealed_place xs) a) (sorted_tail pair_cmp (sealed_place y) (map sealed_place ys) b) (rest same))

-- ---- the table by hash

abbrev pub Entry : Type 0
Entry = (ℕ × ℕ) × Answered

abbrev pub eq_key : ℕ × ℕ → ℕ × ℕ → Bool
eq_key a b = nat_eq a.0 b.0 && nat_eq a.1 b.1

pub ascending : (es : List Entry) → IsAscending pair_cmp sealed_place (in_order es)
unfolding IsStrictlySortedBy
ascending [] = tt
ascending (e ∷ es) = ascending-insert_item pair_total sealed_place (in_order es) (item_at e) (ascending es)

tested : (t n : ℕ) (e : Entry) → has_key pair_cmp sealed_place (t, n) (item_at e) ≡ eq_key (t, n) e.0
tested t n e = sym (both_tied _ _ _ _ (unsigned_ties e.0.0 t) (unsigned_ties e.0.1 n)) ∙ (ap (λ b. b && nat_eq e.0.1 n) (nat_eq_equiv.symm e.0.0 t) ∙ ap (λ b. nat_eq t e.0.0 && b) (nat_eq_equiv.symm e.0.1 n))

abbrev item_under : ℕ → ℕ → Answered → SealedItem
item_under t n answers = record { tenant = t; number = n; answers = answers }

first_of : (a b : Bool) → (a && b) ≡ true → a ≡ true
first_of true b e = refl
first_of false b e = e

second_of : (a b : Bool) → (a && b) ≡ true → b ≡ true
second_of true b e = e
second_of false b e = absurd (cc e)

-- each key finds in the list what the table has under it
found_item : (t n : ℕ) (es : List Entry) → find (has_key pair_cmp sealed_place (t, n)) (in_order es) ≡ option_map (item_under t n) (lookup (eq_key (t, n)) es)
found_item t n [] = refl
found_item t n (e ∷ es) = find-after pair_total sealed_place (in_order es) (item_at e) (t, n) ∙ (ap (λ b. cond b (Some (item_at e)) (find (has_key pair_cmp sealed_place (t, n)) (in_order es))) (tested t n e) ∙ by (eq_key (t, n) e.0) refl (found_item t n es))
  where
    by : (b : Bool) → eq_key (t, n) e.0 ≡ b → find (has_key pair_cmp sealed_place (t, n)) (in_order es) ≡ option_map (item_under t n) (lookup (eq_key (t, n)) es)
        → cond b (Some (item_at e)) (find (has_key pair_cmp sealed_place (t, n)) (in_order es)) ≡ option_map (item_under t n) (cond b (Some e.1) (lookup (eq_key (t, n)) es))
    by true is rest =
        let tenant = (unsigned_Decides t e.0.0).0 (first_of (nat_eq t e.0.0) (nat_eq n e.0.1) is) in
        let number = (unsigned_Decides n e.0.1).0 (second_of (nat_eq t e.0.0) (nat_eq n e.0.1) is) in
        ap (λ (k : ℕ). Some (item_under k e.0.1 e.1)) (sym tenant) ∙ ap (λ (k : ℕ). Some (item_under t k e.1)) (sym number)
    by false is rest = rest

answers_in : (t n : ℕ) (o : Option Answered) → option_map (λ (x : SealedItem). x.answers) (option_map (item_under t n) o) ≡ o
answers_in t n None = refl
answers_in t n (Some a) = refl

pub answers-found : (es : List Entry) (t n : ℕ) → answers_of (in_order es) t n ≡ lookup (eq_key (t, n)) es
answers-found es t n = same_look_up (in_order es) t n ∙ (ap (option_map (λ (x : SealedItem). x.answers)) (found_item t n es) ∙ answers_in t n (lookup (eq_key (t, n)) es))

-- tables in which each key finds the same are seen as the same list
pub same_list : (es fs : List Entry) → ((k : ℕ × ℕ) → lookup (eq_key k) es ≡ lookup (eq_key k) fs) → in_order es ≡ in_order fs
same_list es fs f = same_items (in_order es) (in_order fs) (ascending es) (ascending fs) (λ k. found_item k.0 k.1 es ∙ (ap (option_map (item_under k.0 k.1)) (f k) ∙ sym (found_item k.0 k.1 fs)))

-- a key of another report is another
pub other_key : (t n u m : ℕ) → (u ≢ t) ⊎ (m ≢ n) → eq_key (t, n) (u, m) ≡ false
other_key t n u m other = by (eq_key (t, n) (u, m)) refl other
  where
    by : (b : Bool) → eq_key (t, n) (u, m) ≡ b → (u ≢ t) ⊎ (m ≢ n) → b ≡ false
    by false is o = refl
    by true is (inl ne) = absurd (ne (sym ((unsigned_Decides t u).0 (first_of (nat_eq t u) (nat_eq n m) is))))
    by true is (inr ne) = absurd (ne (sym ((unsigned_Decides n m).0 (second_of (nat_eq t u) (nat_eq n m) is))))

-- ---- what an Ok gives

pub on_ok : {T E P : Type 0} (r : Result T E) (x : T) → r ≡ Ok x → OnOk r P → P
on_ok (Ok y) x is p = p
on_ok (Err e) x is p = absurd (cc is)
