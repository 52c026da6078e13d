-- JSON values that their compact text gives back: whole numbers of 64 bits, keys that ascend, and no deeper than a number of levels.
use Rattle.std.proofs.Common.{◌≡◌, ℕ, ◌^◌, ◌<◌, ◌≤◌, suc, Bool, true, false, List, [], ◌∷◌, ◌++◌, map, pos, negsuc, refl, ap, ◌∙◌, arith}
use Rattle.std.specs.Prelude.{⊤}
use Rattle.std.specs.List.{list_all}
use Rattle.std.specs.Ordering.{nat_cmp, ordering_reverse}
use Rattle.std.specs.declared.cmp.Ordering.{Ordering}
use Rattle.std.specs.declared.cmp.Ordering.TheVariants.{Less, Equal, Greater}
use Rattle.std.specs.Cmp.Lexicographic.{slice_cmp}
use Rattle.std.proofs.Math.Nat.{le-max_left, le-max_right, max-le}
use Rattle.std.proofs.lemmas.Bool.{and_parts}
use Rattle.std.proofs.lemmas.Cmp.{nat_list_cmp_total}
use Rattle.serde_json.specs.Data.{Num, unsigned, negative, float, Data, null, boolean, number, string, array, object, Items, no_items, item, Members, no_members, member, put, depth, items_depth, members_depth}
use Rattle.serde_json.specs.View.{items_of}
use Rattle.wb_model.specs.Json.{Member, members_of, object_of, list_of}
use Rattle.wb_model.specs.Rows.{only_where}
use Rattle.wb_model.proofs.ReadAnswers.{before_later, before_put}

abbrev pub IsWhole : Num → Type 0
IsWhole (unsigned n) = n < 2 ^ 64
IsWhole (negative (pos n)) = ⊥
IsWhole (negative (negsuc n)) = n < 2 ^ 63
IsWhole (float x) = ⊥

-- the key comes before each key of the members
abbrev pub IsBefore : List ℕ → Members → Type 0
IsBefore k no_members = ⊤
IsBefore k (member l d ms) = (slice_cmp nat_cmp k l ≡ Less) × IsBefore k ms

abbrev mutual
  pub IsCanonical : Data → Type 0
  IsCanonical null = ⊤
  IsCanonical (boolean b) = ⊤
  IsCanonical (number n) = IsWhole n
  IsCanonical (string s) = ⊤
  IsCanonical (array ds) = ItemsAreCanonical ds
  IsCanonical (object ms) = MembersAreCanonical ms

  pub ItemsAreCanonical : Items → Type 0
  ItemsAreCanonical no_items = ⊤
  ItemsAreCanonical (item d ds) = IsCanonical d × ItemsAreCanonical ds

  pub MembersAreCanonical : Members → Type 0
  MembersAreCanonical no_members = ⊤
  MembersAreCanonical (member k d ms) = IsBefore k ms × IsCanonical d × MembersAreCanonical ms

-- ---- members that are put

put_canonical : (k : List ℕ) (d : Data) (ms : Members) → IsCanonical d → MembersAreCanonical ms → MembersAreCanonical (put k d ms)
put_canonical k d no_members own are = (tt, own, tt)
put_canonical k d (member l e ms) own are = by (slice_cmp nat_cmp k l) refl (put_canonical k d ms own are.2)
  where
    by : (o : Ordering) → slice_cmp nat_cmp k l ≡ o → MembersAreCanonical (put k d ms) → MembersAreCanonical (put k d (member l e ms))
    by Less is more = rw is ((is, before_later k l ms is are.0), own, are)
    by Equal is more = rw is (are.0, own, are.2)
    by Greater is more =
        let less : slice_cmp nat_cmp l k ≡ Less = nat_list_cmp_total.antisymm l k ∙ ap ordering_reverse is in
        rw is (before_put l k d ms less are.0, are.1, more)

put_depth : (k : List ℕ) (d : Data) (ms : Members) (n : ℕ) → depth d ≤ n → members_depth ms ≤ n → members_depth (put k d ms) ≤ n
put_depth k d no_members n own are = max-le own are
put_depth k d (member l e ms) n own are =
    let one = le-max_left (depth e) (members_depth ms) in
    let rest = le-max_right (depth e) (members_depth ms) in
    by (slice_cmp nat_cmp k l) refl (omega (arith, one, are)) (omega (arith, rest, are)) (λ le. put_depth k d ms n own le)
  where
    by : (o : Ordering) → slice_cmp nat_cmp k l ≡ o → depth e ≤ n → members_depth ms ≤ n → (members_depth ms ≤ n → members_depth (put k d ms) ≤ n) → members_depth (put k d (member l e ms)) ≤ n
    by Less is one rest more = rw is (max-le own are)
    by Equal is one rest more = rw is (max-le own rest)
    by Greater is one rest more = rw is (max-le one (more rest))

-- ---- values of so many levels at most

abbrev pub IsWithin : ℕ → Data → Type 0
IsWithin n d = IsCanonical d × (depth d ≤ n)

abbrev pub MembersAreWithin : ℕ → Members → Type 0
MembersAreWithin n ms = MembersAreCanonical ms × (members_depth ms ≤ n)

pub within-null : (n : ℕ) → IsWithin n null
within-null n = (tt, omega arith)

pub within-flag : (n : ℕ) (b : Bool) → IsWithin n (boolean b)
within-flag n b = (tt, omega arith)

pub within-string : (n : ℕ) (s : List ℕ) → IsWithin n (string s)
within-string n s = (tt, omega arith)

pub within-number : (n : ℕ) (x : Num) → IsWhole x → IsWithin n (number x)
within-number n x is = (is, omega arith)

pub within-none : (n : ℕ) → MembersAreWithin n no_members
within-none n = (tt, omega arith)

pub within-put : (n : ℕ) (k : List ℕ) (d : Data) (ms : Members) → IsWithin n d → MembersAreWithin n ms → MembersAreWithin n (put k d ms)
within-put n k d ms own are = (put_canonical k d ms own.0 are.0, put_depth k d ms n own.1 are.1)

pub within-members : (n : ℕ) (ms : Members) → MembersAreWithin n ms → IsWithin (suc n) (object ms)
within-members n ms are = (are.0, omega (arith, are.1))

-- each value of these members
abbrev pub AreWithin : ℕ → List Member → Type 0
AreWithin n [] = ⊤
AreWithin n (m ∷ ms) = IsWithin n m.1 × AreWithin n ms

pub within-append : (n : ℕ) (xs ys : List Member) → AreWithin n xs → AreWithin n ys → AreWithin n (xs ++ ys)
within-append n [] ys a b = b
within-append n (x ∷ xs) ys a b = (a.0, within-append n xs ys a.1 b)

-- a member that stands only where it is another than the default
pub within-where : (n : ℕ) (is_other : Bool) (m : Member) → IsWithin n m.1 → AreWithin n (only_where is_other m)
within-where n true m own = (own, tt)
within-where n false m own = tt

pub all-put : (n : ℕ) (ms : List Member) → AreWithin n ms → MembersAreWithin n (members_of ms)
all-put n [] are = within-none n
all-put n (m ∷ ms) are = within-put n m.0 m.1 (members_of ms) are.0 (all-put n ms are.1)

pub within-object : (n : ℕ) (ms : List Member) → AreWithin n ms → IsWithin (suc n) (object_of ms)
within-object n ms are = within-members n (members_of ms) (all-put n ms are)

module _ {X : Type 0} (show : X → Data) (test : X → Bool) (n : ℕ) (within : (x : X) → test x ≡ true → IsWithin n (show x)) where
  pub within-items : (xs : List X) → list_all test xs ≡ true → ItemsAreCanonical (items_of (map show xs)) × (items_depth (items_of (map show xs)) ≤ n)
  within-items [] all = (tt, omega arith)
  within-items (x ∷ xs) all =
      let parts = and_parts (test x) (list_all test xs) all in
      let one = within x parts.0 in
      let rest = within-items xs parts.1 in
      ((one.0, rest.0), max-le one.1 rest.1)

  pub within-list : (xs : List X) → list_all test xs ≡ true → IsWithin (suc n) (list_of show xs)
  within-list xs all = let are = within-items xs all in (are.0, omega (arith, are.1))

abbrev any : {X : Type 0} → X → Bool
any x = true

any_all : {X : Type 0} (xs : List X) → list_all any xs ≡ true
any_all [] = refl
any_all (x ∷ xs) = any_all xs

pub within-any : {X : Type 0} (show : X → Data) (n : ℕ) → ((x : X) → IsWithin n (show x)) → (xs : List X) → IsWithin (suc n) (list_of show xs)
within-any show n within xs = within-list show any n (λ x e. within x) xs (any_all xs)
