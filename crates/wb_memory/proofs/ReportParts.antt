-- The rows of a report: the rows of each of its two kinds lie side by side, and are all its rows.
use Rattle.std.proofs.Common.{◌≡◌, ℕ, ◌==◌, ◌&&◌, ◌||◌, Bool, true, false, not, filter, List, [], ◌∷◌, cond, refl, sym, ap, ◌∙◌}
use Rattle.std.specs.Cmp.{nat_cmp_total, unsigned_ties}
use Rattle.std.specs.Ordering.{nat_cmp, ordering_then, ordering_reverse, is_eq}
use Rattle.std.specs.declared.cmp.Ordering.{Ordering}
use Rattle.std.specs.declared.cmp.Ordering.TheVariants.{Less, Equal, Greater}
use Rattle.std.proofs.lemmas.List.Elements.{filter_agree}
use Rattle.wb_list.specs.Keyed.{IsRun}
use Rattle.wb_base.specs.declared.rows.Row.{Row}
use Rattle.wb_base.specs.KeptRows.{key_cmp, key_of, is_of_report}
use Rattle.wb_memory.specs.Parts.{is_of_part}

turned_up : (a b : ℕ) → nat_cmp a b ≡ Less → nat_cmp b a ≡ Greater
turned_up a b e = nat_cmp_total.antisymm b a ∙ ap ordering_reverse e

turned_down : (a b : ℕ) → nat_cmp a b ≡ Greater → nat_cmp b a ≡ Less
turned_down a b e = nat_cmp_total.antisymm b a ∙ ap ordering_reverse e

-- one number more in front of an order: what is below what is below
pub before_then : (a b t : ℕ) (o p q : Ordering) → (o ≡ Less → p ≡ Less → q ≡ Less) → ordering_then (nat_cmp a b) o ≡ Less → ordering_then (nat_cmp b t) p ≡ Less → ordering_then (nat_cmp a t) q ≡ Less
before_then a b t o p q rest less below =
    elim (nat_cmp a b) as (λ r. nat_cmp a b ≡ r → ordering_then r o ≡ Less → ordering_then (nat_cmp a t) q ≡ Less) [
      | Less ↦ λ here _.
          elim (nat_cmp b t) as (λ r. nat_cmp b t ≡ r → ordering_then r p ≡ Less → ordering_then (nat_cmp a t) q ≡ Less) [
            | Less ↦ λ there _. rw (nat_cmp_total.trans a b t here there) refl
            | Equal ↦ λ there _. rw (nat_cmp_total.antisymm a t ∙ ap ordering_reverse (nat_cmp_total.congr t b a (nat_cmp_total.antisymm t b ∙ ap ordering_reverse there) ∙ turned_up a b here)) refl
            | Greater ↦ λ _ e. cc
          ] refl below
      | Equal ↦ λ here e. rw (nat_cmp_total.congr a b t here) (swap (nat_cmp b t) (rest e) below)
      | Greater ↦ λ _ e. cc
    ] refl less
  where
    swap : (r : Ordering) → (p ≡ Less → q ≡ Less) → ordering_then r p ≡ Less → ordering_then r q ≡ Less
    swap Less f e = refl
    swap Equal f e = f e
    swap Greater f e = cc

-- and above what is above
pub after_then : (a b t : ℕ) (o p q : Ordering) → (o ≡ Less → p ≡ Greater → q ≡ Greater) → ordering_then (nat_cmp a b) o ≡ Less → ordering_then (nat_cmp a t) p ≡ Greater → ordering_then (nat_cmp b t) q ≡ Greater
after_then a b t o p q rest less above =
    elim (nat_cmp a b) as (λ r. nat_cmp a b ≡ r → ordering_then r o ≡ Less → ordering_then (nat_cmp b t) q ≡ Greater) [
      | Less ↦ λ here _.
          elim (nat_cmp a t) as (λ r. nat_cmp a t ≡ r → ordering_then r p ≡ Greater → ordering_then (nat_cmp b t) q ≡ Greater) [
            | Less ↦ λ _ e. cc
            | Equal ↦ λ there _. rw (turned_up t b (sym (nat_cmp_total.congr a t b there) ∙ here)) refl
            | Greater ↦ λ there _. rw (turned_up t b (nat_cmp_total.trans t a b (turned_down a t there) here)) refl
          ] refl above
      | Equal ↦ λ here e. rw (sym (nat_cmp_total.congr a b t here)) (swap (nat_cmp a t) (rest e) above)
      | Greater ↦ λ _ e. cc
    ] refl less
  where
    swap : (r : Ordering) → (p ≡ Greater → q ≡ Greater) → ordering_then r p ≡ Greater → ordering_then r q ≡ Greater
    swap Less f e = cc
    swap Equal f e = f e
    swap Greater f e = refl

then_equal : (r : Ordering) → ordering_then r Equal ≡ r
then_equal Less = refl
then_equal Equal = refl
then_equal Greater = refl

all_tie : (r s t : Ordering) → (is_eq r && is_eq s && is_eq t) ≡ is_eq (ordering_then r (ordering_then s t))
all_tie Less s t = refl
all_tie Equal Less t = refl
all_tie Equal Equal t = refl
all_tie Equal Greater t = refl
all_tie Greater s t = refl

all_equal : (a b c : Bool) (r s t : Ordering) → a ≡ is_eq r → b ≡ is_eq s → c ≡ is_eq t → (a && b && c) ≡ is_eq (ordering_then r (ordering_then s t))
all_equal a b c r s t p q u = ap (λ x. x && b && c) p ∙ (ap (λ x. is_eq r && x && c) q ∙ (ap (λ x. is_eq r && is_eq s && x) u ∙ all_tie r s t))

module _ (kind tenant number : ℕ) where
  abbrev pub side : Row → Ordering
  side row = ordering_then (nat_cmp row.key.kind kind) (ordering_then (nat_cmp row.key.tenant tenant) (nat_cmp row.key.a number))

  last_before : (a b : ℕ) (o : Ordering) → ordering_then (nat_cmp a b) o ≡ Less → nat_cmp b number ≡ Less → nat_cmp a number ≡ Less
  last_before a b o less below =
      sym (then_equal (nat_cmp a number)) ∙ before_then a b number o Equal Equal (λ _ e. e) less (then_equal (nat_cmp b number) ∙ below)

  last_after : (a b : ℕ) (o : Ordering) → ordering_then (nat_cmp a b) o ≡ Less → nat_cmp a number ≡ Greater → nat_cmp b number ≡ Greater
  last_after a b o less above =
      sym (then_equal (nat_cmp b number)) ∙ after_then a b number o Equal Equal (λ _ e. e) less (then_equal (nat_cmp a number) ∙ above)

  pub part_is_run : IsRun key_cmp key_of side
  part_is_run = record {
    before = λ x y less below.
        before_then x.key.kind y.key.kind kind _ _ _
        (λ rest under. before_then x.key.tenant y.key.tenant tenant _ _ _ (λ last low. last_before x.key.a y.key.a (nat_cmp x.key.b y.key.b) last low) rest under)
        less below;
    after = λ x y less above.
        after_then x.key.kind y.key.kind kind _ _ _
        (λ rest over. after_then x.key.tenant y.key.tenant tenant _ _ _ (λ last high. last_after x.key.a y.key.a (nat_cmp x.key.b y.key.b) last high) rest over)
        less above;
  }

  part_ties : (row : Row) → is_eq (side row) ≡ is_of_part kind tenant number row.key
  part_ties row =
      sym (all_equal (row.key.kind == kind) (row.key.tenant == tenant) (row.key.a == number) (nat_cmp row.key.kind kind) (nat_cmp row.key.tenant tenant) (nat_cmp row.key.a number) (unsigned_ties row.key.kind kind) (unsigned_ties row.key.tenant tenant) (unsigned_ties row.key.a number))

  -- the rows that are not of the part
  pub part_dropped : (rows : List Row) → filter (λ row. not (is_eq (side row))) rows ≡ filter (λ row. not (is_of_part kind tenant number row.key)) rows
  part_dropped rows = filter_agree (λ row. not (is_eq (side row))) (λ row. not (is_of_part kind tenant number row.key)) (λ row. ap not (part_ties row)) rows

filter_twice : {X : Type 0} (p q : X → Bool) (xs : List X) → filter q (filter p xs) ≡ filter (λ x. p x && q x) xs
filter_twice p q [] = refl
filter_twice p q (x ∷ xs) =
    elim (p x) as (λ b. filter q (cond b (x ∷ filter p xs) (filter p xs)) ≡ cond (b && q x) (x ∷ filter (λ y. p y && q y) xs) (filter (λ y. p y && q y) xs)) [
      | true ↦ ap (λ t. cond (q x) (x ∷ t) t) (filter_twice p q xs)
      | false ↦ filter_twice p q xs
    ]

neither : (a b c d : Bool) → (not (a && c && d) && not (b && c && d)) ≡ not ((a || b) && c && d)
neither true true true true = refl
neither true true true false = refl
neither true true false d = refl
neither true false true true = refl
neither true false true false = refl
neither true false false d = refl
neither false true true true = refl
neither false true true false = refl
neither false true false d = refl
neither false false c d = refl

-- without the rows of the two kinds, one after the other
pub report_dropped : (tenant number : ℕ) (rows : List Row) → filter (λ row. not (is_of_part 7 tenant number row.key)) (filter (λ row. not (is_of_part 6 tenant number row.key)) rows) ≡ filter (λ row. not (is_of_report tenant number row.key)) rows
report_dropped tenant number rows =
    filter_twice (λ row. not (is_of_part 6 tenant number row.key)) (λ row. not (is_of_part 7 tenant number row.key)) rows
    ∙ filter_agree (λ row. not (is_of_part 6 tenant number row.key) && not (is_of_part 7 tenant number row.key)) (λ row. not (is_of_report tenant number row.key)) (λ row. neither (row.key.kind == 6) (row.key.kind == 7) (row.key.tenant == tenant) (row.key.a == number)) rows
