-- Told rows: lists by ascending key, and what changes make of them.
use Rattle.std.proofs.Common.{◌≡◌, ◌≢◌, ◌⊎◌, inl, inr, ℕ, ℤ, Bool, true, false, not, ◌&&◌, ◌||◌, ◌==◌, List, [], ◌∷◌, map, filter, Ordering, Less, Equal, Greater, refl, sym, ap, ap₂, subst, ◌∙◌, arith}
use Rattle.std.specs.Cmp.{tied_itself}
use Rattle.std.specs.List.{AllByRecursion}
use Rattle.std.specs.List.Sorted.{IsStrictlySortedBy}
use Rattle.std.specs.Ordering.{nat_cmp, ordering_then, ordering_reverse, match_ordering}
use Rattle.std.proofs.lemmas.Bool.Decides.{nat_tests}
use Rattle.sqlite_value.specs.Order.{Row as SqlRow}
use Rattle.sqlite_rules.specs.Lists.{Has}
use Rattle.sqlite_rules.proofs.ListLemmas.{has_filtered, has_kept}
use Rattle.wb_list.specs.Keyed.{IsAscending, insert_item}
use Rattle.wb_list.proofs.KeyedLemmas.{ascending-insert_item, ascending-filter}
use Rattle.wb_base.specs.declared.rows.Key.{Key}
use Rattle.wb_base.specs.declared.rows.Row.{Row}
use Rattle.wb_base.specs.KeptRows.{key_cmp, key_of, is_of_report}
use Rattle.wb_stored.specs.Told.{stored_record, stored_sealed, IsOfRecord, IsOfSealed, AreTold}
use Rattle.wb_stored.proofs.Texts.{trail_terms, answers_terms}
use Rattle.wb_stored.proofs.Parts.{passes}
use Rattle.wb_stored.proofs.Kept.{IsPut, filter_kept}
use Rattle.wb_stored.proofs.Values.{key_is, record_back, sealed_back, report_given, trail_passes, answers_pass}
use Rattle.wb_base.proofs.RowKeys.{key_total}

then_tie : (o p : Ordering) → ordering_then o p ≡ Equal → (o ≡ Equal) × (p ≡ Equal)
then_tie Less p e = absurd cc
then_tie Equal p e = (refl, e)
then_tie Greater p e = absurd cc

nat_tie : (m n : ℕ) → nat_cmp m n ≡ Equal → m ≡ n
nat_tie m n e = grind (arith, nat_tests)

tie_is : (k m : Key) → key_cmp k m ≡ Equal → k ≡ m
tie_is k m e =
    let p = then_tie (nat_cmp k.kind m.kind) _ e in
    let q = then_tie (nat_cmp k.tenant m.tenant) _ p.1 in
    let r = then_tie (nat_cmp k.a m.a) _ q.1 in
    key_is k m (nat_tie _ _ p.0) (nat_tie _ _ q.0) (nat_tie _ _ r.0) (nat_tie _ _ r.1)

less_apart : (k m : Key) → key_cmp k m ≡ Less → k ≢ m
less_apart k m less same = let e = tied_itself key_total m in let f : key_cmp m m ≡ Less = subst (λ n. key_cmp n m ≡ Less) same less in cc

never_both : (k m : Key) → key_cmp k m ≡ Less → key_cmp m k ≡ Less → ⊥
never_both k m p q = let e = key_total.antisymm k m ∙ ap ordering_reverse q in cc

below : (k : Key) (rows : List Row) (x : Row) → AllByRecursion (λ m. key_cmp k m ≡ Less) (map key_of rows) → Has rows x → key_cmp k x.key ≡ Less
below k (r ∷ rows) x all (inl e) = subst (λ (y : Row). key_cmp k y.key ≡ Less) (sym e) all.0
below k (r ∷ rows) x all (inr h) = below k rows x all.1 h
below k [] x all h = absurd h

-- two ascending lists with the same rows are one
pub same_list : (xs ys : List Row) → IsAscending key_cmp key_of xs → IsAscending key_cmp key_of ys → ((r : Row) → Has xs r → Has ys r) → ((r : Row) → Has ys r → Has xs r) → xs ≡ ys
unfolding IsStrictlySortedBy
same_list [] [] p q a b = refl
same_list [] (y ∷ ys) p q a b = absurd (b y (inl refl))
same_list (x ∷ xs) [] p q a b = absurd (a x (inl refl))
same_list (x ∷ xs) (y ∷ ys) p q a b =
    let first : x ≡ y = elim (a x (inl refl)) [
      | inl e ↦ e
      | inr later ↦ elim (b y (inl refl)) [ inl e ↦ sym e | inr also ↦ absurd (never_both x.key y.key (below x.key xs y p.0 also) (below y.key ys x q.0 later)) ]
    ] in
    ap₂ ◌∷◌ first (same_list xs ys p.1 q.1
    (λ r h. elim (a r (inr h)) [ inl e ↦ absurd (less_apart x.key r.key (below x.key xs r p.0 h) (ap (λ (z : Row). z.key) (first ∙ sym e))) | inr k ↦ k ])
    (λ r h. elim (b r (inr h)) [ inl e ↦ absurd (less_apart y.key r.key (below y.key ys r q.0 h) (ap (λ (z : Row). z.key) (sym first ∙ sym e))) | inr k ↦ k ]))

pub inserted_there : (xs : List Row) (x : Row) → Has (insert_item key_cmp key_of xs x) x
inserted_there [] x = inl refl
inserted_there (z ∷ zs) x = elim (key_cmp z.key x.key) as (λ o. Has (match_ordering o (z ∷ insert_item key_cmp key_of zs x) (x ∷ zs) (x ∷ z ∷ zs)) x) [
  | Less ↦ inr (inserted_there zs x)
  | Equal ↦ inl refl
  | Greater ↦ inl refl
]

pub has_inserted : (xs : List Row) (x y : Row) → Has xs y → y.key ≢ x.key → Has (insert_item key_cmp key_of xs x) y
has_inserted [] x y h other = absurd h
has_inserted (z ∷ zs) x y h other = elim (key_cmp z.key x.key) as (λ o. key_cmp z.key x.key ≡ o → Has (match_ordering o (z ∷ insert_item key_cmp key_of zs x) (x ∷ zs) (x ∷ z ∷ zs)) y) [
  | Less ↦ λ e. elim h [ inl same ↦ inl same | inr later ↦ inr (has_inserted zs x y later other) ]
  | Equal ↦ λ e. elim h [ inl same ↦ absurd (other (ap (λ (w : Row). w.key) same ∙ tie_is z.key x.key e)) | inr later ↦ inr later ]
  | Greater ↦ λ e. inr h
] refl

flip_Greater : (k m : Key) → key_cmp k m ≡ Greater → key_cmp m k ≡ Less
flip_Greater k m e = key_total.antisymm m k ∙ ap ordering_reverse e

apart_back : (k m : Key) → k ≢ m → m ≢ k
apart_back k m other same = other (sym same)

pub inserted_has : (xs : List Row) (x y : Row) → IsAscending key_cmp key_of xs → Has (insert_item key_cmp key_of xs x) y → (y ≡ x) ⊎ (Has xs y × (y.key ≢ x.key))
unfolding IsStrictlySortedBy
inserted_has [] x y up h = elim h [ inl e ↦ inl e | inr none ↦ absurd none ]
inserted_has (z ∷ zs) x y up h = elim (key_cmp z.key x.key) as (λ o. key_cmp z.key x.key ≡ o → Has (match_ordering o (z ∷ insert_item key_cmp key_of zs x) (x ∷ zs) (x ∷ z ∷ zs)) y → (y ≡ x) ⊎ (Has (z ∷ zs) y × (y.key ≢ x.key))) [
  | Less ↦ λ e k. elim k [
    | inl same ↦ inr (inl same, λ key. less_apart z.key x.key e (sym (ap (λ (w : Row). w.key) same) ∙ key))
    | inr later ↦ elim (inserted_has zs x y up.1 later) [ inl new ↦ inl new | inr old ↦ inr (inr old.0, old.1) ]
  ]
  | Equal ↦ λ e k. elim k [
    | inl new ↦ inl new
    | inr later ↦ inr (inr later, λ key. less_apart z.key y.key (below z.key zs y up.0 later) (tie_is z.key x.key e ∙ sym key))
  ]
  | Greater ↦ λ e k. elim k [
    | inl new ↦ inl new
    | inr old ↦ inr (
      old,
      elim old [
        | inl same ↦ λ key. less_apart x.key z.key (flip_Greater z.key x.key e) (sym key ∙ ap (λ (w : Row). w.key) same)
        | inr later ↦ λ key. less_apart x.key y.key (key_total.trans x.key z.key y.key (flip_Greater z.key x.key e) (below z.key zs y up.0 later)) (sym key)
      ],
    )
  ]
] refl h

-- ---- what the tables tell after a change

kinds_apart : (x y : Row) → IsOfRecord x → IsOfSealed y → x.key ≢ y.key
kinds_apart x y p q same = p (ap (λ (k : Key). k.kind) same ∙ q.0)

abbrev pub PutsRecord : List SqlRow → List SqlRow → Row → Type 0
PutsRecord = IsPut stored_record IsOfRecord (λ id x. refl) record_back

abbrev pub PutsSealed : List SqlRow → List SqlRow → Row → Type 0
PutsSealed = IsPut stored_sealed IsOfSealed (λ id x. refl) sealed_back

pub told_put_record : (records sealed left : List SqlRow) (rows : List Row) (row : Row) → IsOfRecord row → AreTold records sealed rows → PutsRecord records left row → AreTold left sealed (insert_item key_cmp key_of rows row)
told_put_record records sealed left rows row of told put = record {
  record_kept = put.kept;
  sealed_kept = told.sealed_kept;
  ascending = ascending-insert_item key_total key_of rows row told.ascending;
  each = λ x. (
    λ h. elim (inserted_has rows row x told.ascending h) [
      | inl new ↦ inl ((put.each x).1 (inl new))
      | inr old ↦ elim ((told.each x).0 old.0) [ inl s ↦ inl ((put.each x).1 (inr (s, old.1))) | inr s ↦ inr s ]
    ],
    λ s. elim s [
      | inl here ↦ elim ((put.each x).0 here) [
        | inl new ↦ subst (Has (insert_item key_cmp key_of rows row)) (sym new) (inserted_there rows row)
        | inr old ↦ has_inserted rows row x ((told.each x).1 (inl old.0)) old.1
      ]
      | inr there ↦ has_inserted rows row x ((told.each x).1 (inr there)) (λ key. kinds_apart row x of there.1 (sym key))
    ],
  );
}

pub told_put_sealed : (records sealed left : List SqlRow) (rows : List Row) (row : Row) → IsOfSealed row → AreTold records sealed rows → PutsSealed sealed left row → AreTold records left (insert_item key_cmp key_of rows row)
told_put_sealed records sealed left rows row of told put = record {
  record_kept = told.record_kept;
  sealed_kept = put.kept;
  ascending = ascending-insert_item key_total key_of rows row told.ascending;
  each = λ x. (
    λ h. elim (inserted_has rows row x told.ascending h) [
      | inl new ↦ inr ((put.each x).1 (inl new))
      | inr old ↦ elim ((told.each x).0 old.0) [ inl s ↦ inl s | inr s ↦ inr ((put.each x).1 (inr (s, old.1))) ]
    ],
    λ s. elim s [
      | inl here ↦ has_inserted rows row x ((told.each x).1 (inl here)) (λ key. kinds_apart x row here.1 of key)
      | inr there ↦ elim ((put.each x).0 there) [
        | inl new ↦ subst (Has (insert_item key_cmp key_of rows row)) (sym new) (inserted_there rows row)
        | inr old ↦ has_inserted rows row x ((told.each x).1 (inr old.0)) old.1
      ]
    ],
  );
}

trail_is : (k m : Bool) (t a : Bool) → m ≡ false → (k && (t && (a && true))) ≡ ((k || m) && t && a)
trail_is true m true true e = refl
trail_is true m true false e = refl
trail_is true m false a e = refl
trail_is false m t a e = rw e refl

answers_is : (k m : Bool) (t a : Bool) → m ≡ true → (t && (a && true)) ≡ ((k || m) && t && a)
answers_is true m true true e = refl
answers_is true m true false e = refl
answers_is true m false a e = refl
answers_is false m true true e = rw e refl
answers_is false m true false e = rw e refl
answers_is false m false a e = rw e refl

pub trail_gone : (tenant number : ℕ) (id : ℤ) (x : Row) → IsOfRecord x → passes trail_terms (report_given tenant number) (stored_record id x) ≡ is_of_report tenant number x.key
trail_gone tenant number id x of = trail_passes tenant number id x ∙ trail_is (x.key.kind == 6) (x.key.kind == 7) (x.key.tenant == tenant) (x.key.a == number) (grind (arith, nat_tests))

pub answers_gone : (tenant number : ℕ) (id : ℤ) (x : Row) → IsOfSealed x → passes answers_terms (report_given tenant number) (stored_sealed id x) ≡ is_of_report tenant number x.key
answers_gone tenant number id x of = answers_pass tenant number id x ∙ answers_is (x.key.kind == 6) (x.key.kind == 7) (x.key.tenant == tenant) (x.key.a == number) (rw of.0 refl)

pub told_drop : (records sealed : List SqlRow) (rows : List Row) (tenant number : ℕ) → AreTold records sealed rows
    → AreTold (filter (λ c. not (passes trail_terms (report_given tenant number) c)) records) (filter (λ c. not (passes answers_terms (report_given tenant number) c)) sealed) (filter (λ row. not (is_of_report tenant number row.key)) rows)
told_drop records sealed rows tenant number told =
    let gone = λ (row : Row). not (is_of_report tenant number row.key) in
    let trail = λ (c : SqlRow). not (passes trail_terms (report_given tenant number) c) in
    let answers = λ (c : SqlRow). not (passes answers_terms (report_given tenant number) c) in record {
      record_kept = filter_kept stored_record IsOfRecord (λ id x. refl) record_back trail records told.record_kept;
      sealed_kept = filter_kept stored_sealed IsOfSealed (λ id x. refl) sealed_back answers sealed told.sealed_kept;
      ascending = ascending-filter key_cmp key_of gone rows told.ascending;
      each = λ x. (
        λ h.
            let k = has_filtered gone rows x h in
            elim ((told.each x).0 k.0) [
              | inl s ↦ inl (s.0, s.1, has_kept trail records (stored_record s.0 x) s.2 (ap not (trail_gone tenant number s.0 x s.1) ∙ k.1))
              | inr s ↦ inr (s.0, s.1, has_kept answers sealed (stored_sealed s.0 x) s.2 (ap not (answers_gone tenant number s.0 x s.1) ∙ k.1))
            ],
        λ s. elim s [
          | inl here ↦
              let k = has_filtered trail records (stored_record here.0 x) here.2 in
              has_kept gone rows x ((told.each x).1 (inl (here.0, here.1, k.0))) (sym (ap not (trail_gone tenant number here.0 x here.1)) ∙ k.1)
          | inr there ↦
              let k = has_filtered answers sealed (stored_sealed there.0 x) there.2 in
              has_kept gone rows x ((told.each x).1 (inr (there.0, there.1, k.0))) (sym (ap not (answers_gone tenant number there.0 x there.1)) ∙ k.1)
        ],
      );
    }
