-- The rows after the batch of a turn are those of the tables after it.
use Rattle.std.proofs.Common.{◌≡◌, inl, inr, ℕ, ◌<◌, ◌+◌, false, zero, suc, List, [], ◌∷◌, ◌++◌, length, map, set, get_or, refl, sym, ap, ◌∙◌, subst, arith}
use Rattle.std.specs.Prelude.{All}
use Rattle.std.proofs.lemmas.List.Elements.{All-append}
use Rattle.std.proofs.lemmas.Bool.Decides.{nat_tests}
use Rattle.wb_base.specs.KeptRows.{all_changed, IsGoodChange}
use Rattle.wb_base.specs.declared.rows.Change.{Change as RowChange}
use Rattle.wb_custody.specs.declared.sealed.SealedItem.{SealedItem}
use Rattle.wb_model.specs.Opened.{AtMost}
use Rattle.wb_model.specs.Rows.{rows_of}
use Rattle.wb_model.specs.Tables.{Case, has_number, is_there}
use Rattle.wb_model.specs.Tenants.{Tenancy}
use Rattle.wb_model.proofs.Found.{Held}
use Rattle.wb_model.proofs.TurnRows.{changed_append}
use Rattle.wb_commands.specs.declared.mutation.Mutation.{Mutation}
use Rattle.wb_commands.specs.Plans.{IsFit}
use Rattle.wb_tables.specs.Dead.{any_dead}
use Rattle.wb_tables.specs.Kept.{PlainTenancy, place_of, tables_of, tenancy_of, purged_tenancy}
use Rattle.wb_tables.specs.Places.{IsPlace, ArePlaces}
use Rattle.wb_tables.specs.declared.tenancy.Tenancy.{Tenancy as KeptTenancy}
use Rattle.wb_tables.proofs.PlacesAt.{place_at}
use Rattle.wb_tables.proofs.Purges.{same_tables, tenancies_above, AreOthers}
use Rattle.wb_commands.specs.Puts.{puts_of}
use Rattle.wb_desk.specs.Puts.{IsBatch}
use Rattle.wb_desk.specs.Ready.{IsMadeAt}
use Rattle.wb_desk.proofs.ChangeRows.{IsPuttable, IsRowed, as_place, made_one, change_rows, good_puts, live_puts}
use Rattle.wb_desk.proofs.Tenants.{id_above}
use Rattle.wb_desk.proofs.Whole.{IsPurge, IsLiveAt, places_left, live_at}

-- ---- the tenant at a place, and those before and after it

held_above : (turns k : ℕ) (items : List SealedItem) (xs : List PlainTenancy) (x : Tenancy) → ArePlaces turns k items xs → Held x (map (tenancy_of items) xs) → k < x.id
held_above turns k items [] x all held = absurd held
held_above turns k items (y ∷ ys) x all (inl e) = subst (λ (z : Tenancy). k < z.id) (sym e) all.0.0
held_above turns k items (y ∷ ys) x all (inr h) = let above : y.id < x.id = held_above turns y.id items ys x all.1 h in omega (arith, above, all.0.0)

pub record IsSplitAt (i : ℕ) (items : List SealedItem) (ks : List KeptTenancy) (d : KeptTenancy) : Type 0 where
  pub before : List Tenancy
  pub after : List Tenancy
  pub whole : map (tenancy_of items) (map place_of ks) ≡ before ++ (tenancy_of items (place_of (get_or ks i d)) ∷ after)
  pub below : (x : Tenancy) → Held x before → x.id < (get_or ks i d).configuration.tenant
  pub above : (x : Tenancy) → Held x after → (get_or ks i d).configuration.tenant < x.id
  pub made : (new : List SealedItem) (y : KeptTenancy) → AreOthers items new (get_or ks i d).configuration.tenant → map (tenancy_of new) (map place_of (set ks i y)) ≡ before ++ (tenancy_of new (place_of y) ∷ after)

same_tenancy : (x y : Tenancy) → x.id ≡ y.id → x.tables ≡ y.tables → x ≡ y
same_tenancy x y i t = λ k. record { id = i k; tables = t k }

split_at : (turns k i : ℕ) (items : List SealedItem) (ks : List KeptTenancy) (d : KeptTenancy) → ArePlaces turns k items (map place_of ks) → i < length ks → IsSplitAt i items ks d
split_at turns k i items [] d all lt = absurd (omega arith)
split_at turns k zero items (x ∷ ks) d all lt = record {
  before = [];
  after = map (tenancy_of items) (map place_of ks);
  whole = refl;
  below = λ z held. absurd held;
  above = λ z held. held_above turns x.configuration.tenant items (map place_of ks) z all.1 held;
  made = λ new y others. ap (λ l. tenancy_of new (place_of y) ∷ l) (tenancies_above turns x.configuration.tenant x.configuration.tenant items new (map place_of ks) (omega arith) all.1 others);
}
split_at turns k (suc i) items (x ∷ ks) d all lt =
    let above : x.configuration.tenant < (get_or ks i d).configuration.tenant = id_above turns x.configuration.tenant i items ks d all.1 (omega arith) in
    let rest : IsSplitAt i items ks d = split_at turns x.configuration.tenant i items ks d all.1 (omega arith) in
    record {
      before = tenancy_of items (place_of x) ∷ rest.before;
      after = rest.after;
      whole = ap (λ l. tenancy_of items (place_of x) ∷ l) rest.whole;
      below = λ z held. by rest above z held;
      above = rest.above;
      made = λ new y others.
          ap (λ t. t ∷ map (tenancy_of new) (map place_of (set ks i y))) (same_tenancy (tenancy_of new (place_of x)) (tenancy_of items (place_of x)) refl (same_tables (tables_of new (place_of x)) (tables_of items (place_of x)) refl (λ n. others x.configuration.tenant n (λ same. absurd (omega (arith, same, above))))))
          ∙ ap (λ l. tenancy_of items (place_of x) ∷ l) (rest.made new y others);
    }
  where
    by : (rest : IsSplitAt i items ks d) → x.configuration.tenant < (get_or ks i d).configuration.tenant → (z : Tenancy) → Held z (tenancy_of items (place_of x) ∷ rest.before) → z.id < (get_or ks i d).configuration.tenant
    by rest lower z (inl e) = subst (λ (w : Tenancy). w.id < (get_or ks i d).configuration.tenant) (sym e) lower
    by rest lower z (inr h) = rest.below z h

there_above : (last n : ℕ) (cs : List Case) → AtMost last cs → last < n → is_there n cs ≡ false
there_above last n [] all lt = refl
there_above last n (c ∷ cs) all lt =
    let other : has_number n c ≡ false = grind (arith, nat_tests, all.0, lt) in
    rw other (there_above last n cs all.1 lt)

rowed : (turns : ℕ) (items : List SealedItem) (x : PlainTenancy) → IsPlace turns items x → IsRowed (tenancy_of items x)
rowed turns items x h = record {
  most = h.most;
  unsealed = h.unsealed (x.plain.numbering.last + 1) (there_above x.plain.numbering.last (x.plain.numbering.last + 1) x.plain.cases h.most (omega arith));
  ascend = h.ascend;
  versions = h.plain.registry.versions;
}

-- the batch over the tables that were made ready is that over the tables before
same_at : (i : ℕ) (ks ls : List KeptTenancy) (d : KeptTenancy) → map place_of ls ≡ map place_of ks → place_of (get_or ls i d) ≡ place_of (get_or ks i d)
same_at i [] [] d e = refl
same_at i [] (y ∷ ls) d e = absurd cc
same_at i (x ∷ ks) [] d e = absurd cc
same_at zero (x ∷ ks) (y ∷ ls) d e = cc
same_at (suc i) (x ∷ ks) (y ∷ ls) d e = let rest : map place_of ls ≡ map place_of ks = cc in same_at i ks ls d rest

pub batch_same : (now i : ℕ) (ks ls : List KeptTenancy) (d : KeptTenancy) (c : Mutation) (batch : List RowChange) → map place_of ls ≡ map place_of ks → IsBatch now (map place_of ls) (puts_of (place_of (get_or ls i d)) c) batch
    → IsBatch now (map place_of ks) (puts_of (place_of (get_or ks i d)) c) batch
batch_same now i ks ls d c batch e b =
    subst (λ x. IsBatch now (map place_of ks) (puts_of x c) batch) (same_at i ks ls d e) (subst (λ xs. IsBatch now xs (puts_of (place_of (get_or ls i d)) c) batch) e b)

-- ---- the whole batch

-- a purge and then what is put
purge_then : (now : ℕ) (items mid : List SealedItem) (xs ys : List PlainTenancy) (puts batch : List RowChange) → IsBatch now xs puts batch → IsPurge now xs items ys mid
    → all_changed (rows_of (map (tenancy_of items) xs)) batch ≡ all_changed (rows_of (map (tenancy_of mid) ys)) puts
purge_then now items mid xs ys puts batch b purge =
    ap (all_changed (rows_of (map (tenancy_of items) xs))) b.is
    ∙ (changed_append (rows_of (map (tenancy_of items) xs)) b.drops puts
    ∙ ap (λ l. all_changed l puts) (b.rows items ∙ ap rows_of (sym purge.hosts)))

-- where no tenant is named
pub rows_without : (now : ℕ) (items new : List SealedItem) (xs ys : List PlainTenancy) (batch : List RowChange) → IsBatch now xs [] batch → IsPurge now xs items ys new → all_changed (rows_of (map (tenancy_of items) xs)) batch ≡ rows_of (map (tenancy_of new) ys)
rows_without now items new xs ys batch b purge = purge_then now items new xs ys [] batch b purge

-- and where the tenant at a place makes a change
pub rows_at : (turns now i : ℕ) (items mid new : List SealedItem) (ks ls ms : List KeptTenancy) (c : Mutation) (batch : List RowChange) → ArePlaces turns 0 items (map place_of ks) → i < length ks
    → ((d : KeptTenancy) → IsBatch now (map place_of ks) (puts_of (place_of (get_or ks i d)) c) batch) → IsPurge now (map place_of ks) items (map place_of ls) mid → ((d : KeptTenancy) → IsPuttable now (place_of (get_or ls i d)) c) → IsMadeAt i now c mid new ls ms
    → all_changed (rows_of (map (tenancy_of items) (map place_of ks))) batch ≡ rows_of (map (tenancy_of new) (map place_of ms))
rows_at turns now i items mid new ks ls ms c batch all lt b purge puttable_at made =
    purge_then now items mid (map place_of ks) (map place_of ls) (puts_of (place_of (get_or ks i made.tenancy)) c) batch (b made.tenancy) purge
    ∙ (ap (λ l. all_changed (rows_of l) (puts_of (place_of (get_or ks i made.tenancy)) c)) split.whole
    ∙ (ap (all_changed (rows_of (split.before ++ ((tenancy_of mid (place_of (get_or ls i made.tenancy))) ∷ split.after)))) puts_here
    ∙ (change_rows split.before split.after (tenancy_of mid (place_of (get_or ls i made.tenancy))) split.below split.above (rowed turns mid (place_of (get_or ls i made.tenancy)) here) now c (puttable_at made.tenancy)
    ∙ ap rows_of (ap (λ t. split.before ++ (t ∷ split.after)) (sym one) ∙ (sym (split.made new made.tenancy (made.others made.tenancy)) ∙ ap (λ (l : List KeptTenancy). map (tenancy_of new) (map place_of l)) (sym made.set_at))))))
  where
    live : IsLiveAt now i ks ls
    live = live_at now i ks ls purge.places lt

    places : ArePlaces turns 0 mid (map place_of ls)
    places = places_left turns now (map place_of ks) items (map place_of ls) mid all purge

    split : IsSplitAt i mid ls made.tenancy
    split = split_at turns 0 i mid ls made.tenancy places live.within

    here : IsPlace turns mid (place_of (get_or ls i made.tenancy))
    here = place_at turns 0 i mid ls made.tenancy places live.within

    puts_here : puts_of (place_of (get_or ks i made.tenancy)) c ≡ puts_of (as_place (tenancy_of mid (place_of (get_or ls i made.tenancy)))) c
    puts_here =
        sym (live_puts now now (place_of (get_or ks i made.tenancy)) c (place_at turns 0 i items ks made.tenancy all lt).plain.cases (subst (λ x. IsPuttable now x c) (live.place made.tenancy) (puttable_at made.tenancy)))
        ∙ ap (λ x. puts_of x c) (sym (live.place made.tenancy))

    one : tenancy_of new (place_of made.tenancy) ≡ made_one now c (tenancy_of mid (place_of (get_or ls i made.tenancy)))
    one = same_tenancy (tenancy_of new (place_of made.tenancy)) (made_one now c (tenancy_of mid (place_of (get_or ls i made.tenancy)))) (made.id made.tenancy) (made.tables made.tenancy)

-- ---- how the batch is made

pub same_index : (i : ℕ) (ks : List KeptTenancy) (d e : KeptTenancy) → i < length ks → get_or ks i d ≡ get_or ks i e
same_index i [] d e lt = absurd (omega arith)
same_index zero (x ∷ ks) d e lt = refl
same_index (suc i) (x ∷ ks) d e lt = same_index i ks d e (omega arith)

pub batch_made : (now i : ℕ) (ks : List KeptTenancy) (x d : KeptTenancy) (c : Mutation) (drops batch : List RowChange) → i < length ks → x ≡ get_or ks i x → IsFit now (get_or ks i d) c
    → ((items : List SealedItem) → all_changed (rows_of (map (tenancy_of items) (map place_of ks))) drops ≡ rows_of (map (purged_tenancy now) (map (tenancy_of items) (map place_of ks))))
    → All IsGoodChange drops → (any_dead now (map place_of ks) ≡ false → drops ≡ []) → batch ≡ drops ++ puts_of (place_of x) c → IsBatch now (map place_of ks) (puts_of (place_of (get_or ks i d)) c) batch
batch_made now i ks x d c drops batch lt is fit rows good none e = record {
  drops = drops;
  is = whole;
  rows = rows;
  none = none;
  good = subst (All IsGoodChange) (sym whole) (All-append IsGoodChange drops (puts_of (place_of (get_or ks i d)) c) good (good_puts now (get_or ks i d) c fit));
}
  where
    whole : batch ≡ drops ++ puts_of (place_of (get_or ks i d)) c
    whole = e ∙ ap (λ (z : KeptTenancy). drops ++ puts_of (place_of z) c) (is ∙ same_index i ks x d lt)
