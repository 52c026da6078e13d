-- What each step owes.
use Rattle.std.proofs.Common.{◌≡◌, ℕ, zero, suc, ◌+◌, ◌<◌, ◌≤◌, ◌^◌, ◌≢◌, List, [], ◌∷◌, ◌++◌, Bool, true, false, set, sym, refl, ap, ◌∙◌, arith, ⊎_elim, subst, length, ◌%◌, mod-eq_of_lt}
use Rattle.std.specs.Prelude.{if◌then◌else◌, slice_index, slice_set, MatchBool, Option, Some, None, ◌==◌}
use Rattle.std.proofs.lemmas.Bool.Decides.{nat_tests}
use mathlib.Core.Option as m
use mathlib.Core.Option.{none, some}
use lib.ListN.{get_elem?}
use prog.Atomic.{either}
use Rattle.atomic_table.specs.Table.{State, Me, step, Act, keeps, takes, gives, Allows, stepped, Valid, carried_after, homes_after, put_back, rest}
use Rattle.atomic_table.proofs.Lists.{at_set, set_again, at_last}
use Rattle.wb_ticket_lock.specs.declared.entry.Entry.{Entry}
use Rattle.wb_ticket_lock.specs.declared.entry.View.{View}
use Rattle.wb_ticket_lock.specs.Contents.{Content}
use Rattle.wb_ticket_lock.specs.Histories.{total, is_at, times, places, once_below, turn_of, Homed, InOrder, StandIn, with_ticket, with_turn, entered, entry_of, Stays, Draws, Looks, PassesOn}
use Rattle.wb_ticket_lock.proofs.Counts.{total_set, at_le_total, two_le_total, total_le, total_below, once-more, once_le, once_under, is_at_same, times-places-more, length-more, stand-longer, stand-both, leads-on}

pub kept_same : {X D : Type 0} → (does : X → D → X → Type 0) (all : ℕ) (first : X) (s : State (Option (Content X D)) (View X D)) (ws : List ℕ) (vs : List (View X D)) → ws ≡ s.words → vs ≡ s.views → InOrder does all first s → InOrder does all first (record { words = ws; homes = s.homes; views = vs })
kept_same {X = X} {D = D} does all first s ws vs e e' k =
    subst (InOrder does all first) (λ i. record { words = sym e i; homes = s.homes; views = sym e' i }) k

abbrev pair : {X D : Type 0} → View X D → List (ℕ × Option (Content X D)) → Me (Option (Content X D)) (View X D)
pair {X = X} {D = D} w c = (w, c)

-- the words, read at 0 and written back
same_words : (ws : List ℕ) (a b : ℕ) (bs : List ℕ) → ws ≡ a ∷ b ∷ bs → slice_set ws 0 (slice_index ws 0) ≡ ws
same_words ws a b bs e =
    let P : List ℕ → Type 0 = λ l. slice_set l 0 (slice_index l 0) ≡ l in subst P (sym e) refl

pub asks : {X D : Type 0} → (does : X → D → X → Type 0) (all : ℕ) (first : X) (slots id : ℕ) (me : Me (Option (Content X D)) (View X D)) → Allows (InOrder does all first) slots id me 0 (λ n. n) (Stays (step slots 0 0 0 none) me)
asks {X = X} {D = D} does all first slots id me s kept len at small = (
  me.0,
  keeps,
  tt,
  kept_same does all first s _ _ (same_words s.words kept.next kept.served kept.waiting kept.words) (set_again s.views id me.0 at) kept,
  refl,
)

-- a step on a word
pub writes_wait_word : {X D : Type 0} → (does : X → D → X → Type 0) (all : ℕ) (first : X) (slots id : ℕ) (me : Me (Option (Content X D)) (View X D)) (i n : ℕ) → 2 ≤ i → Allows (InOrder does all first) slots id me i (λ _. n) (λ _ w. w ≡ me)
writes_wait_word {X = X} {D = D} does all first slots id me zero n low s kept len at small = absurd (omega arith)
writes_wait_word {X = X} {D = D} does all first slots id me (suc zero) n low s kept len at small = absurd (omega arith)
writes_wait_word {X = X} {D = D} does all first slots id me (suc (suc j)) n low s kept len at small =
    let v = set_again s.views id me.0 at in (
      me.0,
      keeps,
      tt,
      record {
        next = kept.next;
        served = kept.served;
        value = kept.value;
        history = kept.history;
        waiting = slice_set kept.waiting j n;
        words = ap (λ ws. slice_set ws (suc (suc j)) n) kept.words;
        small = kept.small;
        parts = ap (total (λ u. u.parts)) v ∙ kept.parts;
        placed = λ x. ap (total (λ u. times x (places u.mine))) v ∙ kept.placed x;
        counted = ap (total (λ u. length u.mine)) v ∙ kept.counted;
        stand = λ k u here. kept.stand k u (ap (λ vs. get_elem? vs k) (sym v) ∙ here);
        long = kept.long;
        leads = kept.leads;
        out = λ x. ap (λ vs. total (λ u. times x u.tickets) vs + once_below x kept.served) v ∙ kept.out x;
        turns = λ k u here turn. kept.turns k u (ap (λ vs. get_elem? vs k) (sym v) ∙ here) turn;
        idle = λ k u here apart. kept.idle k u (ap (λ vs. get_elem? vs k) (sym v) ∙ here) apart;
        home = (let P : List (View X D) → Type 0 = λ vs. Homed kept.served kept.value (total turn_of vs) s.homes in subst P (sym v) kept.home);
      },
      refl,
    )

-- the step at a view v that becomes w, with the same entries
pub stays_there : {X D : Type 0} → (does : X → D → X → Type 0) (all : ℕ) (first : X) (id : ℕ) (s : State (Option (Content X D)) (View X D)) (kept : InOrder does all first s) (v : View X D) → get_elem? s.views id ≡ some v → (w : View X D) → v.mine ≡ w.mine
    → (j : ℕ) (u : View X D) → get_elem? (set s.views id w) j ≡ some u → StandIn kept.history u.mine
stays_there does all first id s kept v at w same j u here =
    ⊎_elim (λ (e : (j ≡ id) × (w ≡ u)). subst (StandIn kept.history) (same ∙ ap (λ (z : View _ _). z.mine) e.1) (kept.stand id v at))
    (λ (e : (j ≢ id) × (get_elem? s.views j ≡ some u)). kept.stand j u e.1) (at_set s.views id j w u here)

-- the step at a view v that becomes w
module _ {X D : Type 0} (does : X → D → X → Type 0) (all : ℕ) (first : X) (id : ℕ) (s : State (Option (Content X D)) (View X D)) (kept : InOrder does all first s) (v : View X D) (at : get_elem? s.views id ≡ some v) where
  drawn-out : (w : View X D) → v.tickets ≡ [] → w.tickets ≡ kept.next ∷ [] → (x : ℕ) → total (λ u. times x u.tickets) (set s.views id w) + once_below x kept.served ≡ once_below x (kept.next + 1)
  drawn-out w bare one x =
      let t = total_set (λ u. times x u.tickets) s.views id v w at in
      let o = kept.out x in
      let e : times x v.tickets ≡ 0 = ap (times x) bare in
      let e' : times x w.tickets ≡ is_at x kept.next + 0 = ap (times x) one in
      omega (arith, once-more x kept.next)

  -- neither has its turn
  unturned : (w : View X D) → v.turn ≡ false → w.turn ≡ false → total turn_of (set s.views id w) ≡ total turn_of s.views
  unturned w still still' =
      let t = total_set turn_of s.views id v w at in
      let e : turn_of v ≡ 0 = ap (λ (b : Bool). if b then 1 else 0) still in
      let e' : turn_of w ≡ 0 = ap (λ (b : Bool). if b then 1 else 0) still' in
      omega arith

  drawn : v.tickets ≡ [] → v.turn ≡ false → 0 < v.parts → kept.next + 1 < 2 ^ 64
      → InOrder does all first (record { words = (kept.next + 1) ∷ kept.served ∷ kept.waiting; homes = s.homes; views = set s.views id (with_ticket v kept.next) })
  drawn bare still some_part room =
      let w = with_ticket v kept.next in record {
        next = kept.next + 1;
        served = kept.served;
        value = kept.value;
        history = kept.history;
        waiting = kept.waiting;
        words = refl;
        small = room;
        parts = (let t = total_set (λ u. u.parts) s.views id v w at in let p = kept.parts in omega arith);
        placed = λ x. (let t = total_set (λ u. times x (places u.mine)) s.views id v w at in let p = kept.placed x in omega arith);
        counted = (let t = total_set (λ u. length u.mine) s.views id v w at in let p = kept.counted in omega arith);
        stand = stays_there does all first id s kept v at w refl;
        long = kept.long;
        leads = kept.leads;
        out = drawn-out w bare refl;
        turns = λ j u here turn. ⊎_elim (λ (e : (j ≡ id) × (w ≡ u)). absurd (let f : false ≡ true = ap (λ (z : View X D). z.turn) e.1 ∙ turn in cc))
            (λ (e : (j ≢ id) × (get_elem? s.views j ≡ some u)). kept.turns j u e.1 turn) (at_set s.views id j w u here);
        idle = λ j u here apart. ⊎_elim (λ (e : (j ≡ id) × (w ≡ u)). absurd (let p : v.parts ≡ u.parts = ap (λ (z : View X D). z.parts) e.1 in omega arith))
            (λ (e : (j ≢ id) × (get_elem? s.views j ≡ some u)). kept.idle j u e.1 apart) (at_set s.views id j w u here);
        home = (let P : ℕ → Type 0 = λ n. Homed kept.served kept.value n s.homes in subst P (sym (unturned w still refl)) kept.home);
      }

draw_goes : {X D : Type 0} → (does : X → D → X → Type 0) (all : ℕ) (first : X) (id : ℕ) (me : Me (Option (Content X D)) (View X D)) (old : ℕ) (s : State (Option (Content X D)) (View X D)) (kept : InOrder does all first s) → get_elem? s.views id ≡ some me.0 → me.1 ≡ [] → me.0.tickets ≡ [] → me.0.turn ≡ false → 0 < me.0.parts → old + 1 < 2 ^ 64
    → (b : Bool) → (kept.next == old) ≡ b
    → (w : View X D) × (InOrder does all first (record { words = either b (old + 1) kept.next ∷ kept.served ∷ kept.waiting; homes = s.homes; views = set s.views id w })) × MatchBool b (pair w me.1 ≡ pair (with_ticket me.0 old) []) (pair w me.1 ≡ me)
draw_goes {X = X} {D = D} does all first id me old s kept at light bare still part room true is =
    let e : kept.next ≡ old = grind (arith, nat_tests) in
    let k = drawn does all first id s kept me.0 at bare still part (omega arith) in (
      with_ticket me.0 old,
      subst (λ (n : ℕ). InOrder does all first (record { words = (n + 1) ∷ kept.served ∷ kept.waiting; homes = s.homes; views = set s.views id (with_ticket me.0 n) })) e k,
      (λ i. (with_ticket me.0 old, light i)),
    )
draw_goes {X = X} {D = D} does all first id me old s kept at light bare still part room false is =
    (me.0, kept_same does all first s _ _ (sym kept.words) (set_again s.views id me.0 at) kept, refl)

pub draws : {X D : Type 0} → (does : X → D → X → Type 0) (all : ℕ) (first : X) (slots id : ℕ) (me : Me (Option (Content X D)) (View X D)) (old : ℕ) → me.1 ≡ [] → me.0.tickets ≡ [] → me.0.turn ≡ false → 0 < me.0.parts → old + 1 < 2 ^ 64
    → Allows (InOrder does all first) slots id me 0 (λ n. either (n == old) (old + 1) n) (Draws (step slots 0 old (old + 1) none) me)
draws {X = X} {D = D} does all first slots id me old light bare still part room s kept len at small =
    let P : List ℕ → Type 0 = λ ws. (w : View X D) × (a : Act (Option (Content X D))) × Valid s.homes me.1 a
    × InOrder does all first (stepped (record { words = ws; homes = s.homes; views = s.views }) 0 (either (slice_index ws 0 == old) (old + 1) (slice_index ws 0)) id me.1 w a)
    × Draws (step slots 0 old (old + 1) none) me (slice_index ws 0) (w, carried_after me.1 a) in
    let t = draw_goes does all first id me old s kept at light bare still part room (kept.next == old) refl in
    subst P (sym kept.words) (t.0, keeps, tt, t.1, t.2)

-- a turn is a ticket that is served
turn_le : {X D : Type 0} → (u : View X D) (served : ℕ) → (u.turn ≡ true → u.tickets ≡ served ∷ []) → turn_of u ≤ times served u.tickets
turn_le u served h = go u.turn refl
  where
    go : (b : Bool) → u.turn ≡ b → turn_of u ≤ times served u.tickets
    go true is =
        let e : turn_of u ≡ 1 = ap (λ (b : Bool). if b then 1 else 0) is in
        let t : times served u.tickets ≡ is_at served served + 0 = ap (times served) (h is) in
        omega (arith, is_at_same served)
    go false is = let e : turn_of u ≡ 0 = ap (λ (b : Bool). if b then 1 else 0) is in omega arith

turn_zero : {X D : Type 0} → (v : View X D) → v.turn ≡ false → turn_of v ≡ 0
turn_zero v e = ap (λ (b : Bool). if b then 1 else 0) e

turn_one : {X D : Type 0} → (v : View X D) → v.turn ≡ true → turn_of v ≡ 1
turn_one v e = ap (λ (b : Bool). if b then 1 else 0) e

module _ {X D : Type 0} (does : X → D → X → Type 0) (all : ℕ) (first : X) (id : ℕ) (s : State (Option (Content X D)) (View X D)) (kept : InOrder does all first s) (v : View X D) (at : get_elem? s.views id ≡ some v) where
  turns_le : total turn_of s.views ≤ total (λ u. times kept.served u.tickets) s.views
  turns_le = total_le turn_of (λ u. times kept.served u.tickets) s.views (λ j u here. turn_le u kept.served (λ h. (kept.turns j u here h).0))

  served_out : total (λ u. times kept.served u.tickets) s.views ≤ 1
  served_out = let o = kept.out kept.served in let l = once_le kept.served kept.next in omega arith

  -- whose ticket is served, and who has not its turn, finds nobody at his turn
  nobody : (k : ℕ) → v.tickets ≡ k ∷ [] → v.turn ≡ false → kept.served ≡ k → total turn_of s.views ≡ 0
  nobody k one still same =
      let z = turn_zero v still in
      let t : times kept.served v.tickets ≡ is_at kept.served k + 0 = ap (times kept.served) one in
      let i : is_at kept.served k ≡ 1 = ap (is_at kept.served) (sym same) ∙ is_at_same kept.served in
      let b = total_below turn_of (λ u. times kept.served u.tickets) s.views id v (λ j u here. turn_le u kept.served (λ h. (kept.turns j u here h).0)) at (omega arith) in
      let o = served_out in
      omega arith

  looked : (k : ℕ) (x : X) → v.tickets ≡ k ∷ [] → v.turn ≡ false → kept.served ≡ k → x ≡ kept.value
      → (hs : List (m.Option (Option (Content X D)))) → hs ≡ none ∷ []
      → InOrder does all first (record { words = kept.next ∷ kept.served ∷ kept.waiting; homes = hs; views = set s.views id (with_turn v k x) })
  looked k x one still same its hs away =
      let w = with_turn v k x in
      let z = turn_zero v still in
      let n = nobody k one still same in record {
        next = kept.next;
        served = kept.served;
        value = kept.value;
        history = kept.history;
        waiting = kept.waiting;
        words = refl;
        small = kept.small;
        parts = (let t = total_set (λ u. u.parts) s.views id v w at in let p = kept.parts in omega arith);
        placed = λ x. (let t = total_set (λ u. times x (places u.mine)) s.views id v w at in let p = kept.placed x in omega arith);
        counted = (let t = total_set (λ u. length u.mine) s.views id v w at in let p = kept.counted in omega arith);
        stand = stays_there does all first id s kept v at w refl;
        long = kept.long;
        leads = kept.leads;
        out = λ x. (let t = total_set (λ u. times x u.tickets) s.views id v w at in let p = kept.out x in let e : times x v.tickets ≡ is_at x k + 0 = ap (times x) one in omega arith);
        turns = λ j u here turn. ⊎_elim (λ (e : (j ≡ id) × (w ≡ u)). (ap (λ (z : View X D). z.tickets) (sym e.1) ∙ ap (λ (m : ℕ). m ∷ []) (sym same), ap (λ (z : View X D). z.took) (sym e.1) ∙ ap Some its))
            (λ (e : (j ≢ id) × (get_elem? s.views j ≡ some u)). kept.turns j u e.1 turn) (at_set s.views id j w u here);
        idle = λ j u here apart. ⊎_elim (λ (e : (j ≡ id) × (w ≡ u)). absurd (let i = kept.idle id v at (ap (λ (z : View X D). z.parts) e.1 ∙ apart) in let f : k ∷ [] ≡ [] = sym one ∙ i.0 in cc))
            (λ (e : (j ≢ id) × (get_elem? s.views j ≡ some u)). kept.idle j u e.1 apart) (at_set s.views id j w u here);
        home = (let t = total_set turn_of s.views id v w at in let e : 1 ≡ total turn_of (set s.views id w) = omega arith in let P : ℕ → Type 0 = λ m. Homed kept.served kept.value m hs in subst P e away);
      }

look_goes : {X D : Type 0} → (does : X → D → X → Type 0) (all : ℕ) (first : X) (id : ℕ) (me : Me (Option (Content X D)) (View X D)) (k : ℕ) (s : State (Option (Content X D)) (View X D)) (kept : InOrder does all first s) → get_elem? s.views id ≡ some me.0 → me.1 ≡ [] → me.0.tickets ≡ k ∷ [] → me.0.turn ≡ false
    → (b : Bool) → (kept.served == k) ≡ b
    → (w : View X D) × (a : Act (Option (Content X D))) × Valid s.homes me.1 a × InOrder does all first (record { words = kept.next ∷ kept.served ∷ kept.waiting; homes = homes_after s.homes me.1 a; views = set s.views id w })
    × MatchBool b ((f : Content X D) × (f.entries ≡ k) × (pair w (carried_after me.1 a) ≡ pair (with_turn me.0 k f.value) ((0, Some f) ∷ []))) (pair w (carried_after me.1 a) ≡ me)
look_goes {X = X} {D = D} does all first id me k s kept at light one still true is =
    let e : kept.served ≡ k = grind (arith, nat_tests) in
    let P : ℕ → Type 0 = λ m. Homed kept.served kept.value m s.homes in
    let home = subst P (nobody does all first id s kept me.0 at k one still e) kept.home in (
      with_turn me.0 k home.0.value,
      takes 0 (Some home.0),
      ap (λ h. get_elem? h 0) home.1,
      looked does all first id s kept me.0 at k home.0.value one still e home.3 _ (ap (λ h. slice_set h 0 none) home.1),
      (home.0, home.2 ∙ e, (λ i. (with_turn me.0 k home.0.value, (0, Some home.0) ∷ light i))),
    )
look_goes {X = X} {D = D} does all first id me k s kept at light one still false is =
    (me.0, keeps, tt, kept_same does all first s _ _ (sym kept.words) (set_again s.views id me.0 at) kept, refl)

pub looks : {X D : Type 0} → (does : X → D → X → Type 0) (all : ℕ) (first : X) (slots id : ℕ) (me : Me (Option (Content X D)) (View X D)) (k : ℕ) → me.1 ≡ [] → me.0.tickets ≡ k ∷ [] → me.0.turn ≡ false
    → Allows (InOrder does all first) slots id me 1 (λ n. n) (Looks (step slots 1 0 0 none) me)
looks {X = X} {D = D} does all first slots id me k light one still s kept len at small =
    let P : List ℕ → Type 0 = λ ws. (w : View X D) × (a : Act (Option (Content X D))) × Valid s.homes me.1 a
    × InOrder does all first (stepped (record { words = ws; homes = s.homes; views = s.views }) 1 (slice_index ws 1) id me.1 w a)
    × Looks (step slots 1 0 0 none) me (slice_index ws 1) (w, carried_after me.1 a) in
    let t = look_goes does all first id me k s kept at light one still (kept.served == k) refl in
    let told : Looks (step slots 1 0 0 none) me kept.served (t.0, carried_after me.1 t.1) =
    λ j its. (let e : k ≡ j = (let f : k ∷ [] ≡ j ∷ [] = sym one ∙ its in cc) in
    let Q : ℕ → Type 0 = λ (m : ℕ). MatchBool (kept.served == m) ((f : Content X D) × (f.entries ≡ m) × (pair t.0 (carried_after me.1 t.1) ≡ pair (with_turn me.0 m f.value) ((0, Some f) ∷ []))) (pair t.0 (carried_after me.1 t.1) ≡ me) in
    subst Q e t.4) in
    subst P (sym kept.words) (t.0, t.1, t.2, t.3, told)

abbrev or_value : {X : Type 0} → X → Option X → X
or_value d None = d
or_value d (Some x) = x

module _ {X D : Type 0} (does : X → D → X → Type 0) (all : ℕ) (first : X) (id : ℕ) (s : State (Option (Content X D)) (View X D)) (kept : InOrder does all first s) (v : View X D) (at : get_elem? s.views id ≡ some v) (k : ℕ) (one : v.tickets ≡ k ∷ []) (turn : v.turn ≡ true) where
  its_turn : kept.served ≡ k
  its_turn = let f : kept.served ∷ [] ≡ k ∷ [] = sym (kept.turns id v at turn).0 ∙ one in cc

  -- a ticket is out, so the number served is below the next
  below_next : kept.served < kept.next
  below_next =
      let l = at_le_total (λ u. times kept.served u.tickets) s.views id v at in
      let t : times kept.served v.tickets ≡ is_at kept.served k + 0 = ap (times kept.served) one in
      let i : is_at kept.served k ≡ 1 = ap (is_at kept.served) (sym its_turn) ∙ is_at_same kept.served in
      let o = kept.out kept.served in
      once_under kept.served kept.next (omega arith)

  alone : (j : ℕ) (u : View X D) → get_elem? s.views j ≡ some u → j ≢ id → u.turn ≡ true → ⊥
  alone j u here other his =
      let l = two_le_total turn_of s.views id j v u at here other in
      let a = turns_le does all first id s kept v at in
      let b = served_out does all first id s kept v at in
      let x = turn_one v turn in
      let y = turn_one u his in
      omega arith

  one_turn : total turn_of s.views ≡ 1
  one_turn =
      let l = at_le_total turn_of s.views id v at in
      let a = turns_le does all first id s kept v at in
      let b = served_out does all first id s kept v at in
      let x = turn_one v turn in
      omega arith

  places_below : (x : ℕ) → 0 < times x (places v.mine) → x < kept.served
  places_below x some_place =
      let l = at_le_total (λ u. times x (places u.mine)) s.views id v at in
      let p = kept.placed x in
      once_under x kept.served (omega arith)

  its_value : (x : X) → v.took ≡ Some x → x ≡ kept.value
  its_value x took = let q : Some x ≡ Some kept.value = sym took ∙ (kept.turns id v at turn).1 in let P : Option X → Type 0 = λ o. or_value x o ≡ kept.value in subst P (sym q) refl

  stands_longer : (e : Entry X D) → (w : View X D) → w.mine ≡ v.mine ++ e ∷ [] → e.place ≡ length kept.history
      → (j : ℕ) (u : View X D) → get_elem? (set s.views id w) j ≡ some u → StandIn (kept.history ++ e ∷ []) u.mine
  stands_longer e w more there j u here =
      ⊎_elim (λ (d : (j ≡ id) × (w ≡ u)). subst (StandIn (kept.history ++ e ∷ [])) (sym more ∙ ap (λ (z : View X D). z.mine) d.1)
      (stand-both (kept.history ++ e ∷ []) v.mine (e ∷ []) (stand-longer kept.history (e ∷ []) v.mine (kept.stand id v at)) (at_last kept.history e e.place (sym there), tt)))
      (λ (d : (j ≢ id) × (get_elem? s.views j ≡ some u)). stand-longer kept.history (e ∷ []) u.mine (kept.stand j u d.1)) (at_set s.views id j w u here)

  passed : (f : Content X D) (x : X) (d : D) (hs : List (m.Option (Option (Content X D)))) → f.entries ≡ k + 1 → v.took ≡ Some x → does x d f.value → hs ≡ some (Some f) ∷ []
      → InOrder does all first (record { words = kept.next ∷ (kept.served + 1) ∷ kept.waiting; homes = hs; views = set s.views id (entered v k x d f.value) })
  passed f x' d hs counted took done back =
      let e' : Entry X D = entry_of k x' d f.value in
      let w = entered v k x' d f.value in record {
        next = kept.next;
        served = kept.served + 1;
        value = f.value;
        history = kept.history ++ e' ∷ [];
        waiting = kept.waiting;
        words = refl;
        small = kept.small;
        parts = (let t = total_set (λ u. u.parts) s.views id v w at in let p = kept.parts in omega arith);
        placed = λ x. (let t = total_set (λ u. times x (places u.mine)) s.views id v w at in let p = kept.placed x in
            let m = times-places-more x v.mine e' in
            let i : is_at x kept.served ≡ is_at x k = ap (is_at x) its_turn in
            omega (arith, once-more x kept.served));
        counted = (let t = total_set (λ u. length u.mine) s.views id v w at in let p = kept.counted in
            let m = length-more v.mine e' in omega arith);
        stand = stands_longer e' w refl (sym its_turn ∙ sym kept.long);
        long = (let m = length-more kept.history e' in let l = kept.long in omega arith);
        leads = leads-on does 0 first kept.history kept.value kept.leads e' (let l = kept.long in let t = its_turn in omega arith) (its_value x' took) done;
        out = λ x. (let t = total_set (λ u. times x u.tickets) s.views id v w at in let p = kept.out x in
            let e : times x v.tickets ≡ is_at x k + 0 = ap (times x) one in
            let i : is_at x kept.served ≡ is_at x k = ap (is_at x) its_turn in
            omega (arith, once-more x kept.served));
        turns = λ j u here his. ⊎_elim (λ (e : (j ≡ id) × (w ≡ u)). absurd (let g : false ≡ true = ap (λ (z : View X D). z.turn) e.1 ∙ his in cc))
            (λ (e : (j ≢ id) × (get_elem? s.views j ≡ some u)). absurd (alone j u e.1 e.0 his)) (at_set s.views id j w u here);
        idle = λ j u here apart. ⊎_elim (λ (e : (j ≡ id) × (w ≡ u)). absurd (let i = kept.idle id v at (ap (λ (z : View X D). z.parts) e.1 ∙ apart) in let g : k ∷ [] ≡ [] = sym one ∙ i.0 in cc))
            (λ (e : (j ≢ id) × (get_elem? s.views j ≡ some u)). kept.idle j u e.1 apart) (at_set s.views id j w u here);
        home = (let t = total_set turn_of s.views id v w at in let x = turn_one v turn in let o = one_turn in
            let e : 0 ≡ total turn_of (set s.views id w) = omega arith in
            let P : ℕ → Type 0 = λ m. Homed (kept.served + 1) f.value m hs in subst P e (f, back, counted ∙ ap (λ (m : ℕ). m + 1) (sym its_turn), refl));
      }

abbrev pub or_else : {X D : Type 0} → Content X D → Option (Content X D) → Content X D
or_else {X = X} {D = D} d None = d
or_else {X = X} {D = D} d (Some f) = f

abbrev pub first_of : {X D : Type 0} → Content X D → List (ℕ × Option (Content X D)) → Content X D
first_of {X = X} {D = D} d [] = d
first_of {X = X} {D = D} d (x ∷ xs) = or_else d x.1

same_slot : {X D : Type 0} → (f g : Content X D) → (let c : List (ℕ × Option (Content X D)) = (0, Some f) ∷ [] in c) ≡ (let c : List (ℕ × Option (Content X D)) = (0, Some g) ∷ [] in c) → f ≡ g
same_slot {X = X} {D = D} f g e = ap (first_of f) e

-- what is found in the slot at hand is what was known to be in it
pub slot_is : {X D : Type 0} → (c : List (ℕ × Option (Content X D))) (o : Option (Content X D)) (f g : Content X D) → c ≡ (0, o) ∷ rest c → o ≡ Some g → c ≡ (0, Some f) ∷ [] → g ≡ f
slot_is {X = X} {D = D} c o f g e is known = ap (or_else f) (sym is) ∙ ap (first_of f) (sym e) ∙ ap (first_of f) known

same_some : {Y : Type 0} → (x y : Y) → Some x ≡ Some y → x ≡ y
same_some x y e = ap (or_value x) e

small_mod : (n : ℕ) → n + 1 < 2 ^ 64 → (n + 1) % 2 ^ 64 ≡ n + 1
small_mod n h = mod-eq_of_lt h

pub passes_on : {X D : Type 0} → (does : X → D → X → Type 0) (all : ℕ) (first : X) (slots id : ℕ) (me : Me (Option (Content X D)) (View X D)) (k : ℕ) (f : Content X D) (x : X) (d : D) → me.0.tickets ≡ k ∷ [] → me.0.turn ≡ true → me.1 ≡ (0, Some f) ∷ [] → f.entries ≡ k + 1 → me.0.took ≡ Some x → f.last ≡ Some d → does x d f.value
    → Allows (InOrder does all first) slots id me 1 (λ n. (n + 1) % 2 ^ 64) (PassesOn (step slots 1 1 0 none) me)
passes_on {X = X} {D = D} does all first slots id me k f x d one turn held counted took deed done s kept len at small =
    let P : List ℕ → Type 0 = λ ws. (w : View X D) × (a : Act (Option (Content X D))) × Valid s.homes me.1 a
    × InOrder does all first (stepped (record { words = ws; homes = s.homes; views = s.views }) 1 ((slice_index ws 1 + 1) % 2 ^ 64) id me.1 w a)
    × PassesOn (step slots 1 1 0 none) me (slice_index ws 1) (w, carried_after me.1 a) in
    let home : s.homes ≡ none ∷ [] = (let H : ℕ → Type 0 = λ m. Homed kept.served kept.value m s.homes in subst H (one_turn does all first id s kept me.0 at k one turn) kept.home) in
    let back : put_back s.homes me.1 ≡ some (Some f) ∷ [] = ap (put_back s.homes) held ∙ ap (λ h. slice_set h 0 (some (Some f))) home in
    let k' = passed does all first id s kept me.0 at k one turn f x d (put_back s.homes me.1) counted took done back in
    let b = below_next does all first id s kept me.0 at k one turn in
    let m = small_mod kept.served (let c = kept.small in omega arith) in
    let K : ℕ → Type 0 = λ n. InOrder does all first (record { words = kept.next ∷ n ∷ kept.waiting; homes = put_back s.homes me.1; views = set s.views id (entered me.0 k x d f.value) }) in
    subst P (sym kept.words) (
      entered me.0 k x d f.value,
      gives,
      tt,
      subst K (sym m) k',
      (λ j g y c its has took' deed'.
          let e : k ≡ j = (let t : k ∷ [] ≡ j ∷ [] = sym one ∙ its in cc) in
          let q : f ≡ g = same_slot f g (sym held ∙ has) in
          let p : x ≡ y = same_some x y (sym took ∙ took') in
          let r : d ≡ c = same_some d c (sym deed ∙ ap (λ (z : Content X D). z.last) q ∙ deed') in (
            its_turn does all first id s kept me.0 at k one turn ∙ e,
            (λ i. (entered me.0 (e i) (p i) (r i) (q i).value, rest (held i))),
            (λ x some_place. let q = places_below does all first id s kept me.0 at k one turn x some_place in let t = its_turn does all first id s kept me.0 at k one turn in omega (arith, e)),
          )),
    )

abbrev pub at_turn : {X D : Type 0} → View X D → ℕ → Content X D → Me (Option (Content X D)) (View X D)
at_turn {X = X} {D = D} v k f = (with_turn v k f.value, (0, Some f) ∷ [])
