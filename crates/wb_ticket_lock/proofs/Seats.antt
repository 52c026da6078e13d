-- How seats are made, cut and joined, and what the one that has every part knows.
use Rattle.std.proofs.Common.{◌≡◌, ℕ, ◌+◌, ◌-◌, ◌<◌, ◌≢◌, List, [], ◌∷◌, ◌++◌, Bool, true, false, set, sym, refl, ap, ◌∙◌, arith, ⊎_elim, subst, length}
use Rattle.std.specs.Prelude.{if◌then◌else◌, Option, Some}
use Rattle.std.proofs.lemmas.Bool.Decides.{nat_tests}
use mathlib.Core.Option.{some, some-injective, some-ne-none}
use lib.ListN.{get_elem?}
use Rattle.atomic_table.specs.Table.{State, Splits, Joins, opening, Final, Seen}
use Rattle.atomic_table.proofs.Lists.{at_set, at_snoc, set_else}
use Rattle.wb_ticket_lock.specs.declared.entry.Entry.{Entry}
use Rattle.wb_ticket_lock.specs.declared.entry.View.{View}
use Rattle.wb_ticket_lock.specs.Contents.{Content}
use Rattle.wb_ticket_lock.specs.Histories.{total, times, places, once_below, turn_of, Homed, InOrder, newcomer, one_less, merged, StandIn, Leads}
use Rattle.wb_ticket_lock.proofs.Counts.{total_set, total_snoc, total_whole, times-places-append, length-both, stand-both}
use Rattle.wb_ticket_lock.proofs.Allowed.{stays_there, or_else}

pub opens : {X D : Type 0} → (does : X → D → X → Type 0) (all : ℕ) (first : X) (f : Content X D) (bs : List ℕ) → f.entries ≡ 0 → f.value ≡ first → InOrder does all first (opening (0 ∷ 0 ∷ bs) (Some f ∷ []) (newcomer all))
opens {X = X} {D = D} does all first f bs e its = record {
  next = 0;
  served = 0;
  value = first;
  history = [];
  waiting = bs;
  words = refl;
  small = omega arith;
  parts = omega arith;
  placed = λ x. grind (arith, nat_tests);
  counted = omega arith;
  stand = λ id v at. ⊎_elim (λ (h : get_elem? [] id ≡ some v). absurd (some-ne-none v (sym h)))
      (λ (h : newcomer all ≡ v). subst (StandIn []) (ap (λ (z : View X D). z.mine) h) tt) (at_snoc [] (newcomer all) v id at);
  long = refl;
  leads = refl;
  out = λ x. omega arith;
  turns = λ id v at turn. absurd (⊎_elim (λ (h : get_elem? [] id ≡ some v). some-ne-none v (sym h)) (λ (h : newcomer all ≡ v). let g : false ≡ true = ap (λ (z : View X D). z.turn) h ∙ turn in cc) (at_snoc [] (newcomer all) v id at));
  idle = λ id v at apart. ⊎_elim (λ (h : get_elem? [] id ≡ some v). absurd (some-ne-none v (sym h)))
      (λ (h : newcomer all ≡ v). (sym (ap (λ (z : View X D). z.tickets) h), sym (ap (λ (z : View X D). z.turn) h), sym (ap (λ (z : View X D). z.mine) h))) (at_snoc [] (newcomer all) v id at);
  home = (f, refl, e, its);
}

pub cuts : {X D : Type 0} → (does : X → D → X → Type 0) (all : ℕ) (first : X) (id : ℕ) (v : View X D) → 1 < v.parts → Splits (InOrder does all first) id v (one_less v) (newcomer 1)
cuts {X = X} {D = D} does all first id v some_parts s kept at =
    let l = one_less v in
    let n = newcomer 1 in
    let grown : (f : View X D → ℕ) → f n ≡ 0 → f l ≡ f v → total f (set s.views id l ++ n ∷ []) ≡ total f s.views = λ f no same. (
    let a = total_snoc f (set s.views id l) n in let b = total_set f s.views id v l at in omega (arith, no, same)) in record {
      next = kept.next;
      served = kept.served;
      value = kept.value;
      history = kept.history;
      waiting = kept.waiting;
      words = kept.words;
      small = kept.small;
      parts = (let a = total_snoc (λ u. u.parts) (set s.views id l) n in let b = total_set (λ u. u.parts) s.views id v l at in let p = kept.parts in omega arith);
      placed = λ x. grown (λ u. times x (places u.mine)) refl refl ∙ kept.placed x;
      counted = grown (λ u. length u.mine) refl refl ∙ kept.counted;
      stand = λ j u here. ⊎_elim
          (λ (h : get_elem? (set s.views id l) j ≡ some u). stays_there does all first id s kept v at l refl j u h)
          (λ (h : n ≡ u). subst (StandIn kept.history) (ap (λ (z : View X D). z.mine) h) tt) (at_snoc (set s.views id l) n u j here);
      long = kept.long;
      leads = kept.leads;
      out = λ x. ap (λ (m : ℕ). m + once_below x kept.served) (grown (λ u. times x u.tickets) refl refl) ∙ kept.out x;
      turns = λ j u here turn. ⊎_elim
          (λ (h : get_elem? (set s.views id l) j ≡ some u). ⊎_elim (λ (e : (j ≡ id) × (l ≡ u)). (let q = kept.turns id v at (ap (λ (z : View X D). z.turn) e.1 ∙ turn) in (ap (λ (z : View X D). z.tickets) (sym e.1) ∙ q.0, ap (λ (z : View X D). z.took) (sym e.1) ∙ q.1)))
          (λ (e : (j ≢ id) × (get_elem? s.views j ≡ some u)). kept.turns j u e.1 turn) (at_set s.views id j l u h))
          (λ (h : n ≡ u). absurd (let g : false ≡ true = ap (λ (z : View X D). z.turn) h ∙ turn in cc)) (at_snoc (set s.views id l) n u j here);
      idle = λ j u here apart. ⊎_elim
          (λ (h : get_elem? (set s.views id l) j ≡ some u). ⊎_elim (λ (e : (j ≡ id) × (l ≡ u)). absurd (let p : v.parts - 1 ≡ u.parts = ap (λ (z : View X D). z.parts) e.1 in omega arith))
          (λ (e : (j ≢ id) × (get_elem? s.views j ≡ some u)). kept.idle j u e.1 apart) (at_set s.views id j l u h))
          (λ (h : n ≡ u). absurd (let p : 1 ≡ u.parts = ap (λ (z : View X D). z.parts) h in omega arith)) (at_snoc (set s.views id l) n u j here);
      home = (let P : ℕ → Type 0 = λ m. Homed kept.served kept.value m s.homes in subst P (sym (grown turn_of refl refl)) kept.home);
    }

-- one history of as many entries leads from the first value to this one, and these stand in it
abbrev pub Went : {X D : Type 0} → (X → D → X → Type 0) → X → X → List (Entry X D) → Type 0
Went {X = X} {D = D} does first value mine = (es : List (Entry X D)) × (length es ≡ length mine) × Leads does 0 first es value × StandIn es mine

-- who has every part knows that its entries are all, and that the value is at home
pub knows : {X D : Type 0} → (does : X → D → X → Type 0) (all : ℕ) (first : X) (id : ℕ) (v : View X D) (s : State (Option (Content X D)) (View X D)) (kept : InOrder does all first s) → get_elem? s.views id ≡ some v → v.parts ≡ all → v.turn ≡ false
    → ((x : ℕ) → times x (places v.mine) ≡ once_below x (length v.mine)) × ((f : Content X D) × (s.homes ≡ some (Some f) ∷ []) × Went does first f.value v.mine)
knows {X = X} {D = D} does all first id v s kept at whole still =
    let parts = kept.parts ∙ sym whole in
    let turns = total_whole turn_of s.views id v (λ j u here apart. ap (λ (b : Bool). if b then 1 else 0) (kept.idle j u here apart).1) at parts in
    let nobody : total turn_of s.views ≡ 0 = turns ∙ ap (λ (b : Bool). if b then 1 else 0) still in
    let P : ℕ → Type 0 = λ m. Homed kept.served kept.value m s.homes in (
      (λ x. sym (total_whole (λ u. times x (places u.mine)) s.views id v (λ j u here apart. ap (λ (es : List (Entry X D)). times x (places es)) (kept.idle j u here apart).2) at parts) ∙ kept.placed x
          ∙ ap (once_below x) (sym kept.counted ∙ total_whole (λ u. length u.mine) s.views id v (λ j u here apart. ap (λ (es : List (Entry X D)). length es) (kept.idle j u here apart).2) at parts)),
      (let h = subst P nobody kept.home in (
        h.0,
        h.1,
        (
          kept.history,
          kept.long ∙ sym kept.counted ∙ total_whole (λ u. length u.mine) s.views id v (λ j u here apart. ap (λ (es : List (Entry X D)). length es) (kept.idle j u here apart).2) at parts,
          (let Q : X → Type 0 = λ y. Leads does 0 first kept.history y in subst Q (sym h.3) kept.leads),
          kept.stand id v at,
        ),
      )),
    )

module _ {X D : Type 0} (s : State (Option (Content X D)) (View X D)) (id other : ℕ) (v w : View X D) (at : get_elem? s.views id ≡ some v) (apart : ¬ (other ≡ id)) (beside : get_elem? (set s.views id (merged v w)) other ≡ some w) where
  abbrev both : List (View X D)
  both = set (set s.views id (merged v w)) other (newcomer 0)

  was_beside : get_elem? s.views other ≡ some w
  was_beside = sym (set_else s.views id other (merged v w) apart) ∙ beside

  one_sum : (f : View X D → ℕ) → f (merged v w) ≡ f v + f w → f (newcomer 0) ≡ 0 → total f both ≡ total f s.views
  one_sum f sum zero' =
      let a = total_set f s.views id v (merged v w) at in
      let b = total_set f (set s.views id (merged v w)) other w (newcomer 0) beside in
      omega (arith, sum, zero')

pub merges : {X D : Type 0} → (does : X → D → X → Type 0) (all : ℕ) (first : X) (id other : ℕ) (v w : View X D) → 0 < v.parts → w.tickets ≡ [] → w.turn ≡ false → Joins (InOrder does all first) id v other w (merged v w) (newcomer 0)
merges {X = X} {D = D} does all first id other v w some_part bare still s kept at apart beside =
    let m = merged v w in
    let n = newcomer 0 in record {
      next = kept.next;
      served = kept.served;
      value = kept.value;
      history = kept.history;
      waiting = kept.waiting;
      words = kept.words;
      small = kept.small;
      parts = one_sum s id other v w at apart beside (λ u. u.parts) refl refl ∙ kept.parts;
      placed = λ x. one_sum s id other v w at apart beside (λ u. times x (places u.mine)) (times-places-append x v.mine w.mine) refl ∙ kept.placed x;
      counted = one_sum s id other v w at apart beside (λ u. length u.mine) (length-both v.mine w.mine) refl ∙ kept.counted;
      stand = λ j u here. ⊎_elim (λ (e : (j ≡ other) × (n ≡ u)). subst (StandIn kept.history) (ap (λ (z : View X D). z.mine) e.1) tt)
          (λ (e : (j ≢ other) × (get_elem? (set s.views id m) j ≡ some u)). ⊎_elim (λ (d : (j ≡ id) × (m ≡ u)). subst (StandIn kept.history) (ap (λ (z : View X D). z.mine) d.1)
          (stand-both kept.history v.mine w.mine (kept.stand id v at) (kept.stand other w (was_beside s id other v w at apart beside))))
          (λ (d : (j ≢ id) × (get_elem? s.views j ≡ some u)). kept.stand j u d.1) (at_set s.views id j m u e.1)) (at_set (set s.views id m) other j n u here);
      long = kept.long;
      leads = kept.leads;
      out = λ x. ap (λ (k : ℕ). k + once_below x kept.served) (one_sum s id other v w at apart beside (λ u. times x u.tickets) (let e : times x w.tickets ≡ 0 = ap (times x) bare in omega arith) refl) ∙ kept.out x;
      turns = λ j u here turn. ⊎_elim (λ (e : (j ≡ other) × (n ≡ u)). absurd (let g : false ≡ true = ap (λ (z : View X D). z.turn) e.1 ∙ turn in cc))
          (λ (e : (j ≢ other) × (get_elem? (set s.views id m) j ≡ some u)). ⊎_elim (λ (d : (j ≡ id) × (m ≡ u)). (let q = kept.turns id v at (ap (λ (z : View X D). z.turn) d.1 ∙ turn) in (ap (λ (z : View X D). z.tickets) (sym d.1) ∙ q.0, ap (λ (z : View X D). z.took) (sym d.1) ∙ q.1)))
          (λ (d : (j ≢ id) × (get_elem? s.views j ≡ some u)). kept.turns j u d.1 turn) (at_set s.views id j m u e.1)) (at_set (set s.views id m) other j n u here);
      idle = λ j u here none'. ⊎_elim (λ (e : (j ≡ other) × (n ≡ u)). (sym (ap (λ (z : View X D). z.tickets) e.1), sym (ap (λ (z : View X D). z.turn) e.1), sym (ap (λ (z : View X D). z.mine) e.1)))
          (λ (e : (j ≢ other) × (get_elem? (set s.views id m) j ≡ some u)). ⊎_elim (λ (d : (j ≡ id) × (m ≡ u)). absurd (let p : v.parts + w.parts ≡ u.parts = ap (λ (z : View X D). z.parts) d.1 in omega arith))
          (λ (d : (j ≢ id) × (get_elem? s.views j ≡ some u)). kept.idle j u d.1 none') (at_set s.views id j m u e.1)) (at_set (set s.views id m) other j n u here);
      home = (let P : ℕ → Type 0 = λ k. Homed kept.served kept.value k s.homes in
          let e : turn_of w ≡ 0 = ap (λ (b : Bool). if b then 1 else 0) still in
          subst P (sym (one_sum s id other v w at apart beside turn_of (omega (arith, e)) refl)) kept.home);
    }

-- what is left of the table, by the seat that has every part
pub closes : {X D : Type 0} → (does : X → D → X → Type 0) (all : ℕ) (first : X) (id : ℕ) (v : View X D) (ws : List ℕ) (xs : List (Option (Content X D))) → Final (Seen (InOrder does all first) id v) ws xs → v.parts ≡ all → v.turn ≡ false
    → (f : Content X D) × (get_elem? xs 0 ≡ some (Some f)) × ((x : ℕ) → times x (places v.mine) ≡ once_below x (length v.mine)) × Went does first f.value v.mine
closes {X = X} {D = D} does all first id v ws xs end whole still =
    let kn = knows does all first id v end.0 end.1.0 end.1.1 whole still in (
      kn.1.0,
      end.4 0 (Some kn.1.0) (ap (λ h. get_elem? h 0) kn.1.1),
      kn.0,
      kn.1.2,
    )

-- and what is found in the slot is the value to which the history leads
pub finishes : {X D : Type 0} → (does : X → D → X → Type 0) (all : ℕ) (first : X) (id : ℕ) (v : View X D) (ws : List ℕ) (xs : List (Option (Content X D))) → Final (Seen (InOrder does all first) id v) ws xs → v.parts ≡ all → v.turn ≡ false
    → (found : Option (Content X D)) (f : Content X D) → get_elem? xs 0 ≡ some found → found ≡ Some f → Went does first f.value v.mine
finishes {X = X} {D = D} does all first id v ws xs end whole still found f at is =
    let c = closes does all first id v ws xs end whole still in
    let same : f ≡ c.0 = ap (or_else c.0) (sym is ∙ some-injective found (Some c.0) (sym at ∙ c.1)) in
    let P : Content X D → Type 0 = λ g. Went does first g.value v.mine in
    subst P (sym same) c.3
