-- The notices that are left where reports are dropped.
use Rattle.std.proofs.Common.{◌≡◌, ℕ, ◌++◌, Bool, true, false, not, List, [], ◌∷◌, map, filter, Option, Some, None, refl, sym, ap, ◌∙◌}
use Rattle.std.proofs.lemmas.Bool.{and_parts, eq-eqb, eqb-true, or_left, or_right}
use Rattle.std.proofs.lemmas.List.Elements.{All-cons, All-nil}
use Rattle.std.specs.Prelude.{◌==◌, ◌&&◌, ◌||◌, All, IfSome}
use Rattle.std.specs.List.{list_all}
use Rattle.wb_base.specs.KeptRows.{IsGoodChange, all_changed, is_of_report}
use Rattle.wb_base.specs.declared.rows.Change.{Change as RowChange}
use Rattle.wb_base.specs.declared.rows.Change.TheVariants.{Put, DropReport}
use Rattle.wb_base.specs.declared.rows.Row.{Row}
use Rattle.wb_model.proofs.Found.{filter_both, filter_same}
use Rattle.wb_model.proofs.RowLaw.{AreDrops, dropped_append, drops_append, is_dropped}
use Rattle.wb_notice.specs.declared.live.LiveReport.{LiveReport}
use Rattle.wb_notice.specs.declared.notice.Notice.{Notice}
use Rattle.wb_notice.specs.LiveReports.{has_report, is_among, is_on_last}
use Rattle.wb_notice.specs.Notices.{notice_row}
use Rattle.wb_notice.proofs.ListFacts.{all_push, all_weaker, filter-map}

abbrev pub stays_by : List RowChange → Notice → Bool
stays_by ds n = not (is_dropped n.tenant n.number ds)

all_stay : (ns : List Notice) → filter (stays_by []) ns ≡ ns
all_stay [] = refl
all_stay (n ∷ ns) = ap (λ l. n ∷ l) (all_stay ns)

pub left_by : (ds : List RowChange) (ns : List Notice) → AreDrops ds → all_changed (map notice_row ns) ds ≡ map notice_row (filter (stays_by ds) ns)
left_by [] ns drops = ap (map notice_row) (sym (all_stay ns))
left_by (Put r ∷ ds) ns drops = absurd drops
left_by (DropReport t k ∷ ds) ns drops =
    ap (λ rows. all_changed rows ds) (filter-map notice_row (λ (row : Row). not (is_of_report t k row.key)) ns)
    ∙ (left_by ds (filter (λ (n : Notice). not ((n.tenant == t) && (n.number == k))) ns) drops
    ∙ ap (map notice_row) (filter_both (λ (n : Notice). not ((n.tenant == t) && (n.number == k))) (stays_by ds) ns ∙ filter_same _ _ (λ n. both ((n.tenant == t) && (n.number == k)) (is_dropped n.tenant n.number ds)) ns))
  where
    both : (a b : Bool) → (not a && not b) ≡ not (a || b)
    both true b = refl
    both false b = refl

-- ---- which reports are dropped

-- the reports of these notices that are not live are dropped, and no live one; the last notice is on a dropped one
pub record AreGone (live : List LiveReport) (done : List Notice) (ds : List RowChange) (last : Option Notice) : Type 0 where
  pub drops : AreDrops ds
  pub dead : (t n : ℕ) → is_dropped t n ds ≡ true → has_report live t n ≡ false
  pub all : list_all (λ (n : Notice). is_among live n || is_dropped n.tenant n.number ds) done ≡ true
  pub gone : IfSome last (λ (n : Notice). is_dropped n.tenant n.number ds ≡ true)

module _ (live : List LiveReport) (done : List Notice) (ds : List RowChange) (last : Option Notice) (n : Notice) (h : AreGone live done ds last) where
  pub gone_live : is_among live n ≡ true → AreGone live (done ++ n ∷ []) ds last
  gone_live is = record {
    drops = h.drops;
    dead = h.dead;
    all = all_push _ done n h.all (or_left (is_among live n) (is_dropped n.tenant n.number ds) is);
    gone = h.gone;
  }

  pub gone_again : is_on_last last n ≡ true → AreGone live (done ++ n ∷ []) ds last
  gone_again is = record {
    drops = h.drops;
    dead = h.dead;
    all = all_push _ done n h.all (or_right (is_among live n) (is_dropped n.tenant n.number ds) (by last is h.gone));
    gone = h.gone;
  }
    where
      by : (o : Option Notice) → is_on_last o n ≡ true → IfSome o (λ (m : Notice). is_dropped m.tenant m.number ds ≡ true) → is_dropped n.tenant n.number ds ≡ true
      by None e g = absurd (cc (e))
      by (Some m) e g =
          let parts = and_parts (m.tenant == n.tenant) (m.number == n.number) e in
          rw (← eqb-true m.tenant n.tenant parts.0, ← eqb-true m.number n.number parts.1) g

  pub gone_more : is_among live n ≡ false → AreGone live (done ++ n ∷ []) (ds ++ DropReport n.tenant n.number ∷ []) (Some n)
  gone_more dead = record {
    drops = drops_append ds (DropReport n.tenant n.number ∷ []) h.drops tt;
    dead = λ t k e. by t k (is_dropped t k ds) refl ((t == n.tenant) && (k == n.number)) refl (sym (dropped_append t k ds (DropReport n.tenant n.number ∷ [])) ∙ e);
    all = all_push _ done n (all_weaker _ _ (λ m e. still m (is_among live m) (is_dropped m.tenant m.number ds) refl e) done h.all) (or_right (is_among live n) _ own);
    gone = own;
  }
    where
      by : (t k : ℕ) (b : Bool) → is_dropped t k ds ≡ b → (c : Bool) → ((t == n.tenant) && (k == n.number)) ≡ c → (b || (c || false)) ≡ true → has_report live t k ≡ false
      by t k true is c hit e = h.dead t k is
      by t k false is true hit e =
          let parts = and_parts (t == n.tenant) (k == n.number) hit in
          rw (eqb-true t n.tenant parts.0, eqb-true k n.number parts.1) dead
      by t k false is false hit e = absurd (cc (e))

      still : (m : Notice) (a b : Bool) → is_dropped m.tenant m.number ds ≡ b → (a || b) ≡ true → (a || is_dropped m.tenant m.number (ds ++ DropReport n.tenant n.number ∷ [])) ≡ true
      still m true b is e = refl
      still m false true is e = dropped_append m.tenant m.number ds (DropReport n.tenant n.number ∷ []) ∙ rw is refl
      still m false false is e = absurd (cc (e))

      own : is_dropped n.tenant n.number (ds ++ DropReport n.tenant n.number ∷ []) ≡ true
      own = dropped_append n.tenant n.number ds (DropReport n.tenant n.number ∷ []) ∙ rw (eq-eqb n.tenant n.tenant refl, eq-eqb n.number n.number refl) (or_right (is_dropped n.tenant n.number ds) true refl)

pub gone_none : (live : List LiveReport) → AreGone live [] [] None
gone_none live = record { drops = tt; dead = λ t n e. absurd (cc (e)); all = refl; gone = tt }

filter_by : {X : Type 0} (p q r : X → Bool) → ((x : X) → (r x ≡ true) → p x ≡ q x) → (xs : List X) → list_all r xs ≡ true → filter p xs ≡ filter q xs
filter_by p q r same [] all = refl
filter_by p q r same (x ∷ xs) all = let parts = and_parts (r x) (list_all r xs) all in rw (same x parts.0, filter_by p q r same xs parts.1) refl

-- those of live reports are left
pub gone_all : (live : List LiveReport) (ns : List Notice) (ds : List RowChange) (last : Option Notice) → AreGone live ns ds last → all_changed (map notice_row ns) ds ≡ map notice_row (filter (is_among live) ns)
gone_all live ns ds last h = left_by ds ns h.drops ∙ ap (map notice_row) (filter_by (stays_by ds) (is_among live) (λ (n : Notice). is_among live n || is_dropped n.tenant n.number ds) (λ n e. by n (is_among live n) refl (is_dropped n.tenant n.number ds) refl e) ns h.all)
  where
    by : (n : Notice) (a : Bool) → is_among live n ≡ a → (b : Bool) → is_dropped n.tenant n.number ds ≡ b → (a || b) ≡ true → not b ≡ a
    by n true lives true gone e = cc (lives, h.dead n.tenant n.number gone)
    by n true lives false gone e = refl
    by n false lives true gone e = refl
    by n false lives false gone e = absurd (cc (e))

pub gone_good : (ds : List RowChange) → AreDrops ds → All IsGoodChange ds
gone_good [] drops = All-nil IsGoodChange
gone_good (Put r ∷ ds) drops = absurd drops
gone_good (DropReport t n ∷ ds) drops = All-cons IsGoodChange (DropReport t n) ds tt (gone_good ds drops)
