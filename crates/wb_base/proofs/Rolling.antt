-- A term that rolls ends on the least day that is open.
use Rattle.std.proofs.Common.{◌≡◌, ◌≢◌, ◌+◌, ◌≤◌, ◌<◌, Bool, true, false, cond, eqb, List, [], ◌∷◌, refl, ap, ◌∙◌, arith, ℤ, pos, ◌+ℤ◌, ◌≤ℤ◌, ◌<ℤ◌, int_eq}
use Rattle.std.specs.Prelude.{fold, ◌||◌, int_lt}
use Rattle.std.specs.List.{list_any}
use Rattle.std.proofs.lemmas.Bool.Decides.{nat_tests}
use Rattle.std.proofs.lemmas.Int.{ints}
use Rattle.jiff_core.specs.Calendar.{weekday_number}
use Rattle.jiff_core.proofs.SignedLemmas.{signed_arith}
use Rattle.wb_base.specs.Calendars.{Calendar, ascend_from, ascend, is_weekend, is_off, after_weekend, after_holiday, end}

-- ---- the week

-- a day's number in its week is below 7, and that of the next day is the next
next_weekday : (day : ℤ) → (weekday_number day < 6 → weekday_number (day +ℤ pos 1) ≡ weekday_number day + 1) × (weekday_number day ≡ 6 → weekday_number (day +ℤ pos 1) ≡ 0) × (weekday_number day < 7)
unfolding weekday_number
next_weekday day = (λ k. omega (arith, signed_arith, k), λ k. omega (arith, signed_arith, k), omega (arith, signed_arith))

-- two days after a Saturday it is Monday, as it is a day after a Sunday
monday : (day : ℤ) → (weekday_number day ≡ 5 → weekday_number (day +ℤ pos 2) ≡ 0) × (weekday_number day ≡ 6 → weekday_number (day +ℤ pos 1) ≡ 0)
unfolding weekday_number
monday day = (λ k. omega (arith, signed_arith, k), λ k. omega (arith, signed_arith, k))

saturday : (day d : ℤ) → weekday_number day ≡ 5 → day ≤ℤ d → d <ℤ (day +ℤ pos 2) → 5 ≤ weekday_number d
unfolding weekday_number
saturday day d k low high = omega (arith, signed_arith, k, low, high)

sunday : (day d : ℤ) → weekday_number day ≡ 6 → day ≤ℤ d → d <ℤ (day +ℤ pos 1) → 5 ≤ weekday_number d
unfolding weekday_number
sunday day d k low high = omega (arith, signed_arith, k, low, high)

-- ---- what a day is put off to

-- the least day from this one on that is so
record IsLeast (off : ℤ → Bool) (day end : ℤ) : Type 0 where
  later : day ≤ℤ end
  on : off end ≡ false
  before : (d : ℤ) → day ≤ℤ d → d <ℤ end → off d ≡ true

no_weekend : (day : ℤ) → weekday_number day < 5 → is_weekend day ≡ false
no_weekend day k = grind (arith, nat_tests, k)

weekend : (day : ℤ) → 5 ≤ weekday_number day → is_weekend day ≡ true
weekend day k = grind (arith, nat_tests, k)

off_weekend : (day : ℤ) → IsLeast is_weekend day (after_weekend day)
off_weekend day = by (eqb (weekday_number day) 5) (eqb (weekday_number day) 6) refl refl
  where
    by : (b c : Bool) → eqb (weekday_number day) 5 ≡ b → eqb (weekday_number day) 6 ≡ c → IsLeast is_weekend day (cond b (day +ℤ pos 2) (cond c (day +ℤ pos 1) day))
    by true c is any = let k : weekday_number day ≡ 5 = grind (arith, nat_tests, is) in record {
      later = omega (arith, signed_arith);
      on = no_weekend (day +ℤ pos 2) (let z = (monday day).0 k in omega (arith, z));
      before = λ d low high. weekend d (saturday day d k low high);
    }
    by false true away is = let k : weekday_number day ≡ 6 = grind (arith, nat_tests, is) in record {
      later = omega (arith, signed_arith);
      on = no_weekend (day +ℤ pos 1) (let z = (monday day).1 k in omega (arith, z));
      before = λ d low high. weekend d (sunday day d k low high);
    }
    by false false away far = record {
      later = omega (arith, signed_arith);
      on = no_weekend day (let seven = (next_weekday day).2 in let a : weekday_number day ≢ 5 = grind (arith, nat_tests, away) in let b : weekday_number day ≢ 6 = grind (arith, nat_tests, far) in omega (arith, seven, a, b));
      before = λ d low high. absurd (omega (arith, signed_arith, low, high));
    }

-- ---- tests

eq_low : (a b : ℤ) → int_eq a b ≡ true → a ≤ℤ b
eq_low a b e = grind (arith, ints, e)

eq_high : (a b : ℤ) → int_eq a b ≡ true → b ≤ℤ a
eq_high a b e = grind (arith, ints, e)

lt_test : (a b : ℤ) → int_lt a b ≡ true → a <ℤ b
lt_test a b e = grind (arith, ints)

lt_not : (a b : ℤ) → int_lt a b ≡ false → b ≤ℤ a
lt_not a b e = grind (arith, ints)

apart : (a b : ℤ) → a <ℤ b → int_eq a b ≡ false
apart a b lt = grind (arith, ints, lt)

apart_above : (a b : ℤ) → b <ℤ a → int_eq a b ≡ false
apart_above a b lt = grind (arith, ints, lt)

after : (a b : ℤ) → int_eq a b ≡ false → a ≤ℤ b → (a +ℤ pos 1) ≤ℤ b
after a b away le = by (int_lt a b) refl
  where
    by : (c : Bool) → int_lt a b ≡ c → (a +ℤ pos 1) ≤ℤ b
    by true k = let lt : a <ℤ b = lt_test a b k in omega (arith, signed_arith, lt)
    by false k = absurd (let ge : b ≤ℤ a = lt_not a b k in grind (arith, ints, away, le, ge))

-- ---- holidays

ascend_more : (h : ℤ) (hs : List ℤ) → ascend_from h hs ≡ true → ascend hs ≡ true
ascend_more h [] up = refl
ascend_more h (k ∷ hs) up = grind (arith, up)

-- a day before all holidays stays
stays : (hs : List ℤ) (k x : ℤ) → x ≤ℤ k → ascend_from k hs ≡ true → fold after_holiday x hs ≡ x
stays [] k x le up = refl
stays (h ∷ hs) k x le up =
    let first : int_lt k h ≡ true = grind (arith, up) in
    let rest : ascend_from h hs ≡ true = grind (arith, up) in
    let above : k <ℤ h = lt_test k h first in
    let away : int_eq h x ≡ false = apart_above h x (omega (arith, signed_arith, le, above)) in
    ap (λ b. fold after_holiday (cond b (after_weekend (h +ℤ pos 1)) x) hs) away ∙ stays hs h x (omega (arith, signed_arith, le, above)) rest

abbrev off : List ℤ → ℤ → Bool
off hs d = is_weekend d || list_any (λ h. int_eq h d) hs

put_in : (w e a : Bool) → (w || a) ≡ true → (w || (e || a)) ≡ true
put_in true e a k = refl
put_in false true a k = refl
put_in false false a k = k

left_out : (w e a : Bool) → e ≡ false → (w || a) ≡ false → (w || (e || a)) ≡ false
left_out w e a k l = grind (arith, k, l)

weekend_is : (w e a : Bool) → w ≡ true → (w || (e || a)) ≡ true
weekend_is w e a k = grind (arith, k)

holiday_is : (w e a : Bool) → e ≡ true → (w || (e || a)) ≡ true
holiday_is w e a k = grind (arith, k)

-- a day that is no weekend ends on the least day that is open
rolls : (hs : List ℤ) (x : ℤ) → is_weekend x ≡ false → ascend hs ≡ true → IsLeast (off hs) x (fold after_holiday x hs)
rolls [] x week up = record { later = omega (arith, signed_arith); on = grind (arith, week); before = λ d low high. absurd (omega (arith, signed_arith, low, high)) }
rolls (h ∷ hs) x week up = by (λ z fits. rolls hs z fits (ascend_more h hs up)) (int_eq h x) refl
  where
    put_off : int_eq h x ≡ true → IsLeast (off hs) (after_weekend (h +ℤ pos 1)) (fold after_holiday (after_weekend (h +ℤ pos 1)) hs) → IsLeast (off (h ∷ hs)) x (fold after_holiday (after_weekend (h +ℤ pos 1)) hs)
    put_off is ih =
        let next = off_weekend (h +ℤ pos 1) in
        let low : h ≤ℤ x = eq_low h x is in
        let high : x ≤ℤ h = eq_high h x is in
        record {
          later = omega (arith, signed_arith, next.later, ih.later, high);
          on = left_out (is_weekend (fold after_holiday (after_weekend (h +ℤ pos 1)) hs)) (int_eq h (fold after_holiday (after_weekend (h +ℤ pos 1)) hs)) (list_any (λ k. int_eq k (fold after_holiday (after_weekend (h +ℤ pos 1)) hs)) hs) (apart h (fold after_holiday (after_weekend (h +ℤ pos 1)) hs) (omega (arith, signed_arith, next.later, ih.later))) ih.on;
          before = λ d from to. between d from to (int_eq h d) (int_lt d (after_weekend (h +ℤ pos 1))) refl refl;
        }
      where
        between : (d : ℤ) → x ≤ℤ d → d <ℤ fold after_holiday (after_weekend (h +ℤ pos 1)) hs → (b c : Bool) → int_eq h d ≡ b → int_lt d (after_weekend (h +ℤ pos 1)) ≡ c → off (h ∷ hs) d ≡ true
        between d from to true c same early = holiday_is (is_weekend d) (int_eq h d) (list_any (λ k. int_eq k d) hs) same
        between d from to false true other early = weekend_is (is_weekend d) (int_eq h d) (list_any (λ k. int_eq k d) hs) ((off_weekend (h +ℤ pos 1)).before d (after h d other (omega (arith, signed_arith, from, eq_low h x is))) (lt_test d (after_weekend (h +ℤ pos 1)) early))
        between d from to false false other late = put_in (is_weekend d) (int_eq h d) (list_any (λ k. int_eq k d) hs) (ih.before d (lt_not d (after_weekend (h +ℤ pos 1)) late) to)

    other_day : int_eq h x ≡ false → (b : Bool) → int_lt h x ≡ b → x ≤ℤ fold after_holiday x hs → int_eq h (fold after_holiday x hs) ≡ false
    other_day away true early later = let before : h <ℤ x = lt_test h x early in apart h (fold after_holiday x hs) (omega (arith, signed_arith, before, later))
    other_day away false late later = ap (int_eq h) (stays hs h x (lt_not h x late) up) ∙ away

    keep : int_eq h x ≡ false → IsLeast (off hs) x (fold after_holiday x hs) → IsLeast (off (h ∷ hs)) x (fold after_holiday x hs)
    keep away ih = record {
      later = ih.later;
      on = left_out (is_weekend (fold after_holiday x hs)) (int_eq h (fold after_holiday x hs)) (list_any (λ k. int_eq k (fold after_holiday x hs)) hs) (other_day away (int_lt h x) refl ih.later) ih.on;
      before = λ d from to. put_in (is_weekend d) (int_eq h d) (list_any (λ k. int_eq k d) hs) (ih.before d from to);
    }

    by : ((z : ℤ) → is_weekend z ≡ false → IsLeast (off hs) z (fold after_holiday z hs)) → (b : Bool) → int_eq h x ≡ b → IsLeast (off (h ∷ hs)) x (fold after_holiday (cond b (after_weekend (h +ℤ pos 1)) x) hs)
    by ih true is = put_off is (ih (after_weekend (h +ℤ pos 1)) (off_weekend (h +ℤ pos 1)).on)
    by ih false is = keep is (ih x week)

-- ---- the whole

either_is : (w a : Bool) → w ≡ true → (w || a) ≡ true
either_is w a k = grind (arith, k)

rolled : (hs : List ℤ) (day : ℤ) → ascend hs ≡ true → IsLeast (off hs) day (fold after_holiday (after_weekend day) hs)
rolled hs day up =
    let first = off_weekend day in
    let then_ = rolls hs (after_weekend day) first.on up in
    record {
      later = omega (arith, signed_arith, first.later, then_.later);
      on = then_.on;
      before = λ d from to. by d from to (int_lt d (after_weekend day)) refl;
    }
  where
    by : (d : ℤ) → day ≤ℤ d → d <ℤ fold after_holiday (after_weekend day) hs → (b : Bool) → int_lt d (after_weekend day) ≡ b → off hs d ≡ true
    by d from to true early = either_is (is_weekend d) (list_any (λ k. int_eq k d) hs) ((off_weekend day).before d from (lt_test d (after_weekend day) early))
    by d from to false late = (rolls hs (after_weekend day) (off_weekend day).on up).before d (lt_not d (after_weekend day) late) to

pub ends_later : (c : Calendar) (day : ℤ) → ascend c.holidays ≡ true → day ≤ℤ end c day
ends_later c day up = by c.roll
  where
    by : (b : Bool) → day ≤ℤ cond b (fold after_holiday (after_weekend day) c.holidays) day
    by true = (rolled c.holidays day up).later
    by false = omega (arith, signed_arith)

pub ends_open : (c : Calendar) (day : ℤ) → ascend c.holidays ≡ true → c.roll ≡ true → is_off c (end c day) ≡ false
ends_open c day up rolls_ = ap (λ b. is_off c (cond b (fold after_holiday (after_weekend day) c.holidays) day)) rolls_ ∙ (rolled c.holidays day up).on

pub ends_least : (c : Calendar) (day d : ℤ) → ascend c.holidays ≡ true → day ≤ℤ d → d <ℤ end c day → is_off c d ≡ true
ends_least c day d up from to = by c.roll to
  where
    by : (b : Bool) → d <ℤ cond b (fold after_holiday (after_weekend day) c.holidays) day → is_off c d ≡ true
    by true k = (rolled c.holidays day up).before d from k
    by false k = absurd (omega (arith, signed_arith, from, k))

pub ends_same : (c : Calendar) (day : ℤ) → c.roll ≡ false → end c day ≡ day
ends_same c day off_it = ap (λ b. cond b (fold after_holiday (after_weekend day) c.holidays) day) off_it
