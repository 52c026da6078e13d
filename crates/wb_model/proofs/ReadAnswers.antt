-- What JSON that was read is: members in the order of their keys, and numbers of 64 bits. So answers in it stand in byte order of their ids, each in its range.
use Rattle.std.proofs.Common.{◌≡◌, ℕ, ◌^◌, ◌≤◌, ◌<◌, Bool, true, false, cond, not, List, [], ◌∷◌, length, Option, Some, None, refl, sym, ap, ◌∙◌, subst, arith, ℤ, pos, neg_ℤ, codes}
use Rattle.std.specs.Float.{binary64, float_is_finite}
use Rattle.std.specs.Prelude.{⊤, drop, nat_le, nat_lt, ◌&&◌, ◌==◌, option_map, option_and_then, int_le, slice_index}
use Rattle.std.specs.List.{list_all}
use Rattle.std.specs.Ordering.{nat_cmp, ordering_reverse, match_ordering, is_lt}
use Rattle.std.specs.declared.cmp.Ordering.{Ordering}
use Rattle.std.specs.declared.cmp.Ordering.TheVariants.{Less, Equal, Greater}
use Rattle.std.specs.Cmp.Lexicographic.{slice_cmp}
use Rattle.std.proofs.lemmas.Bool.{and_parts, and_from}
use Rattle.std.proofs.lemmas.Int.{ints}
use Rattle.std.proofs.lemmas.Bool.Decides.{nat_tests}
use Rattle.std.proofs.lemmas.Cmp.{nat_list_cmp_total}
use Rattle.fast_float.specs.Text.{minus, Parts, scan, digits_of, nearest}
use Rattle.json.specs.Json as json
use Rattle.json.specs.Lex.{tokens}
use Rattle.serde_json.specs.Data.{Num, unsigned, negative, float, Data, null, boolean, number, string, array, object, Items, no_items, item, Members, no_members, member, put}
use Rattle.serde_json.specs.Find.{get, get_member, as_str, as_i64, as_object}
use Rattle.serde_json.specs.Read.{number_of, number_from, float_of, is_integer, of_json, of_items, of_members, max_depth, read}
use Rattle.wb_base.specs.declared.answers.Given.{Given}
use Rattle.wb_base.specs.declared.answers.Given.TheVariants as given
use Rattle.wb_base.specs.AnswerList.{Answered}
use Rattle.wb_base.specs.FormShape.{size, list_of}
use Rattle.wb_model.specs.AnswerRanges.{is_answer, is_id_before, are_answers}
use Rattle.wb_model.specs.Bodies.{under, answer, given_text, file, with_entry, entries, answers}
use Rattle.wb_model.specs.Ordered.{are_ordered}
use Rattle.wb_base.proofs.Options.{then_some, map_some, if_some}

-- ---- values that were read: members in the order of their keys, and numbers of 64 bits

abbrev IsFit : Num → Type 0
IsFit (unsigned n) = ⊤
IsFit (negative z) = (int_le (neg_ℤ (pos 9_223_372_036_854_775_808)) z ≡ true) × (int_le z (pos 0) ≡ true)
IsFit (float x) = ⊤

abbrev IsBefore : List ℕ → Members → Type 0
IsBefore k no_members = ⊤
IsBefore k (member l d ms) = (slice_cmp nat_cmp k l ≡ Less) × IsBefore k ms

abbrev mutual
  IsRead : Data → Type 0
  IsRead null = ⊤
  IsRead (boolean b) = ⊤
  IsRead (number n) = IsFit n
  IsRead (string s) = ⊤
  IsRead (array ds) = ItemsAreRead ds
  IsRead (object ms) = MembersAreRead ms

  ItemsAreRead : Items → Type 0
  ItemsAreRead no_items = ⊤
  ItemsAreRead (item d ds) = IsRead d × ItemsAreRead ds

  MembersAreRead : Members → Type 0
  MembersAreRead no_members = ⊤
  MembersAreRead (member k d ms) = IsBefore k ms × IsRead d × MembersAreRead ms

pub before_later : (k l : List ℕ) (ms : Members) → slice_cmp nat_cmp k l ≡ Less → IsBefore l ms → IsBefore k ms
before_later k l no_members less b = tt
before_later k l (member m e ms) less b = (nat_list_cmp_total.trans k l m less b.0, before_later k l ms less b.1)

pub before_put : (k l : List ℕ) (d : Data) (ms : Members) → slice_cmp nat_cmp k l ≡ Less → IsBefore k ms → IsBefore k (put l d ms)
before_put k l d no_members less b = (less, tt)
before_put k l d (member m e ms) less b = by (slice_cmp nat_cmp l m) refl (before_put k l d ms less b.1)
  where
    by : (o : Ordering) → slice_cmp nat_cmp l m ≡ o → IsBefore k (put l d ms) → IsBefore k (put l d (member m e ms))
    by Less is more = rw is (less, b)
    by Equal is more = rw is b
    by Greater is more = rw is (b.0, more)

put_read : (k : List ℕ) (d : Data) (ms : Members) → IsRead d → MembersAreRead ms → MembersAreRead (put k d ms)
put_read k d no_members own are = (tt, own, tt)
put_read k d (member l e ms) own are = by (slice_cmp nat_cmp k l) refl (put_read k d ms own are.2)
  where
    by : (o : Ordering) → slice_cmp nat_cmp k l ≡ o → MembersAreRead (put k d ms) → MembersAreRead (put k d (member l e ms))
    by Less is more = rw is ((is, before_later k l ms is are.0), own, are)
    by Equal is more = rw is (are.0, own, are.2)
    by Greater is more =
        let less : slice_cmp nat_cmp l k ≡ Less = nat_list_cmp_total.antisymm l k ∙ ap ordering_reverse is in
        rw is (before_put l k d ms less are.0, are.1, more)

-- ---- what is read

float_fit : (sign : Bool) (p : Parts) (n : Num) → float_of sign p ≡ Some n → IsFit n
float_fit sign p n e = by (float_is_finite (nearest binary64 sign p)) e
  where
    by : (c : Bool) → cond c (Some (float (nearest binary64 sign p))) None ≡ Some n → IsFit n
    by true f = let same : float (nearest binary64 sign p) ≡ n = cc in subst IsFit same tt
    by false f = absurd cc

number_fit : (b : Bool) (p : Parts) (n : Num) → number_from b p ≡ Some n → IsFit n
number_fit false p n e = by (is_integer p && nat_lt (digits_of p) (2 ^ 64)) e
  where
    by : (b : Bool) → cond b (Some (unsigned (digits_of p))) (float_of false p) ≡ Some n → IsFit n
    by true f = let same : unsigned (digits_of p) ≡ n = cc in subst IsFit same tt
    by false f = float_fit false p n f
number_fit true p n e = by (is_integer p && nat_lt 0 (digits_of p) && nat_le (digits_of p) (2 ^ 63)) refl e
  where
    by : (b : Bool) → (is_integer p && nat_lt 0 (digits_of p) && nat_le (digits_of p) (2 ^ 63)) ≡ b → cond b (Some (negative (neg_ℤ (pos (digits_of p))))) (float_of true p) ≡ Some n → IsFit n
    by true is f =
        let same : negative (neg_ℤ (pos (digits_of p))) ≡ n = cc in
        let le : nat_le (digits_of p) (2 ^ 63) ≡ true = (and_parts (is_integer p && nat_lt 0 (digits_of p)) (nat_le (digits_of p) (2 ^ 63)) is).1 in
        let small : digits_of p ≤ 2 ^ 63 = grind (arith, nat_tests, le) in
        subst IsFit same (grind (arith, ints, small), grind (arith, ints))
    by false is f = float_fit true p n f

text_fit : (s : List ℕ) (n : Num) → number_of s ≡ Some n → IsFit n
unfolding number_of
text_fit s n e = by (slice_index s 0 == minus) e
  where
    by : (b : Bool) → cond b (number_from true (scan (drop 1 s))) (number_from false (scan s)) ≡ Some n → IsFit n
    by true f = number_fit true (scan (drop 1 s)) n f
    by false f = number_fit false (scan s) n f

mutual
  json_read : (j : json.Json) (d : Data) → of_json j ≡ Some d → IsRead d
  json_read json.null d e = let same : null ≡ d = cc in subst IsRead same tt
  json_read (json.boolean b) d e = let same : boolean b ≡ d = cc in subst IsRead same tt
  json_read (json.number s) d e = let k = map_some number (number_of s) d e in subst IsRead k.2 (text_fit s k.0 k.1)
  json_read (json.string s) d e = let same : string s ≡ d = cc in subst IsRead same tt
  json_read (json.array js) d e = let k = map_some array (of_items js) d e in subst IsRead k.2 (items_read js k.0 k.1)
  json_read (json.object ms) d e = let k = map_some object (of_members ms no_members) d e in subst IsRead k.2 (members_read ms no_members k.0 tt k.1)

  items_read : (js : json.Items) (ds : Items) → of_items js ≡ Some ds → ItemsAreRead ds
  items_read json.no_items ds e = let same : no_items ≡ ds = cc in subst ItemsAreRead same tt
  items_read (json.item j js) ds e =
      let k = then_some (λ d. option_map (item d) (of_items js)) (of_json j) ds e in
      let m = map_some (item k.0) (of_items js) ds k.2 in
      subst ItemsAreRead m.2 (json_read j k.0 k.1, items_read js m.0 m.1)

  members_read : (ms : json.Members) (found all : Members) → MembersAreRead found → of_members ms found ≡ Some all → MembersAreRead all
  members_read json.no_members found all are e = let same : found ≡ all = cc in subst MembersAreRead same are
  members_read (json.member k j ms) found all are e =
      let d = then_some (λ x. of_members ms (put k x found)) (of_json j) all e in
      members_read ms (put k d.0 found) all (put_read k d.0 found (json_read j d.0 d.1) are) d.2

pub text_read : (text : List ℕ) (d : Data) → read text ≡ Some d → IsRead d
text_read text d e = let k = then_some of_json (option_and_then (λ p. json.if_last p.0 p.1) (json.value max_depth (tokens text))) d e in json_read k.0 d k.2

-- ---- answers

whole_fit : (n : Num) (z : ℤ) → IsFit n → as_i64 n ≡ Some z → is_answer (given.Whole z) ≡ true
whole_fit (unsigned n) z fit e =
    let k = if_some (nat_lt n (2 ^ 63)) (Some (pos n)) z e in
    let same : pos n ≡ z = (let f = k.1 in cc) in
    let lt : nat_lt n (2 ^ 63) ≡ true = k.0 in
    subst (λ x. is_answer (given.Whole x) ≡ true) same (and_from (int_le (neg_ℤ (pos 9_223_372_036_854_775_808)) (pos n)) (int_le (pos n) (pos 9_223_372_036_854_775_807)) (grind (arith, ints)) (let small : n < 2 ^ 63 = grind (arith, nat_tests, lt) in grind (arith, ints, small)))
whole_fit (negative y) z fit e = let same : y ≡ z = cc in subst (λ x. is_answer (given.Whole x) ≡ true) same (and_from (int_le (neg_ℤ (pos 9_223_372_036_854_775_808)) y) (int_le y (pos 9_223_372_036_854_775_807)) fit.0 (let le : int_le y (pos 0) ≡ true = fit.1 in grind (arith, ints, le)))
whole_fit (float x) z fit e = absurd cc

text_answer : (s : List ℕ) (g : Given) → given_text s ≡ Some g → is_answer g ≡ true
text_answer s g e = by (length s == 0) refl e
  where
    by : (b : Bool) → (length s == 0) ≡ b → cond b None (Some (given.Text s)) ≡ Some g → is_answer g ≡ true
    by true is f = absurd cc
    by false is f = let same : given.Text s ≡ g = cc in subst (λ x. is_answer x ≡ true) same (ap not is)

file_answer : (d : Data) (g : Given) → file d ≡ Some g → is_answer g ≡ true
file_answer d g e =
    let a = (if_some (size d == 2) (option_and_then (λ name. option_map (λ content. given.File name content) (under (codes "data") as_str d)) (under (codes "name") as_str d)) g e).1 in
    let b = then_some (λ name. option_map (λ content. given.File name content) (under (codes "data") as_str d)) (under (codes "name") as_str d) g a in
    let c = map_some (λ content. given.File b.0 content) (under (codes "data") as_str d) g b.2 in
    ap is_answer (sym c.2)

answer_fit : (d : Data) (g : Given) → IsRead d → answer d ≡ Some (Some g) → is_answer g ≡ true
answer_fit null g fit e = absurd cc
answer_fit (boolean flag) g fit e = let same : given.Flag flag ≡ g = cc in ap is_answer (sym same)
answer_fit (number n) g fit e = let k = map_some (λ z. Some (given.Whole z)) (as_i64 n) (Some g) e in let same : given.Whole k.0 ≡ g = (let f = k.2 in cc) in subst (λ x. is_answer x ≡ true) same (whole_fit n k.0 fit k.1)
answer_fit (string s) g fit e = text_answer s g (let same : given_text s ≡ Some g = cc in same)
answer_fit (array ds) g fit e = let k = map_some (λ texts. Some (given.List texts)) (list_of as_str (array ds)) (Some g) e in let same : given.List k.0 ≡ g = (let f = k.2 in cc) in ap is_answer (sym same)
answer_fit (object ms) g fit e = let k = map_some Some (file (object ms)) (Some g) e in file_answer (object ms) g (k.1 ∙ k.2)

-- the ids of answers come after a key
abbrev AreAfter : List ℕ → Answered → Type 0
AreAfter k [] = ⊤
AreAfter k (a ∷ as_) = (slice_cmp nat_cmp k a.0 ≡ Less) × AreAfter k as_

after_before : (k : List ℕ) (g : Given) (as_ : Answered) → AreAfter k as_ → list_all (is_id_before (k, g)) as_ ≡ true
after_before k g [] after = refl
after_before k g (a ∷ as_) after = and_from _ _ (ap is_lt after.0) (after_before k g as_ after.1)

entries_after : (k : List ℕ) (ms : Members) (a : Answered) → IsBefore k ms → entries ms ≡ Some a → AreAfter k a
entries_after k no_members a before e = let same : [] ≡ a = cc in subst (AreAfter k) same tt
entries_after k (member l d ms) a before e =
    let g = then_some (λ x. option_map (with_entry l x) (entries ms)) (answer d) a e in
    let rest = map_some (with_entry l g.0) (entries ms) a g.2 in
    subst (AreAfter k) rest.2 (by g.0 rest.0 (entries_after k ms rest.0 before.1 rest.1))
  where
    by : (o : Option Given) (r : Answered) → AreAfter k r → AreAfter k (with_entry l o r)
    by None r after = after
    by (Some x) r after = (before.0, after)

entries_fit : (ms : Members) (a : Answered) → MembersAreRead ms → entries ms ≡ Some a → are_answers a ≡ true
entries_fit no_members a fit e = let same : [] ≡ a = cc in subst (λ x. are_answers x ≡ true) same refl
entries_fit (member l d ms) a fit e =
    let g = then_some (λ x. option_map (with_entry l x) (entries ms)) (answer d) a e in
    let rest = map_some (with_entry l g.0) (entries ms) a g.2 in
    subst (λ x. are_answers x ≡ true) rest.2 (by g.0 g.1 rest.0 (entries_after l ms rest.0 fit.0 rest.1) (entries_fit ms rest.0 fit.2 rest.1))
  where
    by : (o : Option Given) → answer d ≡ Some o → (r : Answered) → AreAfter l r → are_answers r ≡ true → are_answers (with_entry l o r) ≡ true
    by None is r after all = all
    by (Some x) is r after all =
        let parts = and_parts (list_all (λ entry. is_answer entry.1) r) (are_ordered is_id_before r) all in
        and_from _ _ (and_from _ _ (answer_fit d x fit.1 is) parts.0) (and_from _ _ (after_before l x r after) parts.1)

object_read : (d : Data) (ms : Members) → IsRead d → as_object d ≡ Some ms → MembersAreRead ms
object_read (object ns) ms fit e = let same : ns ≡ ms = cc in subst MembersAreRead same fit
object_read null ms fit e = absurd cc
object_read (boolean b) ms fit e = absurd cc
object_read (number n) ms fit e = absurd cc
object_read (string s) ms fit e = absurd cc
object_read (array ds) ms fit e = absurd cc

-- the answers that a value is are in order, each in its range
pub answers_fit : (d : Data) (a : Answered) → IsRead d → answers d ≡ Some a → are_answers a ≡ true
answers_fit d a fit e = let k = then_some entries (as_object d) a e in entries_fit k.0 a (object_read d k.0 fit k.1) k.2

member_read : (k : List ℕ) (ms : Members) (d : Data) → MembersAreRead ms → get_member k ms ≡ Some d → IsRead d
member_read k no_members d fit e = absurd cc
member_read k (member l x ms) d fit e = by (slice_cmp nat_cmp k l) e (member_read k ms d fit.2)
  where
    by : (o : Ordering) → match_ordering o (get_member k ms) (Some x) (get_member k ms) ≡ Some d → (get_member k ms ≡ Some d → IsRead d) → IsRead d
    by Less f ih = ih f
    by Equal f ih = let same : x ≡ d = cc in subst IsRead same fit.1
    by Greater f ih = ih f

pub got_read : (k : List ℕ) (v d : Data) → IsRead v → get k v ≡ Some d → IsRead d
got_read k (object ms) d fit e = member_read k ms d fit e
got_read k null d fit e = absurd cc
got_read k (boolean b) d fit e = absurd cc
got_read k (number n) d fit e = absurd cc
got_read k (string s) d fit e = absurd cc
got_read k (array ds) d fit e = absurd cc
