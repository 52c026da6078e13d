-- A store's name comes apart in one way.
use Rattle.std.proofs.Common.{◌≡◌, ◌==◌, ℕ, ◌+◌, ◌<◌, Bool, true, false, not, cond, List, [], ◌∷◌, ◌++◌, length, Some, None, refl, sym, ap, ◌∙◌, arith, true≢false, take_at, drop_at, length-append, eqb-true, get_or, subst, drop, drop-drop, ap₂, append_assoc, Bor}
use Rattle.std.specs.Prelude.{codes, if◌then◌else◌}
use Rattle.std.specs.Str.Pattern.{FindsTextPrefix}
use Rattle.std.specs.List.{All, list_all, slice_split, join_with_byte, position_or_len, before_first, after_first}
use Rattle.std.proofs.lemmas.Bool.{and_parts, and_from, and_left, and_right}
use Rattle.std.proofs.lemmas.List.{append_cancel_left}
use Rattle.std.proofs.lemmas.List.Folds.{list_all-append}
use Rattle.std.proofs.lemmas.List.Sums.{AllPass-from_list_all, split_at_first, passes_at_first, fails_before_first}
use Rattle.std.proofs.lemmas.List.Splits.{slice_split_first, slice_split_none, slice_split_at, length-slice_split, join_with_byte-slice_split}
use Rattle.std.proofs.lemmas.Str.Pattern.{IsSplitOnceResult, split_once_first}
use Rattle.wb_etcd.specs.StoreNames.{is_endpoint_byte, is_endpoint, is_prefix, listed, endpoints_in, name_text, IsStoreName}

abbrev pub is_comma : ℕ → Bool
is_comma b = b == 44

abbrev pub is_slash : ℕ → Bool
is_slash b = b == 47

-- a byte of an endpoint is not one that no endpoint has
other_byte : (c b : ℕ) → is_endpoint_byte c ≡ false → is_endpoint_byte b ≡ true → (b == c) ≡ false
other_byte c b out is_one = by (b == c) refl
  where
    by : (t : Bool) → (b == c) ≡ t → (b == c) ≡ false
    by true e = absurd (true≢false (sym is_one ∙ (ap is_endpoint_byte (eqb-true b c e) ∙ out)))
    by false e = e

has_bytes : (text : List ℕ) → is_endpoint text ≡ true → list_all is_endpoint_byte text ≡ true
has_bytes text is = (and_parts _ _ is).0

no_comma : (text : List ℕ) → is_endpoint text ≡ true → All (λ b. is_comma b ≡ false) text
no_comma text is = λ k d less. other_byte 44 (get_or text k d) refl (AllPass-from_list_all is_endpoint_byte text (has_bytes text is) k d less)

no_slash : (text : List ℕ) → list_all is_endpoint_byte text ≡ true → list_all (λ b. not (is_slash b)) text ≡ true
no_slash [] all = refl
no_slash (b ∷ bs) all = and_from _ _ (ap not (other_byte 47 b refl (and_parts _ _ all).0)) (no_slash bs (and_parts _ _ all).1)

-- ---- parts that are read

-- the part before the first comma, and those behind it
pub first_part : (rest : List ℕ) (part others : Bor (List ℕ)) → IsSplitOnceResult 44 rest (Some (part, others)) → slice_split is_comma rest ≡ part.now ∷ slice_split is_comma others.now
first_part rest part others found =
    let first = split_once_first 44 rest (Some (part, others)) found (omega arith) in
    slice_split_first is_comma rest 0 first.0 ∙ ap₂ (λ (p o : List ℕ). p ∷ slice_split is_comma o) (sym first.1) (sym first.2)

-- without a comma there is one part
pub last_part : (rest : List ℕ) → IsSplitOnceResult 44 rest None → slice_split is_comma rest ≡ rest ∷ []
last_part rest none =
    let at = split_once_first 44 rest None none (omega arith) in
    slice_split_none is_comma rest (λ k d less. fails_before_first is_comma rest k d (omega (arith, at, less)))

endpoints_by : (parts : List (List ℕ)) (t : Bool) → t ≡ true → (if t then Some parts else None) ≡ Some parts
endpoints_by parts true all = refl
endpoints_by parts false all = absurd (true≢false (sym all))

none_by : (parts : List (List ℕ)) (t : Bool) → t ≡ false → None ≡ (if t then Some parts else None)
none_by parts true out = absurd (true≢false out)
none_by parts false out = refl

pub none_read : (text : List ℕ) (done : List (List ℕ)) (part : List ℕ) (more : List (List ℕ)) → slice_split is_comma text ≡ done ++ part ∷ more → is_endpoint part ≡ false → None ≡ endpoints_in text
none_read text done part more parts out =
    let some : list_all is_endpoint (done ++ part ∷ more) ≡ false = list_all-append is_endpoint done (part ∷ more) ∙ and_right (list_all is_endpoint done) _ (and_left (is_endpoint part) (list_all is_endpoint more) out) in
    none_by (slice_split is_comma text) _ (ap (list_all is_endpoint) parts ∙ some)

pub more_parts : (text : List ℕ) (done new : List (List ℕ)) (part : List ℕ) (more : List (List ℕ)) → slice_split is_comma text ≡ done ++ part ∷ more → new ≡ done ++ part ∷ [] → slice_split is_comma text ≡ new ++ more
more_parts text done new part more parts pushed = parts ∙ (sym (append_assoc done (part ∷ []) more) ∙ ap (λ (front : List (List ℕ)). front ++ more) (sym pushed))

pub more_read : (done new : List (List ℕ)) (part : List ℕ) → list_all is_endpoint done ≡ true → is_endpoint part ≡ true → new ≡ done ++ part ∷ [] → list_all is_endpoint new ≡ true
more_read done new part all is_one pushed = ap (list_all is_endpoint) pushed ∙ (list_all-append is_endpoint done (part ∷ []) ∙ and_from _ _ all (and_from _ _ is_one refl))

pub all_read : (text : List ℕ) (new : List (List ℕ)) {done : List (List ℕ)} → slice_split is_comma text ≡ done → new ≡ done → list_all is_endpoint new ≡ true → Some new ≡ endpoints_in text
all_read text new parts pushed all =
    let same : new ≡ slice_split is_comma text = pushed ∙ sym parts in
    ap Some same ∙ sym (endpoints_by (slice_split is_comma text) _ (ap (list_all is_endpoint) (sym same) ∙ all))

-- ---- endpoints that are listed

joined_parts : (e : List (List ℕ)) → 0 < length e → list_all is_endpoint e ≡ true → slice_split is_comma (join_with_byte 44 e) ≡ e
joined_parts [] some all = absurd (omega (arith, some))
joined_parts (x ∷ []) some all = slice_split_none is_comma x (no_comma x (and_parts _ _ all).0)
joined_parts (x ∷ y ∷ others) some all =
    slice_split_at is_comma x 44 (join_with_byte 44 (y ∷ others)) (no_comma x (and_parts _ _ all).0) refl
    ∙ ap (λ (parts : List (List ℕ)). x ∷ parts) (joined_parts (y ∷ others) (omega arith) (and_parts _ _ all).1)

joined_no_slash : (e : List (List ℕ)) → list_all is_endpoint e ≡ true → list_all (λ b. not (is_slash b)) (join_with_byte 44 e) ≡ true
joined_no_slash [] all = refl
joined_no_slash (x ∷ []) all = no_slash x (has_bytes x (and_parts _ _ all).0)
joined_no_slash (x ∷ y ∷ others) all =
    list_all-append (λ b. not (is_slash b)) x (44 ∷ join_with_byte 44 (y ∷ others))
    ∙ and_from _ _ (no_slash x (has_bytes x (and_parts _ _ all).0)) (joined_no_slash (y ∷ others) (and_parts _ _ all).1)

first_slash : (xs ys : List ℕ) → list_all (λ b. not (is_slash b)) xs ≡ true → position_or_len is_slash (xs ++ 47 ∷ ys) ≡ length xs
first_slash [] ys none = refl
first_slash (x ∷ xs) ys none =
    ap (λ t. cond t (1 + position_or_len is_slash (xs ++ 47 ∷ ys)) 0) (and_parts _ _ none).0
    ∙ omega (arith, first_slash xs ys (and_parts _ _ none).1)

-- ---- a name comes apart

-- what follows `etcd://` has a slash; before the first one stand the endpoints, and after it the prefix
pub record ComesApart (rest : List ℕ) (e : List (List ℕ)) (p : List ℕ) : Type 0 where
  pub slash : position_or_len is_slash rest < length rest
  pub hosts : before_first is_slash rest ≡ listed e
  pub behind : after_first is_slash rest ≡ p
  pub read : endpoints_in (listed e) ≡ Some e

drop_past : (xs ys : List ℕ) (n : ℕ) → n ≡ length xs → drop (n + 1) (xs ++ 47 ∷ ys) ≡ ys
drop_past xs ys n at = sym (drop-drop 1 n (xs ++ 47 ∷ ys)) ∙ ap (drop 1) (drop_at xs (47 ∷ ys) n (sym at))

apart_of : (e : List (List ℕ)) (p : List ℕ) → 0 < length e → list_all is_endpoint e ≡ true → ComesApart (listed e ++ 47 ∷ p) e p
apart_of e p some all =
    let at = first_slash (listed e) p (joined_no_slash e all) in
    let parts = joined_parts e some all in
    record {
      slash = omega (arith, at, length-append (listed e) (47 ∷ p));
      hosts = take_at (listed e) (47 ∷ p) _ (sym at);
      behind = drop_past (listed e) p _ at;
      read = endpoints_by (slice_split is_comma (listed e)) _ (ap (list_all is_endpoint) parts ∙ all) ∙ ap Some parts;
    }

pub comes_apart : (name rest : List ℕ) (e : List (List ℕ)) (p : List ℕ) → name ≡ codes "etcd://" ++ rest → IsStoreName name e p → ComesApart rest e p
unfolding name_text
comes_apart name rest e p starts is =
    let same : rest ≡ listed e ++ 47 ∷ p = append_cancel_left (codes "etcd://") rest (listed e ++ 47 ∷ p) (sym starts ∙ is.named) in
    subst (λ (r : List ℕ). ComesApart r e p) (sym same) (apart_of e p is.some is.reached)

-- ---- parts make a name

some_same : (a b : List (List ℕ)) → Some a ≡ Some b → a ≡ b
some_same a b e = cc

read_by : (e parts : List (List ℕ)) (t : Bool) → list_all is_endpoint parts ≡ t → Some e ≡ (if t then Some parts else None) → (e ≡ parts) × (list_all is_endpoint parts ≡ true)
read_by e parts true all same = (some_same e parts same, all)
read_by e parts false all same = absurd (cc)

pub is_name : (name rest hosts p : List ℕ) (e : List (List ℕ)) → name ≡ codes "etcd://" ++ rest → position_or_len is_slash rest < length rest → hosts ≡ before_first is_slash rest → p ≡ after_first is_slash rest → is_prefix p ≡ true → Some e ≡ endpoints_in hosts → IsStoreName name e p
unfolding name_text
is_name name rest hosts p e starts slash before after kept read =
    let parts = read_by e (slice_split is_comma hosts) _ refl read in
    let lists : listed e ≡ hosts = ap (join_with_byte 44) parts.0 ∙ join_with_byte-slice_split 44 hosts in
    let byte : get_or rest (position_or_len is_slash rest) 0 ≡ 47 = eqb-true _ 47 (passes_at_first is_slash rest 0 slash) in
    let whole : rest ≡ before_first is_slash rest ++ (47 ∷ after_first is_slash rest) = split_at_first is_slash rest 0 slash ∙ ap (λ (b : ℕ). before_first is_slash rest ++ (b ∷ after_first is_slash rest)) byte in
    record {
      some = omega (arith, ap length parts.0, length-slice_split is_comma hosts);
      reached = ap (list_all is_endpoint) parts.0 ∙ parts.1;
      kept = kept;
      named = starts ∙ ap (λ (r : List ℕ). codes "etcd://" ++ r) (whole ∙ (ap (λ (h : List ℕ). h ++ (47 ∷ after_first is_slash rest)) (sym before ∙ sym lists) ∙ ap (λ (q : List ℕ). listed e ++ (47 ∷ q)) (sym after)));
    }

-- ---- a text that is read

pub stripped : (name rest : List ℕ) (n : ℕ) → FindsTextPrefix (codes "etcd://") name (Some n) → rest ≡ drop n name → name ≡ codes "etcd://" ++ rest
stripped name rest n found is = found.1 ∙ ap (λ (r : List ℕ). codes "etcd://" ++ r) (sym is)

pub no_start : (name : List ℕ) → FindsTextPrefix (codes "etcd://") name None → (e : List (List ℕ)) (p : List ℕ) → IsStoreName name e p → ⊥
unfolding name_text
no_start name lacks e p is = lacks _ is.named

pub no_slash_there : (name rest : List ℕ) → name ≡ codes "etcd://" ++ rest → IsSplitOnceResult 47 rest None → (e : List (List ℕ)) (p : List ℕ) → IsStoreName name e p → ⊥
no_slash_there name rest starts none e p is =
    let at = split_once_first 47 rest None none (omega arith) in
    let less = (comes_apart name rest e p starts is).slash in
    absurd (omega (arith, at, less))

pub no_prefix : (name rest : List ℕ) (hosts prefix : Bor (List ℕ)) → name ≡ codes "etcd://" ++ rest → IsSplitOnceResult 47 rest (Some (hosts, prefix)) → is_prefix prefix.now ≡ false → (e : List (List ℕ)) (p : List ℕ) → IsStoreName name e p → ⊥
no_prefix name rest hosts prefix starts found out e p is =
    let at = split_once_first 47 rest (Some (hosts, prefix)) found (omega arith) in
    let behind : prefix.now ≡ p = at.2 ∙ (comes_apart name rest e p starts is).behind in
    true≢false (sym is.kept ∙ (ap is_prefix (sym behind) ∙ out))

none_some : (e : List (List ℕ)) → None ≡ Some e → ⊥
none_some e same = absurd (cc)

pub no_endpoints : (name rest : List ℕ) (hosts prefix : Bor (List ℕ)) → name ≡ codes "etcd://" ++ rest → IsSplitOnceResult 47 rest (Some (hosts, prefix)) → None ≡ endpoints_in hosts.now → (e : List (List ℕ)) (p : List ℕ) → IsStoreName name e p → ⊥
no_endpoints name rest hosts prefix starts found none e p is =
    let at = split_once_first 47 rest (Some (hosts, prefix)) found (omega arith) in
    let apart = comes_apart name rest e p starts is in
    none_some e (none ∙ (ap endpoints_in (at.1 ∙ apart.hosts) ∙ apart.read))

pub names : (name rest text : List ℕ) (hosts prefix : Bor (List ℕ)) (e : List (List ℕ)) → name ≡ codes "etcd://" ++ rest → IsSplitOnceResult 47 rest (Some (hosts, prefix)) → is_prefix prefix.now ≡ true → text ≡ prefix.now → Some e ≡ endpoints_in hosts.now → IsStoreName name e text
names name rest text hosts prefix e starts found kept same read =
    let at = split_once_first 47 rest (Some (hosts, prefix)) found (omega arith) in
    is_name name rest hosts.now text e starts at.0 at.1 (same ∙ at.2) (ap is_prefix same ∙ kept) read
