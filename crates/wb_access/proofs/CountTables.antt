-- What is counted of a principal is what the table has under its key.
use Rattle.std.proofs.Common.{◌≡◌, ℕ, ◌+◌, Bool, true, false, cond, List, Option, Some, None, refl, ap, sym, ◌∙◌, arith}
use Rattle.std.proofs.lemmas.Bool.Decides.{nat_tests}
use Rattle.std.specs.Option.{unwrap_or}
use Rattle.wb_base.specs.declared.callers.Principal.{Principal}
use Rattle.wb_base.specs.declared.callers.Principal.TheVariants.{User, Report}
use Rattle.wb_access.specs.SessionCounts.{Counted, key_of, same_key, count_in}
use Rattle.wb_access.specs.Sessions.{same_principal}

pub one_key : (p q : Principal) → same_key (key_of p) (key_of q) ≡ same_principal p q
one_key (User t u) (User s v) = refl
one_key (User t u) (Report s n) = refl
one_key (Report t n) (User s u) = refl
one_key (Report t n) (Report s m) = refl

pub same_is : (p q : Principal) → same_principal p q ≡ true → p ≡ q
same_is (User t u) (User s v) e =
    let a : t ≡ s = grind (arith, nat_tests, e) in
    let b : u ≡ v = grind (arith, nat_tests, e) in
    rw (a, b) refl
same_is (Report t n) (Report s m) e =
    let a : t ≡ s = grind (arith, nat_tests, e) in
    let b : n ≡ m = grind (arith, nat_tests, e) in
    rw (a, b) refl
same_is (User t u) (Report s n) e = absurd (grind (arith, e))
same_is (Report t n) (User s u) e = absurd (grind (arith, e))

-- ---- what stands under a key

-- after a count is put under one
pub put_is : (b : Bool) (n : ℕ) (o : Option ℕ) → unwrap_or (cond b (Some n) o) 0 ≡ cond b n (unwrap_or o 0)
put_is true n o = refl
put_is false n o = refl

-- after one is taken out
pub none_is : (b : Bool) (o : Option ℕ) → unwrap_or (cond b None o) 0 ≡ cond b 0 (unwrap_or o 0)
none_is true o = refl
none_is false o = refl

-- ---- one more, and one less

pub one_more : (p q : Principal) (es : List Counted) → cond (same_principal p q) (count_in p es + 1) (count_in q es) ≡ cond (same_principal p q) 1 0 + count_in q es
one_more p q es = by (same_principal p q) refl
  where
    by : (b : Bool) → same_principal p q ≡ b → cond b (count_in p es + 1) (count_in q es) ≡ cond b 1 0 + count_in q es
    by true e = rw (same_is p q e) (omega (arith))
    by false e = omega (arith)

pub one_less : (p q : Principal) (n : ℕ) (es : List Counted) → count_in p es ≡ n + 1 → cond (same_principal p q) 1 0 + cond (same_principal p q) n (count_in q es) ≡ count_in q es
one_less p q n es is = by (same_principal p q) refl
  where
    by : (b : Bool) → same_principal p q ≡ b → cond b 1 0 + cond b n (count_in q es) ≡ count_in q es
    by true e = let same : count_in q es ≡ n + 1 = ap (λ r. count_in r es) (sym (same_is p q e)) ∙ is in omega (arith, same)
    by false e = omega (arith)
