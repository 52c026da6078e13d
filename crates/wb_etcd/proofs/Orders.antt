-- The order of texts that are made of digits of fixed width.
use Rattle.std.proofs.Common.{◌≡◌, ℕ, zero, suc, ◌+◌, ◌-◌, ◌*◌, ◌/◌, ◌%◌, ◌<◌, ◌^◌, List, [], ◌∷◌, ◌++◌, length, refl, ap, sym, ◌∙◌, arith, length-append}
use Rattle.std.proofs.Math.Nat.{pow-suc}
use Rattle.std.proofs.lemmas.Cmp.{ranked, by_ranked, tied_itself, nat_list_cmp_total}
use Rattle.std.specs.Ordering.{nat_cmp, ordering_then}
use Rattle.std.specs.Cmp.Lexicographic.{slice_cmp}
use Rattle.std.specs.declared.cmp.Ordering.{Ordering}
use Rattle.std.specs.declared.cmp.Ordering.TheVariants.{Less, Equal, Greater}
use Rattle.wb_base.specs.Secrets.{last_digits}

-- an order of three parts
pub then_assoc : (a b c : Ordering) → ordering_then (ordering_then a b) c ≡ ordering_then a (ordering_then b c)
then_assoc Less b c = refl
then_assoc Equal b c = refl
then_assoc Greater b c = refl

-- texts with parts of the same length in front are compared by those first
pub cmp-append : (xs ys us vs : List ℕ) → length xs ≡ length ys → slice_cmp nat_cmp (xs ++ us) (ys ++ vs) ≡ ordering_then (slice_cmp nat_cmp xs ys) (slice_cmp nat_cmp us vs)
cmp-append [] [] us vs h = refl
cmp-append [] (y ∷ ys) us vs h = absurd (omega arith)
cmp-append (x ∷ xs) [] us vs h = absurd (omega arith)
cmp-append (x ∷ xs) (y ∷ ys) us vs h = ap (ordering_then (nat_cmp x y)) (cmp-append xs ys us vs (omega arith)) ∙ sym (then_assoc (nat_cmp x y) (slice_cmp nat_cmp xs ys) (slice_cmp nat_cmp us vs))

-- a part that both have in front says nothing
pub cmp-same : (xs us vs : List ℕ) → slice_cmp nat_cmp (xs ++ us) (xs ++ vs) ≡ slice_cmp nat_cmp us vs
cmp-same xs us vs = cmp-append xs xs us vs refl ∙ ap (λ o. ordering_then o (slice_cmp nat_cmp us vs)) (tied_itself nat_list_cmp_total xs)

pub length-last_digits : (n x : ℕ) → length (last_digits n x) ≡ n
length-last_digits zero x = refl
length-last_digits (suc n) x = length-append (last_digits n (x / 10)) ((48 + x % 10) ∷ []) ∙ omega (arith, length-last_digits n (x / 10))

less : (a b : ℕ) → a < b → nat_cmp a b ≡ Less
less a b h = by_ranked _ _ _ (nat_cmp a b) (ranked a b (nat_cmp a b) refl) (λ e _. e) (λ _ e. absurd (omega arith)) (λ _ e. absurd (omega arith))

greater : (a b : ℕ) → b < a → nat_cmp a b ≡ Greater
greater a b h = by_ranked _ _ _ (nat_cmp a b) (ranked a b (nat_cmp a b) refl) (λ _ e. absurd (omega arith)) (λ _ e. absurd (omega arith)) (λ e _. e)

equal : (a b : ℕ) → a ≡ b → nat_cmp a b ≡ Equal
equal a b h = by_ranked _ _ _ (nat_cmp a b) (ranked a b (nat_cmp a b) refl) (λ _ e. absurd (omega arith)) (λ e _. e) (λ _ e. absurd (omega arith))

-- two numbers are compared by their tens, and then by their last digits
by_tens : (a b : ℕ) → ordering_then (nat_cmp (a / 10) (b / 10)) (ordering_then (nat_cmp (48 + a % 10) (48 + b % 10)) Equal) ≡ nat_cmp a b
by_tens a b = by_ranked _ _ _ (nat_cmp (a / 10) (b / 10)) (ranked (a / 10) (b / 10) (nat_cmp (a / 10) (b / 10)) refl)
    (λ e h. rw e (sym (less a b (omega arith))))
    (λ e h. rw e (by_ranked _ _ _ (nat_cmp (48 + a % 10) (48 + b % 10)) (ranked (48 + a % 10) (48 + b % 10) (nat_cmp (48 + a % 10) (48 + b % 10)) refl)
    (λ d k. rw d (sym (less a b (omega arith))))
    (λ d k. rw d (sym (equal a b (omega arith))))
    (λ d k. rw d (sym (greater a b (omega arith))))))
    (λ e h. rw e (sym (greater a b (omega arith))))

-- numbers that fit are in the order of their digits
pub cmp-last_digits : (n a b : ℕ) → a < 10 ^ n → b < 10 ^ n → slice_cmp nat_cmp (last_digits n a) (last_digits n b) ≡ nat_cmp a b
cmp-last_digits zero a b h k = sym (equal a b (omega arith))
cmp-last_digits (suc n) a b h k =
    let p : 10 ^ suc n ≡ 10 ^ n * 10 = pow-suc 10 n in
    cmp-append (last_digits n (a / 10)) (last_digits n (b / 10)) ((48 + a % 10) ∷ []) ((48 + b % 10) ∷ []) (length-last_digits n (a / 10) ∙ sym (length-last_digits n (b / 10)))
    ∙ ap (λ o. ordering_then o (ordering_then (nat_cmp (48 + a % 10) (48 + b % 10)) Equal)) (cmp-last_digits n (a / 10) (b / 10) (omega arith) (omega arith))
    ∙ by_tens a b

-- digits are those of the tens, and the last one
pub last_digits_by_tens : (n x : ℕ) → 0 < n → last_digits n x ≡ last_digits (n - 1) (x / 10) ++ (48 + x % 10) ∷ []
last_digits_by_tens zero x h = absurd (omega arith)
last_digits_by_tens (suc n) x h = let e : suc n - 1 ≡ n = omega arith in rw e refl
