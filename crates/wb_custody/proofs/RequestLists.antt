-- The request of a number, and a change of it.
use Rattle.std.proofs.Common.{◌≡◌, ℕ, zero, suc, ◌-◌, ◌<◌, ◌≤◌, List, [], ◌∷◌, length, get_or, set, ◌⊎◌, inl, inr, refl, ap, ◌∙◌, arith}
use Rattle.std.specs.Prelude.{slice_get, Some, None}
use Rattle.wb_model.specs.declared.access.AccessRequest.{AccessRequest}
use Rattle.wb_model.specs.Access.{with_request, request_at}

-- ---- the request of a number

of_next : (i : ℕ) (xs : List AccessRequest) → request_at (suc i) xs ≡ slice_get xs i
of_next i [] = refl
of_next zero (x ∷ xs) = refl
of_next (suc i) (x ∷ xs) = of_next i xs

-- it stands at the place before its number
pub of_number : (n : ℕ) (xs : List AccessRequest) → 0 < n → request_at n xs ≡ slice_get xs (n - 1)
of_number zero xs some = absurd (omega arith)
of_number (suc i) xs some = let same : suc i - 1 ≡ i = omega arith in rw same (of_next i xs)

got : (i : ℕ) (xs : List AccessRequest) (d : AccessRequest) → i < length xs → slice_get xs i ≡ Some (get_or xs i d)
got i [] d h = absurd (omega arith)
got zero (x ∷ xs) d h = refl
got (suc i) (x ∷ xs) d h = got i xs d (omega arith)

-- and is there
pub is_there : (n : ℕ) (xs : List AccessRequest) (d : AccessRequest) → 0 < n → n ≤ length xs → request_at n xs ≡ Some (get_or xs (n - 1) d)
is_there n xs d some h = of_number n xs some ∙ got (n - 1) xs d (omega arith)

missing : (n : ℕ) (xs : List AccessRequest) → length xs < n → request_at n xs ≡ None
missing n [] h = refl
missing zero (x ∷ xs) h = refl
missing (suc zero) (x ∷ xs) h = absurd (omega arith)
missing (suc (suc k)) (x ∷ xs) h = missing (suc k) xs (omega arith)

no_number : (n : ℕ) (xs : List AccessRequest) → n ≤ 0 → request_at n xs ≡ None
no_number n [] h = refl
no_number zero (x ∷ xs) h = refl
no_number (suc n) (x ∷ xs) h = absurd (omega arith)

-- where there is none
pub not_there : (n : ℕ) (xs : List AccessRequest) → (0 < n × length xs < n) ⊎ (n ≤ 0) → request_at n xs ≡ None
not_there n xs (inl h) = missing n xs h.1
not_there n xs (inr h) = no_number n xs h

-- ---- a change of it

at_place : (change : AccessRequest → AccessRequest) (new : AccessRequest) (i : ℕ) (xs : List AccessRequest) (d : AccessRequest) → i < length xs
    → new ≡ change (get_or xs i d) → set xs i new ≡ with_request (suc i) change xs
at_place change new i [] d h e = absurd (omega arith)
at_place change new zero (x ∷ xs) d h e = ap (λ r. r ∷ xs) e
at_place change new (suc i) (x ∷ xs) d h e = ap (λ rs. x ∷ rs) (at_place change new i xs d (omega arith) e)

-- where there is one of that number
pub changed : (change : AccessRequest → AccessRequest) (new : AccessRequest) (n : ℕ) (xs : List AccessRequest) (d : AccessRequest) → 0 < n → n ≤ length xs
    → new ≡ change (get_or xs (n - 1) d) → set xs (n - 1) new ≡ with_request n change xs
changed change new zero xs d some h e = absurd (omega arith)
changed change new (suc i) xs d some h e =
    let same : suc i - 1 ≡ i = omega arith in
    rw same (at_place change new i xs d (omega arith) (rw same at e))

above : (change : AccessRequest → AccessRequest) (n : ℕ) (xs : List AccessRequest) → length xs < n → xs ≡ with_request n change xs
above change n [] h = refl
above change zero (x ∷ xs) h = refl
above change (suc zero) (x ∷ xs) h = absurd (omega arith)
above change (suc (suc k)) (x ∷ xs) h = ap (λ rs. x ∷ rs) (above change (suc k) xs (omega arith))

none : (change : AccessRequest → AccessRequest) (n : ℕ) (xs : List AccessRequest) → n ≤ 0 → xs ≡ with_request n change xs
none change n [] h = refl
none change zero (x ∷ xs) h = refl
none change (suc n) (x ∷ xs) h = absurd (omega arith)

-- where there is none
pub unchanged : (change : AccessRequest → AccessRequest) (n : ℕ) (xs : List AccessRequest) → (0 < n × length xs < n) ⊎ (n ≤ 0) → xs ≡ with_request n change xs
unchanged change n xs (inl h) = above change n xs h.1
unchanged change n xs (inr h) = none change n xs h

-- it leaves their count
pub same_count : (change : AccessRequest → AccessRequest) (n : ℕ) (xs : List AccessRequest) → length (with_request n change xs) ≡ length xs
same_count change n [] = refl
same_count change zero (x ∷ xs) = refl
same_count change (suc zero) (x ∷ xs) = refl
same_count change (suc (suc k)) (x ∷ xs) = ap suc (same_count change (suc k) xs)
