-- The fields of a head by their names, and the numbers in them.
use Rattle.std.proofs.Common.{◌≡◌, ◌<◌, ◌+◌, ◌^◌, ◌==◌, ℕ, zero, suc, nat_le, nat_lt, Bor, true, false, List, [], ◌∷◌, ◌++◌, length, map, take, drop, get_or, Option, Some, None, Err, refl, ap, ◌∙◌, arith, inl, inr}
use Rattle.std.specs.Prelude.{is_some}
use Rattle.std.specs.List.{list_all}
use Rattle.std.specs.Char.{is_ascii_digit, digit_value}
use Rattle.std.specs.Str.{IsUtf8, IsAscii}
use Rattle.std.specs.Str.Parse.{digits_value, without_leading_plus, IsNumeral, AllDigits}
use Rattle.std.proofs.lemmas.Bool.{cases_Bool, and_parts, leb-true, ltb-true, false≢true}
use Rattle.std.proofs.lemmas.Bool.Decides.{nat_tests}
use Rattle.std.proofs.lemmas.Str.{IsUtf8-from_ascii}
use Rattle.wb_model.specs.declared.wire.WireFault.TheVariants as faults
use Rattle.wb_model.specs.Heads.{Fields, is_named, values, is_digits, length_said}

-- the values that were found so far
abbrev pub found_values : Option (Bor (List ℕ)) → List (List ℕ)
found_values None = []
found_values (Some value) = value.now ∷ []

-- where a value was found, it is the one
pub found_one : (found : Option (Bor (List ℕ))) (all : List (List ℕ)) → all ≡ found_values found → is_some found ≡ true → (value : List ℕ) × (all ≡ value ∷ [])
found_one None all is some = absurd (false≢true some)
found_one (Some value) all is some = (value.now, is)

values_append : (name : List ℕ) (xs ys : Fields) → values name (xs ++ ys) ≡ values name xs ++ values name ys
values_append name [] ys = refl
values_append name (x ∷ xs) ys = elim (cases_Bool (is_named name x)) [
  | inl named ↦ rw named (ap (λ l. x.1 ∷ l) (values_append name xs ys))
  | inr other ↦ rw other (values_append name xs ys)
]

map_at : {X Y : Type 0} (f : X → Y) (xs : List X) (i : ℕ) (d : X) → i < length xs → map f xs ≡ map f (take i xs) ++ f (get_or xs i d) ∷ map f (drop (i + 1) xs)
map_at f [] i d less = absurd (omega (arith, less))
map_at f (x ∷ xs) zero d less = refl
map_at f (x ∷ xs) (suc i) d less =
    let on : suc i + 1 ≡ suc (i + 1) = omega arith in
    rw on (ap (λ l. f x ∷ l) (map_at f xs i d (omega (arith, less))))

-- a value was found, and one more field has the name
pub several : {X : Type 0} (name value : List ℕ) (f : X → List ℕ × List ℕ) (xs : List X) (i : ℕ) (d : X) → i < length xs → values name (map f (take i xs)) ≡ value ∷ [] → is_named name (f (get_or xs i d)) ≡ true
    → (first : List ℕ) × (second : List ℕ) × (more : List (List ℕ)) × (values name (map f xs) ≡ first ∷ second ∷ more)
several name value f xs i d less found named =
    let rest = map f (drop (i + 1) xs) in
    let here = f (get_or xs i d) in
    let later : values name (here ∷ rest) ≡ here.1 ∷ values name rest = rw named refl in
    (value, here.1, values name rest, ap (values name) (map_at f xs i d less) ∙ values_append name (map f (take i xs)) (here ∷ rest) ∙ ap (λ l. l ++ values name (here ∷ rest)) found ∙ ap (λ l. value ∷ l) later)

-- ---- digits

digits_ascii : (text : List ℕ) → list_all is_ascii_digit text ≡ true → IsAscii text
digits_ascii [] all i = omega arith
digits_ascii (c ∷ text) all zero = let here = and_parts (is_ascii_digit c) (list_all is_ascii_digit text) all in grind (arith, nat_tests, here.0)
digits_ascii (c ∷ text) all (suc i) = digits_ascii text (and_parts (is_ascii_digit c) (list_all is_ascii_digit text) all).1 i

pub digits_utf8 : (text : List ℕ) → is_digits text ≡ true → IsUtf8 text
digits_utf8 text digits = IsUtf8-from_ascii text (digits_ascii text (and_parts (nat_lt 0 (length text)) (list_all is_ascii_digit text) digits).1)

digit_below : (c : ℕ) → is_ascii_digit c ≡ true → digit_value c < 10
digit_below c digit = grind (arith, nat_tests)

no_plus_first : (c : ℕ) → is_ascii_digit c ≡ true → (c == 43) ≡ false
no_plus_first c digit = grind (arith, nat_tests)

all_digits : (text : List ℕ) → list_all is_ascii_digit text ≡ true → AllDigits 10 text
all_digits [] all = tt
all_digits (c ∷ text) all = let here = and_parts (is_ascii_digit c) (list_all is_ascii_digit text) all in (digit_below c here.0, all_digits text here.1)

no_plus : (text : List ℕ) → is_digits text ≡ true → without_leading_plus text ≡ text
no_plus [] digits = refl
no_plus (c ∷ text) digits =
    let first = and_parts (is_ascii_digit c) (list_all is_ascii_digit text) (and_parts (nat_lt 0 (length (c ∷ text))) (list_all is_ascii_digit (c ∷ text)) digits).1 in
    rw (no_plus_first c first.0) refl

-- digits that are no number of 64 bits say too great a length
pub too_great : (text : List ℕ) → is_digits text ≡ true → ¬ (IsNumeral 10 (without_leading_plus text) × (digits_value 10 (without_leading_plus text) < 2 ^ 64)) → length_said (text ∷ []) ≡ Err faults.TooLarge
too_great text digits none =
    let parts = and_parts (nat_lt 0 (length text)) (list_all is_ascii_digit text) digits in
    let same = no_plus text digits in
    let numeral : IsNumeral 10 text = (ltb-true _ _ parts.0, all_digits text parts.1) in
    elim (cases_Bool (nat_le (digits_value 10 text) 262_144)) [
      | inl few ↦ absurd (none (rw same (numeral, omega (arith, leb-true _ _ few))))
      | inr many ↦ rw (digits, many) refl
    ]
