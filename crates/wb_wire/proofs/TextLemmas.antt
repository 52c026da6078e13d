-- Facts on texts: where a byte parts them, and what begins them.
use Rattle.std.proofs.Common.{◌≡◌, ◌≢◌, ◌≤◌, ◌<◌, ◌+◌, ℕ, suc, List, [], ◌∷◌, ◌++◌, length, refl, sym, ap, ◌∙◌, arith, append-nil, length-append, subst}
use Rattle.wb_wire.specs.FrameReading.{NoBody}
use Rattle.wb_wire.specs.TextReading.{BeginsNone, Lacks}

-- up to the first such byte, one text is the front of the other
pub front_of : (c : ℕ) (xs ys rest tail : List ℕ) → Lacks c xs → xs ++ rest ≡ ys ++ c ∷ tail → (zs : List ℕ) × (ys ≡ xs ++ zs) × (rest ≡ zs ++ c ∷ tail)
front_of c [] ys rest tail lacks e = (ys, refl, e)
front_of c (x ∷ xs) [] rest tail lacks e = let same : x ≡ c = cc in absurd (lacks 0 (omega arith) same)
front_of c (x ∷ xs) (y ∷ ys) rest tail lacks e =
    let same : x ≡ y = cc in
    let tails : xs ++ rest ≡ ys ++ c ∷ tail = cc in
    let inner = front_of c xs ys rest tail (λ i h. lacks (suc i) (omega arith)) tails in
    (inner.0, (let within = inner.1 in cc), inner.2)

-- parted at the first such byte there is one way
pub one_way : (c : ℕ) (xs ys a b : List ℕ) → Lacks c xs → Lacks c ys → xs ++ c ∷ a ≡ ys ++ c ∷ b → (xs ≡ ys) × (a ≡ b)
one_way c [] [] a b lx ly e = (refl, cc)
one_way c [] (y ∷ ys) a b lx ly e = let same : y ≡ c = cc in absurd (ly 0 (omega arith) same)
one_way c (x ∷ xs) [] a b lx ly e = let same : x ≡ c = cc in absurd (lx 0 (omega arith) same)
one_way c (x ∷ xs) (y ∷ ys) a b lx ly e =
    let same : x ≡ y = cc in
    let tails : xs ++ c ∷ a ≡ ys ++ c ∷ b = cc in
    let inner = one_way c xs ys a b (λ i h. lx (suc i) (omega arith)) (λ i h. ly (suc i) (omega arith)) tails in
    (let first = inner.0 in cc, inner.1)

-- a byte that stands there is not lacking
pub stands_there : (c : ℕ) (xs ys : List ℕ) → Lacks c (xs ++ c ∷ ys) → ⊥
stands_there c [] ys lacks = lacks 0 (omega arith) refl
stands_there c (x ∷ xs) ys lacks = stands_there c xs ys (λ i h. lacks (suc i) (omega arith))

-- equal lengths part alike
pub both_seam : (xs ys a b : List ℕ) → length xs ≡ length ys → xs ++ a ≡ ys ++ b → (xs ≡ ys) × (a ≡ b)
both_seam [] [] a b same e = (refl, e)
both_seam [] (y ∷ ys) a b same e = absurd (omega (arith, same))
both_seam (x ∷ xs) [] a b same e = absurd (omega (arith, same))
both_seam (x ∷ xs) (y ∷ ys) a b same e =
    let head : x ≡ y = cc in
    let tails : xs ++ a ≡ ys ++ b = cc in
    let inner = both_seam xs ys a b (omega (arith, same)) tails in
    ((let rest = inner.0 in cc), inner.1)

pub too_short : (size : ℕ) (text : List ℕ) → length text ≤ size → NoBody size text
too_short size text short body tail same e = absurd (omega (arith, short, same, ap length e, length-append body (10 ∷ tail)))

-- after the bytes there is another byte than a line feed
pub other_end : (size c : ℕ) (bytes rest : List ℕ) → length bytes ≡ size → c ≢ 10 → NoBody size (bytes ++ c ∷ rest)
other_end size c bytes rest whole other body tail same e =
    let seam = (both_seam bytes body (c ∷ rest) (10 ∷ tail) (whole ∙ sym same) e).1 in
    let last : c ≡ 10 = cc in
    other last

pub text_length : (line bytes : List ℕ) → length (line ++ 10 ∷ (bytes ++ 10 ∷ [])) ≡ length line + length bytes + 2
text_length line bytes = omega (arith, length-append line (10 ∷ (bytes ++ 10 ∷ [])), length-append bytes (10 ∷ []))

-- ---- what no text begins

-- no line feed comes, or none soon enough
pub broken_line : {H : Type 0} (IsLine : H → ℕ → List ℕ → Type 0) (part rest : List ℕ) → Lacks 10 part → (length part < 96 → rest ≡ []) → BeginsNone IsLine (part ++ rest)
broken_line IsLine part rest lacks end head line bytes more is short whole e =
    let inner = front_of 10 part line rest (bytes ++ 10 ∷ more) lacks e in
    let size = ap length inner.1 ∙ length-append part inner.0 in
    let nothing = end (omega (arith, size, short)) in
    let goes_on = ap length (sym nothing ∙ inner.2) ∙ length-append inner.0 (10 ∷ (bytes ++ 10 ∷ more)) in
    absurd (omega (arith, goes_on))

pub line_part : {H : Type 0} (IsLine : H → ℕ → List ℕ → Type 0) (part : List ℕ) → Lacks 10 part → BeginsNone IsLine part
line_part IsLine part lacks head line bytes more is short whole e = broken_line IsLine part [] lacks (λ h. refl) head line bytes more is short whole (append-nil part ∙ e)

-- the line says nothing
pub no_line : {H : Type 0} (IsLine : H → ℕ → List ℕ → Type 0) (line rest : List ℕ) → Lacks 10 line → ((head : H) (n : ℕ) → IsLine head n line → ⊥) → BeginsNone IsLine (line ++ 10 ∷ rest)
no_line IsLine line rest lacks none head line' bytes more is short whole e =
    let parts = one_way 10 line line' rest _ lacks whole e in
    none head (length bytes) (subst (IsLine head (length bytes)) (sym parts.0) is)

-- a whole line that says a size, and no bytes of that size after it
pub no_body : {H : Type 0} (IsLine : H → ℕ → List ℕ → Type 0) (line rest : List ℕ) (size : ℕ) → Lacks 10 line → ((head : H) (n : ℕ) → IsLine head n line → size ≡ n) → NoBody size rest
    → BeginsNone IsLine (line ++ 10 ∷ rest)
no_body IsLine line rest size lacks says none head line' bytes more is short whole e =
    let parts = one_way 10 line line' rest _ lacks whole e in
    none bytes more (sym (says head (length bytes) (subst (IsLine head (length bytes)) (sym parts.0) is))) parts.1
