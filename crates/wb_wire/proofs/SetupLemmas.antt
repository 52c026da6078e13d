-- What a setup's frame is, and what none begins.
use Rattle.std.proofs.Common.{◌≡◌, ◌≤◌, ◌<◌, ◌+◌, ℕ, List, [], ◌∷◌, ◌++◌, length, codes, decimal, Option, Some, None, IfSome, refl, sym, ap, ◌∙◌, arith, append_assoc, length-append}
use Rattle.std.specs.Io.KnownBytes.{Consumes, IsAtEnd}
use Rattle.std.proofs.lemmas.Fmt.{length-decimal-le}
use Rattle.wb_wire.specs.declared.frame_line.SetupLine.{SetupLine}
use Rattle.wb_wire.specs.SetupText.{setup_line, setup_text, IsSetup, NoSetup}
use Rattle.wb_wire.specs.SetupReading.{IsSetupLine}
use Rattle.wb_wire.specs.TextReading.{BeginsNone, Lacks}
use Rattle.wb_wire.proofs.LineLemmas.{lacks_cons, lacks_append, decimal_lacks}
use Rattle.wb_wire.proofs.OneFrameLemmas.{same_decimal}
use Rattle.wb_wire.proofs.TextLemmas.{both_seam, line_part, one_way, text_length}

-- ---- the line

lacks_nothing : (c : ℕ) → Lacks c []
lacks_nothing c i h = absurd (omega arith)

pub mark_lacks : (c : ℕ) → c < 64 → Lacks c (codes "@setup")
mark_lacks c low =
    lacks_cons c 64 (codes "setup") (λ e. absurd (omega (arith, e))) (lacks_cons c 115 (codes "etup") (λ e. absurd (omega (arith, e))) (lacks_cons c 101 (codes "tup") (λ e. absurd (omega (arith, e)))
    (lacks_cons c 116 (codes "up") (λ e. absurd (omega (arith, e))) (lacks_cons c 117 (codes "p") (λ e. absurd (omega (arith, e))) (lacks_cons c 112 [] (λ e. absurd (omega (arith, e))) (lacks_nothing c))))))

line_lacks : (size : ℕ) → size ≤ 1_048_576 → Lacks 10 (setup_line size)
line_lacks size small = lacks_append 10 (codes "@setup") (32 ∷ decimal size) (mark_lacks 10 (omega arith)) (lacks_cons 10 32 (decimal size) (λ e. absurd (omega (arith, e))) (decimal_lacks 10 size (omega arith) (omega (arith, small))))

line_short : (size : ℕ) → size ≤ 1_048_576 → length (setup_line size) ≤ 95
line_short size small = omega (arith, length-append (codes "@setup") (32 ∷ decimal size), length-decimal-le 7 size (omega arith) (omega (arith, small)) (omega (arith, small)))

-- ---- what is no setup's frame

-- a setup's text and more, parted at the line's end
text_parts : (bytes more : List ℕ) → setup_text bytes ++ more ≡ setup_line (length bytes) ++ 10 ∷ (bytes ++ 10 ∷ more)
unfolding setup_text
text_parts bytes more = append_assoc (setup_line (length bytes)) (10 ∷ (bytes ++ 10 ∷ [])) more ∙ ap (λ l. setup_line (length bytes) ++ 10 ∷ l) (append_assoc bytes (10 ∷ []) more)

-- what no text of a setup's line begins, no setup begins
pub begins_no_setup : (text : List ℕ) → BeginsNone (λ (_ : SetupLine). IsSetupLine) text → NoSetup text
begins_no_setup text none bytes more is e =
    none (record {}) (setup_line (length bytes)) bytes more (is, refl) (line_short (length bytes) is) (line_lacks (length bytes) is) (e ∙ text_parts bytes more)

pub no_setup_nil : NoSetup []
no_setup_nil = begins_no_setup [] (line_part (λ (_ : SetupLine). IsSetupLine) [] (lacks_nothing 10))

-- the input had ended
pub nothing_there : (a b : Option (List ℕ)) → Consumes a b [] → IsAtEnd b → IfSome a NoSetup
nothing_there None b taken end = tt
nothing_there (Some x) None taken end = absurd taken
nothing_there (Some x) (Some y) taken end = λ bytes more is e. no_setup_nil bytes more is (sym (taken ∙ end) ∙ e)

-- ---- what is a setup's frame

pub setup_is : (bytes line : List ℕ) → IsSetupLine (length bytes) line → line ++ 10 ∷ (bytes ++ 10 ∷ []) ≡ setup_text bytes
unfolding setup_text
setup_is bytes line is = ap (λ l. l ++ 10 ∷ (bytes ++ 10 ∷ [])) is.1

pub setup_length : (bytes line : List ℕ) → IsSetupLine (length bytes) line → length (setup_text bytes) ≡ length line + length bytes + 2
setup_length bytes line is = ap length (sym (setup_is bytes line is)) ∙ text_length line bytes

-- no setup's text begins another's
pub one_setup : (a b x y : List ℕ) → IsSetup a → IsSetup b → setup_text a ++ x ≡ setup_text b ++ y → (a ≡ b) × (x ≡ y)
one_setup a b x y is_a is_b e =
    let lines = one_way 10 (setup_line (length a)) (setup_line (length b)) _ _ (line_lacks (length a) is_a) (line_lacks (length b) is_b) (sym (text_parts a x) ∙ e ∙ text_parts b y) in
    let digits : decimal (length a) ≡ decimal (length b) = (let s = lines.0 in cc) in
    let sizes = same_decimal (length a) (length b) (omega (arith, is_a)) (omega (arith, is_b)) digits in
    let bodies = both_seam a b (10 ∷ x) (10 ∷ y) sizes lines.1 in
    (bodies.0, (let rest = bodies.1 in cc))
