-- A slice that was written whole, and the parts of passes of one part each.
use Rattle.std.proofs.Common.{◌≡◌, ℕ, ◌+◌, List, [], ◌∷◌, ◌++◌, All, length, take, sym, ap, ◌∙◌, refl, arith}
use Rattle.std.proofs.Math.Seq.{take-append_seam}
use Rattle.std.proofs.lemmas.List.Elements.{All-head, All-tail}
use Rattle.std.proofs.lemmas.List.Sums.{sum_by-append}
use Rattle.wb_desk.specs.Hosted.{Hand, parts_of}

pub take_written : {X : Type 0} (n : ℕ) (xs ys : List X) → length xs ≡ n → take n (xs ++ ys) ≡ xs
take_written n xs ys e = ap (λ k. take k (xs ++ ys)) (sym e) ∙ take-append_seam xs ys

pub parts_each : (ps : List Hand) → All (λ p. p.parts ≡ 1) ps → parts_of ps ≡ length ps
parts_each [] all = refl
parts_each (p ∷ ps) all =
    let one : p.parts ≡ 1 = All-head (λ (q : Hand). q.parts ≡ 1) p ps all in
    let rest : parts_of ps ≡ length ps = parts_each ps (All-tail (λ (q : Hand). q.parts ≡ 1) p ps all) in
    let both : parts_of (p ∷ ps) ≡ parts_of (p ∷ []) + parts_of ps = sum_by-append (λ (q : Hand). q.parts) (p ∷ []) ps in
    let first : parts_of (p ∷ []) ≡ 0 + p.parts = refl in omega (arith, one, rest, both, first)
