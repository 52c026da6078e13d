-- Items that pass a test are taken over one by one.
use Rattle.std.proofs.Common.{◌≡◌, ℕ, Bool, List, [], ◌∷◌, ◌++◌, filter, drop, get_or, length, ◌+◌, ◌<◌, ap, sym, ◌∙◌}
use Rattle.std.proofs.lemmas.List.{at_drop_more, append_assoc}
use Rattle.std.proofs.lemmas.List.Elements.{filter-append}

-- one more item is taken over if it passes
pub one_more : {X : Type 0} (p : X → Bool) (old new xs all : List X) (i : ℕ) (x : X) → i < length xs → get_or xs i x ≡ x → new ≡ old ++ filter p (x ∷ []) → old ++ filter p (drop i xs) ≡ all → new ++ filter p (drop (i + 1) xs) ≡ all
one_more p old new xs all i x within here put before =
    let one = at_drop_more (λ ys. old ++ filter p ys) xs i x within in
    rw put (append_assoc old (filter p (x ∷ [])) (filter p (drop (i + 1) xs)) ∙ ap (λ zs. old ++ zs) (sym (filter-append p (x ∷ []) (drop (i + 1) xs))) ∙ sym (ap (λ v. old ++ filter p (v ∷ drop (i + 1) xs)) here) ∙ sym one ∙ before)
