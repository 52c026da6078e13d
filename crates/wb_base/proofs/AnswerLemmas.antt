-- An answer is found in the table by the order of ids as in the list by their bytes.
use Rattle.std.proofs.Common.{◌≡◌, ℕ, Bool, List, [], ◌∷◌, find, Option, Some, None, refl, sym, ap, ◌∙◌}
use Rattle.std.specs.Option.{option_map}
use Rattle.std.specs.Ordering.{nat_cmp}
use Rattle.std.specs.Cmp.Lexicographic.{slice_cmp, texts_ties}
use Rattle.wb_list.specs.Keyed.{has_key}
use Rattle.wb_base.specs.declared.answers.Given.{Given}
use Rattle.wb_base.specs.AnswerList.{Answered, answer_to, id_of, is_text}

-- tests that agree find the same
pub find-same : {X : Type 0} (p q : X → Bool) → ((x : X) → p x ≡ q x) → (xs : List X) → find p xs ≡ find q xs
find-same p q same [] = refl
find-same p q same (x ∷ xs) = rw (same x, find-same p q same xs) refl

-- what was given for an id is that of the entry with the key
pub answer-found : (answers : Answered) (id : List ℕ) → answer_to answers id ≡ option_map (λ (entry : List ℕ × Given). entry.1) (find (has_key (slice_cmp nat_cmp) id_of id) answers)
answer-found answers id = ap (option_map (λ (entry : List ℕ × Given). entry.1)) (find-same (λ entry. is_text (id_of entry) id) (has_key (slice_cmp nat_cmp) id_of id) (λ entry. texts_ties (id_of entry) id) answers)

mapped-None : {X Y : Type 0} (f : X → Y) (o : Option X) → option_map f o ≡ None → o ≡ None
mapped-None f None e = refl
mapped-None f (Some x) e = absurd cc

-- where nothing was given for an id, no entry has the key
pub absent : (answers : Answered) (id : List ℕ) → answer_to answers id ≡ None → find (has_key (slice_cmp nat_cmp) id_of id) answers ≡ None
absent answers id e = mapped-None (λ (entry : List ℕ × Given). entry.1) (find (has_key (slice_cmp nat_cmp) id_of id) answers) (sym (answer-found answers id) ∙ e)
