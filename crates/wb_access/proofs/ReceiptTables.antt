-- What is found of the receipts is what the table has.
use Rattle.std.proofs.Common.{◌≡◌, ℕ, Bool, true, false, ◌&&◌, nat_eq, List, [], ◌∷◌, map, cond, find, Some, refl, ap, ◌∙◌, Result, Ok, Err, OnOk}
use Rattle.std.specs.Cmp.{nat_eq_equiv}
use Rattle.std.specs.Cmp.Lexicographic.{pointwise}
use Rattle.std.specs.Map.{lookup}
use Rattle.std.specs.Option.{option_map}
use Rattle.std.proofs.lemmas.Cmp.{nat_list_eq_equiv}
use Rattle.wb_base.specs.AnswerList.{is_text}
use Rattle.wb_base.specs.declared.words.Digest.{Digest}
use Rattle.wb_access.specs.Receipts.{is_receipt, number_of, entry_key, receipt_at}

-- an entry of the table
abbrev pub Entry : Type 0
Entry = (ℕ × List ℕ) × ℕ

abbrev pub eq_key : ℕ × List ℕ → ℕ × List ℕ → Bool
eq_key a b = nat_eq a.0 b.0 && pointwise nat_eq a.1 b.1

tested : (t : ℕ) (d : Digest) (e : Entry) → is_receipt t d (receipt_at e) ≡ eq_key (entry_key t d) e.0
tested t d e = ap (λ b. b && is_text e.0.1 d.0) (nat_eq_equiv.symm e.0.0 t) ∙ ap (λ b. nat_eq t e.0.0 && b) (nat_list_eq_equiv.symm e.0.1 d.0)

pub found : (t : ℕ) (d : Digest) (es : List Entry) → number_of t d (map receipt_at es) ≡ lookup (eq_key (entry_key t d)) es
found t d [] = refl
found t d (e ∷ es) = rw (tested t d e) (by (eq_key (entry_key t d) e.0) (found t d es))
  where
    by : (b : Bool) → number_of t d (map receipt_at es) ≡ lookup (eq_key (entry_key t d)) es → option_map (λ r. r.number) (cond b (Some (receipt_at e)) (find (is_receipt t d) (map receipt_at es))) ≡ cond b (Some e.1) (lookup (eq_key (entry_key t d)) es)
    by true f = refl
    by false f = f

-- ---- what an Ok gives

pub on_ok : {T E P : Type 0} (r : Result T E) (x : T) → r ≡ Ok x → OnOk r P → P
on_ok (Ok y) x is p = p
on_ok (Err e) x is p = absurd (cc is)
