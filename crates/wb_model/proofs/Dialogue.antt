-- The remarks of a trail are those at the places of its dialogue.
use Rattle.std.proofs.Common.{◌≡◌, ℕ, ◌+◌, Bool, true, false, cond, List, [], ◌∷◌, ◌++◌, length, Option, Some, None, refl, sym, ap, ◌∙◌, arith}
use Rattle.std.specs.List.{cons_option}
use Rattle.std.specs.Prelude.{filter_map, slice_get, option_and_then, is_some}
use Rattle.wb_model.specs.declared.entry.Entry.{Entry}
use Rattle.wb_model.specs.Trails.{Remark, remark_of, remark_places, dialogue_places, remarks_at, dialogue}

seam : (pre es : List Entry) (e : Entry) → slice_get (pre ++ e ∷ es) (length pre) ≡ Some e
seam [] es e = refl
seam (x ∷ pre) es e = seam pre es e

longer : (pre : List Entry) (e : Entry) → length (pre ++ e ∷ []) ≡ length pre + 1
longer [] e = refl
longer (x ∷ pre) e = let k : length (pre ++ e ∷ []) ≡ length pre + 1 = longer pre e in omega (arith, k)

joined : (pre es : List Entry) (e : Entry) → (pre ++ e ∷ []) ++ es ≡ pre ++ e ∷ es
joined [] es e = refl
joined (x ∷ pre) es e = ap (λ l. x ∷ l) (joined pre es e)

-- the remarks from a place on
at_places : (pre es : List Entry) → remarks_at (pre ++ es) (remark_places (length pre) es) ≡ filter_map remark_of es
at_places pre [] = refl
at_places pre (e ∷ es) = by (remark_of e) refl (at_places (pre ++ e ∷ []) es)
  where
    rest : remarks_at ((pre ++ e ∷ []) ++ es) (remark_places (length (pre ++ e ∷ [])) es) ≡ filter_map remark_of es → remarks_at (pre ++ e ∷ es) (remark_places (length pre + 1) es) ≡ filter_map remark_of es
    rest ih = ap (λ l. remarks_at l (remark_places (length pre + 1) es)) (sym (joined pre es e)) ∙ (ap (λ n. remarks_at ((pre ++ e ∷ []) ++ es) (remark_places n es)) (sym (longer pre e)) ∙ ih)

    by : (o : Option Remark) → remark_of e ≡ o → remarks_at ((pre ++ e ∷ []) ++ es) (remark_places (length (pre ++ e ∷ [])) es) ≡ filter_map remark_of es → remarks_at (pre ++ e ∷ es) (remark_places (length pre) (e ∷ es)) ≡ filter_map remark_of (e ∷ es)
    by None is ih = rw (is) (rest ih)
    by (Some x) is ih =
        rw (is) (ap (λ o. cons_option (option_and_then remark_of o) (remarks_at (pre ++ e ∷ es) (remark_places (length pre + 1) es))) (seam pre es e)
        ∙ (ap (λ o. cons_option o (remarks_at (pre ++ e ∷ es) (remark_places (length pre + 1) es))) is
        ∙ ap (λ l. x ∷ l) (rest ih)))

pub dialogue_at_places : (trail : List Entry) → remarks_at trail (dialogue_places trail) ≡ dialogue trail
dialogue_at_places trail = at_places [] trail

-- one more entry is one more place where it is a remark
places_more : (k n : ℕ) (trail : List Entry) (e : Entry) → n ≡ k + length trail → remark_places k (trail ++ e ∷ []) ≡ remark_places k trail ++ remark_places n (e ∷ [])
places_more k n [] e is = ap (λ m. remark_places m (e ∷ [])) (let same : k ≡ n = omega (arith, is) in same)
places_more k n (x ∷ trail) e is = by (is_some (remark_of x)) (places_more (k + 1) n trail e (omega (arith, is)))
  where
    by : (b : Bool) → remark_places (k + 1) (trail ++ e ∷ []) ≡ remark_places (k + 1) trail ++ remark_places n (e ∷ []) →
        cond b (k ∷ remark_places (k + 1) (trail ++ e ∷ [])) (remark_places (k + 1) (trail ++ e ∷ [])) ≡ cond b (k ∷ remark_places (k + 1) trail) (remark_places (k + 1) trail) ++ remark_places n (e ∷ [])
    by true ih = ap (λ l. k ∷ l) ih
    by false ih = ih

pub dialogue_more : (trail : List Entry) (e : Entry) → dialogue_places (trail ++ e ∷ []) ≡ dialogue_places trail ++ remark_places (length trail) (e ∷ [])
dialogue_more trail e = places_more 0 (length trail) trail e (omega arith)
