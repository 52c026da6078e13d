-- Steps of the walks over fields with what is known of them.
use Rattle.std.proofs.Common.{◌≡◌, ℕ, ◌+◌, ◌<◌, ◌≤◌, Bool, true, false, cond, if◌then◌else◌, List, [], ◌∷◌, ◌++◌, length, get_or, take, drop, find, slice_get, Option, Some, None, refl, sym, ap, ◌∙◌, add-one, drop-cons}
use Rattle.std.proofs.lemmas.List.{drop_all}
use Rattle.std.proofs.lemmas.Option.{slice_get_within, get_or_from_slice_get}
use Rattle.wb_base.specs.declared.form.Field.{Field}
use Rattle.wb_base.specs.ShownFields.{Look}
use Rattle.wb_base.specs.AnswerFaults.{first_fault, field_fault, or_next}

-- what is found in the first of two lists
pub find-near : {X : Type 0} (p : X → Bool) (xs ys : List X) (x : X) → find p xs ≡ Some x → find p (xs ++ ys) ≡ Some x
find-near p [] ys x e = absurd cc
find-near p (y ∷ xs) ys x e =
    elim (p y) as (λ b. cond b (Some y) (find p xs) ≡ Some x → cond b (Some y) (find p (xs ++ ys)) ≡ Some x) [
      | true ↦ λ h. h
      | false ↦ λ h. find-near p xs ys x h
    ] e

-- what is not found in the first of two lists
pub find-far : {X : Type 0} (p : X → Bool) (xs ys : List X) → find p xs ≡ None → find p (xs ++ ys) ≡ find p ys
find-far p [] ys e = refl
find-far p (y ∷ xs) ys e =
    elim (p y) as (λ b. cond b (Some y) (find p xs) ≡ None → cond b (Some y) (find p (xs ++ ys)) ≡ find p ys) [
      | true ↦ λ h. absurd cc
      | false ↦ λ h. find-far p xs ys h
    ] e

module _ (test : Field → Bool) (look : Look) (marked : Bool) where
  -- the fault of the field at a place, or that of the fields after it
  fault-next : (marks : List Bool) (fs : List Field) (at : ℕ) (f : Field) → slice_get fs at ≡ Some f → at < length marks
      → first_fault test look marked (drop at marks) (drop at fs)
      ≡ or_next (if test f then field_fault (get_or marks at false) marked f (look f.id) else None) f.id (first_fault test look marked (drop (at + 1) marks) (drop (at + 1) fs))
  fault-next marks fs at f here lt =
      let within = slice_get_within fs at f here in
      let is : get_or fs at f ≡ f = get_or_from_slice_get fs at f f here in
      rw (drop-cons fs at f within, drop-cons marks at false lt, is, add-one at) refl

  -- where the fault of the field at a place is known
  pub fault-known : (marks : List Bool) (fs : List Field) (at : ℕ) (f : Field) (fault known : Option ℕ) → slice_get fs at ≡ Some f → at < length marks
      → fault ≡ (if test f then field_fault (get_or marks at false) marked f (look f.id) else None) → fault ≡ known
      → first_fault test look marked (drop at marks) (drop at fs) ≡ or_next known f.id (first_fault test look marked (drop (at + 1) marks) (drop (at + 1) fs))
  fault-known marks fs at f fault known here lt is told =
      fault-next marks fs at f here lt ∙ ap (λ v. or_next v f.id (first_fault test look marked (drop (at + 1) marks) (drop (at + 1) fs))) (sym is ∙ told)

  fault-no_fields : (marks : List Bool) → first_fault test look marked marks [] ≡ None
  fault-no_fields [] = refl
  fault-no_fields (mark ∷ marks) = refl

  pub fault-past_fields : (marks : List Bool) (fs : List Field) (at : ℕ) → length fs ≤ at → first_fault test look marked marks (drop at fs) ≡ None
  fault-past_fields marks fs at h = ap (λ gs. first_fault test look marked marks gs) (drop_all at fs h) ∙ fault-no_fields marks

  -- truth values past the fields do not matter
  pub fault-take : (marks : List Bool) (fs : List Field) → first_fault test look marked marks fs ≡ first_fault test look marked (take (length fs) marks) fs
  fault-take [] [] = refl
  fault-take (mark ∷ marks) [] = refl
  fault-take [] (f ∷ fs) = refl
  fault-take (mark ∷ marks) (f ∷ fs) = ap (λ v. or_next (if test f then field_fault mark marked f (look f.id) else None) f.id v) (fault-take marks fs)
