-- Where no public field hangs on an identity field, what is shown of public fields hangs on public answers alone.
use Rattle.std.proofs.Common.{◌≡◌, ℕ, zero, suc, Bool, true, false, not, cond, ◌&&◌, ◌||◌, if◌then◌else◌, List, [], ◌∷◌, ◌++◌, get_or, filter, find, slice_get, nat_le, Option, Some, None, refl, sym, ap, ◌∙◌, append_assoc}
use Rattle.std.specs.List.{list_any}
use Rattle.std.specs.Option.{option_map, option_map_or}
use Rattle.std.specs.Cmp.Lexicographic.{bytes_decides}
use Rattle.std.proofs.lemmas.Bool.{or_parts}
use Rattle.wb_base.specs.declared.answers.Given.{Given}
use Rattle.wb_base.specs.declared.form.Form.{Form}
use Rattle.wb_base.specs.declared.form.Field.{Field}
use Rattle.wb_base.specs.declared.form.Part.{Part}
use Rattle.wb_base.specs.declared.form.Trigger.{Trigger}
use Rattle.wb_base.specs.AnswerList.{Answered, answer_to, id_of, is_text}
use Rattle.wb_base.specs.FormFields.{is_field, parts_of, least_of}
use Rattle.wb_base.specs.FormFaults.{is_late, is_sealed, first_from}
use Rattle.wb_base.specs.ShownFields.{Look, is_met, points_met, is_triggered, shows, is_shown, shown_from}
use Rattle.wb_base.specs.AnswerFaults.{is_identity, public_of}

-- the field that an id finds is an identity field
abbrev has_identity : Option Field → Bool
has_identity o = option_map_or (λ (f : Field). f.identity) o false

abbrev identifies : List Field → List ℕ → Bool
identifies fs id = has_identity (find (is_field id) fs)

first_none : (b : Bool) (id : List ℕ) (o : Option (List ℕ)) → (if b then Some id else o) ≡ None → (b ≡ false) × (o ≡ None)
first_none true id o e = absurd cc
first_none false id o e = (refl, e)

guard : (a x y : Bool) → (a ≡ true → x ≡ y) → (a && x) ≡ (a && y)
guard true x y h = h refl
guard false x y h = refl

not_both : (a i : Bool) → (a && i) ≡ false → a ≡ true → i ≡ false
not_both true i e h = e
not_both false i e h = absurd cc

not_false : (b : Bool) → not b ≡ false → b ≡ true
not_false true e = refl
not_false false e = absurd cc

-- a test of an id that some field has, and no identity field
abbrev sealed : List ℕ → Field → Bool
sealed id g = is_field id g && g.identity

any-more : (t : Field → Bool) (xs : List Field) (f : Field) → list_any t (xs ++ f ∷ []) ≡ (t f || list_any t xs)
any-more t [] f = refl
any-more t (x ∷ xs) f = ap (λ v. t x || v) (any-more t xs f) ∙ swap (t x) (t f) (list_any t xs)
  where
    swap : (a b c : Bool) → (a || (b || c)) ≡ (b || (a || c))
    swap true true c = refl
    swap true false c = refl
    swap false b c = refl

-- the field that an id finds is public
found_public : (id : List ℕ) (before fs : List Field) → list_any (is_field id) before ≡ true → list_any (sealed id) before ≡ false → identifies (before ++ fs) id ≡ false
found_public id [] fs e h = absurd cc
found_public id (f ∷ before) fs e h =
    let parts = or_parts (is_field id f && f.identity) (list_any (sealed id) before) h in
    elim (is_field id f) as (λ b. (b && f.identity) ≡ false → (b || list_any (is_field id) before) ≡ true → has_identity (cond b (Some f) (find (is_field id) (before ++ fs))) ≡ false) [
      | true ↦ λ i _. i
      | false ↦ λ _ rest. found_public id before fs rest parts.1
    ] parts.0 e

module _ (p q : Look) where
  -- what is shown agrees for each id that no earlier identity field has
  abbrev Same : List Field → Type 0
  Same earlier = (id : List ℕ) → list_any (sealed id) earlier ≡ false → shows p earlier id ≡ shows q earlier id

  module _ (all : List Field) (agree : (id : List ℕ) → identifies all id ≡ false → p id ≡ q id) where
    met-same : (before earlier fs : List Field) → all ≡ before ++ fs → ((t : Field → Bool) → list_any t before ≡ list_any t earlier) → Same earlier
        → (c : Part) → not (list_any (is_field c.field) before) ≡ false → list_any (sealed c.field) before ≡ false → is_met (shows p earlier) p c ≡ is_met (shows q earlier) q c
    met-same before earlier fs whole rel same c late seal =
        let known = not_false (list_any (is_field c.field) before) late in
        let public : identifies all c.field ≡ false = ap (λ gs. identifies gs c.field) whole ∙ found_public c.field before fs known seal in
        rw (same c.field (sym (rel (sealed c.field)) ∙ seal), agree c.field public) refl

    module _ (before earlier fs : List Field) (whole : all ≡ before ++ fs) (rel : (t : Field → Bool) → list_any t before ≡ list_any t earlier) (same : Same earlier) where
      points-same : (ps : List Part) → list_any (λ c. not (list_any (is_field c.field) before)) ps ≡ false → list_any (λ c. list_any (sealed c.field) before) ps ≡ false
          → points_met (shows p earlier) p ps ≡ points_met (shows q earlier) q ps
      points-same [] l s = refl
      points-same (c ∷ cs) l s =
          let ls = or_parts (not (list_any (is_field c.field) before)) (list_any (λ d. not (list_any (is_field d.field) before)) cs) l in
          let ss = or_parts (list_any (sealed c.field) before) (list_any (λ d. list_any (sealed d.field) before) cs) s in
          rw (met-same before earlier fs whole rel same c ls.0 ss.0, points-same cs ls.1 ss.1) refl

      trigger-same : (t : Trigger) → list_any (λ c. not (list_any (is_field c.field) before)) (parts_of t) ≡ false → list_any (λ c. list_any (sealed c.field) before) (parts_of t) ≡ false
          → is_triggered (shows p earlier) p t ≡ is_triggered (shows q earlier) q t
      trigger-same t l s = ap (nat_le (least_of t)) (points-same (parts_of t) l s)

      field-same : (f : Field) → is_late before f ≡ false → is_sealed before f ≡ false → f.identity ≡ false → is_shown p earlier f ≡ is_shown q earlier f
      field-same f l s i = trigger-same f.show l (rw i at s)

    walk : (before earlier fs : List Field) → all ≡ before ++ fs → ((t : Field → Bool) → list_any t before ≡ list_any t earlier) → Same earlier
        → first_from is_late before fs ≡ None → first_from is_sealed before fs ≡ None → (k : ℕ) (g : Field) → slice_get fs k ≡ Some g → g.identity ≡ false
        → get_or (shown_from p earlier fs) k false ≡ get_or (shown_from q earlier fs) k false
    walk before earlier [] whole rel same l s k g e i = refl
    walk before earlier (f ∷ fs) whole rel same l s zero g e i =
        let ls = first_none (is_late before f) f.id (first_from is_late (before ++ f ∷ []) fs) l in
        let ss = first_none (is_sealed before f) f.id (first_from is_sealed (before ++ f ∷ []) fs) s in
        let is : f ≡ g = cc in
        field-same before earlier (f ∷ fs) whole rel same f ls.0 ss.0 (ap (λ (h : Field). h.identity) is ∙ i)
    walk before earlier (f ∷ fs) whole rel same l s (suc k) g e i =
        let ls = first_none (is_late before f) f.id (first_from is_late (before ++ f ∷ []) fs) l in
        let ss = first_none (is_sealed before f) f.id (first_from is_sealed (before ++ f ∷ []) fs) s in
        walk (before ++ f ∷ []) (f ∷ earlier) fs (whole ∙ sym (append_assoc before (f ∷ []) fs)) (λ t. any-more t before f ∙ ap (λ v. t f || v) (rel t))
        (λ id h. let parts = or_parts (is_field id f && f.identity) (list_any (sealed id) earlier) h in
        rw (same id parts.1, guard (is_field id f) (is_shown p earlier f) (is_shown q earlier f) (λ at. field-same before earlier (f ∷ fs) whole rel same f ls.0 ss.0 (not_both (is_field id f) f.identity parts.0 at))) refl)
        ls.1 ss.1 k g e i

    pub public-same : first_from is_late [] all ≡ None → first_from is_sealed [] all ≡ None → (k : ℕ) (g : Field) → slice_get all k ≡ Some g → g.identity ≡ false
        → get_or (shown_from p [] all) k false ≡ get_or (shown_from q [] all) k false
    public-same l s k g e i = walk [] [] all refl (λ t. refl) (λ id h. refl) l s k g e i

-- a filter that keeps what a test finds leaves what it finds
find-kept : {X : Type 0} (test keeps : X → Bool) → ((x : X) → test x ≡ true → keeps x ≡ true) → (xs : List X) → find test (filter keeps xs) ≡ find test xs
find-kept test keeps h [] = refl
find-kept test keeps h (x ∷ xs) =
    elim (test x) as (λ b. test x ≡ b → find test (filter keeps (x ∷ xs)) ≡ cond b (Some x) (find test xs)) [
      | true ↦ λ passes. rw (h x passes, passes) refl
      | false ↦ λ fails. elim (keeps x) as (λ b. find test (cond b (x ∷ filter keeps xs) (filter keeps xs)) ≡ find test xs) [
        | true ↦ rw (fails) (find-kept test keeps h xs)
        | false ↦ find-kept test keeps h xs
      ]
    ] refl

same_id : (id k : List ℕ) → is_text k id ≡ true → k ≡ id
same_id id k e = (bytes_decides k id).0 e

-- the public answers answer as all do, for each id that is no identity field's
pub public-answers : (form : Form) (answers : Answered) (id : List ℕ) → is_identity form id ≡ false → answer_to answers id ≡ answer_to (public_of form answers) id
public-answers form answers id public =
    ap (option_map (λ (entry : List ℕ × Given). entry.1)) (sym (find-kept (λ entry. is_text (id_of entry) id) (λ entry. not (is_identity form (id_of entry)))
    (λ entry at. ap not (ap (is_identity form) (same_id id (id_of entry) at) ∙ public)) answers))
