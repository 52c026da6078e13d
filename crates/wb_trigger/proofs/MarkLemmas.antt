-- The list of truth values that is made field by field is that of the definition.
use Rattle.std.proofs.Common.{◌≡◌, ℕ, zero, suc, ◌+◌, ◌<◌, ◌≤◌, Bool, true, false, ◌&&◌, ◌||◌, List, [], ◌∷◌, ◌++◌, length, get_or, take, drop, set, refl, sym, ap, ◌∙◌, arith, append_assoc, length-append, length-drop, add-one, drop-cons, slice_get, Some, None, ◌-◌, min, nat_le, if◌then◌else◌, inl, inr}
use Rattle.std.proofs.lemmas.Bool.{le-leb, lt-leb}
use Rattle.std.proofs.lemmas.Bool.Decides.{leb_tells}
use Rattle.wb_base.proofs.Parts.{next}
use Rattle.std.proofs.Math.Bool.{or-false}
use Rattle.std.proofs.lemmas.List.{drop-drop, drop_all, take_all, take_more, take_more_set}
use Rattle.std.proofs.lemmas.Option.{slice_get_within, get_or_from_slice_get}
use Rattle.wb_base.specs.FormFields.{fields_of}
use Rattle.wb_base.specs.declared.form.Step.{Step}
use Rattle.wb_base.specs.declared.form.Field.{Field}
use Rattle.wb_base.specs.declared.form.Part.{Part}
use Rattle.wb_base.specs.declared.form.Trigger.{Trigger}
use Rattle.wb_base.specs.FormFields.{is_field, parts_of, least_of}
use Rattle.wb_base.specs.ShownFields.{Look, is_met, points_met, is_triggered, shows, is_shown, shown_from}
use Rattle.wb_trigger.specs.Marks.{any_shown}

or_swap : (a b c d : Bool) → a ≡ c → b ≡ d → (a || b) ≡ (d || c)
or_swap a b c d e f = rw (e, f) (elim c as (λ v. (v || d) ≡ (d || v)) [
  | true ↦ elim d as (λ w. (true || w) ≡ (w || true)) [ true ↦ refl | false ↦ refl ]
  | false ↦ elim d as (λ w. (false || w) ≡ (w || false)) [ true ↦ refl | false ↦ refl ]
])

or_group : (a b c : Bool) → (a || (b || c)) ≡ ((a || b) || c)
or_group true b c = refl
or_group false b c = refl

pub any_shown-none : (fs : List Field) (id : List ℕ) → any_shown fs [] id ≡ false
any_shown-none [] id = refl
any_shown-none (f ∷ fs) id = refl

-- fields, and then more of them
pub any_shown-append : (fs gs : List Field) (marks : List Bool) (id : List ℕ) → any_shown (fs ++ gs) marks id ≡ (any_shown fs marks id || any_shown gs (drop (length fs) marks) id)
any_shown-append [] gs marks id = refl
any_shown-append (f ∷ fs) gs [] id = sym (any_shown-none gs id)
any_shown-append (f ∷ fs) gs (b ∷ marks) id = ap (λ v. (is_field id f && b) || v) (any_shown-append fs gs marks id) ∙ or_group (is_field id f && b) (any_shown fs marks id) (any_shown gs (drop (length fs) marks) id)

-- truth values, and then more of them, for as many fields
any_shown-marks : (fs gs : List Field) (marks more : List Bool) (id : List ℕ) → length fs ≡ length marks → any_shown (fs ++ gs) (marks ++ more) id ≡ (any_shown fs marks id || any_shown gs more id)
any_shown-marks [] gs [] more id e = refl
any_shown-marks [] gs (b ∷ marks) more id e = absurd (omega (arith, e))
any_shown-marks (f ∷ fs) gs [] more id e = absurd (omega (arith, e))
any_shown-marks (f ∷ fs) gs (b ∷ marks) more id e = ap (λ v. (is_field id f && b) || v) (any_shown-marks fs gs marks more id (omega (arith, e))) ∙ or_group (is_field id f && b) (any_shown fs marks id) (any_shown gs more id)

module _ (answers : Look) (p q : List ℕ → Bool) (h : (id : List ℕ) → p id ≡ q id) where
  points-same : (ps : List Part) → points_met p answers ps ≡ points_met q answers ps
  points-same [] = refl
  points-same (c ∷ ps) = rw (h c.field, points-same ps) refl

  pub triggered-same : (t : Trigger) → is_triggered p answers t ≡ is_triggered q answers t
  triggered-same t = ap (nat_le (least_of t)) (points-same (parts_of t))

-- what is missing once some points are there
counted : (m p rest : ℕ) → nat_le (m - p) rest ≡ nat_le m (p + rest)
counted m p rest = elim (leb_tells m (p + rest)) [
  | inl enough ↦ le-leb (m - p) rest (omega (arith, enough.1)) ∙ sym enough.0
  | inr short ↦ lt-leb (m - p) rest (omega (arith, short.1)) ∙ sym short.0
]

none-more : (n : ℕ) → 0 + n ≡ n
none-more n = omega arith

module _ (shows : List ℕ → Bool) (look : Look) (ps : List Part) (k m : ℕ) (p : Part) (here : slice_get ps k ≡ Some p) where
  abbrev rest : ℕ
  rest = points_met shows look (drop (k + 1) ps)

  whole : points_met shows look (drop k ps) ≡ (if is_met shows look p then p.points else 0) + rest
  whole = ap (points_met shows look) (next ps k p here)

  points-met : is_met shows look p ≡ true → nat_le (m - p.points) rest ≡ nat_le m (points_met shows look (drop k ps))
  points-met met = counted m p.points rest ∙ sym (ap (nat_le m) (whole ∙ ap (λ b. (if b then p.points else 0) + rest) met))

  points-unmet : is_met shows look p ≡ false → nat_le m rest ≡ nat_le m (points_met shows look (drop k ps))
  points-unmet unmet = sym (ap (nat_le m) (whole ∙ ap (λ b. (if b then p.points else 0) + rest) unmet ∙ none-more rest))

  pub points-left : (b : Bool) (left : ℕ) → b ≡ is_met shows look p → left ≡ (if b then m - p.points else m) → nat_le left rest ≡ nat_le m (points_met shows look (drop k ps))
  points-left true left met is = ap (λ n. nat_le n rest) is ∙ points-met (sym met)
  points-left false left met is = ap (λ n. nat_le n rest) is ∙ points-unmet (sym met)

regrouped : (A : Look) (done : List Field) (marks : List Bool) (f : Field) (b : Bool) (fs : List Field) (cs : List Bool) (v : Bool) (t : Trigger)
    → v ≡ is_triggered (any_shown ((done ++ f ∷ []) ++ fs) ((marks ++ b ∷ []) ++ cs)) A t → v ≡ is_triggered (any_shown (done ++ f ∷ fs) (marks ++ b ∷ cs)) A t
regrouped A done marks f b fs cs v t h = rw (append_assoc done (f ∷ []) fs, append_assoc marks (b ∷ []) cs) at h

-- each truth value follows from those before it
pub shown-at : (A : Look) (done : List Field) (marks : List Bool) (earlier fs : List Field) (k : ℕ) (d : Field) → length done ≡ length marks
    → ((id : List ℕ) → any_shown done marks id ≡ shows A earlier id) → k < length fs
    → get_or (shown_from A earlier fs) k false ≡ is_triggered (any_shown (done ++ fs) (marks ++ take k (shown_from A earlier fs))) A (get_or fs k d).show
shown-at A done marks earlier [] k d len same lt = absurd (omega arith)
shown-at A done marks earlier (f ∷ fs) zero d len same lt =
    triggered-same A (shows A earlier) (any_shown (done ++ f ∷ fs) (marks ++ [])) (λ id. sym (same id) ∙ sym (any_shown-marks done (f ∷ fs) marks [] id len ∙ or-false (any_shown done marks id))) f.show
shown-at A done marks earlier (f ∷ fs) (suc k) d len same lt =
    let b = is_shown A earlier f in
    let lt' : k < length fs = omega (arith, lt) in
    let len' : length (done ++ f ∷ []) ≡ length (marks ++ b ∷ []) = omega (arith, len, length-append done (f ∷ []), length-append marks (b ∷ [])) in
    let same' : (id : List ℕ) → any_shown (done ++ f ∷ []) (marks ++ b ∷ []) id ≡ shows A (f ∷ earlier) id = λ id.
    any_shown-marks done (f ∷ []) marks (b ∷ []) id len ∙ or_swap (any_shown done marks id) ((is_field id f && b) || false) (shows A earlier id) (is_field id f && b) (same id) (or-false (is_field id f && b)) in
    regrouped A done marks f b fs (take k (shown_from A (f ∷ earlier) fs)) (get_or (shown_from A (f ∷ earlier) fs) k false) (get_or fs k d).show
    (shown-at A (done ++ f ∷ []) (marks ++ b ∷ []) (f ∷ earlier) fs k d len' same' lt')

-- the next field with its truth value
pub any_shown-next : (fs : List Field) (marks : List Bool) (id : List ℕ) (k : ℕ) (d : Field) → k < length fs → k < length marks
    → any_shown (drop k fs) (drop k marks) id ≡ ((is_field id (get_or fs k d) && get_or marks k false) || any_shown (drop (k + 1) fs) (drop (k + 1) marks) id)
any_shown-next fs marks id k d h l = rw (drop-cons fs k d h, drop-cons marks k false l, add-one k) refl

-- the item at a place of two lists
pub slice_get-near : {X : Type 0} (xs ys : List X) (k : ℕ) → k < length xs → slice_get (xs ++ ys) k ≡ slice_get xs k
slice_get-near [] ys k lt = absurd (omega arith)
slice_get-near (x ∷ xs) ys zero lt = refl
slice_get-near (x ∷ xs) ys (suc k) lt = slice_get-near xs ys k (omega (arith, lt))

pub slice_get-far : {X : Type 0} (xs ys : List X) (k m : ℕ) → k ≡ length xs + m → slice_get (xs ++ ys) k ≡ slice_get ys m
slice_get-far [] ys k m e = ap (slice_get ys) (omega (arith, e))
slice_get-far (x ∷ xs) ys zero m e = absurd (omega (arith, e))
slice_get-far (x ∷ xs) ys (suc k) m e = slice_get-far xs ys k m (omega (arith, e))

-- the fields from a step on
pub fields_of-step : (steps : List Step) (k : ℕ) (s : Step) → k < length steps → s ≡ get_or steps k s → fields_of (drop k steps) ≡ s.fields ++ fields_of (drop (k + 1) steps)
fields_of-step steps k s lt e = ap fields_of (drop-cons steps k s lt ∙ ap (λ v. v ∷ drop (suc k) steps) (sym e)) ∙ rw (add-one k) refl

pub shows-step : (steps : List Step) (marks : List Bool) (id : List ℕ) (k at : ℕ) (s : Step) → k < length steps → s ≡ get_or steps k s
    → any_shown (fields_of (drop k steps)) (drop at marks) id ≡ (any_shown s.fields (drop at marks) id || any_shown (fields_of (drop (k + 1) steps)) (drop (at + length s.fields) marks) id)
shows-step steps marks id k at s lt e =
    ap (λ fs. any_shown fs (drop at marks) id) (fields_of-step steps k s lt e) ∙ any_shown-append s.fields (fields_of (drop (k + 1) steps)) (drop at marks) id
    ∙ ap (λ cs. any_shown s.fields (drop at marks) id || any_shown (fields_of (drop (k + 1) steps)) cs id) (drop-drop (length s.fields) at marks)

pub any_shown-past : (fs : List Field) (marks : List Bool) (n : ℕ) (id : List ℕ) → length marks ≤ n → any_shown fs (drop n marks) id ≡ false
any_shown-past fs marks n id h = ap (λ cs. any_shown fs cs id) (drop_all n marks h) ∙ any_shown-none fs id

pub length-shown : (A : Look) (earlier fs : List Field) → length (shown_from A earlier fs) ≡ length fs
length-shown A earlier [] = refl
length-shown A earlier (f ∷ fs) = ap suc (length-shown A (f ∷ earlier) fs)

pub past_from_None : {X : Type 0} (xs : List X) (k : ℕ) → slice_get xs k ≡ None → length xs ≤ k
past_from_None [] k e = omega arith
past_from_None (x ∷ xs) zero e = absurd cc
past_from_None (x ∷ xs) (suc k) e = omega (arith, past_from_None xs k e)

-- one more truth value
pub mark-next : (A : Look) (all : List Field) (marks : List Bool) (at : ℕ) (f : Field) (b : Bool) → slice_get all at ≡ Some f → at < length marks
    → take at marks ≡ take at (shown_from A [] all) → b ≡ is_triggered (any_shown all (take at marks)) A f.show → take (at + 1) (set marks at b) ≡ take (at + 1) (shown_from A [] all)
mark-next A all marks at f b here room made e =
    let lt : at < length all = slice_get_within all at f here in
    let is : get_or all at f ≡ f = get_or_from_slice_get all at f f here in
    let len : at < length (shown_from A [] all) = omega (arith, lt, length-shown A [] all) in
    let value : get_or (shown_from A [] all) at false ≡ is_triggered (any_shown all (take at (shown_from A [] all))) A (get_or all at f).show = shown-at A [] [] [] all at f refl (λ id. refl) lt in
    let value' : get_or (shown_from A [] all) at false ≡ b = value ∙ ap (λ g. is_triggered (any_shown all (take at (shown_from A [] all))) A g.show) is ∙ ap (λ cs. is_triggered (any_shown all cs) A f.show) (sym made) ∙ sym e in
    take_more_set marks at b room ∙ ap (λ cs. cs ++ b ∷ []) made ∙ ap (λ v. take at (shown_from A [] all) ++ v ∷ []) (sym value') ∙ sym (take_more (shown_from A [] all) at false len)

-- the truth values of all fields, where there are no more fields than were asked for
pub mark-all : (A : Look) (all : List Field) (marks : List Bool) (count : ℕ) → length all ≤ count
    → take (min count (length all)) marks ≡ take count (shown_from A [] all) → take (length all) marks ≡ shown_from A [] all
mark-all A all marks count few made =
    let least : length all ≡ min count (length all) = omega (arith, few) in
    ap (λ n. take n marks) least ∙ made ∙ take_all count (shown_from A [] all) (omega (arith, few, length-shown A [] all))

-- the truth values that were asked for, where the fields end before
pub mark-end : (A : Look) (all : List Field) (marks : List Bool) (count at : ℕ) → at ≤ count → at ≡ length all → take at marks ≡ take at (shown_from A [] all)
    → take (min count (length all)) marks ≡ take count (shown_from A [] all)
mark-end A all marks count at below end made =
    let least : min count (length all) ≡ at = omega (arith, below, end) in
    ap (λ n. take n marks) least ∙ made ∙ take_all at (shown_from A [] all) (omega (arith, end, length-shown A [] all))
    ∙ sym (take_all count (shown_from A [] all) (omega (arith, below, end, length-shown A [] all)))

pub and_none : (a b : Bool) → b ≡ false → (a && b) ≡ false
and_none true b e = e
and_none false b e = refl

-- what a call on the rest of the truth values answered
pub called : (fs gs : List Field) (marks : List Bool) (at : ℕ) (id : List ℕ) (r : Bool) → fs ≡ gs → r ≡ any_shown fs (take (length marks - at) (drop at marks)) id → any_shown gs (drop at marks) id ≡ r
called fs gs marks at id r e h =
    sym (h ∙ ap (λ cs. any_shown fs cs id) (take_all (length marks - at) (drop at marks) (omega (arith, length-drop at marks))) ∙ ap (λ hs. any_shown hs (drop at marks) id) e)
