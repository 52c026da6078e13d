-- A form that is read has its texts and numbers in range.
use Rattle.std.proofs.Common.{◌≡◌, ℕ, List, [], ◌∷◌, Bool, true, false, ◌==◌, if◌then◌else◌, Option, Some, None, option_map, option_and_then, is_some, is_none, refl, sym, ap, ◌∙◌, codes}
use Rattle.std.specs.List.{list_all}
use Rattle.serde_json.specs.Data.{Data, Items, no_items, item}
use Rattle.serde_json.specs.Find.{get, as_str, as_array, as_u64, as_number}
use Rattle.wb_base.specs.declared.form.Choice.{Choice as FieldOption}
use Rattle.wb_base.specs.declared.form.Field.{Field}
use Rattle.wb_base.specs.declared.form.FieldKind.{FieldKind}
use Rattle.wb_base.specs.declared.form.FieldKind.TheVariants.{Text as TextKind, Choice as ChoiceKind, Multi as MultiKind, Date, Check, Whole, File}
use Rattle.wb_base.specs.declared.form.Trigger.{Trigger}
use Rattle.wb_base.specs.declared.form.Trigger.TheVariants.{Always, Any, All, Score}
use Rattle.wb_base.specs.declared.form.Cond.{Cond}
use Rattle.wb_base.specs.declared.form.Part.{Part}
use Rattle.wb_base.specs.declared.form.Format.{Format}
use Rattle.wb_base.specs.declared.form.Format.TheVariants.{Plain, Weighed}
use Rattle.wb_base.specs.declared.form.Step.{Step}
use Rattle.wb_base.specs.declared.form.Form.{Form}
use Rattle.wb_base.specs.AnswerList.{is_text}
use Rattle.wb_base.specs.FormShape.{size, has_only, field_keys, keep, is_any, text_at, number_at, optional, flag_at, all_of, list_of, option_of, part_of, parts_at, score_of, plain_score_of, cond_by, plain_trigger_of, moded, trigger_by, show_at, max_of, max_at, options_at, plain_kind, kind_named, kind_of, field_by, step_by, form_by}
use Rattle.wb_base.specs.FormRanges.{is_id, is_label, is_max, are_points, is_least, is_option_in_range, is_part_in_range, is_trigger_in_range, is_kind_in_range, is_field_in_range, is_step_in_range, is_in_range}
use Rattle.wb_base.proofs.Options.{kept}

-- what a chain that gave something went through
pub record Through {X Y : Type 0} (f : X → Option Y) (o : Option X) (y : Y) : Type 0 where
  pub value : X
  pub first : o ≡ Some value
  pub last : f value ≡ Some y

through : {X Y : Type 0} (f : X → Option Y) (o : Option X) (y : Y) → option_and_then f o ≡ Some y → Through f o y
through f None y e = absurd cc
through f (Some x) y e = record { value = x; first = refl; last = e }

through_map : {X Y : Type 0} (f : X → Y) (o : Option X) (y : Y) → option_map f o ≡ Some y → Through (λ x. Some (f x)) o y
through_map f None y e = absurd cc
through_map f (Some x) y e = record { value = x; first = refl; last = e }

passed : {X : Type 0} (b : Bool) (o : Option X) (x : X) → (if b then o else None) ≡ Some x → o ≡ Some x
passed true o x e = e
passed false o x e = absurd cc

text_in_range : (test : List ℕ → Bool) (k : List ℕ) (d : Data) (t : List ℕ) → text_at test k d ≡ Some t → test t ≡ true
text_in_range test k d t e = let h = through (keep test) (option_and_then as_str (get k d)) t e in (kept test h.value t h.last).0

all_in_range : {X : Type 0} (read : Data → Option X) (ok : X → Bool) → ((d : Data) (x : X) → read d ≡ Some x → ok x ≡ true) → (ds : Items) (xs : List X) → all_of read ds ≡ Some xs → list_all ok xs ≡ true
all_in_range read ok h no_items xs e = let is : [] ≡ xs = cc in ap (list_all ok) (sym is)
all_in_range read ok h (item d ds) xs e =
    let one = through (λ x. option_map (λ ys. x ∷ ys) (all_of read ds)) (read d) xs e in
    let more = through_map (λ ys. one.value ∷ ys) (all_of read ds) xs one.last in
    let rest = all_in_range read ok h ds more.value more.first in
    let good = h d one.value one.first in
    let is : one.value ∷ more.value ≡ xs = (let same : Some (one.value ∷ more.value) ≡ Some xs = more.last in cc) in
    ap (list_all ok) (sym is) ∙ rw (good, rest) refl

list_in_range : {X : Type 0} (read : Data → Option X) (ok : X → Bool) → ((d : Data) (x : X) → read d ≡ Some x → ok x ≡ true) → (d : Data) (xs : List X) → list_of read d ≡ Some xs → list_all ok xs ≡ true
list_in_range read ok h d xs e = let a = through (all_of read) (as_array d) xs e in all_in_range read ok h a.value xs a.last

abbrev make_option : List ℕ → List ℕ → FieldOption
make_option id label = record { id = id; label = label }

option_in_range : (d : Data) (c : FieldOption) → option_of d ≡ Some c → is_option_in_range c ≡ true
option_in_range d c e =
    let label = text_at is_label (codes "label") d in
    let first = text_at is_id (codes "id") d in
    let a = through (λ id. option_map (make_option id) label) first c (passed (size d == 2) (option_and_then (λ id. option_map (make_option id) label) first) c e) in
    let b = through_map (make_option a.value) label c a.last in
    let is : make_option a.value b.value ≡ c = (let same : Some (make_option a.value b.value) ≡ Some c = b.last in cc) in
    ap is_option_in_range (sym is) ∙ rw (text_in_range is_id (codes "id") d a.value a.first, text_in_range is_label (codes "label") d b.value b.first) refl

max_in_range : (d : Data) (n : ℕ) → max_at d ≡ Some n → is_max n ≡ true
max_in_range d n e = by (get (codes "max") d) e
  where
    by : (o : Option Data) → optional 4096 max_of o ≡ Some n → is_max n ≡ true
    by None h = (let is : 4096 ≡ n = cc in ap is_max (sym is))
    by (Some v) h = (let m = through (keep is_max) (option_and_then as_u64 (as_number v)) n h in (kept is_max m.value n m.last).0)

options_in_range : (d : Data) (os : List FieldOption) → options_at d ≡ Some os → list_all is_option_in_range os ≡ true
options_in_range d os e = by (get (codes "options") d) e
  where
    by : (o : Option Data) → optional [] (list_of option_of) o ≡ Some os → list_all is_option_in_range os ≡ true
    by None h = (let is : [] ≡ os = cc in ap (list_all is_option_in_range) (sym is))
    by (Some v) h = list_in_range option_of is_option_in_range option_in_range v os h

kindless_in_range : (name : List ℕ) (k : FieldKind) → plain_kind name ≡ Some k → is_kind_in_range k ≡ true
kindless_in_range name k e = by (is_text name (codes "date")) (is_text name (codes "check")) (is_text name (codes "whole")) (is_text name (codes "file")) e
  where
    by : (a b c d : Bool) → (if a then Some Date else if b then Some Check else if c then Some Whole else if d then Some File else None) ≡ Some k → is_kind_in_range k ≡ true
    by true b c d h = (let is : Date ≡ k = cc in ap is_kind_in_range (sym is))
    by false true c d h = (let is : Check ≡ k = cc in ap is_kind_in_range (sym is))
    by false false true d h = (let is : Whole ≡ k = cc in ap is_kind_in_range (sym is))
    by false false false true h = (let is : File ≡ k = cc in ap is_kind_in_range (sym is))
    by false false false false h = absurd cc

named_in_range : (d : Data) (name : List ℕ) (k : FieldKind) → kind_named d name ≡ Some k → is_kind_in_range k ≡ true
named_in_range d name k e = by (is_text name (codes "text")) (is_none (get (codes "options") d)) (is_some (get (codes "max") d)) (is_text name (codes "choice")) (is_text name (codes "multi")) (is_some (get (codes "options") d)) e
  where
    by : (t n m c u o : Bool) → (if t then (if n then option_map TextKind (max_at d) else None) else if m then None else if c then option_map ChoiceKind (options_at d)
        else if u then option_map MultiKind (options_at d) else if o then None else plain_kind name) ≡ Some k → is_kind_in_range k ≡ true
    by true true m c u o h = (let a = through_map TextKind (max_at d) k h in let is : TextKind a.value ≡ k = (let same : Some (TextKind a.value) ≡ Some k = a.last in cc) in ap is_kind_in_range (sym is) ∙ max_in_range d a.value a.first)
    by true false m c u o h = absurd cc
    by false n true c u o h = absurd cc
    by false n false true u o h = (let a = through_map ChoiceKind (options_at d) k h in let is : ChoiceKind a.value ≡ k = (let same : Some (ChoiceKind a.value) ≡ Some k = a.last in cc) in ap is_kind_in_range (sym is) ∙ options_in_range d a.value a.first)
    by false n false false true o h = (let a = through_map MultiKind (options_at d) k h in let is : MultiKind a.value ≡ k = (let same : Some (MultiKind a.value) ≡ Some k = a.last in cc) in ap is_kind_in_range (sym is) ∙ options_in_range d a.value a.first)
    by false n false false false true h = absurd cc
    by false n false false false false h = kindless_in_range name k h

kind_in_range : (d : Data) (k : FieldKind) → kind_of d ≡ Some k → is_kind_in_range k ≡ true
kind_in_range d k e = let a = through (kind_named d) (option_and_then as_str (get (codes "kind") d)) k e in named_in_range d a.value k a.last

abbrev make_part : List ℕ → List ℕ → ℕ → Part
make_part field o points = record { field = field; option = o; points = points }

number_in_range : (test : ℕ → Bool) (k : List ℕ) (d : Data) (n : ℕ) → number_at test k d ≡ Some n → test n ≡ true
number_in_range test k d n e = let h = through (keep test) (option_and_then as_u64 (option_and_then as_number (get k d))) n e in (kept test h.value n h.last).0

part_in_range : (d : Data) (p : Part) → part_of d ≡ Some p → is_part_in_range p ≡ true
part_in_range d p e =
    let points = number_at are_points (codes "points") d in
    let second = text_at is_any (codes "option") d in
    let first = text_at is_any (codes "field") d in
    let f1 = λ (field : List ℕ). option_and_then (λ (o : List ℕ). option_map (make_part field o) points) second in
    let a = through f1 first p (passed (size d == 3) (option_and_then f1 first) p e) in
    let f2 = λ (o : List ℕ). option_map (make_part a.value o) points in
    let b = through f2 second p a.last in
    let c = through_map (make_part a.value b.value) points p b.last in
    let is : make_part a.value b.value c.value ≡ p = (let same : Some (make_part a.value b.value c.value) ≡ Some p = c.last in cc) in
    ap is_part_in_range (sym is) ∙ number_in_range are_points (codes "points") d c.value c.first

score_in_range : (d : Data) (t : Trigger) → score_of d ≡ Some t → is_trigger_in_range t ≡ true
score_in_range d t e =
    let parts = parts_at part_of d in
    let a = through (λ (least : ℕ). option_map (Score least) parts) (number_at is_least (codes "least") d) t e in
    let b = through_map (Score a.value) parts t a.last in
    let l = through (list_of part_of) (get (codes "parts") d) b.value b.first in
    let is : Score a.value b.value ≡ t = (let same : Some (Score a.value b.value) ≡ Some t = b.last in cc) in
    ap is_trigger_in_range (sym is) ∙ rw (number_in_range is_least (codes "least") d a.value a.first, list_in_range part_of is_part_in_range part_in_range l.value b.value l.last) refl

made_any : (o : Option (List Cond)) (t : Trigger) → option_map Any o ≡ Some t → is_trigger_in_range t ≡ true
made_any o t e = let a = through_map Any o t e in (let is : Any a.value ≡ t = (let same : Some (Any a.value) ≡ Some t = a.last in cc) in ap is_trigger_in_range (sym is))

made_all : (o : Option (List Cond)) (t : Trigger) → option_map All o ≡ Some t → is_trigger_in_range t ≡ true
made_all o t e = let a = through_map All o t e in (let is : All a.value ≡ t = (let same : Some (All a.value) ≡ Some t = a.last in cc) in ap is_trigger_in_range (sym is))

plain_in_range : (d : Data) (t : Trigger) → plain_trigger_of d ≡ Some t → is_trigger_in_range t ≡ true
plain_in_range d t e = by (size d == 1) (is_some (get (codes "any") d)) (is_some (get (codes "all") d)) e
  where
    by : (s a l : Bool) → (if s then (if a then option_map Any (option_and_then (list_of (cond_by Plain)) (get (codes "any") d)) else if l then option_map All (option_and_then (list_of (cond_by Plain)) (get (codes "all") d))
        else option_and_then plain_score_of (get (codes "score") d)) else None) ≡ Some t → is_trigger_in_range t ≡ true
    by false a l h = absurd cc
    by true true l h = made_any (option_and_then (list_of (cond_by Plain)) (get (codes "any") d)) t h
    by true false true h = made_all (option_and_then (list_of (cond_by Plain)) (get (codes "all") d)) t h
    by true false false h = (let a = through plain_score_of (get (codes "score") d) t h in score_in_range a.value t (passed (size a.value == 2) (score_of a.value) t a.last))

moded_in_range : (d : Data) (mode : List ℕ) (t : Trigger) → moded d mode ≡ Some t → is_trigger_in_range t ≡ true
moded_in_range d mode t e = by (is_text mode (codes "any")) (is_text mode (codes "all")) (is_text mode (codes "score")) e
  where
    by : (a l s : Bool) → (if a then option_map Any (parts_at (cond_by Weighed) d) else if l then option_map All (parts_at (cond_by Weighed) d) else if s then score_of d else None) ≡ Some t → is_trigger_in_range t ≡ true
    by true l s h = made_any (parts_at (cond_by Weighed) d) t h
    by false true s h = made_all (parts_at (cond_by Weighed) d) t h
    by false false true h = score_in_range d t h
    by false false false h = absurd cc

trigger_in_range : (format : Format) (d : Data) (t : Trigger) → trigger_by format d ≡ Some t → is_trigger_in_range t ≡ true
trigger_in_range Plain d t e = plain_in_range d t e
trigger_in_range Weighed d t e =
    let mode = option_and_then as_str (get (codes "mode") d) in
    let a = through (moded d) mode t (passed (size d == 3) (option_and_then (moded d) mode) t e) in
    moded_in_range d a.value t a.last

show_in_range : (format : Format) (d : Data) (t : Trigger) → show_at format d ≡ Some t → is_trigger_in_range t ≡ true
show_in_range format d t e = by (get (codes "show") d) e
  where
    by : (o : Option Data) → optional Always (trigger_by format) o ≡ Some t → is_trigger_in_range t ≡ true
    by None h = (let is : Always ≡ t = cc in ap is_trigger_in_range (sym is))
    by (Some v) h = trigger_in_range format v t h

abbrev make_field : List ℕ → List ℕ → FieldKind → Bool → Bool → Trigger → Field
make_field id label kind required identity show = record { id = id; label = label; kind = kind; required = required; identity = identity; show = show }

made_in_range : (id label : List ℕ) (kind : FieldKind) (required identity : Bool) (show : Trigger) (f : Field) → is_id id ≡ true → is_label label ≡ true → is_kind_in_range kind ≡ true → is_trigger_in_range show ≡ true → make_field id label kind required identity show ≡ f → is_field_in_range f ≡ true
made_in_range id label kind required identity show f good_id good_label good_kind good_show is = ap is_field_in_range (sym is) ∙ rw (good_id, good_label, good_kind, good_show) refl

field_in_range : (format : Format) (d : Data) (f : Field) → field_by format d ≡ Some f → is_field_in_range f ≡ true
field_in_range format d f e =
    let o1 = text_at is_id (codes "id") d in
    let o2 = text_at is_label (codes "label") d in
    let o3 = kind_of d in
    let o4 = flag_at (codes "required") d in
    let o5 = flag_at (codes "identity") d in
    let o6 = show_at format d in
    let f1 = λ (id : List ℕ). option_and_then (λ (label : List ℕ). option_and_then (λ (kind : FieldKind). option_and_then (λ (r : Bool). option_and_then (λ (i : Bool). option_map (make_field id label kind r i) o6) o5) o4) o3) o2 in
    let a = through f1 o1 f (passed (has_only field_keys d) (option_and_then f1 o1) f e) in
    let f2 = λ (label : List ℕ). option_and_then (λ (kind : FieldKind). option_and_then (λ (r : Bool). option_and_then (λ (i : Bool). option_map (make_field a.value label kind r i) o6) o5) o4) o3 in
    let b = through f2 o2 f a.last in
    let f3 = λ (kind : FieldKind). option_and_then (λ (r : Bool). option_and_then (λ (i : Bool). option_map (make_field a.value b.value kind r i) o6) o5) o4 in
    let c = through f3 o3 f b.last in
    let f4 = λ (r : Bool). option_and_then (λ (i : Bool). option_map (make_field a.value b.value c.value r i) o6) o5 in
    let g = through f4 o4 f c.last in
    let f5 = λ (i : Bool). option_map (make_field a.value b.value c.value g.value i) o6 in
    let h = through f5 o5 f g.last in
    let j = through_map (make_field a.value b.value c.value g.value h.value) o6 f h.last in
    let is : make_field a.value b.value c.value g.value h.value j.value ≡ f = (let same : Some (make_field a.value b.value c.value g.value h.value j.value) ≡ Some f = j.last in cc) in
    made_in_range a.value b.value c.value g.value h.value j.value f (text_in_range is_id (codes "id") d a.value a.first) (text_in_range is_label (codes "label") d b.value b.first) (kind_in_range d c.value c.first) (show_in_range format d j.value j.first) is

abbrev make_step : List ℕ → List Field → Step
make_step title fields = record { title = title; fields = fields }

abbrev make_form : List Step → Form
make_form steps = record { steps = steps }

step_in_range : (format : Format) (d : Data) (s : Step) → step_by format d ≡ Some s → is_step_in_range s ≡ true
step_in_range format d s e =
    let fields = option_and_then (list_of (field_by format)) (get (codes "fields") d) in
    let title = text_at is_label (codes "title") d in
    let a = through (λ t. option_map (make_step t) fields) title s (passed (size d == 2) (option_and_then (λ t. option_map (make_step t) fields) title) s e) in
    let b = through_map (make_step a.value) fields s a.last in
    let l = through (list_of (field_by format)) (get (codes "fields") d) b.value b.first in
    let is : make_step a.value b.value ≡ s = (let same : Some (make_step a.value b.value) ≡ Some s = b.last in cc) in
    ap is_step_in_range (sym is) ∙ rw (text_in_range is_label (codes "title") d a.value a.first, list_in_range (field_by format) is_field_in_range (field_in_range format) l.value b.value l.last) refl

pub form_in_range : (format : Format) (d : Data) (f : Form) → form_by format d ≡ Some f → is_in_range f ≡ true
form_in_range format d f e =
    let steps = option_and_then (list_of (step_by format)) (get (codes "steps") d) in
    let b = through_map make_form steps f (passed (size d == 1) (option_map make_form steps) f e) in
    let l = through (list_of (step_by format)) (get (codes "steps") d) b.value b.first in
    let is : make_form b.value ≡ f = (let same : Some (make_form b.value) ≡ Some f = b.last in cc) in
    ap is_in_range (sym is) ∙ list_in_range (step_by format) is_step_in_range (step_in_range format) l.value b.value l.last
