-- The value of a form whose texts and numbers are in range reads back as the form.
use Rattle.std.proofs.Common.{◌≡◌, ℕ, List, [], ◌∷◌, Bool, true, ◌&&◌, map, Option, Some, None, refl, ap, codes}
use Rattle.std.specs.List.{list_all}
use Rattle.std.proofs.lemmas.Bool.{and_parts}
use Rattle.serde_json.specs.Data.{Data, boolean, string, object, no_members, put}
use Rattle.serde_json.specs.View.{items_of}
use Rattle.wb_base.specs.declared.form.Choice.{Choice as FieldOption}
use Rattle.wb_base.specs.declared.form.Cond.{Cond}
use Rattle.wb_base.specs.declared.form.Field.{Field}
use Rattle.wb_base.specs.declared.form.FieldKind.{FieldKind}
use Rattle.wb_base.specs.declared.form.FieldKind.TheVariants.{Text as TextKind, Choice as ChoiceKind, Multi as MultiKind, Date, Check, Whole, File}
use Rattle.wb_base.specs.declared.form.Trigger.{Trigger}
use Rattle.wb_base.specs.declared.form.Trigger.TheVariants.{Always, Any, All, Score}
use Rattle.wb_base.specs.declared.form.Step.{Step}
use Rattle.wb_base.specs.declared.form.Form.{Form}
use Rattle.wb_base.specs.declared.form.Part.{Part}
use Rattle.wb_base.specs.declared.form.Format.{Format}
use Rattle.wb_base.specs.declared.form.Format.TheVariants.{Plain, Weighed}
use Rattle.wb_base.specs.FormFields.{one_point}
use Rattle.wb_base.specs.FormShape.{all_of, optional, option_of, cond_of, one_of, part_of, trigger_by, field_by, step_by, form_by}
use Rattle.wb_base.specs.FormJson.{option_data, cond_data, part_data, put_kind, put_some, kind_name, show_in, field_in, step_in, form_in}
use Rattle.wb_base.specs.FormRanges.{is_id, is_label, is_least, is_option_in_range, is_part_in_range, is_trigger_in_range, is_kind_in_range, is_field_in_range, is_step_in_range, is_in_range}

back-items : {X : Type 0} (read : Data → Option X) (show : X → Data) (ok : X → Bool) (h : (x : X) → ok x ≡ true → read (show x) ≡ Some x) (xs : List X) → list_all ok xs ≡ true → all_of read (items_of (map show xs)) ≡ Some xs
back-items read show ok h [] e = refl
back-items read show ok h (x ∷ xs) e =
    let parts = and_parts (ok x) (list_all ok xs) e in
    rw (h x parts.0, back-items read show ok h xs parts.1) refl

back-any : {X : Type 0} (read : Data → Option X) (show : X → Data) (h : (x : X) → read (show x) ≡ Some x) (xs : List X) → all_of read (items_of (map show xs)) ≡ Some xs
back-any read show h [] = refl
back-any read show h (x ∷ xs) = rw (h x, back-any read show h xs) refl

back-option : (c : FieldOption) → is_option_in_range c ≡ true → option_of (option_data c) ≡ Some c
back-option c e = let parts = and_parts (is_id c.id) (is_label c.label) e in rw (parts.0, parts.1) refl

back-options : (cs : List FieldOption) → list_all is_option_in_range cs ≡ true → all_of option_of (items_of (map option_data cs)) ≡ Some cs
back-options cs e = back-items option_of option_data is_option_in_range back-option cs e

back-conds : (cs : List Cond) → all_of cond_of (items_of (map cond_data cs)) ≡ Some cs
back-conds cs = back-any cond_of cond_data (λ c. refl) cs

back-ones : (cs : List Cond) → all_of one_of (items_of (map part_data (map one_point cs))) ≡ Some cs
back-ones [] = refl
back-ones (c ∷ cs) = rw (back-ones cs) refl

back-part : (p : Part) → is_part_in_range p ≡ true → part_of (part_data p) ≡ Some p
back-part p e = rw (e) refl

back-parts : (ps : List Part) → list_all is_part_in_range ps ≡ true → all_of part_of (items_of (map part_data ps)) ≡ Some ps
back-parts ps e = back-items part_of part_data is_part_in_range back-part ps e

-- what is written under `show` reads back
back-show : (format : Format) (t : Trigger) → is_trigger_in_range t ≡ true → optional Always (trigger_by format) (show_in format t) ≡ Some t
back-show Plain Always e = refl
back-show Plain (Any conds) e = rw (back-conds conds) refl
back-show Plain (All conds) e = rw (back-conds conds) refl
back-show Plain (Score least parts) e = let fits = and_parts (is_least least) (list_all is_part_in_range parts) e in rw (fits.0, back-parts parts fits.1) refl
back-show Weighed Always e = refl
back-show Weighed (Any conds) e = rw (back-ones conds) refl
back-show Weighed (All conds) e = rw (back-ones conds) refl
back-show Weighed (Score least parts) e = let fits = and_parts (is_least least) (list_all is_part_in_range parts) e in rw (fits.0, back-parts parts fits.1) refl

module _ (format : Format) where
  -- a field by its parts, and what is written under `show`
  abbrev made : List ℕ → List ℕ → FieldKind → Bool → Bool → Trigger → Field
  made id label kind r i show = record { id = id; label = label; kind = kind; required = r; identity = i; show = show }

  abbrev made_data : List ℕ → List ℕ → FieldKind → Bool → Bool → Option Data → Data
  made_data id label kind r i shown = object (put_some (codes "show") shown (put_kind kind
      (put (codes "required") (boolean r) (put (codes "label") (string label) (put (codes "kind") (string (kind_name kind))
      (put (codes "identity") (boolean i) (put (codes "id") (string id) no_members)))))))

  always : (show : Trigger) → optional Always (trigger_by format) None ≡ Some show → Always ≡ show
  always show e = cc

  back-made : (id label : List ℕ) (kind : FieldKind) (r i : Bool) (show : Trigger) (shown : Option Data) → optional Always (trigger_by format) shown ≡ Some show
      → is_id id ≡ true → is_label label ≡ true → is_kind_in_range kind ≡ true → field_by format (made_data id label kind r i shown) ≡ Some (made id label kind r i show)
  back-made id label (TextKind max) r i show None e hi hl hk = rw (hi, hl, hk) (ap (λ (t : Trigger). Some (made id label (TextKind max) r i t)) (always show e))
  back-made id label (TextKind max) r i show (Some d) e hi hl hk = rw (hi, hl, hk, e) refl
  back-made id label (ChoiceKind options) r i show None e hi hl hk = rw (hi, hl, back-options options hk) (ap (λ (t : Trigger). Some (made id label (ChoiceKind options) r i t)) (always show e))
  back-made id label (ChoiceKind options) r i show (Some d) e hi hl hk = rw (hi, hl, back-options options hk, e) refl
  back-made id label (MultiKind options) r i show None e hi hl hk = rw (hi, hl, back-options options hk) (ap (λ (t : Trigger). Some (made id label (MultiKind options) r i t)) (always show e))
  back-made id label (MultiKind options) r i show (Some d) e hi hl hk = rw (hi, hl, back-options options hk, e) refl
  back-made id label Date r i show None e hi hl hk = rw (hi, hl) (ap (λ (t : Trigger). Some (made id label Date r i t)) (always show e))
  back-made id label Date r i show (Some d) e hi hl hk = rw (hi, hl, e) refl
  back-made id label Check r i show None e hi hl hk = rw (hi, hl) (ap (λ (t : Trigger). Some (made id label Check r i t)) (always show e))
  back-made id label Check r i show (Some d) e hi hl hk = rw (hi, hl, e) refl
  back-made id label Whole r i show None e hi hl hk = rw (hi, hl) (ap (λ (t : Trigger). Some (made id label Whole r i t)) (always show e))
  back-made id label Whole r i show (Some d) e hi hl hk = rw (hi, hl, e) refl
  back-made id label File r i show None e hi hl hk = rw (hi, hl) (ap (λ (t : Trigger). Some (made id label File r i t)) (always show e))
  back-made id label File r i show (Some d) e hi hl hk = rw (hi, hl, e) refl

  back-field : (f : Field) → is_field_in_range f ≡ true → field_by format (field_in format f) ≡ Some f
  back-field f e =
      let whole = and_parts (is_id f.id && is_label f.label && is_kind_in_range f.kind) (is_trigger_in_range f.show) e in
      let parts = and_parts (is_id f.id && is_label f.label) (is_kind_in_range f.kind) whole.0 in
      let texts = and_parts (is_id f.id) (is_label f.label) parts.0 in
      back-made f.id f.label f.kind f.required f.identity f.show (show_in format f.show) (back-show format f.show whole.1) texts.0 texts.1 parts.1

  back-step : (s : Step) → is_step_in_range s ≡ true → step_by format (step_in format s) ≡ Some s
  back-step s e =
      let parts = and_parts (is_label s.title) (list_all is_field_in_range s.fields) e in
      rw (parts.0, back-items (field_by format) (field_in format) is_field_in_range back-field s.fields parts.1) refl

  pub back-form : (f : Form) → is_in_range f ≡ true → form_by format (form_in format f) ≡ Some f
  back-form f e = rw (back-items (step_by format) (step_in format) is_step_in_range back-step f.steps e) refl
