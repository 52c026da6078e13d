-- The JSON of a good form is canonical in each format, and no deeper than nine levels.
use Rattle.std.proofs.Common.{◌≡◌, ℕ, suc, true, List, [], ◌∷◌, refl, sym, ◌∙◌, arith}
use Rattle.std.proofs.lemmas.Bool.{and_parts, or_parts, leb-true, ltb-false}
use Rattle.std.specs.List.{list_all, list_any}
use Rattle.std.specs.Prelude.{◌&&◌, ◌||◌, ◌==◌, ◌≤◌, codes, nat_le, nat_lt, not, length, map, Bool, false, Option, Some, None, IfSome}
use Rattle.serde_json.specs.Data.{Data, Members, string, boolean, number, object, put, unsigned}
use Rattle.wb_base.specs.declared.form.Choice.{Choice as FieldOption}
use Rattle.wb_base.specs.declared.form.Cond.{Cond}
use Rattle.wb_base.specs.declared.form.Field.{Field}
use Rattle.wb_base.specs.declared.form.FieldKind.{FieldKind}
use Rattle.wb_base.specs.declared.form.FieldKind.TheVariants.{Text, Choice, Multi, Date, Check, Whole, File}
use Rattle.wb_base.specs.declared.form.Form.{Form}
use Rattle.wb_base.specs.declared.form.Step.{Step}
use Rattle.wb_base.specs.declared.form.Trigger.{Trigger}
use Rattle.wb_base.specs.declared.form.Trigger.TheVariants.{Always, Any, All, Score}
use Rattle.wb_base.specs.declared.form.Part.{Part}
use Rattle.wb_base.specs.declared.form.Format.{Format}
use Rattle.wb_base.specs.declared.form.Format.TheVariants.{Plain, Weighed}
use Rattle.wb_base.specs.FormFields.{fields_of, options_of, one_point, parts_of, least_of}
use Rattle.wb_base.specs.FormFaults.{is_good, is_full_field, is_full_trigger}
use Rattle.wb_base.proofs.GoodForms.{good_parts}
use Rattle.std.proofs.lemmas.List.Folds.{list_any-append}
use Rattle.wb_base.specs.FormJson.{option_data, cond_data, conds_data, part_data, score_members, weighed_data, kind_name, put_kind, put_some, show_in, field_in, step_in, form_in}
use Rattle.wb_base.specs.FormRanges.{is_id, is_label, is_least, is_part_in_range, is_kind_in_range, is_trigger_in_range, is_field_in_range, is_step_in_range}
use Rattle.wb_model.specs.Json.{Member, members_of, list_of}
use Rattle.wb_row_codec.proofs.Canonical.{IsWithin, MembersAreWithin, all-put, within-any, within-flag, within-list, within-members, within-number, within-object, within-put, within-string}

within-option : (n : ℕ) (o : FieldOption) → IsWithin (suc n) (option_data o)
within-option n o = within-object n ((codes "label", string o.label) ∷ (codes "id", string o.id) ∷ []) (within-string n o.label, (within-string n o.id, tt))

within-cond : (n : ℕ) (c : Cond) → IsWithin (suc n) (cond_data c)
within-cond n c = within-object n ((codes "option", string c.option) ∷ (codes "field", string c.field) ∷ []) (within-string n c.option, (within-string n c.field, tt))

within-conds : (n : ℕ) (cs : List Cond) → IsWithin (suc (suc n)) (conds_data cs)
within-conds n cs = within-any cond_data (suc n) (within-cond n) cs

within-kind : (n : ℕ) (k : FieldKind) (ms : Members) → is_kind_in_range k ≡ true → MembersAreWithin (suc (suc n)) ms → MembersAreWithin (suc (suc n)) (put_kind k ms)
within-kind n (Text max) ms fits are =
    let le = leb-true max 65_536 (and_parts (nat_le 1 max) (nat_le max 65_536) fits).1 in
    within-put (suc (suc n)) (codes "max") (number (unsigned max)) ms (within-number (suc (suc n)) (unsigned max) (omega (arith, le))) are
within-kind n (Choice options) ms fits are = within-put (suc (suc n)) (codes "options") (list_of option_data options) ms (within-any option_data (suc n) (within-option n) options) are
within-kind n (Multi options) ms fits are = within-put (suc (suc n)) (codes "options") (list_of option_data options) ms (within-any option_data (suc n) (within-option n) options) are
within-kind n Date ms fits are = are
within-kind n Check ms fits are = are
within-kind n Whole ms fits are = are
within-kind n File ms fits are = are

within-part : (n : ℕ) (p : Part) → is_part_in_range p ≡ true → IsWithin (suc n) (part_data p)
within-part n p fits =
    let le = leb-true p.points 1_000 (and_parts (nat_le 1 p.points) (nat_le p.points 1_000) fits).1 in
    within-object n ((codes "points", number (unsigned p.points)) ∷ (codes "option", string p.option) ∷ (codes "field", string p.field) ∷ [])
    (within-number n (unsigned p.points) (omega (arith, le)), (within-string n p.option, (within-string n p.field, tt)))

-- no more parts than a form may have, each in its range, and so many points
pub record IsLight (t : Trigger) : Type 0 where
  pub parts : list_all is_part_in_range (parts_of t) ≡ true
  pub least : least_of t ≤ 16_000

ones_in_range : (cs : List Cond) → list_all is_part_in_range (map one_point cs) ≡ true
ones_in_range [] = refl
ones_in_range (c ∷ cs) = ones_in_range cs

few_conds : (cs : List Cond) → ((length cs == 0) || nat_lt 16 (length cs)) ≡ false → length cs ≤ 16
few_conds cs h = ltb-false 16 (length cs) (or_parts (length cs == 0) (nat_lt 16 (length cs)) h).1

light : (t : Trigger) → is_trigger_in_range t ≡ true → is_full_trigger t ≡ false → IsLight t
light Always fits few = record { parts = refl; least = omega arith }
light (Any conds) fits few = record { parts = ones_in_range conds; least = omega arith }
light (All conds) fits few = record { parts = ones_in_range conds; least = omega (arith, few_conds conds few) }
light (Score least parts) fits few =
    let is = and_parts (is_least least) (list_all is_part_in_range parts) fits in
    record { parts = is.1; least = leb-true least 16_000 (and_parts (nat_le 1 least) (nat_le least 16_000) is.0).1 }

-- what a trigger wants, as members
abbrev score : Trigger → List Member
score t = (codes "parts", list_of part_data (parts_of t)) ∷ (codes "least", number (unsigned (least_of t))) ∷ []

within-score : (n : ℕ) (t : Trigger) → IsLight t → MembersAreWithin (suc (suc n)) (score_members t)
within-score n t is = all-put (suc (suc n)) (score t) (within-list part_data is_part_in_range (suc n) (within-part n) (parts_of t) is.parts, (within-number (suc (suc n)) (unsigned (least_of t)) (omega (arith, is.least)), tt))

within-weighed : (n : ℕ) (mode : List ℕ) (t : Trigger) → IsLight t → IsWithin (suc (suc (suc (suc n)))) (weighed_data mode t)
within-weighed n mode t is = within-members (suc (suc (suc n))) (weighed_members mode t) (within-put (suc (suc (suc n))) (codes "mode") (string mode) (score_members t) (within-string (suc (suc (suc n))) mode) (within-score (suc n) t is))
  where
    weighed_members : List ℕ → Trigger → Members
    weighed_members mode t = put (codes "mode") (string mode) (score_members t)

within-some : (n : ℕ) (k : List ℕ) (o : Option Data) (ms : Members) → IfSome o (λ d. IsWithin n d) → MembersAreWithin n ms → MembersAreWithin n (put_some k o ms)
within-some n k None ms d are = are
within-some n k (Some d) ms is are = within-put n k d ms is are

within-show : (format : Format) (n : ℕ) (t : Trigger) → IsLight t → IfSome (show_in format t) (λ d. IsWithin (suc (suc (suc (suc n)))) d)
within-show Plain n Always is = tt
within-show Plain n (Any conds) is = within-object (suc (suc (suc n))) ((codes "any", conds_data conds) ∷ []) (within-conds (suc n) conds, tt)
within-show Plain n (All conds) is = within-object (suc (suc (suc n))) ((codes "all", conds_data conds) ∷ []) (within-conds (suc n) conds, tt)
within-show Plain n (Score least parts) is = within-object (suc (suc (suc n))) ((codes "score", object (score_members (Score least parts))) ∷ []) (within-members (suc (suc n)) (score_members (Score least parts)) (within-score n (Score least parts) is), tt)
within-show Weighed n Always is = tt
within-show Weighed n (Any conds) is = within-weighed n (codes "any") (Any conds) is
within-show Weighed n (All conds) is = within-weighed n (codes "all") (All conds) is
within-show Weighed n (Score least parts) is = within-weighed n (codes "score") (Score least parts) is

-- the members that each field has
abbrev common : Field → List Member
common f = (codes "required", boolean f.required) ∷ (codes "label", string f.label) ∷ (codes "kind", string (kind_name f.kind)) ∷ (codes "identity", boolean f.identity) ∷ (codes "id", string f.id) ∷ []

-- a field in range that is not too full
abbrev is_right_field : Field → Bool
is_right_field f = is_field_in_range f && not (is_full_field f)

abbrev is_right_step : Step → Bool
is_right_step s = list_all is_right_field s.fields

not_true : (b : Bool) → not b ≡ true → b ≡ false
not_true true e = absurd cc
not_true false e = refl

right_fields : (fs : List Field) → list_all is_field_in_range fs ≡ true → list_any is_full_field fs ≡ false → list_all is_right_field fs ≡ true
right_fields [] fits light = refl
right_fields (f ∷ fs) fits light =
    let a = and_parts (is_field_in_range f) (list_all is_field_in_range fs) fits in
    let b = or_parts (is_full_field f) (list_any is_full_field fs) light in
    rw (a.0, b.0, right_fields fs a.1 b.1) refl

right_steps : (ss : List Step) → list_all is_step_in_range ss ≡ true → list_any is_full_field (fields_of ss) ≡ false → list_all is_right_step ss ≡ true
right_steps [] fits light = refl
right_steps (s ∷ ss) fits light =
    let a = and_parts (is_step_in_range s) (list_all is_step_in_range ss) fits in
    let f = and_parts (is_label s.title) (list_all is_field_in_range s.fields) a.0 in
    let b = or_parts (list_any is_full_field s.fields) (list_any is_full_field (fields_of ss)) (sym (list_any-append is_full_field s.fields (fields_of ss)) ∙ light) in
    rw (right_fields s.fields f.1 b.0, right_steps ss a.1 b.1) refl

module _ (format : Format) where
  within-field : (f : Field) → is_right_field f ≡ true → IsWithin 5 (field_in format f)
  within-field f right =
      let both = and_parts (is_field_in_range f) (not (is_full_field f)) right in
      let whole = and_parts (is_id f.id && is_label f.label && is_kind_in_range f.kind) (is_trigger_in_range f.show) both.0 in
      let kind = (and_parts (is_id f.id && is_label f.label) (is_kind_in_range f.kind) whole.0).1 in
      let few = (or_parts (nat_lt 64 (length (options_of f.kind))) (is_full_trigger f.show) (not_true (is_full_field f) both.1)).1 in
      let all = all-put 4 (common f) (within-flag 4 f.required, (within-string 4 f.label, (within-string 4 (kind_name f.kind), (within-flag 4 f.identity, (within-string 4 f.id, tt))))) in
      within-members 4 (put_some (codes "show") (show_in format f.show) (put_kind f.kind (members_of (common f))))
      (within-some 4 (codes "show") (show_in format f.show) (put_kind f.kind (members_of (common f))) (within-show format 0 f.show (light f.show whole.1 few)) (within-kind 2 f.kind (members_of (common f)) kind all))

  within-step : (s : Step) → is_right_step s ≡ true → IsWithin 7 (step_in format s)
  within-step s right =
      within-object 6 ((codes "title", string s.title) ∷ (codes "fields", list_of (field_in format) s.fields) ∷ []) (within-string 6 s.title, (within-list (field_in format) is_right_field 5 within-field s.fields right, tt))

  pub within-form : (f : Form) → is_good f ≡ true → IsWithin 9 (form_in format f)
  within-form f good =
      let parts = good_parts f good in
      within-object 8 ((codes "steps", list_of (step_in format) f.steps) ∷ []) (within-list (step_in format) is_right_step 7 within-step f.steps (right_steps f.steps parts.in_range parts.light), tt)
