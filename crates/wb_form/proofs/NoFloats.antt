-- A form's value has no floating number.
use Rattle.std.proofs.Common.{◌≡◌, ℕ, List, [], ◌∷◌, length, false, map, codes, Option, Some, None, refl, ap, ◌∙◌}
use Rattle.std.specs.Prelude.{IfSome}
use Rattle.std.specs.declared.cmp.Ordering.TheVariants.{Less, Equal, Greater}
use Rattle.std.specs.Ordering.{nat_cmp, match_ordering}
use Rattle.std.specs.Cmp.Lexicographic.{slice_cmp}
use Rattle.std.proofs.lemmas.Bool.{or_parts, or_from}
use Rattle.serde_json.specs.Data.{Data, Members, no_members, member, put, array, string, boolean, number, unsigned}
use Rattle.serde_json.specs.View.{items_of}
use Rattle.serde_json.specs.Written.{has_float, items_have_float, members_have_float, compact_text}
use Rattle.wb_base.specs.declared.form.Field.{Field}
use Rattle.wb_base.specs.declared.form.FieldKind.{FieldKind}
use Rattle.wb_base.specs.declared.form.FieldKind.TheVariants.{Text as TextKind, Choice as ChoiceKind, Multi as MultiKind, Date, Check, Whole, File}
use Rattle.wb_base.specs.declared.form.Trigger.{Trigger}
use Rattle.wb_base.specs.declared.form.Trigger.TheVariants.{Always, Any, All, Score}
use Rattle.wb_base.specs.declared.form.Part.{Part}
use Rattle.wb_base.specs.declared.form.Format.{Format}
use Rattle.wb_base.specs.declared.form.Format.TheVariants.{Plain, Weighed}
use Rattle.wb_base.specs.declared.form.Step.{Step}
use Rattle.wb_base.specs.declared.form.Form.{Form}
use Rattle.wb_base.specs.FormJson.{option_data, cond_data, conds_data, part_data, parts_data, score_members, weighed_data, put_kind, put_some, show_in, kind_name, field_in, step_in, form_in, form_data, form_text}
use Rattle.wb_base.specs.FormFields.{parts_of, least_of}

whole-put : (k : List ℕ) (d : Data) (ms : Members) → has_float d ≡ false → members_have_float ms ≡ false → members_have_float (put k d ms) ≡ false
whole-put k d no_members hd hm = or_from _ _ hd refl
whole-put k d (member l e ms) hd hm =
    let parts = or_parts _ _ hm in
    elim (slice_cmp nat_cmp k l) as (λ r. members_have_float (match_ordering r (member k d (member l e ms)) (member l d ms) (member l e (put k d ms))) ≡ false) [
      | Less ↦ or_from _ _ hd hm
      | Equal ↦ or_from _ _ hd parts.1
      | Greater ↦ or_from _ _ parts.0 (whole-put k d ms hd parts.1)
    ]

whole-items : {X : Type 0} (show : X → Data) (h : (x : X) → has_float (show x) ≡ false) (xs : List X) → items_have_float (items_of (map show xs)) ≡ false
whole-items show h [] = refl
whole-items show h (x ∷ xs) = or_from _ _ (h x) (whole-items show h xs)

whole-kind : (kind : FieldKind) (ms : Members) → members_have_float ms ≡ false → members_have_float (put_kind kind ms) ≡ false
whole-kind (TextKind max) ms h = whole-put _ _ ms refl h
whole-kind (ChoiceKind options) ms h = whole-put _ _ ms (whole-items option_data (λ c. refl) options) h
whole-kind (MultiKind options) ms h = whole-put _ _ ms (whole-items option_data (λ c. refl) options) h
whole-kind Date ms h = h
whole-kind Check ms h = h
whole-kind Whole ms h = h
whole-kind File ms h = h

whole-parts : (ps : List Part) → has_float (parts_data ps) ≡ false
whole-parts ps = whole-items part_data (λ p. refl) ps

whole-some : (k : List ℕ) (o : Option Data) (ms : Members) → IfSome o (λ d. has_float d ≡ false) → members_have_float ms ≡ false → members_have_float (put_some k o ms) ≡ false
whole-some k None ms hd hm = hm
whole-some k (Some d) ms hd hm = whole-put k d ms hd hm

whole-score : (t : Trigger) → members_have_float (score_members t) ≡ false
whole-score t = whole-put (codes "parts") (parts_data (parts_of t)) (put (codes "least") (number (unsigned (least_of t))) no_members) (whole-parts (parts_of t)) refl

whole-weighed : (mode : List ℕ) (t : Trigger) → has_float (weighed_data mode t) ≡ false
whole-weighed mode t = whole-put (codes "mode") (string mode) (score_members t) refl (whole-score t)

whole-show : (format : Format) (t : Trigger) → IfSome (show_in format t) (λ d. has_float d ≡ false)
whole-show Plain Always = tt
whole-show Plain (Any conds) = whole-put (codes "any") (conds_data conds) no_members (whole-items cond_data (λ c. refl) conds) refl
whole-show Plain (All conds) = whole-put (codes "all") (conds_data conds) no_members (whole-items cond_data (λ c. refl) conds) refl
whole-show Plain (Score least parts) = or_from _ _ (whole-score (Score least parts)) refl
whole-show Weighed Always = tt
whole-show Weighed (Any conds) = whole-weighed (codes "any") (Any conds)
whole-show Weighed (All conds) = whole-weighed (codes "all") (All conds)
whole-show Weighed (Score least parts) = whole-weighed (codes "score") (Score least parts)

module _ (format : Format) where
  whole-field : (f : Field) → has_float (field_in format f) ≡ false
  whole-field f =
      let base = put (codes "required") (boolean f.required) (put (codes "label") (string f.label) (put (codes "kind") (string (kind_name f.kind)) (put (codes "identity") (boolean f.identity) (put (codes "id") (string f.id) no_members)))) in
      whole-some (codes "show") (show_in format f.show) (put_kind f.kind base) (whole-show format f.show) (whole-kind f.kind base refl)

  whole-step : (s : Step) → has_float (step_in format s) ≡ false
  whole-step s =
      let fields = array (items_of (map (field_in format) s.fields)) in
      whole-put (codes "title") (string s.title) (put (codes "fields") fields no_members) refl (whole-put (codes "fields") fields no_members (whole-items (field_in format) whole-field s.fields) refl)

  pub whole-form : (f : Form) → has_float (form_in format f) ≡ false
  whole-form f = whole-put (codes "steps") (array (items_of (map (step_in format) f.steps))) no_members (whole-items (step_in format) whole-step f.steps) refl

pub text_len-form : (f : Form) (d : Data) (text : List ℕ) (n : ℕ) → d ≡ form_data f → (has_float d ≡ false → text ≡ compact_text d) → n ≡ length text → n ≡ length (form_text f)
unfolding form_text
text_len-form f d text n e h len = len ∙ ap length (h (ap has_float e ∙ whole-form Plain f) ∙ ap compact_text e)
