-- What a good form is known to be.
use Rattle.std.proofs.Common.{◌≡◌, ℕ, ◌≤◌, ◌==◌, ◌||◌, Bool, true, false, if◌then◌else◌, List, [], length, nat_lt, Option, Some, None, is_none, refl}
use Rattle.std.specs.List.{list_any}
use Rattle.std.proofs.lemmas.Bool.{and_parts, or_parts, ltb-false}
use Rattle.wb_base.specs.declared.faults.FormFault.{FormFault}
use Rattle.wb_base.specs.declared.faults.TheConstants.FormFault.{DOUBLE_ID, LATE_TRIGGER, SEALED_TRIGGER, NO_OPTION, TOO_MANY}
use Rattle.wb_base.specs.declared.form.Form.{Form}
use Rattle.wb_base.specs.FormFields.{fields_of}
use Rattle.wb_base.specs.FormRanges.{is_in_range}
use Rattle.wb_base.specs.FormJson.{form_text}
use Rattle.wb_base.specs.FormFaults.{first_by, is_double, is_late, is_sealed, lacks_option, or_else, fault_of, is_good, is_too_many, is_full_field}

pub record GoodParts (f : Form) : Type 0 where
  pub in_range : is_in_range f ≡ true
  pub distinct : first_by is_double (fields_of f.steps) ≡ None
  pub in_time : first_by is_late (fields_of f.steps) ≡ None
  pub unsealed : first_by is_sealed (fields_of f.steps) ≡ None
  pub has : first_by lacks_option (fields_of f.steps) ≡ None
  pub few : length (fields_of f.steps) ≤ 256
  pub light : list_any is_full_field (fields_of f.steps) ≡ false

none_parts : (code : ℕ) (o : Option (List ℕ)) (rest : Option FormFault) → is_none (or_else code o rest) ≡ true → (o ≡ None) × (is_none rest ≡ true)
none_parts code None rest e = (refl, e)
none_parts code (Some id) rest e = absurd cc

abbrev empty_if : Bool → Option (List ℕ)
empty_if b = if b then Some [] else None

not_if : (b : Bool) → empty_if b ≡ None → b ≡ false
not_if true e = absurd cc
not_if false e = refl

pub good_parts : (f : Form) → is_good f ≡ true → GoodParts f
good_parts f e =
    let fs = fields_of f.steps in
    let none = (and_parts (is_in_range f) (is_none (fault_of f)) e).1 in
    let six = or_else TOO_MANY (empty_if (is_too_many f)) None in
    let five = or_else NO_OPTION (first_by lacks_option fs) six in
    let four = or_else SEALED_TRIGGER (first_by is_sealed fs) five in
    let three = or_else LATE_TRIGGER (first_by is_late fs) four in
    let a = none_parts DOUBLE_ID (first_by is_double fs) three none in
    let b = none_parts LATE_TRIGGER (first_by is_late fs) four a.1 in
    let c = none_parts SEALED_TRIGGER (first_by is_sealed fs) five b.1 in
    let d = none_parts NO_OPTION (first_by lacks_option fs) six c.1 in
    let g = none_parts TOO_MANY (empty_if (is_too_many f)) None d.1 in
    let many : is_too_many f ≡ false = not_if (is_too_many f) g.0 in
    let low = (length f.steps == 0) || nat_lt 32 (length f.steps) || (length fs == 0) in
    let h1 = or_parts (low || nat_lt 256 (length fs) || list_any is_full_field fs) (nat_lt 32768 (length (form_text f))) many in
    let h2 = or_parts (low || nat_lt 256 (length fs)) (list_any is_full_field fs) h1.0 in
    let h3 = or_parts low (nat_lt 256 (length fs)) h2.0 in
    record { in_range = (and_parts (is_in_range f) (is_none (fault_of f)) e).0; distinct = a.0; in_time = b.0; unsealed = c.0; has = d.0; few = ltb-false _ _ h3.1; light = h2.1 }
