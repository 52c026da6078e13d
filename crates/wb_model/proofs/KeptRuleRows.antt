-- The rules of kept rows, computed: one report that keeps them all, and what breaks each.
use Rattle.std.proofs.Common.{◌≡◌, ℕ, Bool, true, false, cond, eqb, List, [], ◌∷◌, ◌++◌, Option, Some, None, refl, pos}
use Rattle.std.specs.Prelude.{codes, is_some, map}
use Rattle.jiff_core.specs.Calendar.{days_from_civil, day_count, days_of_years, days_of_months}
use Rattle.wb_base.specs.Days.{date_at}
use Rattle.wb_base.specs.AnswerList.{Answered}
use Rattle.wb_base.specs.declared.answers.Given.TheVariants as given
use Rattle.wb_model.specs.declared.entry.Actor.TheVariants as actors
use Rattle.wb_model.specs.declared.entry.Deed.{Deed}
use Rattle.wb_model.specs.declared.entry.Deed.TheVariants as deeds
use Rattle.wb_model.specs.declared.entry.Entry.{Entry}
use Rattle.wb_model.specs.Trails.{has_identity}
use Rattle.wb_model.specs.Tables.{Case, report}
use Rattle.wb_model.specs.Host.{Tables}
use Rattle.wb_model.specs.Requests.{submission_fault, late_fault, mark}
use Rattle.wb_model.specs.Legal.{ascends_from}
use Rattle.wb_model.specs.Opened.{entries_of, is_numbering}
use Rattle.wb_model.specs.SetUps.{are_apart}
use Rattle.wb_model.specs.KeptRules.{is_named, has_public_answers, are_valid_after, same_receipt, AreKept}
use Rattle.wb_model.proofs.Starter.{starter_registry, starter_tables, starter_form}
use Rattle.wb_model.proofs.RowPasts.{after}
use Rattle.wb_model.proofs.SetUpRows.{starter_lists, starter_is_set_up}

-- ---- a report that keeps them all

abbrev what : Answered
what = (codes "what", given.Text (codes "Bribes")) ∷ []

abbrev who : Answered
who = (codes "name", given.Text (codes "Eve")) ∷ []

abbrev begins : Answered → List ℕ → Bool → Entry
begins answers readers marked = record { at = after 0; by = actors.Reporter; deed = deeds.Submitted (pos 20_096) answers 1 (pos 20_119) (pos 20_186) 1 marked readers (record { 0 = 7 ∷ [] }) (pos 20_089) 1 }

abbrev says : ℕ → ℕ → Deed → Entry
says s u deed = record { at = after s; by = actors.User u; deed = deed }

abbrev trail : List Entry
trail = begins what (1 ∷ []) true ∷ says 5 1 (deeds.Label (codes "urgent")) ∷ []

abbrev kept : Tables
kept = record starter_tables {
  plain = record starter_tables.plain {
    numbering = record { at = after 0; drawn = 1; last = 1 };
    cases = record { number = 1; trail = trail } ∷ [];
    sessions = [];
  };
  sealed = λ n. cond (eqb 1 n) (Some who) None;
}

kept_marks : (r : ℕ) → is_some (kept.sealed r) ≡ has_identity (entries_of (report r kept.plain.cases))
kept_marks r = by (eqb 1 r)
  where
    by : (b : Bool) → is_some (cond b (Some who) None) ≡ has_identity (entries_of (cond b (Some (record { number = 1; trail = trail })) None))
    by true = refl
    by false = refl

kept-row : AreKept (after 5) starter_lists 1 kept
unfolding starter_registry starter_form days_from_civil day_count days_of_years days_of_months date_at submission_fault late_fault mark
kept-row = record {
  set_up = starter_is_set_up;
  registry = refl;
  keys = refl;
  legal = refl;
  forms = refl;
  named = refl;
  answers = refl;
  numbers = refl;
  marks = kept_marks;
  sealed = refl;
  receipts = refl;
  numbering = refl;
  begun = refl;
  drawn = refl;
  entries = refl;
  sessions = refl;
}

-- ---- what an entry names

abbrev named : Entry → Bool
named e = is_named starter_registry e

-- a comment is a recipient's, and a decision a custodian's
comment-row : named (says 5 1 (deeds.Comment true (codes "a"))) ≡ true
unfolding starter_registry
comment-row = refl

custodian-comment-row : named (says 5 3 (deeds.Comment true (codes "a"))) ≡ false
unfolding starter_registry
custodian-comment-row = refl

denied-row : named (says 5 3 (deeds.Denied (codes "no") 1)) ≡ true
unfolding starter_registry
denied-row = refl

recipient-denied-row : named (says 5 1 (deeds.Denied (codes "no") 1)) ≡ false
unfolding starter_registry
recipient-denied-row = refl

nobody-row : named (says 5 9 (deeds.Label [])) ≡ false
unfolding starter_registry
nobody-row = refl

-- the users and the context that an entry names are there
shared-row : named (says 5 1 (deeds.Shared 9)) ≡ false
unfolding starter_registry
shared-row = refl

unshared-row : named (says 5 1 (deeds.Unshared 9)) ≡ false
unfolding starter_registry
unshared-row = refl

readers-row : named (begins what (1 ∷ 9 ∷ []) true) ≡ false
unfolding starter_registry
readers-row = refl

moved-row : named (says 5 1 (deeds.Transferred 3 (2 ∷ []))) ≡ false
unfolding starter_registry
moved-row = refl

-- ---- answers

abbrev public : Answered → Bool
public answers = has_public_answers starter_registry.forms (begins answers (1 ∷ []) true ∷ [])

missing-row : public [] ≡ false
unfolding starter_registry starter_form submission_fault mark
missing-row = refl

identity-row : public (who ++ what) ≡ false
unfolding starter_registry starter_form submission_fault mark
identity-row = refl

abbrev valid : Option Answered → Bool
valid answers = are_valid_after starter_registry.forms trail answers

none-row : valid None ≡ true
none-row = refl

empty-row : valid (Some []) ≡ false
unfolding starter_registry
empty-row = refl

-- the phone without the name that it needs, and a field that is no identity field
phone-row : valid (Some ((codes "phone", given.Text (codes "5")) ∷ [])) ≡ false
unfolding starter_registry starter_form late_fault
phone-row = refl

public-row : valid (Some (who ++ what)) ≡ false
unfolding starter_registry starter_form late_fault
public-row = refl

-- ---- numbers, receipts and the numbering

abbrev numbered : ℕ → Case
numbered n = record { number = n; trail = trail }

zero-row : ascends_from 0 (map (λ (c : Case). c.number) (numbered 0 ∷ [])) ≡ false
zero-row = refl

twice-row : ascends_from 0 (map (λ (c : Case). c.number) (numbered 1 ∷ numbered 1 ∷ [])) ≡ false
twice-row = refl

receipt-row : are_apart same_receipt (numbered 1 ∷ numbered 2 ∷ []) ≡ false
receipt-row = refl

no-draw-row : is_numbering (record { at = 0; drawn = 0; last = 0 }) ≡ true
no-draw-row = refl

none-today-row : is_numbering (record { at = after 0; drawn = 0; last = 1 }) ≡ false
none-today-row = refl

too-many-row : is_numbering (record { at = after 0; drawn = 2; last = 1 }) ≡ false
too-many-row = refl

never-row : is_numbering (record { at = after 0; drawn = 0; last = 0 }) ≡ false
never-row = refl
