-- What holds of each tenant that is kept.
use Rattle.std.specs.Prelude.{◌≡◌, ℕ, ℤ, ◌<◌, ◌≤◌, ◌==◌, Bool, true, false, slice_index_or, List, [], ◌∷◌, filter, length, Option, None, if◌then◌else◌}
use Rattle.wb_base.specs.AnswerList.{Answered}
use Rattle.wb_base.specs.Days.{IsOffset, day_of}
use Rattle.wb_base.specs.FormFaults.{is_good}
use Rattle.wb_custody.specs.declared.sealed.SealedItem.{SealedItem}
use Rattle.wb_custody.specs.SealedAnswers.{answers_of}
use Rattle.wb_model.specs.declared.registry.FormItem.{FormItem}
use Rattle.wb_model.specs.Legal.{IsSound}
use Rattle.wb_model.specs.Opened.{Ascend, AtMost, AreWithin, AreOrdered, AreVersions, Apart, has_turn}
use Rattle.wb_model.specs.Tables.{Registry, Plain, Case, has_number, has_receipt, is_there}
pub use Rattle.wb_tables.specs.Lives.{is_dead}
use Rattle.wb_tables.specs.Indexed.{AreFewRequests}
use Rattle.wb_tables.specs.Lives.{AreEarly, case_of, lives_on}
use Rattle.wb_tables.specs.Kept.{PlainTenancy}
use Rattle.wb_tables.specs.Logins.{AreThere, NeverFall}
use Rattle.wb_tables.specs.declared.tenancy.Tenancy.{Tenancy as KeptTenancy}

abbrev pub AreGoodForms : List FormItem → Type 0
AreGoodForms [] = Unit {0}
AreGoodForms (x ∷ xs) = (is_good x.form ≡ true) × AreGoodForms xs

-- what a tenant may be set up with: its offset, its days of notice, its contexts and the versions of its forms are in their
-- ranges, its forms are good, and each of its lists is in order
pub record IsRegistry (g : Registry) : Type 0 where
  pub offset : IsOffset g.settings.offset
  pub sound : IsSound g
  pub forms : AreGoodForms g.forms
  pub versions : AreVersions g.forms
  pub ordered : AreOrdered g

-- tables that can be looked up in: no two reports have the same number or the same receipt, and no two sessions are of one turn
pub record IsLookedUp (p : Plain) : Type 0 where
  pub registry : IsRegistry p.registry
  pub cases : Apart has_number p.cases
  pub receipts : Apart has_receipt p.cases
  pub logins : Apart has_turn p.sessions

-- a tenant after so many turns
pub record IsPlace (turns : ℕ) (items : List SealedItem) (x : PlainTenancy) : Type 0 where
  pub id : x.id ≤ 64
  pub plain : IsLookedUp x.plain
  pub drawn : x.plain.numbering.drawn ≤ x.plain.numbering.last
  -- the reports' numbers ascend
  pub ascend : Ascend 0 x.plain.cases
  -- each number was drawn
  pub most : AtMost x.plain.numbering.last x.plain.cases
  -- each session was made by a turn, and for a report whose number was drawn
  pub sessions : AreWithin turns x.plain.numbering.last x.plain.sessions
  -- and for one that is there; and they stand in the order of their moments
  pub there : AreThere x.plain.cases x.plain.sessions
  pub moments : NeverFall 0 x.plain.sessions
  -- each report has at most 100 requests for its identity
  pub requests : AreFewRequests x.plain.cases
  -- and its terms are counted from days of moments
  pub days : AreEarly x.plain.cases
  -- identity answers stand under reports that are there
  pub unsealed : (n : ℕ) → is_there n x.plain.cases ≡ false → answers_of items x.id n ≡ None

-- the tenants ascend by their ids, from one that is above k
abbrev pub ArePlaces : ℕ → ℕ → List SealedItem → List PlainTenancy → Type 0
ArePlaces turns k sealed [] = Unit {0}
ArePlaces turns k sealed (x ∷ xs) = ((k < x.id) × IsPlace turns sealed x) × ArePlaces turns x.id sealed xs

-- ---- a purge

-- identity answers once those of such a report are dropped
abbrev pub gone_under : ℕ → ℤ → List Case → Option Answered → Option Answered
gone_under n today cs given = if is_dead n today cs then None else given

-- a tenant that was purged at a time: what it is set up with stays, so do the reports that live, and there is no less room
pub record IsPurged (now : ℕ) (x y : KeptTenancy) : Type 0 where
  pub configuration : y.configuration ≡ x.configuration
  pub cases : y.cases.items ≡ filter (λ r. lives_on (day_of now x.configuration.registry.settings.offset) (case_of r)) x.cases.items
  pub room : x.cases.spare ≤ y.cases.spare
  pub logins : x.sessions.spare ≤ y.sessions.spare

abbrev pub ArePurged : ℕ → List KeptTenancy → List KeptTenancy → Type 0
ArePurged now [] [] = Unit {0}
ArePurged now [] (y ∷ ys) = ⊥
ArePurged now (x ∷ xs) [] = ⊥
ArePurged now (x ∷ xs) (y ∷ ys) = IsPurged now x y × ArePurged now xs ys

-- ---- where a tenant is

abbrev pub is_tenant : ℕ → PlainTenancy → Bool
is_tenant t x = x.id == t

-- the tenancy at this place is the tenant's
pub record IsAt (t : ℕ) (kept : List KeptTenancy) (i : ℕ) : Type 0 where
  pub within : i < length kept
  pub id : (d : KeptTenancy) → (slice_index_or kept i d).configuration.tenant ≡ t
