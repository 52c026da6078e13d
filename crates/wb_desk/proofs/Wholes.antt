-- A host is whole between any two turns.
use Rattle.std.proofs.Common.{◌≡◌, ℕ, Bool, true, false, cond, nat_eq, List, [], ◌∷◌, map, refl, sym, ap, subst, arith}
use Rattle.std.specs.Prelude.{◌==◌, ◌||◌, max, is_some}
use Rattle.std.specs.List.{list_any}
use Rattle.std.proofs.lemmas.Bool.Decides.{nat_tests}
use Rattle.wb_model.specs.declared.event.What.{What}
use Rattle.wb_model.specs.declared.event.What.TheVariants.{Did, Gap, Idle, Lost}
use Rattle.wb_model.specs.ByVerdicts.{AreByVerdicts}
use Rattle.wb_model.specs.Legal.{AreLegal, reckoning}
use Rattle.wb_model.specs.Opened.{AreOpened, Opened, entries_of}
use Rattle.wb_model.specs.Openings.{empty_tables, no_settings}
use Rattle.wb_model.specs.Past.{Past, Opening, Turn, now, registry, held}
use Rattle.wb_model.specs.Pasts.{AllOpened, part, tenants, has_tenant, time, held_tenancy, standing_hosts}
use Rattle.wb_model.specs.Reopened.{left_time, left_tables, without_sessions}
use Rattle.wb_model.specs.Tables.{report}
use Rattle.wb_model.specs.Trails.{has_identity}
use Rattle.wb_desk.specs.Whole.{IsWholeAt, AreWhole}

part_time : (t : ℕ) (past : Past AllOpened) → now (part t past) ≡ time past
part_time t (Opening o) = refl
part_time t (Turn e past) = ap (λ n. max n e.moment) (part_time t past)

abbrev pub OpensLaw : Past AllOpened → Type 0
OpensLaw past = (t : ℕ) → AreOpened (left_time past) (left_tables past t)

abbrev pub HeldLaw : Type 0
HeldLaw = (t : ℕ) (past : Past Opened) → AreByVerdicts t past → AreLegal (reckoning (registry past).settings) (now past) (held past).plain.cases

held_registry : (past : Past Opened) → (held past).plain.registry ≡ registry past
held_registry (Opening o) = refl
held_registry (Turn e past) = by e.what (held_registry past)
  where
    by : (w : What) → (held past).plain.registry ≡ registry past → (held (Turn (record e { what = w }) past)).plain.registry ≡ registry (Turn (record e { what = w }) past)
    by Lost ih = ih
    by (Did asked user) ih = refl
    by (Gap t) ih = refl
    by Idle ih = refl

module _ (past : Past AllOpened) (verdicts : (t : ℕ) → AreByVerdicts t (part t past)) (opens : OpensLaw past) (legal : HeldLaw) where
  marks_of : (t : ℕ) → has_tenant past t ≡ true → (r : ℕ) → is_some ((held (part t past)).sealed r) ≡ has_identity (entries_of (report r (held (part t past)).plain.cases))
  marks_of t there = by (has_tenant past t) there (opens t)
    where
      by : (b : Bool) → b ≡ true → AreOpened (left_time past) (cond b (without_sessions (held (part t past))) (empty_tables (record { settings = no_settings t; users = []; forms = []; contexts = [] }))) →
          (r : ℕ) → is_some ((held (part t past)).sealed r) ≡ has_identity (entries_of (report r (held (part t past)).plain.cases))
      by true e opened = opened.marks
      by false e opened = absurd (grind (arith, e))

  whole_at : (t : ℕ) → has_tenant past t ≡ true → IsWholeAt (time past) (held_tenancy past t)
  whole_at t there = record {
    legal =
        subst (λ n. AreLegal (reckoning (held (part t past)).plain.registry.settings) n (held (part t past)).plain.cases) (part_time t past)
        (subst (λ g. AreLegal (reckoning g.settings) (now (part t past)) (held (part t past)).plain.cases) (sym (held_registry (part t past))) (legal t (part t past) (verdicts t)));
    sealed = marks_of t there;
  }

  pub all_whole : (ts : List ℕ) → ((t : ℕ) → list_any (λ u. u == t) ts ≡ true → has_tenant past t ≡ true) → AreWhole (time past) (map (held_tenancy past) ts)
  all_whole [] there = tt
  all_whole (t ∷ ts) there = (whole_at t (there t (here (nat_eq t t) refl)), all_whole ts (λ u is. there u (later u (nat_eq t u) is)))
    where
      here : (b : Bool) → nat_eq t t ≡ b → (b || list_any (λ u. u == t) ts) ≡ true
      here true e = refl
      here false e = absurd (grind (arith, nat_tests, e))

      later : (u : ℕ) (b : Bool) → list_any (λ v. v == u) ts ≡ true → (b || list_any (λ v. v == u) ts) ≡ true
      later u true is = refl
      later u false is = is

  pub whole_hosts : AreWhole (time past) (standing_hosts past).list
  whole_hosts = all_whole (tenants past) (λ t is. is)
