-- Openings that differ in one report's identity answers alone: their hosts are alike, and so are the openings that are made of what they leave.
use Rattle.std.proofs.Common.{◌≡◌, ◌≢◌, ◌⊎◌, inl, inr, ℕ, Bool, true, false, cond, eqb, List, [], ◌∷◌, ◌++◌, refl, sym, ap, ◌∙◌, subst, arith}
use Rattle.std.specs.Prelude.{map, is_some}
use Rattle.std.specs.List.{list_any}
use Rattle.std.proofs.lemmas.Bool.Decides.{nat_tests}
use Rattle.wb_model.specs.Trails.{has_identity}
use Rattle.wb_model.specs.Tables.{Plain, report}
use Rattle.wb_model.specs.Host.{Tables}
use Rattle.wb_model.specs.Alike.{TablesAlike}
use Rattle.wb_model.specs.Legal.{ascends}
use Rattle.wb_model.specs.Opened.{entries_of, AreOpened}
use Rattle.wb_model.specs.Openings.{no_settings, empty_tables}
use Rattle.wb_model.specs.Tenants.{Tenancy, AlikeWhere, AllAlike}
use Rattle.wb_model.specs.Past.{Past, Opening, held}
use Rattle.wb_model.specs.Pasts.{AllOpened, part, tenants, has_tenant, held_tenancy}
use Rattle.wb_model.specs.Reopened.{entry_moments, moments, all_moments, latest, left_time, without_sessions, left_tables, reopening}
use Rattle.wb_model.specs.OtherOpenings.{OpeningsAlike}
use Rattle.wb_model.proofs.Found.{decide, same_number, other_number}
use Rattle.wb_model.specs.ScriptsAlike.{PastsAlike}
use Rattle.wb_model.proofs.RowsAlike.{one_plain}

-- ---- the hosts of alike openings

where_alike : (t r u : ℕ) (o p : AllOpened) (b : Bool) → eqb u t ≡ b → OpeningsAlike t r o p → AlikeWhere b r (o.tables u) (p.tables u)
where_alike t r u o p true is al = let here : t ≡ u = grind (arith, nat_tests, is) in subst (λ n. TablesAlike r (o.tables n) (p.tables n)) here al.own
where_alike t r u o p false is al = al.others u (grind (arith, nat_tests, is))

list_alike : (t r : ℕ) (o p : AllOpened) (ts : List ℕ) → OpeningsAlike t r o p → AllAlike t r (map (held_tenancy (Opening o)) ts) (map (held_tenancy (Opening p)) ts)
list_alike t r o p [] al = tt
list_alike t r o p (u ∷ us) al = ((refl, where_alike t r u o p (eqb u t) refl al), list_alike t r o p us al)

pub openings_alike : (t r : ℕ) (o p : AllOpened) → OpeningsAlike t r o p → PastsAlike t r (Opening o) (Opening p)
openings_alike t r o p al = record {
  turns = refl;
  now = al.at;
  list = subst (λ ts. AllAlike t r (map (held_tenancy (Opening o)) o.tenants) (map (held_tenancy (Opening p)) ts)) al.tenants (list_alike t r o p o.tenants al);
}

-- both have identity answers of the report, or neither has
pub openings_marks : (t r : ℕ) (o p : AllOpened) → OpeningsAlike t r o p → is_some ((o.tables t).sealed r) ≡ is_some ((p.tables t).sealed r)
openings_marks t r o p al = (o.sound t).marks r ∙ (ap (λ (x : Plain). has_identity (entries_of (report r x.cases))) al.own.plain ∙ sym ((p.sound t).marks r))

-- ---- what alike hosts leave

ids_alike : (t r : ℕ) (xs ys : List Tenancy) → AllAlike t r xs ys → map (λ (x : Tenancy). x.id) xs ≡ map (λ (x : Tenancy). x.id) ys
ids_alike t r [] [] al = refl
ids_alike t r [] (y ∷ ys) al = absurd al
ids_alike t r (x ∷ xs) [] al = absurd al
ids_alike t r (x ∷ xs) (y ∷ ys) al = ap (λ n. n ∷ map (λ (z : Tenancy). z.id) xs) al.0.0 ∙ ap (λ ns. y.id ∷ ns) (ids_alike t r xs ys al.1)

ids_back : (past : Past AllOpened) (ts : List ℕ) → map (λ (x : Tenancy). x.id) (map (held_tenancy past) ts) ≡ ts
ids_back past [] = refl
ids_back past (t ∷ ts) = ap (λ us. t ∷ us) (ids_back past ts)

pub same_tenants : (t r : ℕ) (past other : Past AllOpened) → PastsAlike t r past other → tenants past ≡ tenants other
same_tenants t r past other al = sym (ids_back past (tenants past)) ∙ (ids_alike t r _ _ al.list ∙ ids_back other (tenants other))

moments_alike : (t r : ℕ) (xs ys : List Tenancy) → AllAlike t r xs ys → all_moments xs ≡ all_moments ys
moments_alike t r [] [] al = refl
moments_alike t r [] (y ∷ ys) al = absurd al
moments_alike t r (x ∷ xs) [] al = absurd al
moments_alike t r (x ∷ xs) (y ∷ ys) al =
    ap (λ (p : Plain). (p.numbering.at ∷ entry_moments p.cases) ++ all_moments xs) (one_plain (eqb x.id t) r x.tables y.tables al.0.1)
    ∙ ap (λ ms. moments y.tables ++ ms) (moments_alike t r xs ys al.1)

-- what is alike in a list is alike at each tenant that is there
pub alike_at : (t r u : ℕ) (past other : Past AllOpened) (ts : List ℕ) → AllAlike t r (map (held_tenancy past) ts) (map (held_tenancy other) ts) → list_any (λ v. eqb v u) ts ≡ true → AlikeWhere (eqb u t) r (held (part u past)) (held (part u other))
alike_at t r u past other [] al is = absurd (grind (arith, is))
alike_at t r u past other (v ∷ vs) al is = by (decide v u) (λ k. alike_at t r u past other vs al.1 k)
  where
    by : (v ≡ u) ⊎ (v ≢ u) → (list_any (λ w. eqb w u) vs ≡ true → AlikeWhere (eqb u t) r (held (part u past)) (held (part u other))) → AlikeWhere (eqb u t) r (held (part u past)) (held (part u other))
    by (inl e) ih = subst (λ n. AlikeWhere (eqb n t) r (held (part n past)) (held (part n other))) e al.0.1
    by (inr ne) ih = ih (let k : eqb v u ≡ false = other_number v u ne in grind (arith, is, k))

no_tables : ℕ → Tables
no_tables t = empty_tables (record { settings = no_settings t; users = []; forms = []; contexts = [] })

without_same : (b : Bool) (u : ℕ) (x y : Tables) → (b ≡ true → x ≡ y) → cond b (without_sessions x) (no_tables u) ≡ cond b (without_sessions y) (no_tables u)
without_same true u x y e = ap without_sessions (e refl)
without_same false u x y e = refl

without_alike : (b : Bool) (r u : ℕ) (x y : Tables) → (b ≡ true → TablesAlike r x y) → TablesAlike r (cond b (without_sessions x) (no_tables u)) (cond b (without_sessions y) (no_tables u))
without_alike true r u x y al = record { plain = ap (λ (p : Plain). record p { sessions = [] }) (al refl).plain; others = (al refl).others }
without_alike false r u x y al = record { plain = refl; others = λ n ne. refl }

-- the openings that are made of it
pub reopened_alike : (t r : ℕ) (past other : Past AllOpened) → PastsAlike t r past other → (ids : ascends (tenants past) ≡ true) (sound : (u : ℕ) → AreOpened (left_time past) (left_tables past u)) →
    (other_ids : ascends (tenants other) ≡ true) (other_sound : (u : ℕ) → AreOpened (left_time other) (left_tables other u)) → OpeningsAlike t r (reopening past ids sound) (reopening other other_ids other_sound)
unfolding no_tables
reopened_alike t r past other al ids sound other_ids other_sound = record {
  at = ap latest (moments_alike t r _ _ al.list);
  tenants = same;
  others = λ u ne. without_same (has_tenant past u) u _ _ (away u ne) ∙ ap (λ b. cond b (without_sessions (held (part u other))) (no_tables u)) (has u);
  own = subst (λ b. TablesAlike r (left_tables past t) (cond b (without_sessions (held (part t other))) (no_tables t))) (has t) (without_alike (has_tenant past t) r t _ _ here);
}
  where
    same : tenants past ≡ tenants other
    same = same_tenants t r past other al

    has : (u : ℕ) → has_tenant past u ≡ has_tenant other u
    has u = ap (list_any (λ v. eqb v u)) same

    listed : AllAlike t r (map (held_tenancy past) (tenants past)) (map (held_tenancy other) (tenants past))
    listed = subst (λ ts. AllAlike t r (map (held_tenancy past) (tenants past)) (map (held_tenancy other) ts)) (sym same) al.list

    at_tenant : (u : ℕ) (b : Bool) → eqb u t ≡ b → has_tenant past u ≡ true → AlikeWhere b r (held (part u past)) (held (part u other))
    at_tenant u b e is = subst (λ c. AlikeWhere c r (held (part u past)) (held (part u other))) e (alike_at t r u past other (tenants past) listed is)

    away : (u : ℕ) → u ≢ t → has_tenant past u ≡ true → held (part u past) ≡ held (part u other)
    away u ne is = at_tenant u false (other_number u t ne) is

    here : has_tenant past t ≡ true → TablesAlike r (held (part t past)) (held (part t other))
    here is = at_tenant t true (same_number t t refl) is
