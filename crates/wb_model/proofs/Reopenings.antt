-- A host opens again on what it left.
use Rattle.std.proofs.Common.{◌≡◌, ◌≢◌, ◌⊎◌, inl, inr, ℕ, ◌≤◌, Bool, true, false, cond, eqb, List, [], ◌∷◌, ◌++◌, refl, sym, ap, ◌∙◌, subst, arith}
use Rattle.std.specs.Prelude.{map}
use Rattle.std.specs.List.{list_any}
use Rattle.wb_base.specs.declared.rows.Row.{Row}
use Rattle.wb_model.specs.Legal.{ascends}
use Rattle.wb_model.specs.Opened.{AreOpened}
use Rattle.wb_model.specs.Openings.{no_settings, empty_tables}
use Rattle.wb_model.specs.Tenants.{Tenancy}
use Rattle.wb_model.specs.Past.{Past, Opening, Turn, held}
use Rattle.wb_model.specs.Pasts.{AllOpened, part, tenants, has_tenant, held_tenancy, standing_hosts}
use Rattle.wb_model.specs.ByVerdicts.{AreByVerdicts}
use Rattle.wb_model.specs.Rows.{of_tenants, of_kinds, kinds, format_row, rows_of, rows}
use Rattle.wb_model.specs.Reopened.{moments, all_moments, latest, left_time, left_tables, left_tenancy, left_hosts, without_sessions, reopening}
use Rattle.wb_model.proofs.Found.{decide, other_number}
use Rattle.wb_model.proofs.PartLaw.{map_in}
use Rattle.wb_model.proofs.KeptPasts.{latest_first, latest_rest, held_opened}
use Rattle.wb_model.proofs.EmptyOpenings.{empty_opened}

-- ---- what is left is what a host may be opened with

pub one_of : (past : Past AllOpened) (t : ℕ) (ts : List ℕ) → list_any (λ u. eqb u t) ts ≡ true → latest (moments (held (part t past))) ≤ latest (all_moments (map (held_tenancy past) ts))
one_of past t [] is = absurd (grind (arith, is))
one_of past t (u ∷ ts) is = by (decide u t) (one_of past t ts)
  where
    ms : ℕ → List ℕ
    ms v = moments (held (part v past))

    rest : List ℕ
    rest = all_moments (map (held_tenancy past) ts)

    by : (u ≡ t) ⊎ (u ≢ t) → (list_any (λ v. eqb v t) ts ≡ true → latest (ms t) ≤ latest rest) → latest (ms t) ≤ latest (ms u ++ rest)
    by (inl e) ih = subst (λ v. latest (ms t) ≤ latest (ms v ++ rest)) (sym e) (latest_first (ms t) rest)
    by (inr ne) ih =
        let k : eqb u t ≡ false = other_number u t ne in
        let here : latest (ms t) ≤ latest rest = ih (grind (arith, k, is)) in
        let more : latest rest ≤ latest (ms u ++ rest) = latest_rest (ms u) rest in
        omega (arith, here, more)

-- where a tenant is not there
nothing_opened : (at t : ℕ) → AreOpened at (empty_tables (record { settings = no_settings t; users = []; forms = []; contexts = [] }))
nothing_opened at t =
    empty_opened at (record { settings = no_settings t; users = []; forms = []; contexts = [] }) (record { notice = omega arith; contexts = tt }) tt (record { users = refl; forms = refl; contexts = refl })

pub left_opened : (past : Past AllOpened) → ((t : ℕ) → AreByVerdicts t (part t past)) → (t : ℕ) → AreOpened (left_time past) (left_tables past t)
left_opened past verdicts t = by (has_tenant past t) refl
  where
    by : (b : Bool) → has_tenant past t ≡ b → AreOpened (left_time past) (cond b (without_sessions (held (part t past))) (empty_tables (record { settings = no_settings t; users = []; forms = []; contexts = [] })))
    by true is = held_opened t (left_time past) (part t past) (verdicts t) (one_of past t (tenants past) is)
    by false is = nothing_opened (left_time past) t

pub tenants_ascend : (past : Past AllOpened) → ascends (tenants past) ≡ true
tenants_ascend (Opening o) = o.ids
tenants_ascend (Turn e past) = tenants_ascend past

-- ---- the hosts and the rows

pub reopened_list : (past : Past AllOpened) (ids : ascends (tenants past) ≡ true) (sound : (t : ℕ) → AreOpened (left_time past) (left_tables past t)) →
    (standing_hosts (Opening (reopening past ids sound))).list ≡ map left_tenancy (standing_hosts past).list
reopened_list past ids sound = sym (map_in left_tenancy (held_tenancy past) (held_tenancy (Opening (reopening past ids sound))) (tenants past) (λ u is. same u (has_tenant past u) is))
  where
    one : ℕ → Bool → Tenancy
    one u b = record { id = u; tables = cond b (without_sessions (held (part u past))) (empty_tables (record { settings = no_settings u; users = []; forms = []; contexts = [] })) }

    same : (u : ℕ) (b : Bool) → b ≡ true → one u true ≡ one u b
    same u b is = ap (one u) (sym is)

pub reopened_hosts : (past : Past AllOpened) (ids : ascends (tenants past) ≡ true) (sound : (t : ℕ) → AreOpened (left_time past) (left_tables past t)) → standing_hosts (Opening (reopening past ids sound)) ≡ left_hosts past
reopened_hosts past ids sound = λ i. record { turns = 0; now = left_time past; list = reopened_list past ids sound i }

-- no row tells of a session
abbrev AreOfTables : List (Tenancy → List Row) → Type 0
AreOfTables [] = Unit {0}
AreOfTables (kind ∷ more) = ((x : Tenancy) → kind (left_tenancy x) ≡ kind x) × AreOfTables more

of_left : (kind : Tenancy → List Row) → ((x : Tenancy) → kind (left_tenancy x) ≡ kind x) → (xs : List Tenancy) → of_tenants kind (map left_tenancy xs) ≡ of_tenants kind xs
of_left kind same [] = refl
of_left kind same (x ∷ xs) = ap (λ rows. rows ++ of_tenants kind (map left_tenancy xs)) (same x) ∙ ap (λ rows. kind x ++ rows) (of_left kind same xs)

kinds_left : (ks : List (Tenancy → List Row)) → AreOfTables ks → (xs : List Tenancy) → of_kinds ks (map left_tenancy xs) ≡ of_kinds ks xs
kinds_left [] same xs = refl
kinds_left (kind ∷ more) same xs = ap (λ rows. rows ++ of_kinds more (map left_tenancy xs)) (of_left kind same.0 xs) ∙ ap (λ rows. of_tenants kind xs ++ rows) (kinds_left more same.1 xs)

rows_left : (xs : List Tenancy) → rows_of (map left_tenancy xs) ≡ rows_of xs
rows_left xs = ap (λ l. format_row ∷ l) (kinds_left kinds (λ x. refl, (λ x. refl, (λ x. refl, (λ x. refl, (λ x. refl, (λ x. refl, (λ x. refl, tt))))))) xs)

pub reopened_rows : (past : Past AllOpened) (ids : ascends (tenants past) ≡ true) (sound : (t : ℕ) → AreOpened (left_time past) (left_tables past t)) → rows (Opening (reopening past ids sound)) ≡ rows past
reopened_rows past ids sound = ap rows_of (reopened_list past ids sound) ∙ rows_left (standing_hosts past).list
