-- A host that is opened over the rows that one left stands where that was left.
use Rattle.std.proofs.Common.{◌≡◌, ℕ, ◌==◌, ◌||◌, true, List, [], ◌∷◌, map, Ok, refl, sym, ap, ◌∙◌, subst}
use Rattle.std.specs.List.{list_any}
use Rattle.std.specs.Prelude.{filter}
use Rattle.wb_base.specs.declared.rows.Row.{Row}
use Rattle.wb_model.specs.declared.registry.Lists.{Lists}
use Rattle.wb_model.specs.declared.registry.TenantItem.{TenantItem}
use Rattle.wb_model.specs.Openings.{registry_of}
use Rattle.wb_model.specs.Past.{Past, Opening}
use Rattle.wb_model.specs.Pasts.{AllOpened, tenants, has_tenant as stood, held_tenancy}
use Rattle.wb_model.specs.Reopened.{left_tenancy}
use Rattle.wb_model.specs.SetUps.{has_tenant}
use Rattle.wb_model.specs.Tables.{Registry}
use Rattle.wb_model.specs.Tenants.{Hosts, Tenancy}
use Rattle.wb_rows.specs.Held.{Held}
use Rattle.wb_rows.specs.Judged.{judged}
use Rattle.wb_rows.specs.Left.{HoldsWhatIsLeft, left as left_of}
use Rattle.wb_rows.specs.Openings.{tables_of, with_setup}
use Rattle.wb_setup.specs.Joined.{joined}
use Rattle.wb_desk.specs.Openings.{IsOpeningOver, IsOpenedOver, IsReopened}
use Rattle.wb_desk.specs.Turns.{StandsFor}
use Rattle.wb_recovery.proofs.NewTenants.{filter_map, old_ids}
use Rattle.wb_model.proofs.Found.{filter_same}
use Rattle.wb_model.proofs.PartLaw.{map_in}

listed : (t : ℕ) (xs : List TenantItem) → list_any (λ u. u == t) (map (λ (x : TenantItem). x.tenant) xs) ≡ list_any (λ (x : TenantItem). x.tenant == t) xs
listed t [] = refl
listed t (x ∷ xs) = ap (λ b. (x.tenant == t) || b) (listed t xs)

module _ (before : Past AllOpened) (setup : Lists) (h : Held) (left : HoldsWhatIsLeft before h) (stays : (t : ℕ) → has_tenant h.lists t ≡ true → registry_of (joined setup h.lists) t ≡ registry_of h.lists t) where
  same_tables : (t : ℕ) → has_tenant h.lists t ≡ true → tables_of (with_setup setup h) t ≡ tables_of h t
  same_tables t there = ap (λ (g : Registry). record { plain = record (tables_of h t).plain { registry = g }; sealed = (tables_of h t).sealed }) (stays t there)

  same_there : (t : ℕ) → stood before t ≡ has_tenant h.lists t
  same_there t = ap (list_any (λ u. u == t)) (sym left.tenants) ∙ listed t h.lists.tenants

  old_list : (o : AllOpened) → IsOpeningOver setup h o → filter (λ (x : Tenancy). stood before x.id) (map (held_tenancy (Opening o)) o.tenants) ≡ map left_tenancy (map (held_tenancy before) (tenants before))
  old_list o over =
      filter_map (held_tenancy (Opening o)) (λ (x : Tenancy). stood before x.id) o.tenants
      ∙ (ap (map (held_tenancy (Opening o))) (filter_same (stood before) (has_tenant h.lists) same_there o.tenants ∙ (ap (filter (has_tenant h.lists)) over.tenants ∙ (old_ids setup h.lists ∙ left.tenants)))
      ∙ sym (map_in left_tenancy (held_tenancy before) (held_tenancy (Opening o)) (tenants before) (λ u is. same u is)))
    where
      same : (u : ℕ) → stood before u ≡ true → left_tenancy (held_tenancy before u) ≡ held_tenancy (Opening o) u
      same u is = ap (λ t. record { id = u; tables = t }) (sym (over.tables u ∙ (same_tables u (sym (same_there u) ∙ is) ∙ (left.tables u is ∙ rw is refl))))

  stands_again : (o : AllOpened) (hosts : Hosts) → IsOpeningOver setup h o → StandsFor hosts (Opening o) → IsReopened before hosts
  stands_again o hosts over stands = subst (IsReopened before) (sym stands) (record { turns = refl; now = over.at ∙ left.time; list = old_list o over })

pub reopened : (before : Past AllOpened) (setup : Lists) (rows : List Row) (hosts : Hosts) → IsOpenedOver rows setup hosts → judged rows ≡ Ok (left_of before) → HoldsWhatIsLeft before (left_of before) → ((kept : Lists) (t : ℕ) → has_tenant kept t ≡ true → registry_of (joined setup kept) t ≡ registry_of kept t) → IsReopened before hosts
reopened before setup rows hosts opened read holds stays =
    let held : opened.held ≡ left_of before = cc (opened.read, read) in
    stands_again before setup opened.held (subst (HoldsWhatIsLeft before) (sym held) holds) (stays opened.held.lists) opened.opening hosts opened.over opened.stands
