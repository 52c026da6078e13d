-- The host that is opened over what is held and a setup stands for an opening of both.
use Rattle.std.proofs.Common.{◌≡◌, ℕ, ◌≤◌, Bool, true, false, ◌==◌, ◌||◌, List, [], ◌∷◌, map, Ok, refl, sym, ap, subst, arith}
use Rattle.std.specs.List.{list_any}
use Rattle.wb_custody.specs.declared.sealed.SealedItem.{SealedItem}
use Rattle.wb_custody.specs.SealedAnswers.{answers_of}
use Rattle.wb_base.specs.declared.rows.Row.{Row}
use Rattle.wb_model.specs.declared.registry.Lists.{Lists}
use Rattle.wb_model.specs.declared.registry.TenantItem.{TenantItem}
use Rattle.wb_model.specs.Host.{Tables}
use Rattle.wb_model.specs.KeptRules.{AreKept}
use Rattle.wb_model.specs.Opened.{AreOpened}
use Rattle.wb_model.specs.Openings.{registry_of, empty_tables}
use Rattle.wb_model.specs.Past.{Opening}
use Rattle.wb_model.specs.Pasts.{AllOpened, held_tenancy, has_tenant as opened_tenant}
use Rattle.wb_model.specs.Readable.{AreReadable}
use Rattle.wb_model.specs.SetUps.{AreSetUp, has_tenant, tenant_ids}
use Rattle.wb_model.specs.Tables.{Registry}
use Rattle.wb_model.specs.Tenants.{Tenancy}
use Rattle.wb_rows.specs.Held.{Held}
use Rattle.wb_rows.specs.Judged.{judged}
use Rattle.wb_rows.specs.Openings.{tables_of, tenancies_of, time_of, with_setup}
use Rattle.wb_rows.specs.Openings as held
use Rattle.wb_tables.specs.Kept.{tenancy_of}
use Rattle.wb_tables.specs.Standing.{hosts_of}
use Rattle.wb_setup.specs.Joined.{joined}
use Rattle.wb_desk.specs.Desks.{IsDesk}
use Rattle.wb_recovery.specs.HeldPlaces.{held_places}
use Rattle.wb_desk.specs.Openings.{IsOpenedOver}
use Rattle.wb_desk.specs.Turns.{StandsFor, standing}
use Rattle.wb_recovery.proofs.OpenedPlaces.{held_right, no_sessions}

-- what is known of tables that were read
pub record AreRead (h : Held) : Type 0 where
  pub set_up : AreSetUp h.lists
  pub kept : (t : ℕ) → AreKept (time_of h) h.lists t (tables_of h t)
  pub others : (t : ℕ) → has_tenant h.lists t ≡ false → tables_of h t ≡ empty_tables (registry_of h.lists t)

-- tables with another registry
abbrev with_registry : Registry → Tables → Tables
with_registry g t = record { plain = record t.plain { registry = g }; sealed = t.sealed }

-- an opening without reports may be later
later_empty : (at : ℕ) (g : Registry) → AreOpened 0 (empty_tables g) → AreOpened at (empty_tables g)
later_empty at g o = record {
  sound = o.sound;
  versions = o.versions;
  ordered = o.ordered;
  numbering = o.numbering;
  drawn = omega arith;
  ascend = o.ascend;
  most = o.most;
  begun = o.begun;
  legal = tt;
  forms = o.forms;
  receipts = o.receipts;
  marks = o.marks;
  sessions = o.sessions;
}

module _ (setup : Lists) (h : Held) (read : AreRead h)
    (stays : (t : ℕ) → has_tenant h.lists t ≡ true → registry_of (joined setup h.lists) t ≡ registry_of h.lists t)
    (set_up : AreSetUp (joined setup h.lists))
    (setups : (lists : Lists) → AreSetUp lists → (t : ℕ) → AreOpened 0 (empty_tables (registry_of lists t)))
    (kept_rows : (at : ℕ) (lists : Lists) (t : ℕ) (tables : Tables) → AreKept at lists t tables → AreOpened at tables) where
  abbrev whole : Held
  whole = with_setup setup h

  -- a tenant that is there
  old_tables : (t : ℕ) → has_tenant h.lists t ≡ true → tables_of whole t ≡ tables_of h t
  old_tables t there = ap (λ (g : Registry). with_registry g (tables_of h t)) (stays t there)

  -- a tenant that the setup adds, or that is not there
  new_tables : (t : ℕ) → has_tenant h.lists t ≡ false → tables_of whole t ≡ empty_tables (registry_of whole.lists t)
  new_tables t none = ap (with_registry (registry_of whole.lists t)) (read.others t none)

  sound_by : (t : ℕ) (b : Bool) → has_tenant h.lists t ≡ b → AreOpened (time_of h) (tables_of whole t)
  sound_by t true there = subst (AreOpened (time_of h)) (sym (old_tables t there)) (kept_rows (time_of h) h.lists t (tables_of h t) (read.kept t))
  sound_by t false none = subst (AreOpened (time_of h)) (sym (new_tables t none)) (later_empty (time_of h) (registry_of whole.lists t) (setups whole.lists set_up t))

  sound : (t : ℕ) → AreOpened (time_of h) (tables_of whole t)
  sound t = sound_by t (has_tenant h.lists t) refl

  abbrev opening : AllOpened
  opening = record { at = time_of h; tenants = tenant_ids whole.lists; ids = set_up.order; tables = tables_of whole; sound = sound }

  -- the hosts of the opening
  module _ (items : List SealedItem) (sealed : h.sealed ≡ answers_of items) where
    same_list : (ts : List ℕ) → map (tenancy_of items) (map (λ t. record { id = t; plain = (tables_of whole t).plain }) ts) ≡ map (held_tenancy (Opening opening)) ts
    same_list [] = refl
    same_list (t ∷ ts) = λ i. record { id = t; tables = record { plain = (tables_of whole t).plain; sealed = λ n. sym sealed i t n } } ∷ same_list ts i

    stands : StandsFor (hosts_of (standing 0 (time_of h) (held_places whole) items)) (Opening opening)
    stands = ap (λ (xs : List Tenancy). record { turns = 0; now = time_of h; list = xs }) (same_list (tenant_ids whole.lists))

    -- a tenant of the opening is listed
    listed : (t : ℕ) → opened_tenant (Opening opening) t ≡ true → has_tenant whole.lists t ≡ true
    listed t there = by whole.lists.tenants there
      where
        by : (xs : List TenantItem) → list_any (λ u. u == t) (map (λ (x : TenantItem). x.tenant) xs) ≡ true → list_any (λ (x : TenantItem). x.tenant == t) xs ≡ true
        by [] e = e
        by (x ∷ xs) e = first (x.tenant == t) e (by xs)
          where
            first : (b : Bool) → (b || list_any (λ u. u == t) (map (λ (y : TenantItem). y.tenant) xs)) ≡ true → (list_any (λ u. u == t) (map (λ (y : TenantItem). y.tenant) xs) ≡ true → list_any (λ (y : TenantItem). y.tenant == t) xs ≡ true) → (b || list_any (λ (y : TenantItem). y.tenant == t) xs) ≡ true
            first true e rest = refl
            first false e rest = rest e

    pub same_tenancies : map (tenancy_of items) (held_places whole) ≡ tenancies_of whole
    same_tenancies = by (tenant_ids whole.lists)
      where
        by : (ts : List ℕ) → map (tenancy_of items) (map (λ t. record { id = t; plain = (tables_of whole t).plain }) ts) ≡ map (held.tenancy_of whole) ts
        by [] = refl
        by (t ∷ ts) = λ i. record { id = t; tables = record { plain = (tables_of whole t).plain; sealed = λ n. sym sealed i t n } } ∷ by ts i

    pub is_desk : time_of h ≤ 99_999_999_999 → ((t : ℕ) → has_tenant whole.lists t ≡ true → AreReadable t (tables_of whole t)) → IsDesk (standing 0 (time_of h) (held_places whole) items)
    is_desk most readable = record {
      past = record { past = Opening opening; read_back = record { verdicts = λ t. tt; ranged = λ t. tt; opens = λ t there. readable t (listed t there); moment = most }; stands = stands };
      time = most;
      set_up = held_right whole set_up;
      most = omega arith;
      sessions = (let none = no_sessions whole (tenant_ids whole.lists) in omega (arith, none));
    }

    pub opened_over : (rows : List Row) → judged rows ≡ Ok h → IsOpenedOver rows setup (hosts_of (standing 0 (time_of h) (held_places whole) items))
    opened_over rows is = record { held = h; read = is; opening = opening; over = record { at = refl; tenants = refl; tables = λ t. refl }; stands = stands }
